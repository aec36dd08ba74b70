-- Which beginnings are of the last generations, and what one fragment more makes of them.
use Rattle.std.proofs.Common.{◌≡◌, ℕ, ℤ, Bool, true, false, List, [], ◌∷◌, ◌⊎◌, inl, inr, refl, sym, ap, ap₂, ◌∙◌, subst}
use Rattle.std.specs.Prelude.{if◌then◌else◌, ◌&&◌, ◌==◌, Option, Some, None}
use Rattle.std.specs.List.{AllByRecursion}
use Rattle.std.proofs.lemmas.Bool.{and_parts, eqb-true}
use Rattle.fh_base.specs.declared.values.Slot.{Slot}
use Rattle.ecpri_fragments.specs.Generations.{Fragment, Generation, begun, generations, generations_of, held_in, is_of, is_within, joined, of_id, with_fragment}
use Rattle.ecpri_fragments.specs.Verdicts.{placed, standing}
use Rattle.fh_base.specs.Lists.{onto}
use Rattle.air_source.specs.declared.events.Side.{Side}
use Rattle.explain_model.specs.Fragments.{NumberedFragment, first_named, fragments_alone, generation_at, has_stood, last_begun}
use Rattle.explain_records.specs.Beginnings.{Begun, Growing, begun_after, begun_if, begun_in, begun_once, growing_at, grown_by, grown_once, grown_over}
use Rattle.explain_records.specs.Tables.{is_current, kept_of, kept_with}
use Rattle.fh_base.proofs.MemberLemmas.{all_join as all_both}
use Rattle.ecpri_fragments.proofs.Ids.{same_id}

-- ---- the last generation

abbrev pub HeadIs : Generation → List Generation → Type 0
HeadIs g [] = ⊥
HeadIs g (h ∷ hs) = h ≡ g

-- a time falls into the last of these
abbrev pub falls_in : ℤ → ℤ → List Generation → Bool
falls_in hold at [] = false
falls_in hold at (g ∷ gs) = is_within hold g.start at

head_falls : (hold at : ℤ) (g : Generation) (gs : List Generation) → HeadIs g gs → falls_in hold at gs ≡ is_within hold g.start at
head_falls hold at g [] h = absurd h
head_falls hold at g (k ∷ gs) h = ap (λ (j : Generation). is_within hold j.start at) h

head_held : (hold at : ℤ) (g : Generation) (gs : List Generation) → HeadIs g gs → is_within hold g.start at ≡ true → held_in hold at gs ≡ g.held
head_held hold at g [] h is = absurd h
head_held hold at g (k ∷ gs) h is =
    ap (λ (j : Generation). let fs : List Fragment = if is_within hold j.start at then j.held else [] in fs) h
    ∙ ap (λ (b : Bool). let fs : List Fragment = if b then g.held else [] in fs) is

head_joins : (hold : ℤ) (f : Fragment) (g : Generation) (gs : List Generation) → HeadIs g gs → is_within hold g.start f.at ≡ true → HeadIs (joined f g) (with_fragment hold f gs)
head_joins hold f g [] h is = absurd h
head_joins hold f g (k ∷ gs) h is =
    let w : is_within hold k.start f.at ≡ true = ap (λ (j : Generation). is_within hold j.start f.at) h ∙ is in
    subst (λ (b : Bool). HeadIs (joined f g) (if b then joined f k ∷ gs else begun f ∷ k ∷ gs)) (sym w) (ap (joined f) h)

begun_by : (f : Fragment) (g : Generation) (gs : List Generation) (b : Bool)
    → HeadIs (last_begun (if b then joined f g ∷ gs else begun f ∷ g ∷ gs) f) (if b then joined f g ∷ gs else begun f ∷ g ∷ gs)
begun_by f g gs true = refl
begun_by f g gs false = refl

head_begun : (hold : ℤ) (f : Fragment) (gs : List Generation) → HeadIs (last_begun (with_fragment hold f gs) f) (with_fragment hold f gs)
head_begun hold f [] = refl
head_begun hold f (g ∷ gs) = begun_by f g gs (is_within hold g.start f.at)

-- ---- the generations of a sequence id with one fragment more

pub more_of : (hold : ℤ) (ep seq : ℕ) (f : Fragment) (fs : List Fragment) (b : Bool) → is_of ep seq f ≡ b
    → generations_of hold ep seq (f ∷ fs) ≡ (if b then with_fragment hold f (generations_of hold ep seq fs) else generations_of hold ep seq fs)
more_of hold ep seq f fs true is = ap (λ (t : Bool). generations hold (if t then f ∷ of_id ep seq fs else of_id ep seq fs)) is
more_of hold ep seq f fs false is = ap (λ (t : Bool). generations hold (if t then f ∷ of_id ep seq fs else of_id ep seq fs)) is

pub same_ep : (ep seq : ℕ) (f : Fragment) → is_of ep seq f ≡ true → f.ep ≡ ep
same_ep ep seq f is = eqb-true f.ep ep (and_parts (f.ep == ep) (f.seq == seq) is).0

pub same_seq : (ep seq : ℕ) (f : Fragment) → is_of ep seq f ≡ true → f.seq ≡ seq
same_seq ep seq f is = eqb-true f.seq seq (and_parts (f.ep == ep) (f.seq == seq) is).1

-- ---- beginnings whose generations are the last ones

abbrev pub IsCurrent : ℤ → List Fragment → Begun → Type 0
IsCurrent hold fs b = b.growing.is_last ≡ true → HeadIs b.growing.generation (generations_of hold b.first.fragment.ep b.first.fragment.seq fs)

abbrev pub LastIs : Growing → List Generation → Type 0
LastIs g gs = g.is_last ≡ true → HeadIs g.generation gs

module _ (hold : ℤ) (f : Fragment) where
  last_by : (last within : Bool) (g : Generation) (gs : List Generation) → is_within hold g.start f.at ≡ within → (last ≡ true → HeadIs g gs)
      → LastIs (grown_by true within (record { generation = g; is_last = last }) f) (with_fragment hold f gs)
  last_by true true g gs is h = λ _. head_joins hold f g gs (h refl) is
  last_by true false g gs is h = λ e. absurd (cc)
  last_by false within g gs is h = λ e. absurd (cc)

  last_once : (own : Bool) (g : Growing) (gs : List Generation) → LastIs g gs
      → LastIs (grown_by own (is_within hold g.generation.start f.at) g f) (if own then with_fragment hold f gs else gs)
  last_once true g gs h = last_by g.is_last (is_within hold g.generation.start f.at) g.generation gs refl h
  last_once false g gs h = h

module _ (hold : ℤ) (ep seq : ℕ) where
  last_over : (later fs : List Fragment) (g : Growing) → LastIs g (generations_of hold ep seq fs) → LastIs (grown_over hold ep seq g later) (generations_of hold ep seq (onto fs later))
  unfolding grown_over onto
  last_over [] fs g h = h
  last_over (f ∷ later) fs g h =
      last_over later (f ∷ fs) (grown_once hold ep seq g f)
      (subst (λ (gs : List Generation). LastIs (grown_once hold ep seq g f) gs) (sym (more_of hold ep seq f fs (is_of ep seq f) refl)) (last_once hold f (is_of ep seq f) g (generations_of hold ep seq fs) h))

begun_current : (hold : ℤ) (fs : List Fragment) (stood : Bool) (x : NumberedFragment) (g : Growing) (named : Option (Slot × ℕ))
    → LastIs g (generations_of hold x.fragment.ep x.fragment.seq fs) → AllByRecursion (IsCurrent hold fs) (begun_if stood x g named)
begun_current hold fs true x g None h = tt
begun_current hold fs true x g (Some (slot, symbol)) h = (h, tt)
begun_current hold fs false x g named h = tt

pub all_current : (side : Side) (hold : ℤ) (xs : List NumberedFragment) (earlier : List Fragment)
    → AllByRecursion (IsCurrent hold (onto earlier (fragments_alone xs))) (begun_after side hold earlier xs)
unfolding begun_after onto
all_current side hold [] earlier = tt
all_current side hold (x ∷ later) earlier =
    let f : Fragment = x.fragment in
    let fs : List Fragment = onto (f ∷ earlier) (fragments_alone later) in
    all_both (IsCurrent hold fs) (begun_in side hold earlier x (fragments_alone later)) (begun_after side hold (f ∷ earlier) later)
    (begun_current hold fs (has_stood x.verdict) x (grown_over hold f.ep f.seq (growing_at hold earlier f) (fragments_alone later)) (first_named side x.endpoint f)
    (last_over hold f.ep f.seq (fragments_alone later) (f ∷ earlier) (growing_at hold earlier f)
    (λ _. subst (λ (gs : List Generation). HeadIs (generation_at hold earlier f) gs) (sym (more_of hold f.ep f.seq f earlier true (same_id f))) (head_begun hold f (generations_of hold f.ep f.seq earlier)))))
    (all_current side hold later (f ∷ earlier))

-- ---- one of another sequence id stays

module _ (hold : ℤ) (ep seq : ℕ) (f : Fragment) (other : is_of ep seq f ≡ false) where
  other_by : (b : Begun) (own : Bool) → is_of ep seq b.first.fragment ≡ own → is_current ep seq (begun_once hold f b) ≡ is_current ep seq b
  other_by b true own =
      let e : is_of b.first.fragment.ep b.first.fragment.seq f ≡ false
      = ap₂ (λ (n m : ℕ). is_of n m f) (same_ep ep seq b.first.fragment own) (same_seq ep seq b.first.fragment own) ∙ other in
      ap (λ (t : Bool). is_of ep seq b.first.fragment && (grown_by t (is_within hold b.growing.generation.start f.at) b.growing f).is_last) e
  other_by b false own =
      ap (λ (t : Bool). t && (begun_once hold f b).growing.is_last) own ∙ sym (ap (λ (t : Bool). t && b.growing.is_last) own)

  pub other_same : (bs : List Begun) → AllByRecursion (λ b. is_current ep seq (begun_once hold f b) ≡ is_current ep seq b) bs
  other_same [] = tt
  other_same (b ∷ bs) = (other_by b (is_of ep seq b.first.fragment) refl, other_same bs)

-- ---- what becomes of a beginning

-- its generation stays, or is the last one of the fragment's sequence id and takes the fragment in
pub record Stays (hold : ℤ) (f : Fragment) (gs : List Generation) (b : Begun) : Type 0 where
  pub current : is_current f.ep f.seq (begun_once hold f b) ≡ false
  pub before : falls_in hold f.at gs ≡ true → is_current f.ep f.seq b ≡ false
  pub same : (begun_once hold f b).growing.generation ≡ b.growing.generation

pub record Grows (hold : ℤ) (f : Fragment) (gs : List Generation) (b : Begun) : Type 0 where
  pub current : is_current f.ep f.seq (begun_once hold f b) ≡ true
  pub before : is_current f.ep f.seq b ≡ true
  pub falls : falls_in hold f.at gs ≡ true
  pub held : held_in hold f.at gs ≡ b.growing.generation.held
  pub joined : (begun_once hold f b).growing.generation ≡ joined f b.growing.generation

abbrev pub Becomes : ℤ → Fragment → List Generation → Begun → Type 0
Becomes hold f gs b = Stays hold f gs b ⊎ Grows hold f gs b

abbrev grown_with : Bool → Bool → Bool → Growing → Fragment → Growing
grown_with own last within g f =
    if own
    then (if last && within
    then record { generation = joined f g.generation; is_last = true }
    else record { generation = g.generation; is_last = false })
    else g

module _ (hold : ℤ) (fs : List Fragment) (f : Fragment) (b : Begun) (current : IsCurrent hold fs b) where
  abbrev gens : List Generation
  gens = generations_of hold f.ep f.seq fs

  abbrev ep : ℕ
  ep = b.first.fragment.ep

  abbrev seq : ℕ
  seq = b.first.fragment.seq

  grown_is : (own last within : Bool) → is_of ep seq f ≡ own → b.growing.is_last ≡ last → is_within hold b.growing.generation.start f.at ≡ within
      → (begun_once hold f b).growing ≡ grown_with own last within b.growing f
  grown_is own last within o l w =
      ap (λ (t : Bool). grown_with t b.growing.is_last (is_within hold b.growing.generation.start f.at) b.growing f) o
      ∙ ap (λ (t : Bool). grown_with own t (is_within hold b.growing.generation.start f.at) b.growing f) l
      ∙ ap (λ (t : Bool). grown_with own last t b.growing f) w

  turned : is_of f.ep f.seq b.first.fragment ≡ true → is_of ep seq f ≡ true
  turned is =
      ap₂ (λ (n m : ℕ). is_of n m f) (same_ep f.ep f.seq b.first.fragment is) (same_seq f.ep f.seq b.first.fragment is) ∙ same_id f

  turned_back : (t : Bool) → is_of ep seq f ≡ t → is_of f.ep f.seq b.first.fragment ≡ false → is_of ep seq f ≡ false
  turned_back false e is = e
  turned_back true e is =
      let back : is_of f.ep f.seq b.first.fragment ≡ true
      = ap₂ (λ (n m : ℕ). is_of n m b.first.fragment) (same_ep ep seq f e) (same_seq ep seq f e) ∙ same_id b.first.fragment in
      absurd (cc)

  by_parts : (own last within : Bool) → is_of f.ep f.seq b.first.fragment ≡ own → b.growing.is_last ≡ last → is_within hold b.growing.generation.start f.at ≡ within → Becomes hold f gens b
  by_parts false last within o l w =
      let g = grown_is false last within (turned_back (is_of ep seq f) refl o) l w in
      inl (record {
        current = ap (λ (t : Bool). t && (begun_once hold f b).growing.is_last) o;
        before = λ _. ap (λ (t : Bool). t && b.growing.is_last) o;
        same = ap (λ (h : Growing). h.generation) g;
      })
  by_parts true false within o l w =
      let g = grown_is true false within (turned o) l w in
      inl (record {
        current = ap₂ (λ (t u : Bool). t && u) o (ap (λ (h : Growing). h.is_last) g);
        before = λ _. ap₂ (λ (t u : Bool). t && u) o l;
        same = ap (λ (h : Growing). h.generation) g;
      })
  by_parts true true within o l w = by_head within w
    where
      here : HeadIs b.growing.generation gens
      here =
          subst (λ (gs : List Generation). HeadIs b.growing.generation gs)
          (ap₂ (λ (n m : ℕ). generations_of hold n m fs) (same_ep f.ep f.seq b.first.fragment o) (same_seq f.ep f.seq b.first.fragment o))
          (current l)

      by_head : (within : Bool) → is_within hold b.growing.generation.start f.at ≡ within → Becomes hold f gens b
      by_head true w =
          let g = grown_is true true true (turned o) l w in
          inr (record {
            current = ap₂ (λ (t u : Bool). t && u) o (ap (λ (h : Growing). h.is_last) g);
            before = ap₂ (λ (t u : Bool). t && u) o l;
            falls = head_falls hold f.at b.growing.generation gens here ∙ w;
            held = head_held hold f.at b.growing.generation gens here w;
            joined = ap (λ (h : Growing). h.generation) g;
          })
      by_head false w =
          let g = grown_is true true false (turned o) l w in
          inl (record {
            current = ap₂ (λ (t u : Bool). t && u) o (ap (λ (h : Growing). h.is_last) g);
            before = λ falls. let e : false ≡ true = sym w ∙ sym (head_falls hold f.at b.growing.generation gens here) ∙ falls in absurd (cc);
            same = ap (λ (h : Growing). h.generation) g;
          })

  pub becomes : Becomes hold f gens b
  becomes = by_parts (is_of f.ep f.seq b.first.fragment) b.growing.is_last (is_within hold b.growing.generation.start f.at) refl refl refl

pub all_become : (hold : ℤ) (fs : List Fragment) (f : Fragment) (bs : List Begun) → AllByRecursion (IsCurrent hold fs) bs
    → AllByRecursion (Becomes hold f (generations_of hold f.ep f.seq fs)) bs
all_become hold fs f [] h = tt
all_become hold fs f (b ∷ bs) h = (becomes hold fs f b h.0, all_become hold fs f bs h.1)

-- ---- how it is kept

module _ (side : Side) (hold : ℤ) (f : Fragment) (gs : List Generation) (b : Begun) where
  pub stays_kept : Stays hold f gs b → kept_of side (begun_once hold f b) ≡ kept_of side b
  stays_kept h = ap (λ (g : Generation). kept_with side b (standing g.held)) h.same

  pub grows_kept : Grows hold f gs b → kept_of side (begun_once hold f b) ≡ kept_with side b (placed (standing (held_in hold f.at gs)) f)
  grows_kept h =
      ap (λ (g : Generation). kept_with side b (standing g.held)) h.joined
      ∙ sym (ap (λ (fs : List Fragment). kept_with side b (placed (standing fs) f)) h.held)

  pub grew_from : Grows hold f gs b → kept_of side b ≡ kept_with side b (standing (held_in hold f.at gs))
  grew_from h = sym (ap (λ (fs : List Fragment). kept_with side b (standing fs)) h.held)
