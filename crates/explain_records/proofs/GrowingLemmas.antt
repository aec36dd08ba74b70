-- A generation as it grows is the one that is followed to the end; one fragment more.
use Rattle.std.proofs.Common.{◌≡◌, ℕ, ℤ, Bool, true, false, List, [], ◌∷◌, ◌++◌, map, refl, sym, ap, ap₂, ◌∙◌, append-nil, append_assoc}
use Rattle.std.specs.Prelude.{if◌then◌else◌, ◌&&◌, not, Option, Some, None}
use Rattle.std.specs.List.{flat_map}
use Rattle.std.proofs.lemmas.Grind.{flat_map-append}
use Rattle.std.proofs.lemmas.List.{map-append}
use Rattle.fh_base.specs.declared.values.Slot.{Slot}
use Rattle.ecpri_fragments.specs.Generations.{Fragment, Generation, is_of, is_within, joined}
use Rattle.ecpri_fragments.specs.Verdicts.{is_whole, standing}
use Rattle.fh_base.specs.Lists.{onto}
use Rattle.air_source.specs.declared.events.Side.{Side}
use Rattle.explain_model.specs.declared.headers.BeginningRecord.{BeginningRecord}
use Rattle.explain_model.specs.declared.headers.RepeatedRecord.{RepeatedRecord}
use Rattle.explain_model.specs.Fragments.{NumberedFragment, beginning_with, beginnings_after, first_named, fragments_alone, generation_at, grown, has_stood, repeated_after, repeated_in, stands_at_last}
use Rattle.explain_records.specs.Beginnings.{Begun, Growing, begun_after, begun_by, begun_if, begun_in, begun_once, growing_at, grown_by, grown_once, grown_over, record_if, record_of, record_with}

-- ---- lists with one more

pub onto_more : {A : Type 0} (earlier : List A) (xs : List A) (x : A) → onto earlier (xs ++ x ∷ []) ≡ x ∷ onto earlier xs
unfolding onto
onto_more earlier [] x = refl
onto_more earlier (y ∷ xs) x = onto_more (y ∷ earlier) xs x

pub alone_more : (xs : List NumberedFragment) (x : NumberedFragment) → fragments_alone (xs ++ x ∷ []) ≡ fragments_alone xs ++ x.fragment ∷ []
alone_more [] x = refl
alone_more (y ∷ xs) x = ap (λ fs. y.fragment ∷ fs) (alone_more xs x)

-- ---- a generation

module _ (hold : ℤ) (ep seq : ℕ) where
  over_more : (g : Growing) (later : List Fragment) (f : Fragment) → grown_over hold ep seq g (later ++ f ∷ []) ≡ grown_once hold ep seq (grown_over hold ep seq g later) f
  unfolding grown_over
  over_more g [] f = refl
  over_more g (e ∷ later) f = over_more (grown_once hold ep seq g e) later f

  abbrev growing : Generation → Bool → Growing
  growing g last = record { generation = g; is_last = last }

  ended_by : (own within : Bool) (g : Generation) (f : Fragment) → grown_by own within (growing g false) f ≡ growing g false
  ended_by true within g f = refl
  ended_by false within g f = refl

  ended : (g : Generation) (later : List Fragment) → grown_over hold ep seq (growing g false) later ≡ growing g false
  unfolding grown_over
  ended g [] = refl
  ended g (f ∷ later) = ap (λ (h : Growing). grown_over hold ep seq h later) (ended_by (is_of ep seq f) (is_within hold g.start f.at) g f) ∙ ended g later

  followed_by : (own within : Bool) (g : Generation) (f : Fragment) (later : List Fragment)
      → ((h : Generation) → (grown_over hold ep seq (growing h true) later).generation ≡ grown hold ep seq h later)
      → (grown_over hold ep seq (grown_by own within (growing g true) f) later).generation
      ≡ (let h : Generation = if own then (if within then grown hold ep seq (joined f g) later else g) else grown hold ep seq g later in h)
  followed_by true true g f later more = more (joined f g)
  followed_by true false g f later more = ap (λ (h : Growing). h.generation) (ended g later)
  followed_by false within g f later more = more g

  pub followed : (later : List Fragment) (g : Generation) → (grown_over hold ep seq (growing g true) later).generation ≡ grown hold ep seq g later
  unfolding grown_over grown
  followed [] g = refl
  followed (f ∷ later) g = followed_by (is_of ep seq f) (is_within hold g.start f.at) g f later (followed later)

-- ---- the first fragments

begun_step : (stood : Bool) (hold : ℤ) (x : NumberedFragment) (g : Growing) (named : Option (Slot × ℕ)) (f : Fragment)
    → begun_if stood x (grown_once hold x.fragment.ep x.fragment.seq g f) named ≡ map (begun_once hold f) (begun_if stood x g named)
begun_step true hold x g None f = refl
begun_step true hold x g (Some (slot, symbol)) f = refl
begun_step false hold x g named f = refl

-- one fragment more lets each generation grow, and may begin one itself
pub begun_more : (side : Side) (hold : ℤ) (xs : List NumberedFragment) (earlier : List Fragment) (x : NumberedFragment)
    → begun_after side hold earlier (xs ++ x ∷ [])
    ≡ map (begun_once hold x.fragment) (begun_after side hold earlier xs) ++ begun_by side x (growing_at hold (onto earlier (fragments_alone xs)) x.fragment)
unfolding begun_after grown_over onto
begun_more side hold [] earlier x = append-nil (begun_by side x (growing_at hold earlier x.fragment))
begun_more side hold (y ∷ xs) earlier x =
    let g : Growing = growing_at hold earlier y.fragment in
    let named : Option (Slot × ℕ) = first_named side y.endpoint y.fragment in
    let over : Growing = grown_over hold y.fragment.ep y.fragment.seq g (fragments_alone xs) in
    let last : List Begun = begun_by side x (growing_at hold (onto (y.fragment ∷ earlier) (fragments_alone xs)) x.fragment) in
    ap₂ ◌++◌
    (ap (λ (fs : List Fragment). begun_in side hold earlier y fs) (alone_more xs x)
    ∙ ap (λ (h : Growing). begun_if (has_stood y.verdict) y h named) (over_more hold y.fragment.ep y.fragment.seq g (fragments_alone xs) x.fragment)
    ∙ begun_step (has_stood y.verdict) hold y over named x.fragment)
    (begun_more side hold xs (y.fragment ∷ earlier) x)
    ∙ sym (append_assoc (map (begun_once hold x.fragment) (begun_in side hold earlier y (fragments_alone xs))) (map (begun_once hold x.fragment) (begun_after side hold (y.fragment ∷ earlier) xs)) last)
    ∙ ap (λ (bs : List Begun). bs ++ last) (sym (map-append (begun_once hold x.fragment) (begun_in side hold earlier y (fragments_alone xs)) (begun_after side hold (y.fragment ∷ earlier) xs)))

-- ---- their records

module _ (side : Side) (x : NumberedFragment) (g : Growing) where
  recorded : (stood : Bool) (named : Option (Slot × ℕ)) (whole : Bool) → is_whole (standing g.generation.held) ≡ whole
      → (let rs : List BeginningRecord = if stood && not whole then beginning_with side x (standing g.generation.held) named else [] in rs)
      ≡ flat_map (record_of side) (begun_if stood x g named)
  recorded true None true is = refl
  recorded true None false is = refl
  recorded true (Some (slot, symbol)) true is = sym (ap (λ (w : Bool). record_if w (record_with side (record { first = x; slot = slot; symbol = symbol; growing = g }) (standing g.generation.held)) ++ []) is)
  recorded true (Some (slot, symbol)) false is = sym (ap (λ (w : Bool). record_if w (record_with side (record { first = x; slot = slot; symbol = symbol; growing = g }) (standing g.generation.held)) ++ []) is)
  recorded false named whole is = refl

pub are_recorded : (side : Side) (hold : ℤ) (xs : List NumberedFragment) (earlier : List Fragment)
    → beginnings_after side hold earlier xs ≡ flat_map (record_of side) (begun_after side hold earlier xs)
unfolding beginnings_after begun_after stands_at_last
are_recorded side hold [] earlier = refl
are_recorded side hold (x ∷ later) earlier =
    let fs : List Fragment = fragments_alone later in
    let g : Growing = grown_over hold x.fragment.ep x.fragment.seq (growing_at hold earlier x.fragment) fs in
    let named : Option (Slot × ℕ) = first_named side x.endpoint x.fragment in
    ap₂ ◌++◌
    (ap (λ (h : Generation). let rs : List BeginningRecord = if has_stood x.verdict && not (is_whole (standing h.held)) then beginning_with side x (standing h.held) named else [] in rs)
    (sym (followed hold x.fragment.ep x.fragment.seq fs (generation_at hold earlier x.fragment)))
    ∙ recorded side x g (has_stood x.verdict) named (is_whole (standing g.generation.held)) refl)
    (are_recorded side hold later (x.fragment ∷ earlier))
    ∙ sym (flat_map-append (record_of side) (begun_in side hold earlier x fs) (begun_after side hold (x.fragment ∷ earlier) later))

-- ---- those that were received under a used sequence id

pub repeated_more : (side : Side) (hold : ℤ) (xs : List NumberedFragment) (earlier : List Fragment) (x : NumberedFragment)
    → repeated_after side hold earlier (xs ++ x ∷ []) ≡ repeated_after side hold earlier xs ++ repeated_in side hold (onto earlier (fragments_alone xs)) x
unfolding repeated_after onto
repeated_more side hold [] earlier x = append-nil (repeated_in side hold earlier x)
repeated_more side hold (y ∷ xs) earlier x =
    ap (λ (rs : List RepeatedRecord). repeated_in side hold earlier y ++ rs) (repeated_more side hold xs (y.fragment ∷ earlier) x)
    ∙ sym (append_assoc (repeated_in side hold earlier y) (repeated_after side hold (y.fragment ∷ earlier) xs) (repeated_in side hold (onto (y.fragment ∷ earlier) (fragments_alone xs)) x))
