-- One fragment more: what is kept goes on as the definitions do.
use Rattle.std.proofs.Common.{◌≡◌, ℕ, suc, ℤ, ◌+◌, Bool, true, false, List, [], ◌∷◌, ◌++◌, length, map, inl, inr, refl, sym, ap, ap₂, ◌∙◌, subst, append-nil, add-one}
use Rattle.std.specs.Prelude.{if◌then◌else◌, ◌&&◌, ◌||◌, ◌==◌, option_map, Option, Some, None, nat_lt}
use Rattle.std.specs.List.{AllByRecursion}
use Rattle.std.proofs.lemmas.Bool.{eqb-true, or_parts}
use Rattle.std.proofs.lemmas.List.{length-map, map-append}
use Rattle.std.proofs.lemmas.Option.{same_Some}
use Rattle.fh_base.specs.declared.values.Slot.{Slot}
use Rattle.ecpri_fragments.specs.Generations.{Fragment, Generation, begun, held_in, is_within, joined, start_in, with_fragment}
use Rattle.ecpri_fragments.specs.Verdicts.{answer, is_stray, is_whole, piece_at, placed, refused, size, standing, stands, verdict, with_one}
use Rattle.ecpri_fragments.specs.declared.place.TheConstants.{MESSAGE_BYTES}
use Rattle.ecpri_fragments.specs.declared.verdict.Verdict.{Verdict}
use Rattle.ecpri_fragments.specs.declared.verdict.Verdict.TheVariants.{Repeat, Stray, TooLong}
use Rattle.air_source.specs.declared.events.Side.{Side}
use Rattle.explain_model.specs.Fragments.{NumberedFragment, first_named, has_stood}
use Rattle.explain_records.specs.Beginnings.{Begun, Growing, begun_if, begun_once, begun_with}
use Rattle.explain_records.specs.Places.{IsOnly, changed}
use Rattle.explain_records.specs.declared.told.FirstBytes.{FirstBytes}
use Rattle.explain_records.specs.declared.generations.LastGeneration.{LastGeneration}
use Rattle.explain_records.specs.declared.beginnings.Beginning.{Beginning}
use Rattle.explain_records.specs.declared.told.FragmentTold.{FragmentTold}
use Rattle.explain_records.specs.Turns.{begun_stood, beginning_of, counted, first_of, found, fresh, last_stood, makes_whole, place_of, told_by}
use Rattle.explain_records.specs.Tables.{IsKeptOf, KeepsOf, is_current, kept_of, kept_with}
use Rattle.explain_records.proofs.PlaceLemmas.{ShowsChange, only_map, only_new, only_none, only_same, shown_changed, shown_same}
use Rattle.explain_records.proofs.CurrentLemmas.{Becomes, falls_in, grew_from, grows_kept, stays_kept}
use Rattle.fh_base.proofs.CommonLemmas.{none_of as none_there}
use Rattle.ecpri_fragments.proofs.Rests.{rest_of}
use Rattle.ecpri_fragments.proofs.Ids.{same_id}

-- ---- a verdict

rests_by : (a b c : Bool) (v : Verdict) → (if a then Some Repeat else if b then Some Stray else if c then Some TooLong else None) ≡ Some v → has_stood v ≡ false
rests_by true b c v e = sym (ap has_stood (same_Some Repeat v e))
rests_by false true c v e = sym (ap has_stood (same_Some Stray v e))
rests_by false false true v e = sym (ap has_stood (same_Some TooLong v e))
rests_by false false false v e = absurd (cc)

rests : (s : List Fragment) (f : Fragment) (v : Verdict) → refused s f ≡ Some v → has_stood v ≡ false
rests s f v e = rests_by (is_whole s || stands s f.sub) (is_stray s f) (nat_lt MESSAGE_BYTES (size s + length f.bytes)) v e

passed_by : (a b c : Bool) → (if a then Some Repeat else if b then Some Stray else if c then Some TooLong else None) ≡ None → a ≡ false
passed_by true b c e = absurd (cc)
passed_by false b c e = refl

is_new : (s : List Fragment) (f : Fragment) → refused s f ≡ None → stands s f.sub ≡ false
is_new s f e = (or_parts (is_whole s) (stands s f.sub) (passed_by (is_whole s || stands s f.sub) (is_stray s f) (nat_lt MESSAGE_BYTES (size s + length f.bytes)) e)).1

stood_by : (whole : Bool) → has_stood (answer None whole) ≡ true
stood_by true = refl
stood_by false = refl

whole_by : (whole : Bool) → makes_whole (answer None whole) ≡ whole
whole_by true = refl
whole_by false = refl

-- only one of subsequence 0 tells of a symbol
later_by : (b way : Bool) (o : Option (Slot × ℕ)) → b ≡ false → (let p : Option (Slot × ℕ) = if b && way then o else None in p) ≡ None
later_by true way o e = absurd (cc)
later_by false way o e = refl

-- ---- the generations with the fragment

abbrev pub entered : ℤ → Fragment → List Generation → Generation
entered hold f gs = record { start = start_in hold f.at gs; held = f ∷ held_in hold f.at gs }

with_by : (f : Fragment) (g : Generation) (gs : List Generation) (b : Bool)
    → (let hs : List Generation = if b then joined f g ∷ gs else begun f ∷ g ∷ gs in hs)
    ≡ record { start = (if b then g.start else f.at); held = f ∷ (if b then g.held else []) } ∷ (if b then gs else g ∷ gs)
with_by f g gs true = refl
with_by f g gs false = refl

pub with_is : (hold : ℤ) (f : Fragment) (gs : List Generation) → with_fragment hold f gs ≡ entered hold f gs ∷ rest_of hold f gs
unfolding rest_of
with_is hold f [] = refl
with_is hold f (g ∷ gs) = with_by f g gs (is_within hold g.start f.at)

-- ---- the generation that it finds

-- where these are stored in it, and it began then
pub record Finds (hold : ℤ) (f : Fragment) (bs : List Begun) (from : ℤ) (s : List Fragment) (l : LastGeneration) : Type 0 where
  pub start : l.start.0 ≡ from
  pub first : l.first ≡ option_map first_of (piece_at s 0)
  pub pieces : l.pieces ≡ length s
  pub place : IsOnly (λ b. is_current f.ep f.seq (begun_once hold f b)) l.place bs
  pub none : l.first ≡ None → l.place ≡ None

module _ (hold : ℤ) (f : Fragment) (gs : List Generation) where
  fresh_one : (b : Begun) → falls_in hold f.at gs ≡ false → Becomes hold f gs b → is_current f.ep f.seq (begun_once hold f b) ≡ false
  fresh_one b no_falls (inl h) = h.current
  fresh_one b no_falls (inr h) = let e : true ≡ false = sym h.falls ∙ no_falls in absurd (cc)

  all_fresh : (bs : List Begun) → falls_in hold f.at gs ≡ false → AllByRecursion (Becomes hold f gs) bs → AllByRecursion (λ b. is_current f.ep f.seq (begun_once hold f b) ≡ false) bs
  all_fresh [] falls h = tt
  all_fresh (b ∷ bs) falls h = (fresh_one b falls h.0, all_fresh bs falls h.1)

  kept_one : (b : Begun) → falls_in hold f.at gs ≡ true → Becomes hold f gs b → is_current f.ep f.seq (begun_once hold f b) ≡ is_current f.ep f.seq b
  kept_one b falls (inl h) = h.current ∙ sym (h.before falls)
  kept_one b falls (inr h) = h.current ∙ sym h.before

  all_kept : (bs : List Begun) → falls_in hold f.at gs ≡ true → AllByRecursion (Becomes hold f gs) bs → AllByRecursion (λ b. is_current f.ep f.seq (begun_once hold f b) ≡ is_current f.ep f.seq b) bs
  all_kept [] falls h = tt
  all_kept (b ∷ bs) falls h = (kept_one b falls h.0, all_kept bs falls h.1)

  finds_fresh : (bs : List Begun) → falls_in hold f.at gs ≡ false → AllByRecursion (Becomes hold f gs) bs → Finds hold f bs f.at [] (fresh (record { 0 = f.at }))
  finds_fresh bs falls h = record {
    start = refl;
    first = refl;
    pieces = refl;
    place = only_none (λ b. is_current f.ep f.seq (begun_once hold f b)) bs (all_fresh bs falls h);
    none = λ _. refl;
  }

finds_by : (hold : ℤ) (f : Fragment) (bs : List Begun) (g : Generation) (gs : List Generation) (l : LastGeneration) (b : Bool) → is_within hold g.start f.at ≡ b
    → AllByRecursion (Becomes hold f (g ∷ gs)) bs → KeepsOf bs f.ep f.seq l g
    → Finds hold f bs (if b then g.start else f.at) (standing (if b then g.held else [])) (if b then l else fresh (record { 0 = f.at }))
finds_by hold f bs g gs l true is become h = record {
  start = h.start;
  first = h.first;
  pieces = h.pieces;
  place = only_same (λ b. is_current f.ep f.seq (begun_once hold f b)) (is_current f.ep f.seq) l.place bs (all_kept hold f (g ∷ gs) bs is become) h.place;
  none = h.none;
}
finds_by hold f bs g gs l false is become h = finds_fresh hold f (g ∷ gs) bs is become

pub finds : (hold : ℤ) (f : Fragment) (bs : List Begun) (gs : List Generation) (o : Option LastGeneration) → AllByRecursion (Becomes hold f gs) bs → IsKeptOf bs f.ep f.seq o gs
    → Finds hold f bs (start_in hold f.at gs) (standing (held_in hold f.at gs)) (found hold (record { 0 = f.at }) o)
finds hold f bs [] None become h = finds_fresh hold f [] bs refl become
finds hold f bs (g ∷ gs) None become h = absurd h
finds hold f bs [] (Some l) become h = absurd h
finds hold f bs (g ∷ gs) (Some l) become h =
    subst (λ (z : ℤ). Finds hold f bs (start_in hold f.at (g ∷ gs)) (standing (held_in hold f.at (g ∷ gs))) (if is_within hold z f.at then l else fresh (record { 0 = f.at })))
    (sym h.start) (finds_by hold f bs g gs l (is_within hold g.start f.at) refl become h)

-- ---- what it leaves

abbrev grown_list : ℤ → Fragment → List Begun → List Begun
grown_list hold f bs = map (begun_once hold f) bs

module _ (side : Side) (hold : ℤ) (x : NumberedFragment) (gs : List Generation) (bs : List Begun) (l : LastGeneration) (become : AllByRecursion (Becomes hold x.fragment gs) bs)
    (finds : Finds hold x.fragment bs (start_in hold x.fragment.at gs) (standing (held_in hold x.fragment.at gs)) l) where
  abbrev f : Fragment
  f = x.fragment

  abbrev s : List Fragment
  s = standing (held_in hold f.at gs)

  abbrev g : Generation
  g = entered hold f gs

  abbrev growing : Growing
  growing = record { generation = g; is_last = true }

  abbrev t : FragmentTold
  t = told_by side x

  abbrev passes : Begun → Bool
  passes b = is_current f.ep f.seq (begun_once hold f b)

  abbrev kept : List Beginning
  kept = map (kept_of side) bs

  abbrev more : List Begun
  more = grown_list hold f bs

  -- where it is stored or not
  pub record Next (stood : Bool) : Type 0 where
    pub kept_is : map (kept_of side) (more ++ begun_if stood x growing (first_named side x.endpoint f)) ≡ (if stood then begun_stood side t l kept else kept)
    pub last_is : KeepsOf (more ++ begun_if stood x growing (first_named side x.endpoint f)) f.ep f.seq (if stood then last_stood t l (length kept) else l) g

  -- ---- it is not stored

  same_one : placed s f ≡ s → (b : Begun) → Becomes hold f gs b → kept_of side (begun_once hold f b) ≡ kept_of side b
  same_one e b (inl h) = stays_kept side hold f gs b h
  same_one e b (inr h) = grows_kept side hold f gs b h ∙ ap (kept_with side b) e ∙ sym (grew_from side hold f gs b h)

  all_same : placed s f ≡ s → (bs : List Begun) → AllByRecursion (Becomes hold f gs) bs → AllByRecursion (λ b. kept_of side (begun_once hold f b) ≡ kept_of side b) bs
  all_same e [] h = tt
  all_same e (b ∷ bs) h = (same_one e b h.0, all_same e bs h.1)

  rested : placed s f ≡ s → Next false
  rested e = record {
    kept_is = ap (map (kept_of side)) (append-nil more) ∙ shown_same (begun_once hold f) (kept_of side) bs (all_same e bs become);
    last_is = subst (λ (es : List Begun). KeepsOf es f.ep f.seq l g) (sym (append-nil more)) (record {
      start = finds.start;
      first = finds.first ∙ sym (ap (λ (fs : List Fragment). option_map first_of (piece_at fs 0)) e);
      pieces = finds.pieces ∙ sym (ap (λ (fs : List Fragment). length fs) e);
      place = only_map (begun_once hold f) (is_current f.ep f.seq) l.place bs finds.place;
      none = finds.none;
    });
  }

  -- ---- it is stored

  module _ (e : placed s f ≡ f ∷ s) (whole : makes_whole x.verdict ≡ is_whole (f ∷ s)) where
    number : l.pieces + 1 ≡ length (f ∷ s)
    number = add-one l.pieces ∙ ap (λ (n : ℕ). suc n) finds.pieces

    record Stood (sub0 : Bool) (named : Option (Slot × ℕ)) : Type 0 where
      kept_is : map (kept_of side) (more ++ begun_with x growing named)
          ≡ (if sub0 then kept ++ beginning_of side t (l.pieces + 1) named else changed (counted (l.pieces + 1) (makes_whole t.verdict)) l.place kept)
      last_is : KeepsOf (more ++ begun_with x growing named) f.ep f.seq
          (if sub0
          then record { start = l.start; first = Some t.start; place = place_of named (length kept); pieces = l.pieces + 1 }
          else record { start = l.start; first = l.first; place = l.place; pieces = l.pieces + 1 })
          g

    pieces_are : l.pieces + 1 ≡ length (standing g.held)
    pieces_are = number ∙ sym (ap (λ (fs : List Fragment). length fs) e)

    -- its generation has its beginning already, if at all

    counts : (b : Begun) → kept_with side b (f ∷ s) ≡ counted (l.pieces + 1) (makes_whole x.verdict) (kept_with side b s)
    counts b =
        sym (ap (λ (n : ℕ). counted n (makes_whole x.verdict) (kept_with side b s)) number
        ∙ ap (λ (w : Bool). counted (length (f ∷ s)) w (kept_with side b s)) whole)

    change_one : (b : Begun) → Becomes hold f gs b → ShowsChange passes (begun_once hold f) (kept_of side) (counted (l.pieces + 1) (makes_whole x.verdict)) b
    change_one b (inl h) = (λ is. let w : false ≡ true = sym h.current ∙ is in absurd (cc), λ _. stays_kept side hold f gs b h)
    change_one b (inr h) = (
      λ _. grows_kept side hold f gs b h ∙ ap (kept_with side b) e ∙ counts b
          ∙ ap (counted (l.pieces + 1) (makes_whole x.verdict)) (sym (grew_from side hold f gs b h)),
      λ is. let w : true ≡ false = sym h.current ∙ is in absurd (cc),
    )

    all_change : (bs : List Begun) → AllByRecursion (Becomes hold f gs) bs
        → AllByRecursion (ShowsChange passes (begun_once hold f) (kept_of side) (counted (l.pieces + 1) (makes_whole x.verdict))) bs
    all_change [] h = tt
    all_change (b ∷ bs) h = (change_one b h.0, all_change bs h.1)

    shown : (k : Option ℕ) → IsOnly passes k bs → map (kept_of side) more ≡ changed (counted (l.pieces + 1) (makes_whole x.verdict)) k kept
    shown k only = shown_changed passes (begun_once hold f) (kept_of side) (counted (l.pieces + 1) (makes_whole x.verdict)) k bs only (all_change bs become)

    later : (f.sub == 0) ≡ false → Stood false None
    later sub = record {
      kept_is = ap (map (kept_of side)) (append-nil more) ∙ shown l.place finds.place;
      last_is = subst (λ (es : List Begun). KeepsOf es f.ep f.seq (record { start = l.start; first = l.first; place = l.place; pieces = l.pieces + 1 }) g) (sym (append-nil more)) (record {
        start = finds.start;
        first = finds.first
            ∙ sym (ap (λ (fs : List Fragment). option_map first_of (piece_at fs 0)) e
            ∙ ap (λ (b : Bool). let o : Option FirstBytes = option_map first_of (if b then Some f.bytes else piece_at s 0) in o) sub);
        pieces = pieces_are;
        place = only_map (begun_once hold f) (is_current f.ep f.seq) l.place bs finds.place;
        none = finds.none;
      });
    }

    -- it is the first fragment

    module _ (sub : (f.sub == 0) ≡ true) (fresh : stands s f.sub ≡ false) where
      alone : IsOnly passes None bs
      alone =
          let zero_is : f.sub ≡ 0 = eqb-true f.sub 0 sub in
          let out : piece_at s 0 ≡ None = none_there (piece_at s 0) (sym (ap (λ (n : ℕ). stands s n) zero_is) ∙ fresh) in
          subst (λ (k : Option ℕ). IsOnly passes k bs) (finds.none (finds.first ∙ ap (λ (o : Option (List ℕ)). option_map first_of o) out)) finds.place

      first_is : Some (first_of f.bytes) ≡ option_map first_of (piece_at (standing g.held) 0)
      first_is =
          sym (ap (λ (fs : List Fragment). option_map first_of (piece_at fs 0)) e
          ∙ ap (λ (b : Bool). let o : Option FirstBytes = option_map first_of (if b then Some f.bytes else piece_at s 0) in o) sub)

      abbrev first_last : Option ℕ → LastGeneration
      first_last k = record { start = l.start; first = Some t.start; place = k; pieces = l.pieces + 1 }

      keeps : (k : Option ℕ) (es : List Begun) → IsOnly (is_current f.ep f.seq) k es → KeepsOf es f.ep f.seq (first_last k) g
      keeps k es only = record {
        start = finds.start;
        first = first_is;
        pieces = pieces_are;
        place = only;
        none = λ is. absurd (cc);
      }

      only_more_is : IsOnly (is_current f.ep f.seq) None more
      only_more_is = only_map (begun_once hold f) (is_current f.ep f.seq) None bs alone

      lengths : length more ≡ length kept
      lengths = length-map bs (begun_once hold f) ∙ sym (length-map bs (kept_of side))

      first : (named : Option (Slot × ℕ)) → Stood true named
      first None = record {
        kept_is = ap (map (kept_of side)) (append-nil more) ∙ shown None alone ∙ sym (append-nil kept);
        last_is = subst (λ (es : List Begun). KeepsOf es f.ep f.seq (first_last None) g) (sym (append-nil more)) (keeps None more only_more_is);
      }
      first (Some (slot, symbol)) =
          let new : Begun = record { first = x; slot = slot; symbol = symbol; growing = growing } in
          record {
            kept_is = map-append (kept_of side) more (new ∷ [])
                ∙ ap₂ ◌++◌ (shown None alone)
                (ap (λ (fs : List Fragment). kept_with side new fs ∷ []) e
                ∙ ap (λ (b : Beginning). b ∷ []) (counts new));
            last_is = subst (λ (n : ℕ). KeepsOf (more ++ new ∷ []) f.ep f.seq (first_last (Some n)) g) lengths
                (keeps (Some (length more)) (more ++ new ∷ []) (only_new (is_current f.ep f.seq) more new only_more_is (ap (λ (b : Bool). b && true) (same_id f))));
          }

    stands_now : (sub0 : Bool) (named : Option (Slot × ℕ)) → (f.sub == 0) ≡ sub0 → (sub0 ≡ false → named ≡ None) → stands s f.sub ≡ false → Stood sub0 named
    stands_now true named sub no_name fresh = first sub fresh named
    stands_now false named sub no_name fresh = subst (λ (o : Option (Slot × ℕ)). Stood false o) (sym (no_name refl)) (later sub)

    stood : stands s f.sub ≡ false → Next true
    stood fresh =
        let h : Stood (f.sub == 0) (first_named side x.endpoint f)
        = stands_now (f.sub == 0) (first_named side x.endpoint f) refl (later_by (f.sub == 0) _ _) fresh in
        record { kept_is = h.kept_is; last_is = h.last_is }

  -- ---- either

  next_by : (o : Option Verdict) → refused s f ≡ o → x.verdict ≡ answer o (is_whole (f ∷ s)) → Next (has_stood x.verdict)
  next_by (Some v) r is =
      subst (λ (b : Bool). Next b) (sym (ap has_stood is ∙ rests s f v r)) (rested (ap (λ (o : Option Verdict). with_one o f s) r))
  next_by None r is =
      subst (λ (b : Bool). Next b) (sym (ap has_stood is ∙ stood_by (is_whole (f ∷ s))))
      (stood (ap (λ (o : Option Verdict). with_one o f s) r) (ap makes_whole is ∙ whole_by (is_whole (f ∷ s))) (is_new s f r))

  pub next : x.verdict ≡ verdict s f → Next (has_stood x.verdict)
  next is = next_by (refused s f) refl is
