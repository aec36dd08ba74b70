-- The records of a unit's fragments go on as the fragments are received.
use Rattle.std.proofs.Common.{◌≡◌, ℕ, suc, ℤ, Bool, true, false, List, [], ◌∷◌, ◌++◌, length, map, set, refl, sym, ap, ap₂, ◌∙◌, subst, arith, ◌<◌}
use Rattle.std.specs.Prelude.{if◌then◌else◌, ◌&&◌, ◌==◌, nat_lt, Option, Some, None, slice_get, Result, Ok, Err, IfOk, OnOk, OnErr}
use Rattle.std.specs.List.{flat_map}
use Rattle.std.proofs.Math.Dec.{leb}
use Rattle.std.proofs.lemmas.Bool.{lt-leb}
use Rattle.bfp_codec.specs.Field.{field}
use Rattle.fh_base.specs.declared.values.Slot.{Slot}
use Rattle.fh_base.specs.declared.numerology.Numerology.{Numerology}
use Rattle.ecpri_fragments.specs.Generations.{Fragment}
use Rattle.ecpri_fragments.specs.Verdicts.{verdict_on}
use Rattle.ecpri_fragments.specs.declared.verdict.Verdict.{Verdict}
use Rattle.uplane_sections.specs.Header.{head_of}
use Rattle.air_source.specs.declared.events.Side.{Side}
use Rattle.window_config.specs.declared.endpoints.EndpointConfig.{EndpointConfig}
use Rattle.unit_model.specs.Decoding.{has_way}
use Rattle.explain_heard.specs.Heard.{first_eight, first_four, fragment_heard}
use Rattle.explain_heard.specs.declared.heard.FragmentHeard.{FragmentHeard}
use Rattle.explain_heard.specs.declared.heard.Heard.TheVariants as heard
use Rattle.explain_model.specs.Sections.{symbol_named}
use Rattle.explain_heard.proofs.KeptLemmas.{named_is}
use Rattle.explain_model.specs.declared.headers.BeginningRecord.{BeginningRecord}
use Rattle.explain_model.specs.declared.headers.RepeatedRecord.{RepeatedRecord}
use Rattle.explain_model.specs.Fragments.{NumberedFragment, beginnings_after, first_named, repeated_after}
use Rattle.fh_base.specs.Lists.{onto}
use Rattle.explain_records.specs.declared.beginnings.Beginning.{Beginning}
use Rattle.explain_records.specs.declared.generations.LastGeneration.{LastGeneration}
use Rattle.explain_records.specs.declared.fragment_records.FragmentRecords.{FragmentRecords}
use Rattle.explain_records.specs.declared.told.FragmentTold.{FragmentTold}
use Rattle.explain_records.specs.Beginnings.{Begun, begun_after, record_of}
use Rattle.explain_records.specs.Recorded.{Recorded, backwards, unfinished_in}
use Rattle.explain_records.specs.Tables.{IsKeptOf, kept_of}
use Rattle.explain_records.specs.Turns.{begun_next, found, last_next, named_by, repeats, told_by, told_of}
use Rattle.explain_records.specs.Units.{AreRecordsOf, Comes, Moves, Rests, place_of_told}
use Rattle.explain_records.proofs.GrowingLemmas.{are_recorded}
use Rattle.explain_records.proofs.TableLemmas.{goes_on}

-- ---- what is told of a fragment that was heard

abbrev pub heard_by : EndpointConfig → Fragment → Verdict → FragmentHeard
heard_by e f v = record {
  ep = f.ep;
  endpoint = e;
  at = record { 0 = f.at };
  seq = record { seq = f.seq; last = f.last; sub = f.sub };
  bytes = length f.bytes;
  start = first_eight f.bytes;
  verdict = v;
}

module _ (side : Side) (n : Numerology) (at : ℤ) where
  -- too few bytes for a header
  short : (bytes : List ℕ) → (b : Bool) → symbol_named n bytes at ≡ None → None ≡ (let o : Option (Slot × ℕ) = if b then symbol_named n bytes at else None in o)
  short bytes true e = sym e
  short bytes false e = refl

  abbrev by_four : List ℕ → Option (Slot × ℕ)
  by_four bytes =
      if nat_lt (length bytes) 4
      then None
      else (if has_way side (head_of (first_four bytes)) then symbol_named n (first_four bytes) at else None)

  abbrev by_all : List ℕ → Option (Slot × ℕ)
  by_all bytes = if has_way side (head_of bytes) then symbol_named n bytes at else None

  enough : (a b c d : ℕ) (rest : List ℕ) → has_way side (head_of (a ∷ b ∷ c ∷ d ∷ [])) ≡ has_way side (head_of (a ∷ b ∷ c ∷ d ∷ rest))
  unfolding field
  enough a b c d rest = refl

  four : (bytes : List ℕ) → by_four bytes ≡ by_all bytes
  unfolding symbol_named
  four [] = short [] (has_way side (head_of [])) refl
  four (a ∷ []) = short (a ∷ []) (has_way side (head_of (a ∷ []))) refl
  four (a ∷ b ∷ []) = short (a ∷ b ∷ []) (has_way side (head_of (a ∷ b ∷ []))) refl
  four (a ∷ b ∷ c ∷ []) = short (a ∷ b ∷ c ∷ []) (has_way side (head_of (a ∷ b ∷ c ∷ []))) refl
  four (a ∷ b ∷ c ∷ d ∷ rest) =
      let bytes : List ℕ = a ∷ b ∷ c ∷ d ∷ rest in
      let many : leb (suc (length bytes)) 4 ≡ false = lt-leb (suc (length bytes)) 4 (omega arith) in
      let named : symbol_named n (first_four bytes) at ≡ symbol_named n bytes at
      = sym (ap (λ (t : Bool). let o : Option (Slot × ℕ) = if t then None else symbol_named n (first_four bytes) at in o) many) ∙ named_is n bytes at in
      ap (λ (t : Bool). let o : Option (Slot × ℕ) = if t then None else (if has_way side (head_of (first_four bytes)) then symbol_named n (first_four bytes) at else None) in o) many
      ∙ ap₂ (λ (t : Bool) (p : Option (Slot × ℕ)). let o : Option (Slot × ℕ) = if t then p else None in o) (enough a b c d rest) named

-- only of subsequence 0
sub_by : (sub0 way : Bool) (o p : Option (Slot × ℕ)) → o ≡ (let q : Option (Slot × ℕ) = if way then p else None in q)
    → (let q : Option (Slot × ℕ) = if sub0 then o else None in q) ≡ (let q : Option (Slot × ℕ) = if sub0 && way then p else None in q)
sub_by true way o p e = e
sub_by false way o p e = refl

named_same : (side : Side) (e : EndpointConfig) (f : Fragment) (v : Verdict) → named_by side (heard_by e f v) ≡ first_named side e f
named_same side e f v =
    sub_by (f.sub == 0) (has_way side (head_of f.bytes)) _ (symbol_named e.numerology f.bytes f.at) (four side e.numerology f.at f.bytes)

pub told_same : (side : Side) (number : ℕ) (h : FragmentHeard) (x : NumberedFragment) → x.number ≡ number → fragment_heard x.endpoint x.fragment x.verdict ≡ heard.Fragment h
    → told_of side number h ≡ told_by side x
told_same side number h x n is =
    let same : heard_by x.endpoint x.fragment x.verdict ≡ h = cc in
    sym (ap₂ (λ (m : ℕ) (k : FragmentHeard). told_of side m k) n same)
    ∙ ap (λ (o : Option (Slot × ℕ)). let t : FragmentTold = record (told_by side x) { named = o } in t) (named_same side x.endpoint x.fragment x.verdict)

-- ---- one fragment more

module _ (side : Side) (hold : ℤ) (xs : List NumberedFragment) (x : NumberedFragment) (old new : FragmentRecords) (is : x.verdict ≡ verdict_on hold x.fragment (backwards xs)) where
  pub moved : Moves (told_by side x) old new → AreRecordsOf side hold xs old → AreRecordsOf side hold (xs ++ x ∷ []) new
  moved m r =
      let l : LastGeneration = found hold (record { 0 = x.fragment.at }) m.was in
      record {
        side_is = m.side ∙ r.side_is;
        hold_is = ap (λ t. t.0) m.hold ∙ r.hold_is;
        recorded =
            subst (λ (bs : List Beginning). Recorded side hold (xs ++ x ∷ []) new.last.items bs new.repeated.items)
            (sym (m.begun ∙ ap₂ (λ (s : Side) (z : ℤ). begun_next s (told_by side x) (found z (record { 0 = x.fragment.at }) m.was) old.begun.items) r.side_is r.hold_is))
            (subst (λ (rs : List RepeatedRecord). Recorded side hold (xs ++ x ∷ []) new.last.items (begun_next side (told_by side x) l old.begun.items) rs)
            (sym (m.repeated ∙ ap₂ (λ (s : Side) (z : ℤ). old.repeated.items ++ repeats s (told_by side x) (found z (record { 0 = x.fragment.at }) m.was)) r.side_is r.hold_is))
            (subst (λ (ls : List (Option LastGeneration)). Recorded side hold (xs ++ x ∷ []) ls (begun_next side (told_by side x) l old.begun.items) (old.repeated.items ++ repeats side (told_by side x) l))
            (sym (m.last ∙ ap (λ (z : ℤ). set old.last.items (place_of_told (told_by side x)) (Some (last_next (told_by side x) (found z (record { 0 = x.fragment.at }) m.was) (length old.begun.items)))) r.hold_is))
            (goes_on side hold xs x old.last.items old.begun.items old.repeated.items m.was m.small m.there is r.recorded)));
      }

pub rested : (side : Side) (hold : ℤ) (xs : List NumberedFragment) (old new : FragmentRecords) → Rests old new → AreRecordsOf side hold xs old → AreRecordsOf side hold xs new
rested side hold xs old new m r = record {
  side_is = m.side ∙ r.side_is;
  hold_is = ap (λ t. t.0) m.hold ∙ r.hold_is;
  recorded =
      subst (λ (bs : List Beginning). Recorded side hold xs new.last.items bs new.repeated.items) (sym m.begun)
      (subst (λ (rs : List RepeatedRecord). Recorded side hold xs new.last.items old.begun.items rs) (sym m.repeated)
      (subst (λ (ls : List (Option LastGeneration)). Recorded side hold xs ls old.begun.items old.repeated.items) (sym m.last) r.recorded));
}

pub comes : (side : Side) (hold : ℤ) (xs : List NumberedFragment) (number : ℕ) (h : FragmentHeard) (x : NumberedFragment) (old new : FragmentRecords)
    → Moves (told_of old.side number h) old new → Comes hold xs number h x → AreRecordsOf side hold xs old → AreRecordsOf side hold (xs ++ x ∷ []) new
comes side hold xs number h x old new m c r =
    moved side hold xs x old new c.verdict_is
    (subst (λ (t : FragmentTold). Moves t old new) (ap (λ (s : Side). told_of s number h) r.side_is ∙ told_same side number h x c.number_is c.is_heard) m) r

-- ---- none yet

pub none_yet : (side : Side) (hold : ℤ) (last : List (Option LastGeneration)) (begun : List Beginning) (repeated : List RepeatedRecord)
    → ((k : ℕ) (o : Option LastGeneration) → slice_get last k ≡ Some o → o ≡ None) → begun ≡ [] → repeated ≡ [] → Recorded side hold [] last begun repeated
unfolding begun_after repeated_after onto
none_yet side hold last begun repeated none b r = record {
  generations = λ ep seq o small there. subst (λ (p : Option LastGeneration). IsKeptOf [] ep seq p []) (sym (none _ o there)) tt;
  beginnings = b;
  repeats = r;
}

-- ---- the messages that never became whole

unfinished_by : (side : Side) (bs : List Begun) → flat_map (record_of side) bs ≡ unfinished_in (map (kept_of side) bs)
unfinished_by side [] = refl
unfinished_by side (b ∷ bs) = ap (λ (rs : List BeginningRecord). record_of side b ++ rs) (unfinished_by side bs)

pub unfinished_is : (side : Side) (hold : ℤ) (xs : List NumberedFragment) (r : FragmentRecords) → AreRecordsOf side hold xs r → unfinished_in r.begun.items ≡ beginnings_after side hold [] xs
unfinished_is side hold xs r is =
    ap unfinished_in is.recorded.beginnings ∙ sym (unfinished_by side (begun_after side hold [] xs)) ∙ sym (are_recorded side hold xs [])

-- ---- calls

pub answers_unfinished : {V E : Type 0} (items : V → List BeginningRecord) (r : FragmentRecords) (begun : List Beginning) (res : Result V E) → begun ≡ r.begun.items
    → IfOk res (λ v. items v ≡ unfinished_in begun)
    → IfOk res (λ v. (side : Side) (hold : ℤ) (xs : List NumberedFragment) → AreRecordsOf side hold xs r → items v ≡ beginnings_after side hold [] xs)
answers_unfinished items r begun (Ok v) is told = λ side hold xs h. told ∙ ap unfinished_in is ∙ unfinished_is side hold xs r h
answers_unfinished items r begun (Err e) is told = tt

abbrev pub GoesOn : ℕ → FragmentHeard → FragmentRecords → FragmentRecords → Type 0
GoesOn number h old new =
    (side : Side) (hold : ℤ) (xs : List NumberedFragment) (x : NumberedFragment) → Comes hold xs number h x → AreRecordsOf side hold xs old → AreRecordsOf side hold (xs ++ x ∷ []) new

pub answers_take : {V E : Type 0} (number : ℕ) (h : FragmentHeard) (t : FragmentTold) (old new : FragmentRecords) (res : Result V E) → t ≡ told_of old.side number h → OnOk res (Moves t old new) → OnOk res (GoesOn number h old new)
answers_take number h t old new (Ok v) is m = λ side hold xs x c r. comes side hold xs number h x old new (subst (λ (u : FragmentTold). Moves u old new) is m) c r
answers_take number h t old new (Err e) is m = tt

abbrev pub Stays : FragmentRecords → FragmentRecords → Type 0
Stays old new = (side : Side) (hold : ℤ) (xs : List NumberedFragment) → AreRecordsOf side hold xs old → AreRecordsOf side hold xs new

pub answers_rest : {V E : Type 0} (old new : FragmentRecords) (res : Result V E) → OnErr res (Rests old new) → OnErr res (Stays old new)
answers_rest old new (Ok v) m = tt
answers_rest old new (Err e) m = λ side hold xs r. rested side hold xs old new m r

pub put_is : (t : FragmentTold) (old new : FragmentRecords) (k : ℕ) (was : Option LastGeneration) (f l : LastGeneration) → t.seq < 256 → k ≡ place_of_told t
    → slice_get old.last.items k ≡ Some was → f ≡ found old.hold.0 t.at was → l ≡ last_next t f (length old.begun.items) → new.side ≡ old.side → new.hold ≡ old.hold
    → new.last.items ≡ set old.last.items k (Some l) → new.begun.items ≡ begun_next old.side t f old.begun.items → new.repeated.items ≡ old.repeated.items ++ repeats old.side t f → Moves t old new
put_is t old new k was f l small place there fs ls side hold last begun repeated = record {
  small = small;
  was = was;
  there = sym (ap (λ (n : ℕ). slice_get old.last.items n) place) ∙ there;
  side = side;
  hold = hold;
  last =
      last ∙ ap₂ (λ (n : ℕ) (m : LastGeneration). set old.last.items n (Some m)) place
      (ls ∙ ap (λ (g : LastGeneration). last_next t g (length old.begun.items)) fs);
  begun = begun ∙ ap (λ (g : LastGeneration). begun_next old.side t g old.begun.items) fs;
  repeated = repeated ∙ ap (λ (g : LastGeneration). old.repeated.items ++ repeats old.side t g) fs;
}
