-- Measurements begin, one after the other.
use Rattle.std.proofs.Common.{◌≡◌, ◌≢◌, ℕ, ℤ, pos, ◌^◌, ◌+ℤ◌, ◌≤ℤ◌, Some, None, Option, true, List, [], ◌∷◌, ◌++◌, length, suc, ◌<◌, refl, sym, ap, ap₂, ◌∙◌, subst, arith, append_assoc, append-nil}
use Rattle.std.specs.Prelude.{All, map, slice_get}
use Rattle.std.specs.Option.{option_to_list}
use Rattle.std.specs.Ordering.{int_eq}
use Rattle.std.proofs.lemmas.Int.{ints}
use Rattle.std.proofs.lemmas.Bool.Decides.{Decides-int_eq}
use Rattle.std.proofs.lemmas.List.Elements.{All-drop, All-head, filter-append, filter_passes}
use Rattle.std.proofs.Math.Seq.{drop-append_seam}
use Rattle.std.specs.Int.Signed.{≤ℤ_refl}
use Rattle.air_source.specs.Units.{same_side}
use Rattle.air_source.specs.declared.events.Side.{Side}
use Rattle.air_source.specs.declared.events.Side.TheVariants.{Ru, Du}
use Rattle.delay_exchange.specs.Units.{HasDoings}
use Rattle.delay_measure.specs.declared.edge.Compensation.{Compensation}
use Rattle.delay_laws.specs.Ticks.{Begin, due}
use Rattle.delay_model.specs.Doings.{Doings, told_in, with_begins}
use Rattle.delay_measure.specs.After.{begins}
use Rattle.fh_document.specs.Proper.{IsMeasure}
use Rattle.fh_document.specs.declared.document.Measure.{Measure}
use Rattle.fh_base.proofs.Orders.{above_next}
use Rattle.fh_base.specs.declared.values.Ticks.{Ticks}
use Rattle.frame_ways.specs.Queues.{AreRising, first_time, landing_of}
use Rattle.frame_ways.specs.declared.landings.Landing.{Landing}
use Rattle.frame_ways.proofs.LandLemmas.{refused_from, rest_within, taken_all}
use Rattle.frame_ways.specs.Listed.{AreFrom}
use Rattle.unit_meters.specs.Begins.{AreWithin, HasBegun, MetersStand, begin_of, begin_then, begins_among, begins_of, begins_waiting}
use Rattle.unit_meters.specs.declared.meters.Meters.{Meters}
use Rattle.unit_meters.proofs.TimeLemmas.{measure_is}
use Rattle.unit_meters.proofs.WaitLemmas.{begins_none, taken_here, taken_later}

-- ---- begins in two parts

with_begins-append : (c : Compensation) (x : Doings) (bs cs : List Begin) → with_begins c x (bs ++ cs) ≡ with_begins c (with_begins c x bs) cs
with_begins-append c x [] cs = refl
with_begins-append c x (b ∷ bs) cs = with_begins-append c (told_in c x (begins b.at b.id b.kind)) bs cs

begins_more : (c : Compensation) (side : Side) (x : Doings) (bs cs : List Begin) → with_begins c (with_begins c x (begins_of side bs)) (begins_of side cs) ≡ with_begins c x (begins_of side (bs ++ cs))
begins_more c side x bs cs =
    sym (ap (with_begins c x) (filter-append (λ (b : Begin). same_side side b.side) bs cs) ∙ with_begins-append c x (begins_of side bs) (begins_of side cs))

-- ---- the measurements of a tick so far

-- some of those of the tick have begun, and the others wait
pub record IsBeginning (bs : List Begin) (tick : ℤ) (cr cd : Compensation) (x y : Doings) (m : Meters) : Type 0 where
  pub proper : All IsMeasure m.measures.now
  pub later : (t : ℤ) → (tick +ℤ pos 1) ≤ℤ t → begins_waiting m t ≡ due t bs
  pub list : AreFrom tick m.waiting
  pub within : AreWithin (length m.measures.now) m.waiting
  pub gone : List Begin
  pub parts : due tick bs ≡ gone ++ begins_waiting m tick
  pub ru : HasDoings cr (with_begins cr x (begins_of Ru gone)) m.ru
  pub du : HasDoings cd (with_begins cd y (begins_of Du gone)) m.du

module _ (bs : List Begin) (cr cd : Compensation) (x y : Doings) where
  pub none_begun : (tick : ℤ) (m : Meters) → MetersStand bs tick cr cd x y m → IsBeginning bs tick cr cd x y m
  none_begun tick m h =
      let w = h.waits in
      record {
        proper = w.proper;
        later = λ t low. w.begins t (above_next tick t low);
        list = w.list;
        within = w.within;
        gone = [];
        parts = sym (w.begins tick (≤ℤ_refl tick));
        ru = h.ru;
        du = h.du;
      }

  module _ (tick : Ticks) (k : ℕ) (old : Meters) (rest : List Landing) (so_far : IsBeginning bs tick.0 cr cd x y old) (took : old.waiting ≡ landing_of tick k ∷ rest) where
    abbrev ms : List Measure
    ms = old.measures.now

    -- the next one's place has a measurement
    found_parts : (one : Measure) → slice_get ms k ≡ Some one → due tick.0 bs ≡ so_far.gone ++ (begin_of one ∷ begins_among ms rest tick.0)
    found_parts one found =
        so_far.parts
        ∙ ap (λ (xs : List Begin). so_far.gone ++ xs)
        (taken_here ms tick k old.waiting rest took
        ∙ ap (λ (o : Option Measure). map begin_of (option_to_list o) ++ begins_among ms rest tick.0) found)

    -- it is one of the tick
    one_now : (one : Measure) → slice_get ms k ≡ Some one → (begin_of one).at ≡ tick.0
    one_now one found =
        let P : Begin → Type 0 = λ b. int_eq b.at tick.0 ≡ true in
        let all = subst (All P) (found_parts one found) (filter_passes (λ (b : Begin). int_eq b.at tick.0) bs) in
        let there = begin_of one ∷ begins_among ms rest tick.0 in
        let here = subst (All P) (drop-append_seam so_far.gone there) (All-drop P (length so_far.gone) (so_far.gone ++ there) all) in
        (Decides-int_eq (begin_of one).at tick.0).0 (All-head P (begin_of one) (begins_among ms rest tick.0) here)

    -- so its time is in range
    pub in_time : (one : Measure) → slice_get ms k ≡ Some one → (pos 0 ≤ℤ tick.0) × (tick.0 ≤ℤ pos (2 ^ 56))
    in_time one found =
        let time = (measure_is ms k one so_far.proper found).time in
        let low = time.low in
        let high = time.high in
        let at = one_now one found in (omega (arith, ints, low, at), omega (arith, ints, high, at))

    still_within : (new : Meters) → new.waiting ≡ rest → new.measures.now ≡ ms → AreWithin (length new.measures.now) new.waiting
    still_within new waiting measures =
        subst (AreWithin (length new.measures.now)) (sym waiting)
        (subst (λ (xs : List Measure). AreWithin (length xs) rest) (sym measures) (rest_within (length ms) tick (Some k) old.waiting rest took so_far.within))

    -- it has begun
    pub next_begun : (new : Meters) (one : Measure) → slice_get ms k ≡ Some one → new.waiting ≡ rest → new.measures.now ≡ ms
        → HasDoings cr (with_begins cr (with_begins cr x (begins_of Ru so_far.gone)) (begins_of Ru (begin_then tick.0 one ∷ []))) new.ru
        → HasDoings cd (with_begins cd (with_begins cd y (begins_of Du so_far.gone)) (begins_of Du (begin_then tick.0 one ∷ []))) new.du
        → IsBeginning bs tick.0 cr cd x y new
    next_begun new one found waiting measures ru du =
        let begun : begin_then tick.0 one ≡ begin_of one = ap (λ (t : ℤ). begin_then t one) (sym (one_now one found)) in
        let now = λ (t : ℤ). ap₂ (λ (xs : List Measure) (q : List Landing). begins_among xs q t) measures waiting in
        let gone = so_far.gone ++ begin_of one ∷ [] in
        record {
          proper = subst (All IsMeasure) (sym measures) so_far.proper;
          later = λ t low. now t ∙ taken_later ms tick k old.waiting rest t took low ∙ so_far.later t low;
          list = subst (AreFrom tick.0) (sym waiting) (taken_all (λ (l : Landing). tick.0 ≤ℤ l.at.0) (landing_of tick k) old.waiting rest took so_far.list);
          within = still_within new waiting measures;
          gone = gone;
          parts = found_parts one found ∙ sym (append_assoc so_far.gone (begin_of one ∷ []) (begins_among ms rest tick.0))
              ∙ ap (λ (xs : List Begin). gone ++ xs) (sym (now tick.0));
          ru = subst (λ (z : Doings). HasDoings cr z new.ru)
              (ap (λ (b : Begin). with_begins cr (with_begins cr x (begins_of Ru so_far.gone)) (begins_of Ru (b ∷ []))) begun ∙ begins_more cr Ru x so_far.gone (begin_of one ∷ [])) ru;
          du = subst (λ (z : Doings). HasDoings cd z new.du)
              (ap (λ (b : Begin). with_begins cd (with_begins cd y (begins_of Du so_far.gone)) (begins_of Du (b ∷ []))) begun ∙ begins_more cd Du y so_far.gone (begin_of one ∷ [])) du;
        }

    -- there is none at its place
    pub next_passed : (new : Meters) → slice_get ms k ≡ None → new.waiting ≡ rest → new.measures.now ≡ ms → new.ru ≡ old.ru → new.du ≡ old.du → IsBeginning bs tick.0 cr cd x y new
    next_passed new none waiting measures ru du =
        let now = λ (t : ℤ). ap₂ (λ (xs : List Measure) (q : List Landing). begins_among xs q t) measures waiting in
        let gone = taken_here ms tick k old.waiting rest took ∙ ap (λ (o : Option Measure). map begin_of (option_to_list o) ++ begins_among ms rest tick.0) none in
        record {
          proper = subst (All IsMeasure) (sym measures) so_far.proper;
          later = λ t low. now t ∙ taken_later ms tick k old.waiting rest t took low ∙ so_far.later t low;
          list = subst (AreFrom tick.0) (sym waiting) (taken_all (λ (l : Landing). tick.0 ≤ℤ l.at.0) (landing_of tick k) old.waiting rest took so_far.list);
          within = still_within new waiting measures;
          gone = so_far.gone;
          parts = so_far.parts ∙ ap (λ (xs : List Begin). so_far.gone ++ xs) (gone ∙ sym (now tick.0));
          ru = subst (HasDoings cr (with_begins cr x (begins_of Ru so_far.gone))) (sym ru) so_far.ru;
          du = subst (HasDoings cd (with_begins cd y (begins_of Du so_far.gone))) (sym du) so_far.du;
        }

  -- none of the tick is left
  pub all_begun : (tick : Ticks) (old new : Meters) → IsBeginning bs tick.0 cr cd x y old → new.waiting ≡ old.waiting → new.measures.now ≡ old.measures.now
      → new.ru ≡ old.ru → new.du ≡ old.du → AreRising new.waiting → first_time old.waiting ≢ Some tick
      → MetersStand bs (tick.0 +ℤ pos 1) cr cd (with_begins cr x (begins_of Ru (due tick.0 bs))) (with_begins cd y (begins_of Du (due tick.0 bs))) new
  all_begun tick old new so_far waiting measures ru du rising other =
      let from = refused_from tick old.waiting so_far.list (subst AreRising waiting rising) other in
      let none = begins_none old.measures.now tick.0 old.waiting from in
      let all : so_far.gone ≡ due tick.0 bs = sym (so_far.parts ∙ ap (λ (xs : List Begin). so_far.gone ++ xs) none ∙ append-nil so_far.gone) in
      record {
        waits = record {
          proper = subst (All IsMeasure) (sym measures) so_far.proper;
          begins = λ t low. ap₂ (λ (xs : List Measure) (q : List Landing). begins_among xs q t) measures waiting ∙ so_far.later t low;
          list = subst (AreFrom (tick.0 +ℤ pos 1)) (sym waiting) from;
          within = subst (AreWithin (length new.measures.now)) (sym waiting) (subst (λ (xs : List Measure). AreWithin (length xs) old.waiting) (sym measures) so_far.within);
        };
        ru = subst (λ (xs : List Begin). HasDoings cr (with_begins cr x (begins_of Ru xs)) new.ru) all
            (subst (HasDoings cr (with_begins cr x (begins_of Ru so_far.gone))) (sym ru) so_far.ru);
        du = subst (λ (xs : List Begin). HasDoings cd (with_begins cd y (begins_of Du xs)) new.du) all
            (subst (HasDoings cd (with_begins cd y (begins_of Du so_far.gone))) (sym du) so_far.du);
      }

-- one fewer waits
pub fewer_wait : (tick : Ticks) (k : ℕ) (old new rest : List Landing) → old ≡ landing_of tick k ∷ rest → new ≡ rest → length new < length old
fewer_wait tick k old new rest took same =
    let long : length old ≡ suc (length rest) = ap length took in
    let short = ap length same in
    omega (arith, long, short)

-- ---- one alone

-- one of a unit
abbrev of_side : ℤ → Measure → Side → Begin
of_side tick one side = record { side = side; id = one.id; kind = one.kind; at = tick }

module _ (tick : ℤ) (one : Measure) (cr cd : Compensation) (x y : Doings) (old new : Meters) (measures : new.measures.now ≡ old.measures.now) (waiting : new.waiting ≡ old.waiting) where
  pub begun_ru : one.side ≡ Ru → HasDoings cr (told_in cr x (begins tick one.id one.kind)) new.ru → HasDoings cd y new.du → HasBegun tick one cr cd x y old new
  begun_ru is ru du = record {
    ru = subst (λ (s : Side). HasDoings cr (with_begins cr x (begins_of Ru (of_side tick one s ∷ []))) new.ru) (sym is) ru;
    du = subst (λ (s : Side). HasDoings cd (with_begins cd y (begins_of Du (of_side tick one s ∷ []))) new.du) (sym is) du;
    measures = measures;
    waiting = waiting;
  }

  pub begun_du : one.side ≡ Du → HasDoings cr x new.ru → HasDoings cd (told_in cd y (begins tick one.id one.kind)) new.du → HasBegun tick one cr cd x y old new
  begun_du is ru du = record {
    ru = subst (λ (s : Side). HasDoings cr (with_begins cr x (begins_of Ru (of_side tick one s ∷ []))) new.ru) (sym is) ru;
    du = subst (λ (s : Side). HasDoings cd (with_begins cd y (begins_of Du (of_side tick one s ∷ []))) new.du) (sym is) du;
    measures = measures;
    waiting = waiting;
  }
