-- The measurements that wait, from one tick to another.
use Rattle.std.proofs.Common.{◌≡◌, ℕ, ℤ, pos, ◌+ℤ◌, ◌≤ℤ◌, ◌<ℤ◌, ◌<◌, Option, Some, Bool, List, [], ◌∷◌, ◌++◌, length, get_or, refl, sym, ap, ◌∙◌, arith}
use Rattle.std.specs.Prelude.{map, slice_get}
use Rattle.std.specs.List.{flat_map}
use Rattle.std.specs.Option.{option_to_list}
use Rattle.std.specs.Int.Signed.{≤ℤ_refl}
use Rattle.std.proofs.lemmas.List.Elements.{All-head, All-tail}
use Rattle.std.proofs.lemmas.Option.{slice_get-get_or}
use Rattle.delay_laws.specs.Ticks.{Begin, due}
use Rattle.fh_document.specs.declared.document.Measure.{Measure}
use Rattle.fh_base.proofs.Orders.{at_most, beyond_next, is_same, later_than, int_above, int_below, next_after}
use Rattle.fh_base.specs.declared.values.Ticks.{Ticks}
use Rattle.frame_ways.proofs.QueueLemmas.{none_below}
use Rattle.frame_ways.specs.Queues.{AreRising, at_time, first_time, landing_of}
use Rattle.frame_ways.specs.declared.landings.Landing.{Landing}
use Rattle.frame_ways.proofs.LandLemmas.{below_from, from_less, under_next, with_one}
use Rattle.frame_ways.proofs.TimeLemmas.{above_it}
use Rattle.frame_ways.specs.Listed.{AreFrom}
use Rattle.fh_base.specs.Least.{IsLeastOf}
use Rattle.unit_meters.specs.Begins.{AreWithin, Awaits, NoneBeginsTo, begin_of, begins_among, measure_at}
use Rattle.unit_meters.specs.declared.meters.Meters.{Meters}

-- ---- with the first one and without it

pub taken_here : (ms : List Measure) (tick : Ticks) (k : ℕ) (before now : List Landing) → before ≡ landing_of tick k ∷ now
    → begins_among ms before tick.0 ≡ measure_at ms (landing_of tick k) ++ begins_among ms now tick.0
taken_here ms tick k before now is =
    ap (λ (q : List Landing). begins_among ms q tick.0) is
    ∙ ap (λ (b : Bool). flat_map (measure_at ms) (with_one b (landing_of tick k) (at_time tick.0 now))) (is_same tick.0 tick.0 refl)

pub taken_later : (ms : List Measure) (tick : Ticks) (k : ℕ) (before now : List Landing) (t : ℤ) → before ≡ landing_of tick k ∷ now → (tick.0 +ℤ pos 1) ≤ℤ t
    → begins_among ms now t ≡ begins_among ms before t
taken_later ms tick k before now t is low =
    sym (ap (λ (q : List Landing). begins_among ms q t) is
    ∙ ap (λ (b : Bool). flat_map (measure_at ms) (with_one b (landing_of tick k) (at_time t now))) (int_below tick.0 t (beyond_next tick.0 t low)))

taken_above : (ms : List Measure) (tick : Ticks) (k : ℕ) (before now : List Landing) (t : ℤ) → before ≡ landing_of tick k ∷ now → t <ℤ tick.0 → begins_among ms now t ≡ begins_among ms before t
taken_above ms tick k before now t is high =
    sym (ap (λ (q : List Landing). begins_among ms q t) is
    ∙ ap (λ (b : Bool). flat_map (measure_at ms) (with_one b (landing_of tick k) (at_time t now))) (int_above tick.0 t high))

-- ---- none begins before the first one

pub begins_none : (ms : List Measure) (t : ℤ) (q : List Landing) → AreFrom (t +ℤ pos 1) q → begins_among ms q t ≡ []
begins_none ms t q from = ap (flat_map (measure_at ms)) (none_below t q (below_from t (t +ℤ pos 1) q (under_next t) from))

found_at : (ms : List Measure) (k : ℕ) → k < length ms → (m : Measure) × (slice_get ms k ≡ Some m)
found_at [] k lt = absurd (omega (arith, lt))
found_at (m ∷ ms) k lt = (get_or (m ∷ ms) k m, slice_get-get_or (m ∷ ms) k m lt)

-- and it begins itself
not_none : (ms : List Measure) (l : Landing) (q : List Landing) → AreWithin (length ms) (l ∷ q) → begins_among ms (l ∷ q) l.at.0 ≡ [] → ⊥
not_none ms l q within none =
    let found = found_at ms l.index (All-head (λ (x : Landing). x.index < length ms) l q within) in
    let one = ap (λ (o : Option Measure). map begin_of (option_to_list o) ++ begins_among ms q l.at.0) found.1 in
    let empty : begin_of found.0 ∷ begins_among ms q l.at.0 ≡ [] = sym one ∙ sym (taken_here ms l.at l.index (l ∷ q) q refl) ∙ none in
    absurd (cc empty)

pub first_begins : (ms : List Measure) (bs : List Begin) (q : List Landing) (now : ℤ) → AreRising q → AreFrom now q → AreWithin (length ms) q
    → ((t : ℤ) → now ≤ℤ t → begins_among ms q t ≡ due t bs) → IsLeastOf (NoneBeginsTo bs now) (first_time q)
first_begins ms bs [] now up from within are = λ to t low high. sym (are t low)
first_begins ms bs (l ∷ q) now up from within are = record {
  before = λ to lt t low high.
      sym (are t low)
      ∙ begins_none ms t (l ∷ q) (let order = next_after t l.at.0 (later_than t to l.at.0 high lt) in (order, from_less (t +ℤ pos 1) l.at.0 q order up.0));
  at = λ none. not_none ms l q within (are l.at.0 from.0 ∙ none l.at.0 from.0 (≤ℤ_refl l.at.0));
}

-- ---- where none begins up to a tick, they wait at the next as they waited

wait_later : (ms : List Measure) (q : List Landing) (now to : ℤ) → ((t : ℤ) → now ≤ℤ t → t ≤ℤ to → begins_among ms q t ≡ []) → AreFrom now q → AreWithin (length ms) q
    → AreFrom (to +ℤ pos 1) q
wait_later ms [] now to none from within = tt
wait_later ms (l ∷ q) now to none from within =
    let above = above_it l.at.0 to (λ high. not_none ms l q within (none l.at.0 from.0 high)) in (
      next_after to l.at.0 above,
      wait_later ms q now to (λ t low high. taken_above ms l.at l.index (l ∷ q) q t refl (later_than t to l.at.0 high above) ∙ none t low high) from.1
          (All-tail (λ (x : Landing). x.index < length ms) l q within),
    )

pub awaits_until : (bs : List Begin) (now to : ℤ) (m : Meters) → Awaits bs now m → now ≤ℤ (to +ℤ pos 1) → NoneBeginsTo bs now to → Awaits bs (to +ℤ pos 1) m
awaits_until bs now to m h order none = record {
  proper = h.proper;
  begins = λ t low. h.begins t (at_most now (to +ℤ pos 1) t order low);
  list = wait_later m.measures.now m.waiting now to (λ t low high. h.begins t low ∙ none t low high) h.list h.within;
  within = h.within;
}
