-- All that lands arrives, and nothing else does, in the order of time.
use Rattle.std.proofs.Common.{◌≡◌, ℕ, ℤ, zero, suc, pos, ◌<◌, ◌+ℤ◌, ◌-ℤ◌, ◌≤ℤ◌, inl, inr, List, [], ◌∷◌, ap, sym, ◌∙◌, subst, arith}
use Rattle.std.specs.Int.{int_gap}
use Rattle.std.specs.Ordering.{int_eq}
use Rattle.std.proofs.lemmas.Bool.{cases_eq}
use Rattle.std.proofs.lemmas.Bool.Decides.{Decides-int_eq}
use Rattle.std.proofs.lemmas.Int.{ints}
use Rattle.replay_laws.proofs.CameLemmas.{arrivals_in_time}
use Rattle.replay_laws.specs.Moments.{all_arrivals, arrivals_in, landing_at}
use Rattle.replay_laws.proofs.EndLemmas.{lands_by_end}
use Rattle.replay_laws.specs.Passing.{AreLandings}
use Rattle.schedule_laws.specs.Premise.{AreInOrder}
use Rattle.unit_model.specs.Meetings.{Arrival}
use Rattle.unit_model.specs.Radiated.{first_clock}
use Rattle.unit_model.specs.Standing.{AreInTime}
use Rattle.unit_model.specs.Times.{end_of_time}
use Rattle.unit_laws.proofs.HistoryTicks.{clock_begins}
use Rattle.fh_base.proofs.Orders.{at_most}
use Rattle.fh_base.specs.Members.{IsIn}
use Rattle.fh_base.proofs.MemberLemmas.{in_filter, of_filter}
use Rattle.fh_base.proofs.MadeLists.{in_all, in_onto, onto_left, onto_right}
use Rattle.fh_base.proofs.EachLemmas.{gap_is}

-- ---- what arrives

of_ticks : (landings : List Arrival) (n : ℕ) (a : Arrival) → IsIn a (arrivals_in landings n) → IsIn a landings
unfolding arrivals_in
of_ticks landings zero a m = absurd m
of_ticks landings (suc n) a m =
    let tick = first_clock +ℤ pos n in
    elim (in_onto a (arrivals_in landings n) (landing_at landings tick) m) [
      | inl earlier ↦ of_ticks landings n a earlier
      | inr here ↦ (of_filter (λ (b : Arrival). int_eq b.at tick) a landings here).0
    ]

pub of_arrivals : (landings : List Arrival) (a : Arrival) → IsIn a (all_arrivals landings) → IsIn a landings
of_arrivals landings a m = of_ticks landings (int_gap first_clock (end_of_time +ℤ pos 1)) a m

in_ticks : (landings : List Arrival) (n k : ℕ) (a : Arrival) → IsIn a landings → a.at ≡ first_clock +ℤ pos k → k < n → IsIn a (arrivals_in landings n)
unfolding arrivals_in
in_ticks landings zero k a m is below = absurd (omega (arith, below))
in_ticks landings (suc n) k a m is below =
    let tick = first_clock +ℤ pos n in
    elim (cases_eq k n) [
      | inl e ↦
          (let now : a.at ≡ tick = is ∙ ap (λ (j : ℕ). first_clock +ℤ pos j) e in
          onto_right a (arrivals_in landings n) (landing_at landings tick) (in_filter (λ (b : Arrival). int_eq b.at tick) a landings m ((Decides-int_eq a.at tick).1 now)))
      | inr ne ↦ onto_left a (arrivals_in landings n) (landing_at landings tick) (in_ticks landings n k a m is (omega (arith, below, ne)))
    ]

below_gap : (from t end : ℤ) (k n : ℕ) → from +ℤ pos k ≡ t → from +ℤ pos n ≡ end +ℤ pos 1 → t ≤ℤ end → k < n
below_gap from t end k n here there order = omega (arith, ints, here, there, order)

pub in_arrivals : (landings : List Arrival) (a : Arrival) → AreLandings landings → IsIn a landings → IsIn a (all_arrivals landings)
in_arrivals landings a are m =
    let begun = in_all (λ (b : Arrival). first_clock ≤ℤ b.at) a landings are.begun m in
    let ended = in_all (λ (b : Arrival). b.at ≤ℤ end_of_time) a landings (lands_by_end landings are) m in
    let k = int_gap first_clock a.at in
    let here = gap_is first_clock a.at begun in
    in_ticks landings (int_gap first_clock (end_of_time +ℤ pos 1)) k a m (sym here)
    (below_gap first_clock a.at end_of_time k (int_gap first_clock (end_of_time +ℤ pos 1)) here (gap_is first_clock (end_of_time +ℤ pos 1) clock_begins) ended)

-- ---- in the order of time

by_clock : (clock : ℤ) (xs : List Arrival) → AreInTime clock xs → (b : Arrival) → IsIn b xs → b.at ≤ℤ clock
by_clock clock [] h b m = absurd m
by_clock clock (a ∷ earlier) h b (inl e) = subst (λ (x : Arrival). x.at ≤ℤ clock) (sym e) h.0
by_clock clock (a ∷ earlier) h b (inr t) = at_most b.at a.at clock (by_clock a.at earlier h.1 b t) h.0

ordered : (clock : ℤ) (xs : List Arrival) → AreInTime clock xs → AreInOrder xs
ordered clock [] h = tt
ordered clock (a ∷ earlier) h = (by_clock a.at earlier h.1, ordered a.at earlier h.1)

pub arrivals_in_order : (landings : List Arrival) → AreLandings landings → AreInOrder (all_arrivals landings)
arrivals_in_order landings are =
    let end = end_of_time +ℤ pos 1 in
    ordered (end -ℤ pos 1) (all_arrivals landings) (arrivals_in_time landings end are).0
