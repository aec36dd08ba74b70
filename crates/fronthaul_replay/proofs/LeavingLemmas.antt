-- All that leaves from a tick on leaves at it or later, and lands after it where the frames of the other classes leave after it.
use Rattle.std.proofs.Common.{ℕ, zero, suc, ℤ, pos, ◌+ℤ◌, ◌≤ℤ◌, ◌<ℤ◌, ◌≡◌, true, List, All, inl, inr, refl, subst, sym}
use Rattle.std.specs.Prelude.{filter, map}
use Rattle.std.specs.Int.{int_gap}
use Rattle.std.specs.Ordering.{int_eq}
use Rattle.std.proofs.lemmas.Bool.Decides.{Decides-int_eq}
use Rattle.std.proofs.lemmas.List.Elements.{All-append, All-filter, All-map, All-nil, All-weaker, filter_passes}
use Rattle.std.specs.Int.Signed.{≤ℤ_refl}
use Rattle.fh_base.proofs.Orders.{at_most, next_is_later}
use Rattle.frame_ways.specs.Leaving.{Leaving}
use Rattle.delay_laws.specs.Ticks.{Flight}
use Rattle.document_traffic.specs.Measured.{flights_then}
use Rattle.document_traffic.specs.Replayed.{leaving_flight, leaving_from, leaving_then}
use Rattle.replay_laws.specs.Moments.{end_of_time}
use Rattle.fh_base.specs.Lists.{each_tick}
use Rattle.fronthaul_replay.specs.Waiting.{LandsAfter}

ticks_all : {A : Type 0} (P : A → Type 0) (now from : ℤ) (n : ℕ) (g : ℤ → List A) → now ≤ℤ from → ((t : ℤ) → now ≤ℤ t → All P (g t)) → All P (each_tick from n g)
unfolding each_tick
ticks_all P now from zero g order each = All-nil P
ticks_all P now from (suc n) g order each =
    All-append P (g from) (each_tick (from +ℤ pos 1) n g) (each from order) (ticks_all P now (from +ℤ pos 1) n g (at_most now from (from +ℤ pos 1) order (next_is_later from)) each)

same_from : (now t at : ℤ) → now ≤ℤ t → int_eq at t ≡ true → now ≤ℤ at
same_from now t at order is = subst (λ (z : ℤ). now ≤ℤ z) (sym ((Decides-int_eq at t).0 is)) order

flights_from : (fs : List Flight) (now t : ℤ) → now ≤ℤ t → All (λ (f : Flight). now ≤ℤ f.at) (flights_then fs t)
flights_from fs now t order =
    let p = λ (f : Flight). int_eq f.at t in All-weaker (λ (f : Flight). p f ≡ true) (λ (f : Flight). now ≤ℤ f.at) (λ f is. same_from now t f.at order is) (filter p fs) (filter_passes p fs)

-- where the others leave after the tick, all of it lands after the tick
pub leaving_lands_after : (fs : List Flight) (tick : ℤ) (ls : List Leaving) → All (λ (f : Leaving). tick <ℤ f.at) ls → All (LandsAfter tick) (leaving_from ls fs tick)
unfolding leaving_from
leaving_lands_after fs tick ls later =
    let P = LandsAfter tick in
    let others : All P ls = All-weaker (λ (f : Leaving). tick <ℤ f.at) P (λ f after. inl after) ls later in
    ticks_all P tick tick (int_gap tick (end_of_time +ℤ pos 1)) (leaving_then ls fs) (≤ℤ_refl tick)
    (λ t order.
    All-append P (filter (λ (f : Leaving). int_eq f.at t) ls) (map leaving_flight (flights_then fs t)) (All-filter (λ (f : Leaving). int_eq f.at t) P ls others)
    (All-map P leaving_flight (flights_then fs t)
    (All-weaker (λ (f : Flight). tick ≤ℤ f.at) (λ (f : Flight). P (leaving_flight f)) (λ f from. inr (refl, from)) (flights_then fs t) (flights_from fs tick t order))))
