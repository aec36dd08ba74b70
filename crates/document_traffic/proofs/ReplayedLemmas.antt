-- All that lands with the frames of delay measurement lands a second before the end of time.
use Rattle.std.proofs.Common.{ℤ, pos, ◌+ℤ◌, ◌≤ℤ◌, inl, inr, ◌⊎◌, List, [], ◌∷◌, refl, sym, subst, arith}
use Rattle.std.specs.List.{flat_map}
use Rattle.std.specs.Ordering.{int_eq}
use Rattle.std.proofs.lemmas.Int.{ints}
use Rattle.air_source.specs.declared.events.Side.{Side}
use Rattle.delay_laws.specs.Ticks.{Flight}
use Rattle.document_traffic.proofs.CopyLemmas.{of_copies}
use Rattle.document_traffic.proofs.LandingLemmas.{each_leaves, landing_in_time, last_leaving, leaving_late}
use Rattle.document_traffic.proofs.TimeLemmas.{IsBy, longest, replayed_by}
use Rattle.document_traffic.proofs.WithinLemmas.{copy_of_each, injected_of_each}
use Rattle.document_traffic.specs.Landing.{all_delayed, copies_among, copies_in, injected_to, leaving_to}
use Rattle.document_traffic.specs.Sending.{Delayed}
use Rattle.fh_document.specs.Proper.{IsDocument}
use Rattle.fh_document.specs.declared.document.Document.{Document}
use Rattle.plan_model.specs.Valid.{IsValid}
use Rattle.unit_model.specs.Meetings.{Arrival}
use Rattle.unit_model.specs.Radiated.{first_clock}
use Rattle.unit_model.specs.Times.{last_landing, tick_count}
use Rattle.window_config.specs.Windows.{ticks_of_ns}
use Rattle.document_traffic.proofs.FlightLemmas.{flown_after, flown_before}
use Rattle.document_traffic.specs.MeasuredLaws.{LandingsAreReplayed}
use Rattle.document_traffic.proofs.AlikeLemmas.{lands_alike}
use Rattle.document_traffic.proofs.Apart.{all_sent, copies_flown, delayed_then, flight_copy, landings_apart, sent_then}
use Rattle.document_traffic.specs.Measured.{exchanges, flights_then}
use Rattle.document_traffic.specs.Replayed.{landings_for}
use Rattle.fh_base.specs.Members.{IsIn}
use Rattle.fh_base.proofs.MemberLemmas.{in_either, of_filter}
use Rattle.fh_base.proofs.MadeLists.{of_map, of_tick}

of_flown : (fs : List Flight) (a : Arrival) → IsIn a (flat_map copies_flown fs) → (f : Flight) × IsIn f fs × IsIn a (copies_flown f)
of_flown [] a m = absurd m
of_flown (f ∷ fs) a m = elim (in_either a (copies_flown f) (flat_map copies_flown fs) m) [
  | inl l ↦ (f, inl refl, l)
  | inr r ↦ (let w = of_flown fs a r in (w.0, inr w.1, w.2))
]

-- a copy of one of these frames
abbrev IsCopy : List Delayed → List Flight → Arrival → Type 0
IsCopy xs fs a = ((x : Delayed) × IsIn x xs × IsIn a (copies_in x)) ⊎ ((f : Flight) × IsIn f fs × IsIn a (copies_flown f))

of_sent : (xs : List Delayed) (fs : List Flight) (a : Arrival) → IsIn a (all_sent xs fs) → IsCopy xs fs a
unfolding all_sent
of_sent xs fs a m =
    let w = of_tick a first_clock tick_count (sent_then xs fs) m in
    let t = w.0 in
    elim (in_either a (copies_among (delayed_then xs t)) (flat_map copies_flown (flights_then fs t)) w.1) [
      | inl l ↦ (let x = of_copies (delayed_then xs t) a l in inl (x.0, (of_filter (λ (y : Delayed). int_eq y.frame.at t) x.0 xs x.1).0, x.2))
      | inr r ↦ (let f = of_flown (flights_then fs t) a r in inr (f.0, (of_filter (λ (g : Flight). int_eq g.at t) f.0 fs f.1).0, f.2))
    ]

by_last : (last t : ℤ) → last ≤ℤ last_landing → IsBy last t → IsBy last_landing t
by_last last t order by = record { low = by.low; high = (let h = by.high in omega (arith, ints, order, h)) }

seconds_in_time : ticks_of_ns (pos 1009000000000) ≤ℤ last_landing
seconds_in_time = omega (arith, ints)

last_is_last : last_landing ≤ℤ last_landing
last_is_last = omega (arith, ints)

module _ (d : Document) (side : Side) (is : IsDocument d) (valid : IsValid d.config d.plan) where
  copy_in_time : (a : Arrival) → IsCopy (all_delayed side d) ((exchanges d).sent side) a → IsBy last_landing a.at
  copy_in_time a (inl x) =
      by_last (last_leaving side +ℤ longest) a.at (landing_in_time side) (copy_of_each d is side (leaving_to side d) (last_leaving side) (leaving_late side) (each_leaves side d is valid) x.0 a x.1 x.2)
  copy_in_time a (inr f) =
      let w = of_map (flight_copy f.0) a f.0.delays f.2 in
      subst (λ (b : Arrival). IsBy last_landing b.at) (sym w.2)
      (by_last (ticks_of_ns (pos 1009000000000)) (f.0.at +ℤ w.0) seconds_in_time (record { low = flown_after d is side f.0 w.0 f.1 w.1; high = flown_before d is side f.0 w.0 f.1 w.1 }))

  each_in_time : (a : Arrival) → IsIn a (landings_apart side d) → IsBy last_landing a.at
  each_in_time a m = elim (in_either a (all_sent (all_delayed side d) ((exchanges d).sent side)) (injected_to side d) m) [
    | inl sent ↦ copy_in_time a (of_sent (all_delayed side d) ((exchanges d).sent side) a sent)
    | inr injected ↦ by_last (last_leaving side +ℤ longest) a.at (landing_in_time side) (injected_of_each d is side (leaving_to side d) (last_leaving side) (leaving_late side) (each_leaves side d is valid) a injected)
  ]

pub landings_are_replayed : LandingsAreReplayed
landings_are_replayed d side is =
    replayed_by last_landing (landings_for side d) last_is_last
    (λ a m. each_in_time d side is.document is.valid a (subst (λ (landings : List Arrival). IsIn a landings) (lands_alike side d) m))
