-- Where nothing is planned, and nothing lands and is measured at the distributed unit, nothing is told of it.
use Rattle.std.proofs.Common.{◌≡◌, ℕ, ℤ, pos, zero, suc, ◌+ℤ◌, ◌-ℤ◌, List, [], ◌∷◌, ◌++◌, refl, sym, ap, ap₂, ◌∙◌, subst}
use Rattle.std.specs.Prelude.{Bool, true, false, None, Option, filter, ◌==◌, if◌then◌else◌}
use Rattle.std.specs.Int.{int_gap}
use Rattle.std.specs.List.{flat_map}
use Rattle.std.proofs.lemmas.List.Elements.{All-nil}
use Rattle.air_source.specs.declared.events.AirCell.{AirCell}
use Rattle.air_source.specs.declared.events.Event.{Event}
use Rattle.air_source.specs.declared.events.Event.TheVariants as event
use Rattle.air_source.specs.declared.events.Side.TheVariants.{Du}
use Rattle.fault_counters.specs.Counts.{capped, times}
use Rattle.fault_counters.specs.Names.{all_counters}
use Rattle.fault_counters.specs.declared.kinds.Counter.{Counter}
use Rattle.window_config.specs.declared.config.Config.{Config}
use Rattle.window_config.specs.declared.endpoints.EndpointConfig.{EndpointConfig}
use Rattle.fh_base.specs.declared.values.Slot.{Slot}
use Rattle.unit_model.specs.Claims.{claim_at}
use Rattle.unit_model.specs.Counts.{cells_counted}
use Rattle.fh_base.specs.Lists.{onto}
use Rattle.unit_model.specs.Meetings.{Arrival}
use Rattle.unit_model.specs.Radiated.{first_clock, reported, symbol_report, wait_of}
use Rattle.unit_model.specs.Reports.{arrivals_counted, du_known}
use Rattle.unit_model.specs.Standing.{due, still_reported}
use Rattle.unit_model.specs.Sweeps.{at_tick}
use Rattle.unit_model.specs.declared.allocations.Allocation.{Allocation}
use Rattle.unit_model.specs.declared.cells.Cell.{Cell}
use Rattle.unit_model.specs.declared.cells.Claim.{Claim}
use Rattle.unit_model.proofs.CountLemmas.{nothing_counted}
use Rattle.unit_laws.proofs.AheadLemmas.{unclaimed_reports_nothing}
use Rattle.unit_laws.proofs.DueLemmas.{unheard}
use Rattle.unit_model.proofs.SweepLemmas.{tick-nothing}
use Rattle.replay_laws.specs.Alone.{IdleWithoutPlan}
use Rattle.replay_laws.specs.Events.{all_counted, count_event, count_events, is_measured, number_of, start_of}
use Rattle.unit_model.specs.Events.{arrivals_told}
use Rattle.replay_laws.specs.Moments.{all_arrivals, arrivals_in, end_of_time, landing_at}
use Rattle.replay_laws.specs.Passing.{AreLandings}
use Rattle.replay_laws.specs.Traffic.{Traffic}
use Rattle.unit_model.proofs.ToldLemmas.{none_told}
use Rattle.unit_model.proofs.SweepLaws.{sweep_quiet as sweep-nothing}
pub use Rattle.unit_model.proofs.ToldLemmas.{told_each}

-- ---- of nothing

none_landed : (n : ℕ) → arrivals_in [] n ≡ []
unfolding arrivals_in onto
none_landed zero = refl
none_landed (suc n) = ap (λ (xs : List Arrival). onto xs []) (none_landed n)

none_arrive : all_arrivals [] ≡ []
none_arrive = none_landed (int_gap first_clock (end_of_time +ℤ pos 1))

no_claims : (cell : Cell) (re : ℕ) → claim_at [] cell re ≡ (let none : Option Claim = None in none)
unfolding claim_at
no_claims cell re = refl

no_report : (c : Config) (arrivals : List Arrival) (ep : ℕ) (e : EndpointConfig) (slot : Slot) (symbol : ℕ) → symbol_report Du (du_known c [] arrivals) ep e slot symbol ≡ []
no_report c arrivals ep e slot symbol = unclaimed_reports_nothing Du (du_known c [] arrivals) ep e slot symbol (λ prb re. no_claims _ re)

no_cells_at : (c : Config) (arrivals : List Arrival) (tick : ℤ) → at_tick (symbol_report Du (du_known c [] arrivals)) c.endpoints tick ≡ []
no_cells_at c arrivals tick =
    tick-nothing (symbol_report Du (du_known c [] arrivals)) c.endpoints tick (λ ep e slot symbol swept. no_report c arrivals ep e slot symbol)

none_reported : (c : Config) (arrivals : List Arrival) (to : ℤ) → reported Du c.delays c.endpoints (du_known c [] arrivals) to ≡ []
unfolding reported
none_reported c arrivals to =
    sweep-nothing (symbol_report Du (du_known c [] arrivals)) c.endpoints (first_clock -ℤ wait_of Du c.delays) ((to -ℤ wait_of Du c.delays) +ℤ pos 1)
    (λ tick low high. no_cells_at c arrivals tick)

-- ---- the parts

none_of_each : (n : Counter → ℕ) (ks : List Counter) → ((k : Counter) → n k ≡ 0) → flat_map (λ k. count_event Du (n k) k) ks ≡ []
none_of_each n [] none = refl
none_of_each n (k ∷ ks) none =
    ap₂ ◌++◌ (ap (λ (m : ℕ). let es : List Event = if m == 0 then [] else event.Count Du k m ∷ [] in es) (none k)) (none_of_each n ks none)

none_counted : (c : Config) (x : Traffic) → x.planned ≡ [] → x.at_du ≡ [] → all_counted Du c x ≡ []
none_counted c x none idle =
    ap₂ (λ (planned : List Allocation) (landings : List Arrival).
    arrivals_counted Du c (all_arrivals landings) ++ cells_counted (reported Du c.delays c.endpoints (du_known c planned (all_arrivals landings)) end_of_time))
    none idle
    ∙ ap₂ (λ (counted : List Counter) (cells : List AirCell). counted ++ cells_counted cells)
    (ap (arrivals_counted Du c) none_arrive ∙ nothing_counted Du c) (none_reported c (all_arrivals []) end_of_time)

-- whoever counts it
neither : (b : Bool) (xs ys : List Counter) → xs ≡ [] → ys ≡ [] → (if b then xs else ys) ≡ []
neither true xs ys e f = e
neither false xs ys e f = f

no_number : (c : Config) (x : Traffic) (k : Counter) → x.planned ≡ [] → x.at_du ≡ [] → x.counted Du ≡ [] → number_of Du c x k ≡ 0
unfolding number_of
no_number c x k none idle measured =
    ap (λ (counted : List Counter). capped (times counted k))
    (neither (is_measured k) (x.counted Du) (all_counted Du c x) measured (none_counted c x none idle))

none_due : (c : Config) (arrivals : List Arrival) (heard : List AirCell) (to : ℤ) → due Du c.delays c.endpoints (du_known c [] arrivals) heard to ≡ []
unfolding due still_reported
none_due c arrivals heard to =
    let g = still_reported Du (du_known c [] arrivals) heard in
    sweep-nothing g c.endpoints (first_clock -ℤ wait_of Du c.delays) ((to -ℤ wait_of Du c.delays) +ℤ pos 1) (λ tick low high.
    tick-nothing g c.endpoints tick (λ ep e slot symbol swept. ap (filter (unheard heard)) (no_report c arrivals ep e slot symbol)))

none_land : AreLandings []
none_land = record { times = All-nil _; begun = All-nil _; ended = All-nil _ }

pub idle_without_plan : IdleWithoutPlan
unfolding count_events
idle_without_plan c x none idle measured = record {
  landings_are = subst AreLandings (sym idle) none_land;
  calm = λ tick. ap (λ (xs : List Arrival). landing_at xs tick) idle;
  quiet = λ arrivals heard to.
      ap (λ (planned : List Allocation). due Du c.delays c.endpoints (du_known c planned arrivals) heard to) none ∙ none_due c arrivals heard to;
  arrivals = λ tick. ap (λ (xs : List Arrival). arrivals_told Du (x.results Du tick) (landing_at xs tick)) idle ∙ none_told Du (x.results Du tick);
  cells = λ tick.
      ap (λ (planned : List Allocation). at_tick (symbol_report Du (du_known c planned (all_arrivals x.at_du))) c.endpoints (start_of Du c.delays tick)) none
      ∙ no_cells_at c (all_arrivals x.at_du) (start_of Du c.delays tick);
  counts = none_of_each (number_of Du c x) all_counters (λ k. no_number c x k none idle measured);
}
