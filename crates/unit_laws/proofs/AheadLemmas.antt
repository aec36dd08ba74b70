-- Of slots that are not live yet, the radio unit knows nothing.
use Rattle.std.proofs.Common.{◌≡◌, ℕ, ℤ, List, [], ◌∷◌, refl, ap, ◌∙◌}
use Rattle.std.specs.Prelude.{All, None, ◌==◌, if◌then◌else◌}
use Rattle.fh_base.specs.Air.{air_of}
use Rattle.unit_model.specs.Terms.{Side, Ru, is_down}
use Rattle.fh_base.specs.declared.values.Slot.{Slot}
use Rattle.window_config.specs.Limits.{IsWithinLimits}
use Rattle.window_config.specs.Rings.{ru_reach_of}
use Rattle.window_config.specs.declared.config.Config.{Config}
use Rattle.window_config.specs.declared.endpoints.EndpointConfig.{EndpointConfig}
use Rattle.unit_model.specs.Claims.{cell_at}
use Rattle.fh_base.specs.Lists.{in_order}
use Rattle.unit_model.specs.Meetings.{Arrival}
use Rattle.unit_model.specs.Radiated.{Known, air_cell, cell_report, symbol_report}
use Rattle.unit_model.specs.Reports.{accepted_of, commands_of, ru_known}
use Rattle.unit_model.specs.Standing.{AreInTime}
use Rattle.unit_model.specs.Uplink.{symbol_jobs}
use Rattle.unit_model.specs.declared.allocations.Allocation.{Allocation}
use Rattle.unit_laws.specs.Far.{IsReached}
use Rattle.unit_laws.specs.Histories.{NoClaimsAhead, NoUplinkAhead, NoReportsAhead, NoJobsAhead}
use Rattle.unit_laws.proofs.FarLemmas.{accepted_reached, far_unclaimed, far_no_uplink}
use Rattle.unit_laws.proofs.HistoryLemmas.{commands_are_heard}
use Rattle.unit_laws.proofs.LookupLemmas.{jobs_of_their_slot}
use Rattle.unit_model.proofs.ClaimLemmas.{none_used as unused}
use Rattle.fh_base.proofs.EachLemmas.{each_none as each_nothing}

reached : (c : Config) (clock : ℤ) (arrivals : List Arrival) → IsWithinLimits c.delays → AreInTime clock arrivals
    → All (IsReached c.endpoints (ru_reach_of c.delays) clock) (accepted_of c arrivals)
reached c clock arrivals limits h = accepted_reached c.endpoints c.delays clock (commands_of Ru c arrivals) limits (commands_are_heard Ru c clock arrivals h)

pub no_claims_ahead : NoClaimsAhead
no_claims_ahead c clock arrivals e cell re limits h at far =
    far_unclaimed c.endpoints (ru_reach_of c.delays) clock (accepted_of c arrivals) e cell re (reached c clock arrivals limits h) at far

pub no_uplink_ahead : NoUplinkAhead
no_uplink_ahead c clock arrivals e ep slot limits h at far =
    far_no_uplink c.endpoints (ru_reach_of c.delays) clock (accepted_of c arrivals) e ep slot (reached c clock arrivals limits h) at far

-- a symbol of which no element is claimed
pub unclaimed_reports_nothing : (side : Side) (k : Known) (ep : ℕ) (e : EndpointConfig) (slot : Slot) (symbol : ℕ)
    → ((prb re : ℕ) → k.claims (cell_at ep (is_down side) slot symbol prb) re ≡ None) → symbol_report side k ep e slot symbol ≡ []
unfolding symbol_report
unclaimed_reports_nothing side k ep e slot symbol none =
    each_nothing 0 e.prbs (cell_report side k ep e slot symbol) (λ prb.
    let cell = cell_at ep (is_down side) slot symbol prb in
    let a = air_cell side e cell (air_of e.numerology slot symbol) (k.claims cell) (k.blocks cell) in
    ap (λ (m : ℕ). if m == 0 then [] else a ∷ []) (unused (k.claims cell) 12 (none prb)))

pub no_reports_ahead : NoReportsAhead
no_reports_ahead side c clock arrivals e ep slot symbol limits h at far =
    unclaimed_reports_nothing side (ru_known c arrivals) ep e slot symbol (λ prb re.
    no_claims_ahead c clock arrivals e (cell_at ep (is_down side) slot symbol prb) re limits h at far)

pub no_jobs : (ep : ℕ) (e : EndpointConfig) (slot : Slot) (symbol : ℕ) → symbol_jobs [] ep e slot symbol ≡ []
unfolding symbol_jobs in_order
no_jobs ep e slot symbol = refl

pub no_jobs_ahead : NoJobsAhead
no_jobs_ahead c clock arrivals e ep slot symbol limits h at far =
    jobs_of_their_slot (accepted_of c arrivals) ep e slot symbol
    ∙ ap (λ (xs : List Allocation). symbol_jobs xs ep e slot symbol) (no_uplink_ahead c clock arrivals e ep slot limits h at far)
    ∙ no_jobs ep e slot symbol
