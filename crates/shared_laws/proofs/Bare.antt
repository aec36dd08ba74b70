-- The places of what is reported.
use Rattle.std.proofs.Common.{◌≡◌, ℕ, ℤ, pos, ◌+ℤ◌, ◌-ℤ◌, Bool, true, false, ◌==◌, if◌then◌else◌, List, [], ◌∷◌, ◌++◌, map, Option, refl, ap, ap₂, sym, ◌∙◌}
use Rattle.std.proofs.lemmas.List.{map-append}
use Rattle.fh_base.specs.Air.{air_of}
use Rattle.air_source.specs.Units.{is_down}
use Rattle.air_source.specs.declared.events.AirCell.{AirCell}
use Rattle.air_source.specs.declared.events.Side.{Side}
use Rattle.window_config.specs.declared.endpoints.EndpointConfig.{EndpointConfig}
use Rattle.unit_model.specs.Claims.{cell_at}
use Rattle.unit_model.specs.Radiated.{Known, air_cell, cell_report, first_clock, report_of, reported, symbol_report, used_mask, wait_of}
use Rattle.unit_model.specs.declared.cells.Block.{Block}
use Rattle.unit_model.specs.declared.cells.Cell.{Cell}
use Rattle.unit_model.specs.declared.cells.Claim.{Claim}
use Rattle.unit_model.proofs.SweepLemmas.{IsKept, each_related, sweep_related}
use Rattle.shared_laws.specs.Bare.{PlacesAreOfClaims, bare}

abbrev Alike : List AirCell → List AirCell → Type 0
Alike xs ys = map bare xs ≡ map bare ys

alike_kept : IsKept Alike
alike_kept = record { none = refl; more = λ xs xs' ys ys' p q. map-append bare xs xs' ∙ ap₂ (λ (a b : List AirCell). a ++ b) p q ∙ sym (map-append bare ys ys') }

-- one cell or none, by a test
one_or_none : (t : Bool) (c d : AirCell) → bare c ≡ bare d → Alike (if t then [] else c ∷ []) (if t then [] else d ∷ [])
one_or_none true c d h = refl
one_or_none false c d h = ap (λ (x : AirCell). x ∷ []) h

of_cell : (side : Side) (e : EndpointConfig) (cell : Cell) (start : ℤ) (claims : ℕ → Option Claim) (b o : Option Block) → Alike (report_of side e cell start claims b) (report_of side e cell start claims o)
of_cell side e cell start claims b o = one_or_none (used_mask claims == 0) (air_cell side e cell start claims b) (air_cell side e cell start claims o) refl

pub of_claims : PlacesAreOfClaims
unfolding reported symbol_report
of_claims side d es claims blocks others to =
    let k : Known = record { claims = claims; blocks = blocks } in
    let l : Known = record { claims = claims; blocks = others } in
    sweep_related Alike alike_kept (symbol_report side k) (symbol_report side l) es (first_clock -ℤ wait_of side d) ((to -ℤ wait_of side d) +ℤ pos 1) (λ ep e slot symbol s low high swept.
    each_related Alike alike_kept 0 e.prbs (cell_report side k ep e slot symbol) (cell_report side l ep e slot symbol) (λ prb a b.
    of_cell side e (cell_at ep (is_down side) slot symbol prb) (air_of e.numerology slot symbol) (claims (cell_at ep (is_down side) slot symbol prb))
    (blocks (cell_at ep (is_down side) slot symbol prb)) (others (cell_at ep (is_down side) slot symbol prb))))
