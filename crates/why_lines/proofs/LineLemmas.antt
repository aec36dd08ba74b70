-- Each line of a valid plan fits its endpoint.
use Rattle.std.proofs.Common.{◌≡◌, ℕ, ◌+◌, ◌<◌, ◌≤◌, ◌^◌, ◌==◌, not, ◌&&◌, nat_lt, Bool, true, false, List, arith}
use Rattle.std.specs.Prelude.{All, if◌then◌else◌}
use Rattle.std.specs.List.{AllByRecursion}
use Rattle.std.proofs.lemmas.Bool.{ltb-false}
use Rattle.fh_base.specs.Carrier.{count_of, first_of, is_outside}
use Rattle.fh_base.specs.declared.carrier.TheConstants.{CARRIER_PRBS}
use Rattle.window_config.specs.Configs.{IsConfig}
use Rattle.window_config.specs.Plans.{IsPlanLine}
use Rattle.window_config.specs.declared.config.Config.{Config}
use Rattle.window_config.specs.declared.endpoints.EndpointConfig.{EndpointConfig}
use Rattle.window_config.specs.declared.plan.PlanLine.{PlanLine}
use Rattle.plan_model.specs.Lines.{planned}
use Rattle.plan_model.specs.Valid.{IsValid}
use Rattle.plan_model.specs.declared.lines.PlannedLine.{PlannedLine}
use Rattle.plan_model.proofs.LineLemmas.{IsGoodLine, line_good}
use Rattle.why_lines.specs.Silent.{IsSilentLine}
use Rattle.fh_base.proofs.MemberLemmas.{all_from as each_in}

-- the PRBs of a line are those of its carrier
within : (prbs start num : ℕ) → prbs ≤ CARRIER_PRBS → is_outside prbs start num ≡ false → first_of start num + count_of prbs num < 2 ^ 16
within prbs start num most inside = one (num == 0) inside
  where
    one : (b : Bool) → (not b && nat_lt prbs (start + num)) ≡ false → (if b then 0 else start) + (if b then prbs else num) < 2 ^ 16
    one true h = omega (arith, most)
    one false h = let l = ltb-false prbs (start + num) h in omega (arith, most, l)

fits : (es : List EndpointConfig) (p : PlannedLine) → IsGoodLine es p → IsSilentLine p
fits es p g = record {
  frame_low = g.fits.frame_low;
  frame_high = g.fits.frame_high;
  subframe = g.fits.subframe;
  slot = g.slot;
  symbols = g.within;
  prbs = within p.endpoint.prbs p.line.start_prb p.line.num_prb g.endpoint.most g.prbs;
}

pub lines_fit : (c : Config) (plan : List PlanLine) → IsConfig c → All IsPlanLine plan → IsValid c plan → AllByRecursion IsSilentLine (planned c.endpoints plan)
lines_fit c plan config fit valid =
    each_in IsSilentLine (planned c.endpoints plan) (λ p there. fits c.endpoints p (line_good c plan config fit valid p there))
