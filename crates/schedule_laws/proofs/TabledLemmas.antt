-- The lines of a plan that can be sent.
use Rattle.std.proofs.Common.{ℕ, suc, ◌+◌, ◌*◌, ◌<◌, ◌≤◌, ◌^◌, List, [], ◌∷◌, ◌++◌, length, Option, Some, None, sym, subst, arith}
use Rattle.std.specs.List.{AllByRecursion}
use Rattle.std.specs.Option.{option_to_list}
use Rattle.window_config.specs.Configs.{IsConfig}
use Rattle.window_config.specs.declared.config.Config.{Config}
use Rattle.window_config.specs.declared.endpoints.EndpointConfig.{EndpointConfig}
use Rattle.window_config.specs.declared.plan.PlanLine.{PlanLine}
use Rattle.unit_model.specs.Meetings.{find_endpoint}
use Rattle.unit_model.specs.Proper.{IsAt}
use Rattle.unit_laws.proofs.FarLemmas.{endpoints_equal}
use Rattle.plan_model.specs.Lines.{planned, planned_from, planned_with}
use Rattle.plan_model.specs.declared.lines.PlannedLine.{PlannedLine}
use Rattle.schedule_laws.specs.PlacedLines.{HasEndpoint, ArePlaced}
use Rattle.plan_model.proofs.LineLemmas.{IsGoodLine, good}
use Rattle.plan_model.proofs.PlanLemmas.{in_range, valid_tested}
use Rattle.schedule_laws.specs.TabledPlans.{IsTabledPlan}
use Rattle.window_config.specs.declared.plan.TheConstants.{PLAN_LINES}
use Rattle.fh_base.specs.Members.{IsIn}

module _ (c : Config) (ps : List PlannedLine) (config : IsConfig c) (plan : IsTabledPlan c ps) where
  there : (p : PlannedLine) → IsIn p ps → IsIn p (planned c.endpoints plan.lines)
  there p m = subst (λ (xs : List PlannedLine). IsIn p xs) plan.is m

  good_line : (p : PlannedLine) → IsIn p ps → IsGoodLine c.endpoints p
  good_line p m = good c plan.lines config plan.fit plan.valid p (there p m)

  pub placed : ArePlaced ps
  placed = record {
    endpoint = λ p m. (good_line p m).endpoint;
    same = λ p q m n e. endpoints_equal c.endpoints p.ep q.ep p.endpoint q.endpoint (good_line p m).at (good_line q n).at e;
    ranges = λ p m. (good_line p m).fits;
    inside = λ p m. in_range [] (planned c.endpoints plan.lines) p (valid_tested c plan.lines plan.valid) (there p m);
  }

  pub has_endpoint : (ep : ℕ) (e : EndpointConfig) → IsAt c.endpoints ep e → HasEndpoint ps ep e
  has_endpoint ep e at = λ p m is. endpoints_equal c.endpoints p.ep ep p.endpoint e (good_line p m).at at is

-- ---- their places, and how many there are

pub record IsShort (most : ℕ) (n : ℕ) (ps : List PlannedLine) : Type 0 where
  pub below : AllByRecursion (λ p. p.index < most) ps
  pub few : length ps ≤ n

short_from : (es : List EndpointConfig) (k : ℕ) (lines : List PlanLine) (most : ℕ) → k + length lines ≤ most → IsShort most (length lines) (planned_from es k lines)
unfolding planned_from
short_from es k [] most h = record { below = tt; few = omega arith }
short_from es k (line ∷ lines) most h = go (find_endpoint es line.id) (short_from es (k + 1) lines most (omega (arith, h)))
  where
    go : (o : Option (ℕ × EndpointConfig)) → IsShort most (length lines) (planned_from es (k + 1) lines)
        → IsShort most (suc (length lines)) (option_to_list (planned_with k line o) ++ planned_from es (k + 1) lines)
    go None r = record { below = r.below; few = (let f = r.few in omega (arith, f)) }
    go (Some found) r = record { below = (omega (arith, h), r.below); few = (let f = r.few in omega (arith, f)) }

pub short : (c : Config) (ps : List PlannedLine) → IsTabledPlan c ps → IsShort (2 ^ 32) PLAN_LINES ps
short c ps plan =
    let few = plan.few in
    let s = short_from c.endpoints 0 plan.lines (2 ^ 32) (omega (arith, few)) in
    let f = s.few in
    subst (IsShort (2 ^ 32) PLAN_LINES) (sym plan.is) (record { below = s.below; few = omega (arith, f, few) })

pub few_of : (n lines : ℕ) → n ≤ 15 * lines → lines ≤ PLAN_LINES → n ≤ 2 ^ 24
few_of n lines h few = omega (arith, h, few)
