-- The lines of a valid plan are at their endpoints.
use Rattle.std.proofs.Common.{◌^◌, ◌<◌, Bool, true, false, List, [], ◌∷◌, map}
use Rattle.std.specs.Prelude.{All, cond, filter}
use Rattle.std.specs.List.{AllByRecursion}
use Rattle.window_config.specs.Configs.{IsConfig}
use Rattle.window_config.specs.Plans.{IsPlanLine}
use Rattle.window_config.specs.declared.config.Config.{Config}
use Rattle.window_config.specs.declared.plan.PlanLine.{PlanLine}
use Rattle.unit_model.specs.declared.allocations.Allocation.{Allocation}
use Rattle.plan_model.specs.Lines.{is_up_line, line_allocation, planned, uplink_allocations}
use Rattle.plan_model.specs.Valid.{IsValid}
use Rattle.plan_model.specs.declared.lines.PlannedLine.{PlannedLine}
use Rattle.schedule_laws.proofs.FoundLemmas.{found}
use Rattle.plan_model.proofs.LineLemmas.{line_good}
use Rattle.drawn_laws.specs.Events.{IsPlacedLine}
use Rattle.fh_base.proofs.MemberLemmas.{all_from as each_in}

pub lines_placed : (c : Config) (plan : List PlanLine) → IsConfig c → All IsPlanLine plan → IsValid c plan → AllByRecursion (IsPlacedLine c.endpoints) (planned c.endpoints plan)
lines_placed c plan config fit valid =
    each_in (IsPlacedLine c.endpoints) (planned c.endpoints plan) (λ p there.
    (let good = line_good c plan config fit valid p there in
    record {
      named = found c.endpoints p.ep p.endpoint config.endpoints.differ good.at;
      fits = good.fits;
      slot = good.slot;
      within = good.within;
      prbs = good.prbs;
    }))

abbrev IsShortSection : Allocation → Type 0
IsShortSection a = a.section < 2 ^ 12

up_by : (b : Bool) (p : PlannedLine) (rest : List PlannedLine) → p.line.section < 2 ^ 12 → AllByRecursion IsShortSection (map line_allocation rest)
    → AllByRecursion IsShortSection (map line_allocation (cond b (p ∷ rest) rest))
up_by true p rest h k = (h, k)
up_by false p rest h k = k

up_short : (c : Config) (ps : List PlannedLine) → AllByRecursion (IsPlacedLine c.endpoints) ps → AllByRecursion IsShortSection (map line_allocation (filter is_up_line ps))
up_short c [] h = tt
up_short c (p ∷ ps) h = up_by (is_up_line p) p (filter is_up_line ps) h.0.fits.section (up_short c ps h.1)

-- the section ids of what its `ul` lines name
pub uplink_short : (c : Config) (ps : List PlannedLine) → AllByRecursion (IsPlacedLine c.endpoints) ps → AllByRecursion (λ (a : Allocation). a.section < 2 ^ 12) (uplink_allocations ps)
uplink_short c ps h = up_short c ps h
