use Rattle.std.proofs.Common.{◌≡◌, ◌∙◌, sym, ap, subst}
use Rattle.unit_model.specs.Terms.{Ru}
use Rattle.window_config.specs.declared.config.Config.{Config}
use Rattle.window_config.specs.declared.delays.Delays.{Delays}
use Rattle.window_config.specs.declared.verdicts.Class.{Class}
use Rattle.window_config.specs.declared.verdicts.Class.TheVariants as class
use Rattle.unit_model.specs.Commands.{allocation_of, command_class}
use Rattle.unit_model.specs.declared.allocations.Allocation.{Allocation}
use Rattle.unit_model.specs.declared.decoded.ControlSection.{ControlSection}
use Rattle.unit_cells.specs.Cells.{IsOf}
use Rattle.unit_cells.specs.Steps.{InRing, Takes}
use Rattle.unit_cells.proofs.CallLemmas.{classed, command_judged, command_keeps, command_reports, delays_are, mismatched}
use Rattle.unit_cells.proofs.RingsLemmas.{endpoints_still}
use Rattle.unit_cells.proofs.cells.UnitCells.command.Goals as goal
use Rattle.unit_cells.proofs.cells.UnitCells.command.Goals.{After-take}

-- the class is that by the configuration's delays
class_is : (c : Config) (d : Delays) (k : Class) (x : ControlSection) → k ≡ command_class d x → d ≡ c.delays → command_class c.delays x ≡ k
class_is c d k x is same = sym (is ∙ ap (λ (e : Delays). command_class e x) same)

taken_is : (c : After-take) → InRing c.args.command.now.ep (Takes (allocation_of c.args.command.now) c.take.result) c.args.self.now c.take.new.self
taken_is c = subst (λ (a : Allocation). InRing a.ep (Takes a c.take.result) c.args.self.now c.take.new.self) c.allocation_of.ensures.value c.take.ensures.taken

pub returns-then-not-is_for-clause-verdict : goal.returns-then-not-is_for-clause-verdict
returns-then-not-is_for-clause-verdict c k acc ds of keeps = mismatched k.delays acc c.args.command.now (sym c.if-not-is_for.ensures)

pub returns-in-Late-clause-verdict : goal.returns-in-Late-clause-verdict
returns-in-Late-clause-verdict c k acc ds of keeps =
    classed k.delays acc c.args.command.now class.Late (sym c.if-not-is_for.ensures)
    (class_is k c.self.inside.delays class.Late c.args.command.now c.in-Late.ensures (delays_are Ru k c.self.inside.side c.self.inside.delays c.self.inside.rings.items c.args.self.now c.self.view_is of))

pub returns-in-Early-clause-verdict : goal.returns-in-Early-clause-verdict
returns-in-Early-clause-verdict c k acc ds of keeps =
    classed k.delays acc c.args.command.now class.Early (sym c.if-not-is_for.ensures)
    (class_is k c.self.inside.delays class.Early c.args.command.now c.in-Early.ensures (delays_are Ru k c.self.inside.side c.self.inside.delays c.self.inside.rings.items c.args.self.now c.self.view_is of))

on_time : (c : After-take) (k : Config) → IsOf Ru k c.args.self.now → command_class k.delays c.args.command.now ≡ class.OnTime
on_time c k of =
    class_is k c.self.inside.delays class.OnTime c.args.command.now c.in-OnTime.ensures (delays_are Ru k c.self.inside.side c.self.inside.delays c.self.inside.rings.items c.args.self.now c.self.view_is of)

pub returns-in-OnTime-clause-verdict : goal.returns-in-OnTime-clause-verdict
returns-in-OnTime-clause-verdict c k acc ds of keeps =
    command_judged k c.args.command.now c.take.result c.args.self.now c.take.new.self of c.take.ensures.held c.requires (on_time c k of) (taken_is c) acc ds keeps
    (sym c.if-not-is_for.ensures)

pub returns-in-OnTime-clause-keeps : goal.returns-in-OnTime-clause-keeps
returns-in-OnTime-clause-keeps c k acc ds of keeps =
    command_keeps k c.args.command.now c.take.result c.args.self.now c.take.new.self of c.take.ensures.held c.requires (on_time c k of) (taken_is c) acc ds keeps

pub returns-in-OnTime-clause-reports : goal.returns-in-OnTime-clause-reports
returns-in-OnTime-clause-reports c k of =
    command_reports k c.args.command.now c.take.result c.args.self.now c.take.new.self of c.take.ensures.held c.requires (on_time c k of) (taken_is c)

pub returns-in-OnTime-clause-endpoints : goal.returns-in-OnTime-clause-endpoints
returns-in-OnTime-clause-endpoints c =
    endpoints_still c.allocation_of.result.ep (Takes c.allocation_of.result c.take.result) c.args.self.now c.take.new.self c.take.ensures.taken
    c.take.ensures.taken.stepped.claims.touches.endpoint
