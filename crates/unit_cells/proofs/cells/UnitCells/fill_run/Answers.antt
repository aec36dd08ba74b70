use Rattle.std.proofs.Common.{◌≡◌, ◌∙◌, ℕ, ◌+◌, ap, arith, sym, subst, List, []}
use Rattle.bfp_codec.specs.declared.samples.Wide.{Wide}
use Rattle.slot_rings.specs.Runs.{unpacked_run}
use Rattle.slot_rings.proofs.RunLemmas.{run_length}
use Rattle.fh_base.specs.declared.values.Slot.{Slot}
use Rattle.unit_model.specs.Terms.{Side}
use Rattle.window_config.specs.declared.config.Config.{Config}
use Rattle.window_config.specs.declared.verdicts.Class.TheVariants as class
use Rattle.unit_model.specs.Blocks.{data_class, first_data_prb}
use Rattle.unit_cells.specs.Cells.{IsOf}
use Rattle.unit_model.specs.Headings.{data_under}
use Rattle.unit_cells.specs.Steps.{Fills, InRing}
use Rattle.unit_cells.proofs.CallLemmas.{data_class_is, delays_are, heading_of, filled_keeps, filled_reported, side_are}
use Rattle.unit_cells.proofs.FillLemmas.{slot_of}
use Rattle.unit_cells.proofs.RingsLemmas.{endpoints_still}
use Rattle.unit_cells.proofs.cells.UnitCells.fill_run.Goals as goal
use Rattle.unit_cells.proofs.cells.UnitCells.fill_run.Goals.{After-fill_cells}

-- the samples of the run
abbrev samples : After-fill_cells → List (List Wide)
samples c = unpacked_run c.args.method c.args.count c.args.packed.now

filled : (c : After-fill_cells) → InRing c.args.heading.now.ep (Fills (slot_of c.args.heading.now) c.args.heading.now.section.symbol c.prb_at-first.result
    c.args.heading.now.section.id (samples c)) c.args.self.now c.fill_cells.new.self
filled c =
    subst (λ (s : Slot). InRing c.args.heading.now.ep (Fills s c.args.heading.now.section.symbol c.prb_at-first.result c.args.heading.now.section.id (samples c))
    c.args.self.now c.fill_cells.new.self) c.data_slot-slot.ensures.value c.fill_cells.ensures.filled

on_time : (c : After-fill_cells) (side : Side) (k : Config) → IsOf side k c.args.self.now → data_class side k.delays (data_under c.args.heading.now []) ≡ class.OnTime
on_time c side k of =
    data_class_is side k c.self.inside.side c.self.inside.delays class.OnTime c.args.heading.now c.in-OnTime.ensures
    (side_are side k c.self.inside.side c.self.inside.delays c.self.inside.rings.items c.args.self.now c.self.view_is of)
    (delays_are side k c.self.inside.side c.self.inside.delays c.self.inside.rings.items c.args.self.now c.self.view_is of)

pub returns-in-OnTime-clause-keeps : goal.returns-in-OnTime-clause-keeps
returns-in-OnTime-clause-keeps c side k acc ds blocks of long keeps =
    filled_keeps side k c.args.heading.now c.prb_at-first.result (samples c) c.args.self.now c.fill_cells.new.self of c.fill_cells.ensures.held
    (heading_of side k c.args.heading.now c.args.self.now of c.requires.heading)
    (on_time c side k of) (filled c) acc ds blocks
    (c.prb_at-first.ensures.value ∙ ap (λ (n : ℕ). first_data_prb (data_under c.args.heading.now []) + n) (sym long))
    (omega (arith, long, c.requires.within, run_length c.args.method c.args.count c.args.packed.now)) keeps

pub returns-in-OnTime-clause-reports : goal.returns-in-OnTime-clause-reports
returns-in-OnTime-clause-reports c side k of =
    filled_reported side k c.args.heading.now c.prb_at-first.result (samples c) c.args.self.now c.fill_cells.new.self of c.fill_cells.ensures.held
    (heading_of side k c.args.heading.now c.args.self.now of c.requires.heading)
    (on_time c side k of) (filled c)

pub returns-in-OnTime-clause-endpoints : goal.returns-in-OnTime-clause-endpoints
returns-in-OnTime-clause-endpoints c =
    endpoints_still c.args.heading.now.ep (Fills (slot_of c.args.heading.now) c.args.heading.now.section.symbol c.prb_at-first.result c.args.heading.now.section.id (samples c))
    c.args.self.now c.fill_cells.new.self (filled c) (filled c).stepped.touches.endpoint

pub fill_cells-requires-clause-cells : goal.fill_cells-requires-clause-cells
fill_cells-requires-clause-cells c = record {
  endpoint = c.args.heading.now.endpoint;
  at = c.requires.heading.endpoint;
  slot_is = c.data_slot-slot.ensures.slot;
  symbol_is = c.requires.heading.sound.symbol;
  prbs = c.prb_at-first.ensures.rest c.args.count c.requires.within;
}
