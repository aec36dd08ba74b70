use Rattle.std.proofs.Common.{◌∙◌, Bool, sym, ap, if◌then◌else◌}
use Rattle.window_config.specs.declared.verdicts.Class.TheVariants as class
use Rattle.unit_model.specs.declared.verdicts.DataVerdict.TheVariants.{Repeat, Taken}
use Rattle.unit_cells.proofs.CallLemmas.{begun, begun_judged, data_class_is, data_classed, delays_are, heading_of, held_is, side_are}
use Rattle.unit_cells.proofs.cells.UnitCells.begin.Goals as goal

pub returns-in-Late-clause-verdict : goal.returns-in-Late-clause-verdict
returns-in-Late-clause-verdict c side k acc ds blocks of keeps told =
    data_classed side k.delays ds c.args.heading.now blocks class.Late (data_class_is side k c.self.inside.side c.self.inside.delays class.Late c.args.heading.now c.in-Late.ensures (side_are side k c.self.inside.side c.self.inside.delays c.self.inside.rings.items c.args.self.now c.self.view_is of)
    (delays_are side k c.self.inside.side c.self.inside.delays c.self.inside.rings.items c.args.self.now c.self.view_is of))

pub returns-in-Early-clause-verdict : goal.returns-in-Early-clause-verdict
returns-in-Early-clause-verdict c side k acc ds blocks of keeps told =
    data_classed side k.delays ds c.args.heading.now blocks class.Early (data_class_is side k c.self.inside.side c.self.inside.delays class.Early c.args.heading.now c.in-Early.ensures (side_are side k c.self.inside.side c.self.inside.delays c.self.inside.rings.items c.args.self.now c.self.view_is of)
    (delays_are side k c.self.inside.side c.self.inside.delays c.self.inside.rings.items c.args.self.now c.self.view_is of))

pub returns-then-is_whole-clause-verdict : goal.returns-then-is_whole-clause-verdict
returns-then-is_whole-clause-verdict c side k acc ds blocks of keeps told =
    let u = c.self.inside.side in
    let d = c.self.inside.delays in
    let rs = c.self.inside.rings.items in
    sym (ap (λ (b : Bool). if b then Repeat else Taken) c.if-is_whole.true)
    ∙ begun_judged side k c.args.heading.now c.args.self.now of (held_is u d rs c.args.self.now c.self.view_is c.self.invariant) (heading_of side k c.args.heading.now c.args.self.now of c.requires) acc ds blocks c.is_whole.result keeps told
    (data_class_is side k u d class.OnTime c.args.heading.now c.in-OnTime.ensures (side_are side k u d rs c.args.self.now c.self.view_is of) (delays_are side k u d rs c.args.self.now c.self.view_is of)) c.is_whole.ensures

pub returns-else-is_whole-clause-verdict : goal.returns-else-is_whole-clause-verdict
returns-else-is_whole-clause-verdict c side k acc ds blocks of keeps told =
    let u = c.self.inside.side in
    let d = c.self.inside.delays in
    let rs = c.self.inside.rings.items in
    sym (ap (λ (b : Bool). if b then Repeat else Taken) c.if-is_whole.false)
    ∙ begun_judged side k c.args.heading.now c.args.self.now of (held_is u d rs c.args.self.now c.self.view_is c.self.invariant) (heading_of side k c.args.heading.now c.args.self.now of c.requires) acc ds blocks c.is_whole.result keeps told
    (data_class_is side k u d class.OnTime c.args.heading.now c.in-OnTime.ensures (side_are side k u d rs c.args.self.now c.self.view_is of) (delays_are side k u d rs c.args.self.now c.self.view_is of)) c.is_whole.ensures

pub returns-then-is_whole-clause-keeps : goal.returns-then-is_whole-clause-keeps
returns-then-is_whole-clause-keeps c side k acc ds of keeps =
    begun side k c.args.heading.now c.args.self.now of (held_is c.self.inside.side c.self.inside.delays c.self.inside.rings.items c.args.self.now c.self.view_is c.self.invariant) (heading_of side k c.args.heading.now c.args.self.now of c.requires) acc ds keeps

pub returns-else-is_whole-clause-keeps : goal.returns-else-is_whole-clause-keeps
returns-else-is_whole-clause-keeps c side k acc ds of keeps =
    begun side k c.args.heading.now c.args.self.now of (held_is c.self.inside.side c.self.inside.delays c.self.inside.rings.items c.args.self.now c.self.view_is c.self.invariant) (heading_of side k c.args.heading.now c.args.self.now of c.requires) acc ds keeps
