use Rattle.std.proofs.Common.{◌≡◌, ◌+◌, ◌<◌, ◌≤◌, ◌-◌, true, false, not, sym, ap, ◌∙◌, arith}
use Rattle.std.specs.Prelude.{is_some}
use Rattle.unit_model.specs.Blocks.{first_data_prb, data_prb_count, block_at}
use Rattle.fh_base.specs.Lists.{every}
use Rattle.plain_units.proofs.BlockLemmas.{cell_has, has_all_begins}
use Rattle.plain_units.proofs.TestLemmas.{every_fails, every_goes, every_ends}
use Rattle.plain_units.proofs.blocks.has_all.Goals as goal

pub loop-prb-init : goal.loop-prb-init
loop-prb-init c =
    let d = c.args.d.now in
    has_all_begins c.args.timely.now d
    ∙ ap (λ k. every k (first_data_prb d + data_prb_count d - k) (cell_has c.args.timely.now d)) (sym c.first_data_prb-first.ensures)

pub returns-then-is_none : goal.returns-then-is_none
returns-then-is_none c =
    let d = c.args.d.now in
    let inside : c.loop-prb.prb < first_data_prb d + data_prb_count d = omega (arith, c.first_data_prb-first.ensures, c.data_prb_count.ensures) in
    let test : cell_has c.args.timely.now d c.loop-prb.prb ≡ false =
    ap (λ cell. is_some (block_at c.args.timely.now cell)) (sym c.data_cell.ensures) ∙ ap is_some (sym c.block_at-block.ensures) ∙ c.is_none.ensures ∙ ap not c.if-is_none.true in
    sym (c.loop-prb.invariant ∙ every_fails c.loop-prb.prb (first_data_prb d + data_prb_count d) (cell_has c.args.timely.now d) inside test)

pub loop-prb-preserved : goal.loop-prb-preserved
loop-prb-preserved c =
    let d = c.args.d.now in
    let inside : c.loop-prb.prb < first_data_prb d + data_prb_count d = omega (arith, c.first_data_prb-first.ensures, c.data_prb_count.ensures) in
    let test : cell_has c.args.timely.now d c.loop-prb.prb ≡ true =
    ap (λ cell. is_some (block_at c.args.timely.now cell)) (sym c.data_cell.ensures) ∙ ap is_some (sym c.block_at-block.ensures) ∙ c.is_none.ensures ∙ ap not c.if-is_none.false in
    c.loop-prb.invariant ∙ every_goes c.loop-prb.prb (first_data_prb d + data_prb_count d) (cell_has c.args.timely.now d) inside test

pub returns : goal.returns
returns c =
    let d = c.args.d.now in
    let past : first_data_prb d + data_prb_count d ≤ c.loop-prb.prb = omega (arith, c.first_data_prb-first.ensures, c.data_prb_count.ensures) in
    sym (c.loop-prb.invariant ∙ every_ends c.loop-prb.prb (first_data_prb d + data_prb_count d) (cell_has c.args.timely.now d) past)
