use Rattle.std.proofs.Common.{◌<◌, arith, length-set, ◌∙◌}
use Rattle.slot_rings.proofs.RowLemmas.{note_grown, note_others}
use Rattle.slot_rings.proofs.rows.note.Goals as goal
use Rattle.fh_base.specs.declared.symbols.TheConstants.{SLOT_SYMBOLS}

pub loop-symbol-preserved : goal.loop-symbol-preserved
loop-symbol-preserved c =
    let below : c.loop-symbol.symbol < SLOT_SYMBOLS = omega (arith, c.loop-symbol-test.true, c.requires) in
    record {
      len = length-set c.loop-symbol.rows c.loop-symbol.symbol c.with.result ∙ c.loop-symbol.invariant.len;
      grown = note_grown c.run_of-more.result c.args.rows.now c.loop-symbol.rows c.args.a.now.symbol c.loop-symbol.symbol _ c.with.result c.loop-symbol.invariant.len c.loop-symbol.auto.symbol below
          c.loop-symbol.invariant.grown c.loop-symbol.invariant.others c.with.ensures;
      others = note_others c.args.rows.now c.loop-symbol.rows c.args.a.now.symbol c.loop-symbol.symbol c.with.result c.loop-symbol.auto.symbol c.loop-symbol.invariant.others;
    }
