use Rattle.std.proofs.Common.{◌+◌, length}
use Rattle.du_intake.specs.Symbols.{symbol_if}
use Rattle.du_intake.proofs.symbols.put_slot.Goals as goal
use Rattle.fh_base.proofs.EachLemmas.{none_yet, one_more}

pub loop-symbol-init : goal.loop-symbol-init
loop-symbol-init c = none_yet c.args.symbols.now.items (symbol_if c.args.endpoint.now c.args.slot c.args.own.now c.args.first (c.args.first + length c.args.own.now))

pub loop-symbol-preserved : goal.loop-symbol-preserved
loop-symbol-preserved c =
    one_more c.args.symbols.now.items c.loop-symbol.symbols.items c.put_symbol.new.symbols.items c.loop-symbol.symbol
    (symbol_if c.args.endpoint.now c.args.slot c.args.own.now c.args.first (c.args.first + length c.args.own.now)) c.in_ok-put_symbol.ensures c.loop-symbol.invariant
