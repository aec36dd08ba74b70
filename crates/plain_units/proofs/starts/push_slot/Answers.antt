use Rattle.std.proofs.Common.{◌≡◌, ◌++◌, ap, ◌∙◌, arith}
use Rattle.fh_base.specs.Numbering.{symbols_of}
use Rattle.fh_base.specs.declared.values.Shape.{Shape}
use Rattle.fh_base.specs.Lists.{each}
use Rattle.plain_units.specs.ClaimedStarts.{claimed_start}
use Rattle.unit_model.specs.Sweeps.{of_symbol, of_slot}
use Rattle.plain_units.proofs.starts.push_slot.Goals as goal
use Rattle.fh_base.proofs.EachLemmas.{none_yet, one_more}

pub loop-symbol-init : goal.loop-symbol-init
loop-symbol-init c = none_yet c.args.found.now.items _

pub loop-symbol-preserved : goal.loop-symbol-preserved
loop-symbol-preserved c =
    one_more c.args.found.now.items c.loop-symbol.found.items c.push_symbol.new.found.items c.loop-symbol.symbol
    (of_symbol (claimed_start c.args.sought.now.accepted.now c.args.sought.now.down c.args.sought.now.ep c.args.sought.now.endpoint.now) c.args.sought.now.endpoint.now c.args.sought.now.start.0 c.args.slot)
    c.in_ok-push_symbol.ensures c.loop-symbol.invariant

pub returns : goal.returns
unfolding of_slot
returns c =
    let e = c.args.sought.now.endpoint.now in
    let all : c.loop-symbol.symbol ≡ symbols_of e.numerology = omega (arith, ap (λ (x : Shape). x.symbols) c.shape-shape.ensures) in
    c.loop-symbol.invariant ∙ ap (λ n. c.args.found.now.items ++ each 0 n (of_symbol (claimed_start c.args.sought.now.accepted.now c.args.sought.now.down c.args.sought.now.ep e) e c.args.sought.now.start.0 c.args.slot)) all
