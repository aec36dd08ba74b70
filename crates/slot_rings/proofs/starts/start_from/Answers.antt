use Rattle.std.proofs.Common.{ℤ, ◌≡◌, ◌∙◌, ◌≤ℤ◌, sym, subst, ap}
use Rattle.fh_base.specs.Air.{air_of}
use Rattle.fh_base.specs.declared.values.Slot.{Slot}
use Rattle.fh_base.proofs.Options.{some_is}
use Rattle.fh_base.proofs.Order.{symbols_in_order}
use Rattle.slot_rings.proofs.starts.start_from.Goals as goal

pub returns-then-symbol-shape : goal.returns-then-symbol-shape
returns-then-symbol-shape c s k is below from =
    let same : c.in-Some.slot ≡ s = some_is c.in-Some.slot s (sym c.in-Some.is ∙ is) in
    let later = symbols_in_order c.args.n.now s c.args.symbol k from in
    let at = c.air.ensures.value ∙ ap (λ (x : Slot). air_of c.args.n.now x c.args.symbol) same in
    subst (λ (x : ℤ). x ≤ℤ air_of c.args.n.now s k) (sym at) later
