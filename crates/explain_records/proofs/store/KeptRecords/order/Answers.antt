-- List by list.
use Rattle.std.proofs.Common.{◌≡◌, ap, rules, ◌∙◌}
use Rattle.explain_model.specs.SilentReasons.{of_symbol}
use Rattle.explain_records.proofs.OrderLemmas.{kept_with, same_kept}
use Rattle.explain_records.proofs.store.KeptRecords.order.Goals as goal

pub returns : goal.returns
returns c = λ key.
    let was : kept_with c.self.inside.given c.self.inside.commanded c.self.inside.headers c.self.inside.repeated c.self.inside.begun ≡ c.args.self = search rules in
    same_kept c.in_ok-order.field-0 c.self.inside.given c.in_ok-order-2.field-0 c.self.inside.commanded c.in_ok-order-3.field-0 c.self.inside.headers
    c.in_ok-order-4.field-0 c.self.inside.repeated c.in_ok-order-5.field-0 c.self.inside.begun
    c.in_ok-order.ensures c.in_ok-order-2.ensures c.in_ok-order-3.ensures c.in_ok-order-4.ensures c.in_ok-order-5.ensures key
    ∙ ap (of_symbol key) was
