use Rattle.std.proofs.Common.{◌++◌, sym, ap, ◌∙◌, append-nil}
use Rattle.plain_units.proofs.StartLaws.{unnamed_frame}
use Rattle.plain_units.proofs.starts.push_named_frame.Goals as goal

pub returns-then-not-names_frame : goal.returns-then-not-names_frame
returns-then-not-names_frame c =
    let none = unnamed_frame c.args.sought.now.accepted.now c.args.sought.now.down c.args.sought.now.ep c.args.sought.now.endpoint.now c.args.sought.now.start.0 c.args.first.frame (sym c.names_frame.ensures ∙ c.if-not-names_frame.true) in
    sym (ap (λ xs. c.args.found.now.items ++ xs) none ∙ append-nil c.args.found.now.items)
