use Rattle.std.proofs.Common.{◌+◌, ◌-◌, ◌^◌, ap, ◌∙◌, arith}
use Rattle.std.specs.Prelude.{min}
use Rattle.unit_symbols.proofs.StepLemmas.{given_one}
use Rattle.unit_symbols.proofs.cursor.JobCursor.after.Goals as goal

pub returns : goal.returns
returns c =
    λ v f. given_one v c.args.self.now c.args.next.now c.given_of.result c.saturating_add.result (2 ^ 64 - 1) c.given_of.ensures
    (c.saturating_add.ensures ∙ ap (λ n. min (n + 1) (2 ^ 64 - 1)) c.unwrap_or-given.ensures) (omega arith) f
