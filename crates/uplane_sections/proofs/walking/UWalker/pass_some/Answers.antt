use Rattle.std.proofs.Common.{arith}
use Rattle.uplane_sections.proofs.Runs.{passes_step}
use Rattle.uplane_sections.proofs.walking.UWalker.pass_some.Goals as goal

pub returns-clause-passes : goal.returns-clause-passes
returns-clause-passes c =
    let p = c.pass_unit.ensures.passes in
    passes_step c.args.self.now c.run-run.new.self c.pass_unit.new.self c.args.piece.now c.run-run.result.used c.pass_unit.result _ p.items (omega (arith, c.if-run-gt0.false)) c.run-run.ensures.tells p.tells
