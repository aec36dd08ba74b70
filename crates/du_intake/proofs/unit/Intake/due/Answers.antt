use Rattle.std.proofs.Common.{length, sym}
use Rattle.du_intake.proofs.DueLemmas.{due_at, due_over}
use Rattle.du_intake.proofs.unit.Intake.due.Goals as goal

pub returns-in-Some : goal.returns-in-Some
returns-in-Some c k planned h all =
    let u = c.args.self.now in
    due_at k planned u.memory u.clock.0 u.wait.0 u.plan (length u.row.items) u.place h c.in-Some.next c.moment_of.result.0 all (sym c.in-Some.ensures) c.moment_of.ensures

pub returns-in-None : goal.returns-in-None
returns-in-None c k planned h all to =
    let u = c.args.self.now in
    due_over k planned u.memory u.clock.0 u.wait.0 u.plan (length u.row.items) u.place h all (sym c.in-None.ensures) to
