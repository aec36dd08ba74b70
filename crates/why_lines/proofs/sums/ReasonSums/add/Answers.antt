use Rattle.std.proofs.Common.{sym}
use Rattle.std.proofs.lemmas.Result.{IfErr-weaker, on_ok_weaker}
use Rattle.why_lines.proofs.AddLemmas.{with_line, without_line}
use Rattle.why_lines.proofs.RoomLemmas.{no_room}
use Rattle.why_lines.proofs.sums.ReasonSums.add.Goals as goal

pub returns-in-Some-clause-ok : goal.returns-in-Some-clause-ok
returns-in-Some-clause-ok c =
    on_ok_weaker c.add_sum.result (λ more es ls are. with_line ls c.args.line.now c.in-Some.more (sym c.in-Some.ensures) es c.args.self.now c.add_sum.new.self more are) c.add_sum.ensures.ok

pub returns-in-None-clause-ok : goal.returns-in-None-clause-ok
returns-in-None-clause-ok c es ls are = without_line ls c.args.line.now (sym c.in-None.ensures) es c.args.self.now are

pub returns-in-Some-clause-full : goal.returns-in-Some-clause-full
returns-in-Some-clause-full c =
    IfErr-weaker c.add_sum.result _ _ (λ fault full es ls are. no_room ls c.args.line.now c.in-Some.more (sym c.in-Some.ensures) es c.args.self.now full are) c.add_sum.ensures.full
