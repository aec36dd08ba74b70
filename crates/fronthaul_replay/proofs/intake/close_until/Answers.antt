use Rattle.std.proofs.Common.{rules}
use Rattle.std.proofs.lemmas.Result.{IfErr-weaker, on_ok_weaker}
use Rattle.du_intake.specs.Units.{intake_due_of}
use Rattle.fronthaul_replay.proofs.ReportLemmas.{cells_heard, intake_stops}
use Rattle.fronthaul_replay.proofs.intake.close_until.Goals as goal

pub returns-clause-heard : goal.returns-clause-heard
returns-clause-heard g c k planned h all =
    on_ok_weaker c.close_until.result (λ told own earlier.
    let heard = cells_heard g.A.ListeningAir.grew c.to.result c.close_until.new.air (intake_due_of k planned h c.args.to.0) told own earlier in search (rules, heard)) (c.close_until.ensures.heard k planned h all)

pub returns-clause-stop : goal.returns-clause-stop
returns-clause-stop g c k planned h all =
    let stop = IfErr-weaker c.close_until.result _ _ (λ f s.
    intake_stops g.A.ListeningAir.grew (g.A.ListeningAir.stopped f) k planned h c.args.to.0 c.close_until.new.self c.to.result c.close_until.new.air s) (c.close_until.ensures.stop k planned h all) in
    search (rules, stop)
