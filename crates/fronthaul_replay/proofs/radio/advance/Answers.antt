use Rattle.std.proofs.Common.{rules}
use Rattle.std.proofs.lemmas.Result.{IfErr-weaker, on_ok_weaker}
use Rattle.ru_buffers.specs.Reporting.{due_of}
use Rattle.fronthaul_replay.proofs.ReportLemmas.{cells_heard, radio_stops}
use Rattle.fronthaul_replay.proofs.radio.advance.Goals as goal

pub returns-clause-heard : goal.returns-clause-heard
returns-clause-heard g c k h all =
    on_ok_weaker c.advance.result (λ told own earlier.
    let heard = cells_heard g.A.ListeningAir.grew c.to.result c.advance.new.air (due_of k h c.args.to.0) told own earlier in search (rules, heard)) (c.advance.ensures.heard k h all)

pub returns-clause-stop : goal.returns-clause-stop
returns-clause-stop g c k h all =
    let stop = IfErr-weaker c.advance.result _ _ (λ f s.
    radio_stops g.A.ListeningAir.grew (g.A.ListeningAir.stopped f) k h c.args.to.0 c.advance.new.self c.to.result c.advance.new.air s) (c.advance.ensures.stop k h all) in
    search (rules, stop)
