-- A frame, and then its lines.
use Rattle.std.proofs.Common.{refl, subst}
use Rattle.std.proofs.lemmas.Result.{IfErr-weaker, on_ok_weaker}
use Rattle.explain_heard.specs.Stops.{StopsSome}
use Rattle.explain_units.proofs.EventLemmas.{frame_said, unit_heard}
use Rattle.explain_units.proofs.units.UnitLines.hear.Goals as goal

pub returns-clause-after : goal.returns-clause-after
returns-clause-after g c =
    on_ok_weaker c.tell_frame.result
    (λ known config events bytes h is.
    unit_heard config events bytes c.args.frame.now c.args.judged.now c.args.self.now h is (record { side = c.args.self.now.side; earlier = c.tell_frame.new.earlier }) refl known) c.tell_frame.ensures.known

pub returns-clause-heard : goal.returns-clause-heard
returns-clause-heard g c =
    on_ok_weaker c.tell_frame.result
    (λ told config events bytes h is.
    subst (λ ls. g.W.LineSink.grew c.args.out.now ls c.tell_frame.new.out) (frame_said config events bytes c.args.frame.now c.args.judged.now c.args.self.now h is) told)
    c.tell_frame.ensures.told

pub returns-clause-stop : goal.returns-clause-stop
returns-clause-stop g c =
    IfErr-weaker c.tell_frame.result _ _
    (λ f stop config events bytes h is.
    subst (λ ls. StopsSome g.W.LineSink.grew (g.W.LineSink.stopped f) ls c.args.out.now c.tell_frame.new.out)
    (frame_said config events bytes c.args.frame.now c.args.judged.now c.args.self.now h is) stop) c.tell_frame.ensures.stop
