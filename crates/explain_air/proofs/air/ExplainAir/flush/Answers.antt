-- The lines of the last frame, if any are left.
use Rattle.std.proofs.Common.{sym, ◌∙◌}
use Rattle.std.proofs.lemmas.Result.{IfErr-weaker}
use Rattle.explain_air.proofs.FlushLemmas.{flush_part, flushed, idle_flushed}
use Rattle.explain_air.proofs.Fronts.{out_front}
use Rattle.explain_air.proofs.air.ExplainAir.flush.Goals as goal

pub returns-in-None-take-clause-told : goal.returns-in-None-take-clause-told
returns-in-None-take-clause-told g c =
    idle_flushed c.args.self.now.faults c.args.self.now.kept (g.K.Sink.written c.args.self.now.sink.now) c.args.self.now.owed c.in-Some.kept c.in-Some.is (sym c.take.ensures.frame ∙ c.in-None-take.is) c.take.new.self c.take.ensures.rest

pub returns-in-Some-take-clause-told : goal.returns-in-Some-take-clause-told
returns-in-Some-take-clause-told g c =
    flushed c.args.self.now.faults c.args.self.now.kept (g.K.Sink.written c.args.self.now.sink.now) c.args.self.now.owed c.in-Some.kept c.in-Some.is
    c.in-Some-take.frame (sym c.take.ensures.frame ∙ c.in-Some-take.is) c.take.new.self c.take.ensures.rest c.tell_frame.result
    c.tell_frame.new.self c.tell_frame.new.out.faults (g.K.Sink.written c.tell_frame.new.out.sink.now) c.tell_frame.new.out.owed.now c.tell_frame.ensures.after c.tell_frame.ensures.heard

pub returns-in-Some-take-clause-stop : goal.returns-in-Some-take-clause-stop
returns-in-Some-take-clause-stop g c =
    IfErr-weaker c.tell_frame.result _ _
    (λ f h.
    flush_part c.args.self.now.faults c.args.self.now.kept (g.K.Sink.written c.args.self.now.sink.now) c.args.self.now.owed c.in-Some.kept c.in-Some.is
    c.in-Some-take.frame (sym c.take.ensures.frame ∙ c.in-Some-take.is) c.take.new.self c.take.ensures.rest (g.K.Sink.written c.tell_frame.new.out.sink.now)
    (λ s events bytes heard last. out_front g.K.Sink.written _ _ _ (h s events bytes heard last)))
    c.tell_frame.ensures.stop
