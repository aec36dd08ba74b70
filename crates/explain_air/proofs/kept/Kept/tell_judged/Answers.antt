-- What is judged of the last frame, at either unit.
use Rattle.std.proofs.Common.{ℕ, sym, subst}
use Rattle.std.proofs.lemmas.Result.{IfErr-weaker, on_ok_weaker}
use Rattle.air_source.specs.declared.events.Side.{Side}
use Rattle.explain_air.proofs.KeptLemmas.{ended_at_du, ended_at_ru, frame_is, judged_ended, on_ok_three}
use Rattle.explain_heard.specs.Stops.{StopsSome}
use Rattle.explain_units.specs.Units.{IsUnitAfter, frame_lines}
use Rattle.explain_air.proofs.kept.Kept.tell_judged.Goals as goal

pub returns-in-Ru-clause-after : goal.returns-in-Ru-clause-after
returns-in-Ru-clause-after g c =
    let f = c.args.frame.now in
    let k = c.args.self.now in
    on_ok_three c.hear.result
    (λ unit records noted s events bytes e last.
    let is = frame_is s events bytes k f c.judge.new.self c.judged-judged.result.now e last c.in_ok-judge.ensures.fine c.in_ok-judge.ensures.last c.judged-judged.ensures in
    let judged = judged_ended s events k c.judge.new.self e c.in_ok-judge.ensures.last in
    let own = subst (λ (x : Side). IsUnitAfter x s.config events k.ru) (sym c.in-Ru.is) e.heard.ru in
    ended_at_ru s events (record k { last = c.judge.new.self }) judged f.at bytes f.number is.number_is last.few f.side c.in-Ru.is
    (record { run = k.runs.run; notes = c.hear.new.notes }) c.hear.new.unit c.hear.new.records e.none (noted s.config events bytes own is) (unit s.config events bytes own is)
    (records s.config events bytes is e.heard.records))
    c.hear.ensures.unit c.hear.ensures.records c.hear.ensures.noted

pub returns-in-Ru-clause-heard : goal.returns-in-Ru-clause-heard
returns-in-Ru-clause-heard g c =
    let f = c.args.frame.now in
    let k = c.args.self.now in
    on_ok_weaker c.hear.result
    (λ told s events bytes e last.
    let is = frame_is s events bytes k f c.judge.new.self c.judged-judged.result.now e last c.in_ok-judge.ensures.fine c.in_ok-judge.ensures.last c.judged-judged.ensures in
    let own = subst (λ (x : Side). IsUnitAfter x s.config events k.ru) (sym c.in-Ru.is) e.heard.ru in
    subst (λ (n : ℕ). g.W.LineSink.grew c.args.out.now (frame_lines f.side s.config events n f.at.0 bytes) c.hear.new.out) is.number_is (told s.config events bytes own is))
    c.hear.ensures.heard

pub returns-in-Ru-clause-stop : goal.returns-in-Ru-clause-stop
returns-in-Ru-clause-stop g c =
    let f = c.args.frame.now in
    let k = c.args.self.now in
    IfErr-weaker c.hear.result _ _
    (λ fault told s events bytes e last.
    let is = frame_is s events bytes k f c.judge.new.self c.judged-judged.result.now e last c.in_ok-judge.ensures.fine c.in_ok-judge.ensures.last c.judged-judged.ensures in
    let own = subst (λ (x : Side). IsUnitAfter x s.config events k.ru) (sym c.in-Ru.is) e.heard.ru in
    subst (λ (n : ℕ). StopsSome g.W.LineSink.grew (g.W.LineSink.stopped fault) (frame_lines f.side s.config events n f.at.0 bytes) c.args.out.now c.hear.new.out) is.number_is
    (told s.config events bytes own is))
    c.hear.ensures.stop

pub returns-in-Du-clause-after : goal.returns-in-Du-clause-after
returns-in-Du-clause-after g c =
    let f = c.args.frame.now in
    let k = c.args.self.now in
    on_ok_three c.hear-in-Du.result
    (λ unit records noted s events bytes e last.
    let is = frame_is s events bytes k f c.judge.new.self c.judged-judged.result.now e last c.in_ok-judge.ensures.fine c.in_ok-judge.ensures.last c.judged-judged.ensures in
    let judged = judged_ended s events k c.judge.new.self e c.in_ok-judge.ensures.last in
    let own = subst (λ (x : Side). IsUnitAfter x s.config events k.du) (sym c.in-Du.is) e.heard.du in
    ended_at_du s events (record k { last = c.judge.new.self }) judged f.at bytes f.number is.number_is last.few f.side c.in-Du.is
    (record { run = k.runs.run; notes = c.hear-in-Du.new.notes }) c.hear-in-Du.new.unit c.hear-in-Du.new.records e.none (noted s.config events bytes own is) (unit s.config events bytes own is)
    (records s.config events bytes is e.heard.records))
    c.hear-in-Du.ensures.unit c.hear-in-Du.ensures.records c.hear-in-Du.ensures.noted

pub returns-in-Du-clause-heard : goal.returns-in-Du-clause-heard
returns-in-Du-clause-heard g c =
    let f = c.args.frame.now in
    let k = c.args.self.now in
    on_ok_weaker c.hear-in-Du.result
    (λ told s events bytes e last.
    let is = frame_is s events bytes k f c.judge.new.self c.judged-judged.result.now e last c.in_ok-judge.ensures.fine c.in_ok-judge.ensures.last c.judged-judged.ensures in
    let own = subst (λ (x : Side). IsUnitAfter x s.config events k.du) (sym c.in-Du.is) e.heard.du in
    subst (λ (n : ℕ). g.W.LineSink.grew c.args.out.now (frame_lines f.side s.config events n f.at.0 bytes) c.hear-in-Du.new.out) is.number_is (told s.config events bytes own is))
    c.hear-in-Du.ensures.heard

pub returns-in-Du-clause-stop : goal.returns-in-Du-clause-stop
returns-in-Du-clause-stop g c =
    let f = c.args.frame.now in
    let k = c.args.self.now in
    IfErr-weaker c.hear-in-Du.result _ _
    (λ fault told s events bytes e last.
    let is = frame_is s events bytes k f c.judge.new.self c.judged-judged.result.now e last c.in_ok-judge.ensures.fine c.in_ok-judge.ensures.last c.judged-judged.ensures in
    let own = subst (λ (x : Side). IsUnitAfter x s.config events k.du) (sym c.in-Du.is) e.heard.du in
    subst (λ (n : ℕ). StopsSome g.W.LineSink.grew (g.W.LineSink.stopped fault) (frame_lines f.side s.config events n f.at.0 bytes) c.args.out.now c.hear-in-Du.new.out) is.number_is
    (told s.config events bytes own is))
    c.hear-in-Du.ensures.stop
