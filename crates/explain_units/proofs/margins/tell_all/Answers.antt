-- Class by class.
use Rattle.std.proofs.Common.{rules, ◌++◌}
use Rattle.std.proofs.lemmas.Result.{IfErr-weaker}
use Rattle.explain_model.specs.declared.values.MarginClass.TheVariants.{Down, Up, Data}
use Rattle.explain_units.specs.MarginLines.{class_said}
use Rattle.explain_units.proofs.StopLemmas.{in_after, in_before}
use Rattle.explain_units.proofs.margins.tell_all.Goals as goal

pub returns-in_err-tell_class-clause-stop : goal.returns-in_err-tell_class-clause-stop
returns-in_err-tell_class-clause-stop g c =
    let up = class_said c.args.side Up c.args.all.now in
    let data_lines = class_said c.args.side Data c.args.all.now in
    let stop =
    in_before g.W.LineSink.grew (g.W.LineSink.stopped c.in_err-tell_class.field-0.0) (class_said c.args.side Down c.args.all.now) (up ++ data_lines) c.args.out.now c.tell_class.new.out
    c.in_err-tell_class.ensures.stop in
    search (rules, stop)

pub returns-in_err-tell_class-2-clause-stop : goal.returns-in_err-tell_class-2-clause-stop
returns-in_err-tell_class-2-clause-stop g c =
    let up = class_said c.args.side Up c.args.all.now in
    let data_lines = class_said c.args.side Data c.args.all.now in
    let stop =
    in_after g.W.LineSink.grew (g.W.LineSink.stopped c.in_err-tell_class-2.field-0.0) g.met.W.LineSink.grew_more (class_said c.args.side Down c.args.all.now) (up ++ data_lines)
    c.args.out.now c.tell_class.new.out c.tell_class-2.new.out c.in_ok-tell_class.ensures.told
    (in_before g.W.LineSink.grew (g.W.LineSink.stopped c.in_err-tell_class-2.field-0.0) up data_lines c.tell_class.new.out c.tell_class-2.new.out c.in_err-tell_class-2.ensures.stop) in
    search (rules, stop)

pub returns-clause-stop : goal.returns-clause-stop
returns-clause-stop g c =
    let up = class_said c.args.side Up c.args.all.now in
    let data_lines = class_said c.args.side Data c.args.all.now in
    IfErr-weaker c.tell_class-3.result _ _
    (λ f stop.
    in_after g.W.LineSink.grew (g.W.LineSink.stopped f) g.met.W.LineSink.grew_more (class_said c.args.side Down c.args.all.now) (up ++ data_lines) c.args.out.now c.tell_class.new.out c.tell_class-3.new.out
    c.in_ok-tell_class.ensures.told
    (in_after g.W.LineSink.grew (g.W.LineSink.stopped f) g.met.W.LineSink.grew_more up data_lines c.tell_class.new.out c.tell_class-2.new.out c.tell_class-3.new.out
    c.in_ok-tell_class-2.ensures.told stop)) c.tell_class-3.ensures.stop
