use Rattle.std.proofs.Common.{rules, List, ℕ}
use Rattle.std.proofs.lemmas.Result.{IfErr-weaker}
use Rattle.std.specs.Result.{IfErr}
use Rattle.air_source.specs.declared.events.Event.{Event}
use Rattle.explain_air.proofs.NotingLemmas.{noting_stops}
use Rattle.explain_heard.specs.Stops.{StopsSome}
use Rattle.explain_units.specs.Frames.{IsFrame}
use Rattle.explain_units.specs.Units.{IsUnitAfter, frame_lines}
use Rattle.window_config.specs.declared.config.Config.{Config}
use Rattle.explain_air.proofs.kept.note_frame.Goals as goal

pub returns-clause-stop : goal.returns-clause-stop
returns-clause-stop g c =
    let f = c.args.frame.now in
    let told : IfErr c.hear.result (λ fault. (cfg : Config) (events : List Event) (bytes : List ℕ) → IsUnitAfter f.side cfg events c.args.unit.now → IsFrame cfg events bytes f c.args.judged.now
    → StopsSome g.W.LineSink.grew (g.W.LineSink.stopped fault) (frame_lines f.side cfg events f.number f.at.0 bytes) c.args.out.now c.hear.new.out.out.now) =
    IfErr-weaker c.hear.result _ _ (λ fault stop cfg events bytes h is. noting_stops g.W.LineSink.grew (g.W.LineSink.stopped fault) g.met.W.LineSink.grew_more _ _ _ (stop cfg events bytes h is)) c.hear.ensures.stop in
    search (rules, told)
