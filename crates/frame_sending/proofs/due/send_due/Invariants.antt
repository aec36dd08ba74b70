use Rattle.std.proofs.Common.{◌≡◌, List}
use Rattle.air_source.specs.Kept.{closure_of}
use Rattle.air_source.specs.declared.places.RePlace.{RePlace}
use Rattle.bfp_codec.specs.declared.samples.Wide.{Wide}
use Rattle.plan_model.specs.Sent.{SentFrame}
use Rattle.frame_ways.specs.Ways.{document_of}
use Rattle.window_config.specs.declared.config.Config.{Config}
use Rattle.window_config.specs.declared.plan.PlanLine.{PlanLine}
use Rattle.frame_sending.specs.Due.{MaySend}
use Rattle.frame_sending.proofs.DueLemmas.{IsSending}
use Rattle.frame_sending.proofs.MeasureLemmas.{frames_left}
use Rattle.frame_sending.proofs.due.send_due.Given as goal

abbrev pub invariant-loop-tick : goal.invariant-loop-tick
invariant-loop-tick g l = record {
  document : document_of l.way ≡ document_of l.initial.way;
  going : (c : Config) (lines : List PlanLine) (left : List SentFrame) (answer : RePlace → Wide) → MaySend (goal.F-post g (closure_of l.source)) c lines left answer l.initial.plan
      → IsSending (goal.F-post g (closure_of l.source)) c lines left answer l.tick.0 l.initial.way l.plan l.way;
}

abbrev pub decreases-loop-tick : goal.decreases-loop-tick
decreases-loop-tick g l = frames_left l.plan
