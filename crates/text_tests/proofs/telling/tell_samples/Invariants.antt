use Rattle.std.proofs.Common.{map, take, ◌≡◌}
use Rattle.bfp_codec.specs.declared.samples.Wide.{Wide}
use Rattle.air_source.specs.declared.places.RePlace.{RePlace}
use Rattle.air_source.specs.Answers.{AnswersBy}
use Rattle.air_source.specs.Tellings.{cell_by}
use Rattle.text_tests.proofs.telling.tell_samples.Given as goal

abbrev pub invariant-loop-prb : goal.invariant-loop-prb
invariant-loop-prb g l = record {
  heard : (answer : RePlace → Wide) → AnswersBy (goal.F-post g l.source.answer) answer → g.A.Air.grew l.initial.air (map (cell_by answer l.slot) (take l.prb-index l.prbs)) l.air;
  same : g.A.Air.same l.initial.air l.air;
  still : g.A.Air.faults l.air ≡ g.A.Air.faults l.initial.air;
}
