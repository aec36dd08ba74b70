use Rattle.std.proofs.Common.{◌≡◌, List, drop}
use Rattle.explain_model.specs.Stories.{Story}
use Rattle.explain_records.specs.Records.{SoFar}
use Rattle.window_config.specs.declared.config.Config.{Config}
use Rattle.explain_records.proofs.heard_records.HeardRecords.keep.Given as goal

abbrev pub invariant-loop-one : goal.invariant-loop-one
invariant-loop-one l =
    (c : Config) (ss : List Story) (s : Story) → s.side ≡ l.side → s.number ≡ l.number → SoFar c c.endpoints ss s l.judged l.initial.self
    → SoFar c c.endpoints ss s (drop l.one-index l.judged) l.self
