-- The laws of the lines of every replay, together.
use Rattle.replay_laws.specs.Events.{events}
use Rattle.explain_laws.specs.Explained.{EachIsExplained}
use Rattle.explain_laws.proofs.EachLemmas.{each_has_one}
use Rattle.explain_laws.proofs.ReplayLemmas.{are_lines}
use Rattle.explain_laws.proofs.RunLemmas.{kept}
use Rattle.explain_laws.proofs.SignLemmas.{signs}

pub each_is_explained : EachIsExplained
each_is_explained c t r = record {
  each = each_has_one c (events c t);
  counters = are_lines.replayed c t;
  signs = signs c (events c t);
  runs = kept.maximal c (events c t);
  faults = kept.kept c r (events c t);
}
