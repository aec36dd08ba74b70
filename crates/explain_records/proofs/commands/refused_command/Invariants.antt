use Rattle.std.proofs.Common.{◌≡◌, filter, take}
use Rattle.explain_model.specs.Commanded.{is_refused_for, nearest}
use Rattle.explain_records.specs.Elements.{elements}
use Rattle.explain_records.proofs.commands.refused_command.Given as goal

abbrev pub invariant-loop-r : goal.invariant-loop-r
invariant-loop-r l = l.nearest ≡ nearest (λ r. r.distance) (filter (is_refused_for (elements l.asked)) (take l.r-index l.commanded))
