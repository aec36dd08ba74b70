use Rattle.std.proofs.Common.{◌≡◌, None, take}
use Rattle.std.specs.List.{find}
use Rattle.explain_model.specs.Commanded.{is_accepted_for}
use Rattle.explain_records.specs.Elements.{elements}
use Rattle.explain_records.proofs.commands.accepted_command.Given as goal

abbrev pub invariant-loop-r : goal.invariant-loop-r
invariant-loop-r l = find (is_accepted_for (elements l.asked)) (take l.r-index l.commanded) ≡ None
