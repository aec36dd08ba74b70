use Rattle.std.proofs.Common.{◌≡◌, drop}
use Rattle.std.specs.List.{list_all}
use Rattle.why_lines.specs.Starts.{is_proper}
use Rattle.why_lines.proofs.starts.are_proper.Given as goal

abbrev pub invariant-loop-r : goal.invariant-loop-r
invariant-loop-r l = list_all (is_proper l.endpoints) (drop l.r-index l.given) ≡ list_all (is_proper l.endpoints) l.given
