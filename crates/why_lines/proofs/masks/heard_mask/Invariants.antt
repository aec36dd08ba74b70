use Rattle.std.proofs.Common.{◌≡◌, ℕ, take}
use Rattle.std.specs.List.{list_any}
use Rattle.unit_model.specs.Claims.{in_mask}
use Rattle.why_lines.specs.Silent.{has_element}
use Rattle.why_lines.proofs.masks.heard_mask.Given as goal

abbrev pub invariant-loop-run : goal.invariant-loop-run
invariant-loop-run l = record {
  each : (re : ℕ) → in_mask l.heard re ≡ list_any (has_element l.id l.prb re) (take l.run-index l.cells);
}
