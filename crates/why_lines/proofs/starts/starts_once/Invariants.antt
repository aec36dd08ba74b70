use Rattle.why_lines.proofs.StartLemmas.{Finds}
use Rattle.why_lines.proofs.starts.starts_once.Given as goal

abbrev pub invariant-loop-r : goal.invariant-loop-r
invariant-loop-r l = Finds l.endpoints l.side l.given l.r-index l.found.items
