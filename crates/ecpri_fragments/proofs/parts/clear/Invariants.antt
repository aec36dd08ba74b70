use Rattle.std.proofs.Common.{◌≡◌, ℕ, ◌<◌, ◌≤◌, None}
use Rattle.ecpri_fragments.specs.Spans.{span_of}
use Rattle.ecpri_fragments.proofs.parts.clear.Given as goal

abbrev pub invariant-loop-k : goal.invariant-loop-k
invariant-loop-k l = record {
  gone : (j : ℕ) → j < l.k → span_of l.spans j ≡ None;
  same : (j : ℕ) → l.k ≤ j → span_of l.spans j ≡ span_of l.fn.spans j;
}
