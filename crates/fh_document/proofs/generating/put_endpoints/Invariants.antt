use Rattle.std.proofs.Common.{◌≡◌, ◌++◌}
use Rattle.line_words.specs.Each.{each}
use Rattle.fh_document.specs.Generated.{endpoint_text}
use Rattle.fh_document.proofs.generating.put_endpoints.Given as goal

abbrev pub invariant-loop-e : goal.invariant-loop-e
invariant-loop-e l = l.text ≡ l.initial.text ++ each endpoint_text l.e
