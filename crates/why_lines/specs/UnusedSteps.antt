-- The PRBs of a run of unused blocks follow one another.
use Rattle.std.specs.Prelude.{◌≡◌, ◌+◌, ◌==◌, true}
use Rattle.std.proofs.Common.{sym}
use Rattle.std.proofs.lemmas.Bool.{and_parts, eqb-true}
use Rattle.why_lines.specs.Unused.{unused_related}
use Rattle.why_lines.specs.declared.blocks.UnusedPrb.{UnusedPrb}

pub next_unused : (a b : UnusedPrb) → unused_related a b ≡ true → b.run.prb ≡ a.run.prb + 1
next_unused a b h = sym (eqb-true (a.run.prb + 1) b.run.prb ((and_parts (a.from == b.from) (a.run.prb + 1 == b.run.prb) ((and_parts (a.run.section == b.run.section) _ h).1)).1))
