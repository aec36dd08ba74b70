-- The cells of a run follow one another.
use Rattle.std.specs.Prelude.{◌≡◌, ◌+◌, ◌==◌, true}
use Rattle.std.proofs.Common.{sym}
use Rattle.std.proofs.lemmas.Bool.{and_parts, eqb-true}
use Rattle.explain_records.specs.Missing.{missing_related}
use Rattle.explain_records.specs.declared.missing.MissingPrb.{MissingPrb}

pub next_missing : (a b : MissingPrb) → missing_related a b ≡ true → b.prb ≡ a.prb + 1
next_missing a b h = sym (eqb-true (a.prb + 1) b.prb ((and_parts _ (a.prb + 1 == b.prb) ((and_parts _ _ h).1)).1))
