-- By its sign.
use Rattle.std.proofs.Common.{◌∙◌, ap, rules, pos, unsigned_abs, w64, ◌<ℤ◌, ◌≤ℤ◌}
use Rattle.std.proofs.lemmas.Int.{to_z-of_z}
use Rattle.explain_records.proofs.DistanceLemmas.{below, not_below}
use Rattle.explain_records.proofs.of_judged.late_by.Goals as goal

pub returns-then-timing-lt0 : goal.returns-then-timing-lt0
returns-then-timing-lt0 c = let h : c.args.timing.until <ℤ pos 0 = search rules in c.unsigned_abs.ensures.value ∙ ap unsigned_abs (to_z-of_z w64 c.args.timing.until (search rules)) ∙ below c.args.timing.until h

pub returns-else-timing-lt0 : goal.returns-else-timing-lt0
returns-else-timing-lt0 c = let h : pos 0 ≤ℤ c.args.timing.until = search rules in not_below c.args.timing.until h
