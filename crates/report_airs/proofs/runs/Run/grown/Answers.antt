use Rattle.std.proofs.Common.{◌+◌, ◌*◌, ◌≤◌, arith, ap}
use Rattle.report_airs.specs.OpenRuns.{OpenRun}
use Rattle.report_airs.proofs.Bounds.{wider}
use Rattle.report_airs.proofs.runs.Run.grown.Goals as goal

pub plus-requires-clause-before : goal.plus-requires-clause-before
plus-requires-clause-before c =
    let is = ap (λ (r : OpenRun). r.prb) c.self.view_is in
    let le : 12 * (c.self.inside.prb + 1) ≤ 12 * 65535 = omega (arith, c.requires.rises, is, c.ranges.prb) in
    wider (12 * (c.self.inside.prb + 1)) (12 * 65535) c.self.inside.totals le c.self.invariant

pub invariant_of-result : goal.invariant_of-result
invariant_of-result c =
    let is = ap (λ (r : OpenRun). r.prb) c.self.view_is in
    let le : 12 * (c.self.inside.prb + 1) + 12 ≤ 12 * (c.args.prb + 1) = omega (arith, c.requires.rises, is) in
    wider (12 * (c.self.inside.prb + 1) + 12) (12 * (c.args.prb + 1)) c.plus.result le (c.plus.ensures.within (12 * (c.self.inside.prb + 1)) c.self.invariant)
