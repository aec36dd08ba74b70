use Rattle.std.proofs.Common.{◌≡◌, ◌-◌, length, drop, arith}
use Rattle.std.proofs.lemmas.List.{take_all, length-drop}
use Rattle.uplane_sections.proofs.Runs.{passes_more, passes_over}
use Rattle.uplane_sections.proofs.walking.UWalker.pass_all.Goals as goal

pub returns-then-used-eq0-clause-passes : goal.returns-then-used-eq0-clause-passes
returns-then-used-eq0-clause-passes c =
    let piece = c.args.piece.now in
    let at = c.loop-at.at in
    let left = take_all (length piece - at) (drop at piece) (omega (arith, length-drop at piece)) in
    let none : c.pass_some-used.result ≡ 0 = omega (arith, c.if-used-eq0.true) in
    passes_over c.args.self.now c.loop-at.self c.pass_some-used.new.self piece _ at c.pass_some-used.result left none c.loop-at.invariant.passes c.pass_some-used.ensures.passes (c.pass_some-used.ensures.ends none)

pub loop-at-preserved : goal.loop-at-preserved
loop-at-preserved c =
    let piece = c.args.piece.now in
    let at = c.loop-at.at in
    let left = take_all (length piece - at) (drop at piece) (omega (arith, length-drop at piece)) in
    record {
      within = omega (arith, c.pass_some-used.ensures.within, length-drop at piece, c.loop-at-test.true);
      used = omega (arith, c.pass_some-used.ensures.used, c.loop-at.invariant.used);
      passes = passes_more c.args.self.now c.loop-at.self c.pass_some-used.new.self piece _ at c.pass_some-used.result left c.loop-at.invariant.passes c.pass_some-used.ensures.passes;
    }
