use Rattle.std.proofs.Common.{◌≡◌, ◌-◌, length, drop, arith}
use Rattle.std.proofs.lemmas.List.{take_all, length-drop}
use Rattle.uplane_sections.specs.declared.steps.UFeed.TheVariants.{More}
use Rattle.uplane_sections.proofs.Histories.{two_steps}
use Rattle.uplane_sections.proofs.walking.UWalker.advance.Goals as goal
use Rattle.uplane_sections.proofs.walking.UWalker.advance.Goals.{in-More, in_default}

pub returns-clause-tells : goal.returns-clause-tells
returns-clause-tells c =
    let piece = c.args.piece.now in
    let m = c.step-first.result.used in
    let more : c.step-first.result.what ≡ More = elim c.match-matches.branch [
      | in-More w ↦ w.in-More.is
      | in_default w ↦ absurd cc
    ] in
    let left = take_all (length piece - m) (drop m piece) (omega (arith, length-drop m piece)) in
    two_steps c.args.self.now c.step-first.new.self c.step-then.new.self piece _ m _ c.step-first.result.what _ more left c.step-first.ensures.tells c.step-then.ensures.tells
