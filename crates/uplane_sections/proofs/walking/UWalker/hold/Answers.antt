use Rattle.std.proofs.Common.{◌≡◌, ◌+◌, [], ◌++◌, length, take, inl, ap, ◌∙◌, arith}
use Rattle.std.proofs.lemmas.List.{append-nil, length-take-le}
use Rattle.uplane_sections.proofs.Histories.{ends_short}
use Rattle.uplane_sections.proofs.walking.UWalker.hold.Goals as goal

pub returns-clause-short : goal.returns-clause-short
returns-clause-short c =
    let w = c.args.self.now in
    let n = w.there + length c.args.piece.now in
    let xs = take n c.write_at.new.into in
    let most = c.requires.most in
    let part = c.requires.part in
    let len : length (xs ++ []) ≡ n = ap length (append-nil xs) ∙ length-take-le n c.write_at.new.into (omega arith) in
    ends_short w.format w.prbs w.shape w.phase w.start (xs ++ []) _ (omega arith) w.left c.requires.goes_on (inl (omega (arith, c.requires.some))) (omega arith)
