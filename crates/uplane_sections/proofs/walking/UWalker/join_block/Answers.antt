use Rattle.std.proofs.Common.{◌≡◌, ◌+◌, ◌-◌, ◌++◌, length, take, drop, ap, ◌∙◌, arith, length-append}
use Rattle.std.proofs.lemmas.List.{length-take-le}
use Rattle.bfp_codec.specs.Layout.{length_of}
use Rattle.uplane_sections.specs.Phases.{method_in_phase, prbs_left, unit_of}
use Rattle.uplane_sections.specs.declared.phases.Phase.{Phase}
use Rattle.uplane_sections.proofs.Runs.{joined_tells}
use Rattle.uplane_sections.proofs.walking.UWalker.join_block.Goals as goal

pub returns-clause-tells : goal.returns-clause-tells
returns-clause-tells c rest =
    let w = c.args.self.now in
    let piece = c.args.piece.now in
    let unit = c.block_len-unit.result in
    let want = unit - w.there in
    let xs = take want piece in
    let front = take w.there w.held in
    let phase_is = c.requires.inside in
    let unit_is : unit_of w.phase ≡ length_of c.args.method = ap (λ (p : Phase). unit_of p) phase_is in
    let most_is : length_of (method_in_phase w.phase) ≡ length_of c.args.method = ap (λ (p : Phase). length_of (method_in_phase p)) phase_is in
    let left_is : prbs_left w.phase ≡ c.args.left = ap (λ (p : Phase). prbs_left p) phase_is in
    let part = w.part in
    let most = w.phase_most in
    let left = w.left in
    let before : length front ≡ w.there = length-take-le w.there w.held (omega (arith, part, most, unit_is, most_is)) in
    let then : length xs ≡ want = length-take-le want piece (omega (arith, c.if-piece-want.false)) in
    let len : length (front ++ xs) ≡ unit = length-append front xs ∙ (omega arith) in
    joined_tells w.format w.prbs w.shape w.phase c.inside-self.result c.args.method c.args.symbol w.start c.args.prb c.args.left unit w.there w.held xs (drop (w.there + length xs) w.held) c.write_at.new.into rest
    phase_is (omega (arith, left, left_is)) c.block_len-unit.ensures.value len c.write_at.ensures (c.inside-self.ensures.leads w.format w.prbs w.shape)
