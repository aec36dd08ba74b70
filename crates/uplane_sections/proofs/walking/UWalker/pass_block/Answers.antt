use Rattle.std.proofs.Common.{◌≡◌, ℕ, ◌-◌, ◌++◌, [], ◌∷◌, List, length, take, ap, ◌∙◌, arith, length-append}
use Rattle.std.proofs.lemmas.List.{length-take-le, take_all}
use Rattle.bfp_codec.specs.Layout.{length_of, unpacked_of}
use Rattle.uplane_sections.specs.Messages.{Block}
use Rattle.uplane_sections.specs.Phases.{method_in_phase, prbs_left, unit_of}
use Rattle.uplane_sections.specs.declared.phases.Phase.{Phase}
use Rattle.uplane_sections.specs.States.{tells}
use Rattle.uplane_sections.proofs.Runs.{block_tells}
use Rattle.uplane_sections.proofs.walking.UWalker.pass_block.Goals as goal

pub returns-then-piece-want-clause-passes : goal.returns-then-piece-want-clause-passes
returns-then-piece-want-clause-passes c =
    let piece = c.args.piece.now in
    record {
      items = [];
      tells = λ rest. ap (λ (xs : List ℕ). tells c.args.self.now (xs ++ rest)) (take_all (length piece) piece (omega arith)) ∙ c.hold.ensures.tells rest;
    }

pub returns-clause-passes : goal.returns-clause-passes
returns-clause-passes c =
    let w = c.args.self.now in
    let piece = c.args.piece.now in
    let unit = c.block_len-unit.result in
    let want = unit - w.there in
    let front = take w.there w.held in
    let phase_is = c.requires.inside in
    let size : unit ≡ length_of c.args.method = c.block_len-unit.ensures.value in
    let unit_is : unit_of w.phase ≡ length_of c.args.method = ap (λ (p : Phase). unit_of p) phase_is in
    let most_is : length_of (method_in_phase w.phase) ≡ length_of c.args.method = ap (λ (p : Phase). length_of (method_in_phase p)) phase_is in
    let left_is : prbs_left w.phase ≡ c.args.left = ap (λ (p : Phase). prbs_left p) phase_is in
    let part = w.part in
    let most = w.phase_most in
    let left = w.left in
    let before : length front ≡ w.there = length-take-le w.there w.held (omega (arith, part, most, unit_is, most_is)) in
    let then : length (take want piece) ≡ want = length-take-le want piece (omega (arith, c.if-piece-want.false)) in
    let len : length (front ++ take want piece) ≡ unit = length-append front (take want piece) ∙ (omega arith) in
    record {
      items = Block c.args.prb (unpacked_of c.args.method (front ++ take want piece)) ∷ [];
      tells = λ rest.
          block_tells w.format w.prbs w.shape w.phase c.inside-self.result c.args.method c.args.symbol w.start c.args.prb c.args.left unit w.there w.held (take want piece) rest phase_is (omega (arith, left, left_is))
          size len (c.inside-self.ensures.leads w.format w.prbs w.shape);
    }
