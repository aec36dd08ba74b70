use Rattle.std.proofs.Common.{◌≡◌, ◌+◌, ◌-◌, ◌++◌, ◌∙◌, ℕ, List, length, take, drop, sym, ap, arith}
use Rattle.std.proofs.lemmas.List.{take_all, length-drop}
use Rattle.uplane_sections.specs.Messages.{Item, Telling, blocks}
use Rattle.uplane_sections.specs.States.{tells}
use Rattle.uplane_messages.specs.Joined.{bytes_from, pieces_of}
use Rattle.uplane_messages.proofs.Pieces.{fed_piece}
use Rattle.uplane_messages.proofs.walk.DataWalk.run.Goals as goal

-- the bytes that were used
part_used : (p : List ℕ) (at used : ℕ) → take used (take (length p - at) (drop at p)) ≡ take (at + used - at) (drop at p)
part_used p at used =
    let all : take (length p - at) (drop at p) ≡ drop at p = take_all (length p - at) (drop at p) (omega (arith, length-drop at p)) in
    let many : used ≡ at + used - at = omega arith in
    ap (take used) all ∙ ap (λ (n : ℕ). take n (drop at p)) many

pub returns-clause-gives : goal.returns-clause-gives
returns-clause-gives c =
    let it = c.skip_used.new.self in
    let ps = pieces_of it.lease.now in
    let piece = c.piece-piece.result.now in
    let r = c.run-run.result in
    let left : List Item = (tells c.run-run.new.self (bytes_from ps it.piece (it.at + r.used))).items in
    let here = take r.used (take (length piece - it.at) (drop it.at piece)) in
    let on = sym c.skip_used.ensures.telling ∙ fed_piece it.walker c.run-run.new.self ps it.piece it.at r.used (blocks r.method r.prb r.count here) piece c.piece-piece.ensures c.run-run.ensures.tells in
    record {
      first = ap (λ (t : Telling). t.items) on ∙ ap (λ (xs : List ℕ). blocks r.method r.prb r.count xs ++ left) (part_used piece it.at r.used);
      refusal = ap (λ (t : Telling). t.refusal) (sym on);
      lease = c.skip_used.ensures.lease;
    }
