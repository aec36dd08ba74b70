use Rattle.std.proofs.Common.{◌≡◌, ℕ, ◌+◌, ◌-◌, ◌*◌, ◌∙◌, ◌&&◌, refl, subst, arith, get_or, if◌then◌else◌, Some}
use Rattle.unit_model.specs.Claims.{first_prb, prb_count, in_mask, is_from, claim_of}
use Rattle.slot_rings.specs.Places.{claim_in, no_claims}
use Rattle.slot_rings.proofs.JudgeLemmas.{inside, none_yet, row_free, row_claimed}
use Rattle.slot_rings.proofs.judging.claim_cells.Goals as goal

pub claim_row-requires-clause-free : goal.claim_row-requires-clause-free
claim_row-requires-clause-free c k left right =
    row_free c.args.a.now c.loop-symbol.symbol k c.args.claims.now.items c.loop-symbol.claims.items c.requires.inside c.requires.free
    c.loop-symbol.auto.symbol c.loop-symbol-test.true left right c.loop-symbol.invariant.each

pub loop-symbol-preserved : goal.loop-symbol-preserved
loop-symbol-preserved c = record {
  capacity = omega (arith, c.loop-symbol.invariant.capacity, c.claim_row.ensures.capacity);
  blank = c.claim_row.ensures.blank;
  reported = λ k. c.claim_row.ensures.reported k ∙ c.loop-symbol.invariant.reported k;
  each = λ z n re below under.
      row_claimed c.args.a.now.symbol c.loop-symbol.symbol z c.args.a.now.endpoint.prbs (first_prb c.args.a.now) (prb_count c.args.a.now) n _ _ _ _ _
      c.loop-symbol.auto.symbol (inside c.args.a.now c.requires.inside) below (c.claim_row.ensures.each (z * c.args.a.now.endpoint.prbs + n) re under) (c.loop-symbol.invariant.each z n re below under);
}

pub loop-symbol-init : goal.loop-symbol-init
loop-symbol-init c = record {
  capacity = omega arith;
  blank = c.requires.blank;
  reported = λ k. refl;
  each = λ z n re below under. rw (none_yet c.args.a.now.symbol z) refl;
}

pub returns : goal.returns
returns c =
    let l = c.loop-symbol in
    let a = c.args.a.now in
    let all : l.symbol - a.symbol ≡ a.num_symbol = omega (arith, c.loop-symbol-test.false, l.auto.symbol-end) in
    record {
      blank = l.invariant.blank;
      each = λ z n re below under. subst (λ (m : ℕ). claim_in (get_or l.claims.items (z * a.endpoint.prbs + n) no_claims) re
          ≡ (if (is_from a.symbol m z && is_from (first_prb a) (prb_count a) n) && in_mask a.mask re then Some (claim_of a)
          else claim_in (get_or c.args.claims.now.items (z * a.endpoint.prbs + n) no_claims) re)) all (l.invariant.each z n re below under);
      reported = l.invariant.reported;
      capacity = l.invariant.capacity;
    }
