use Rattle.std.proofs.Common.{◌≡◌, ℕ, ◌-◌, ◌&&◌, ap, sym, subst, ◌∙◌, arith, get_or, if◌then◌else◌, Some}
use Rattle.unit_model.specs.Claims.{in_mask, is_from, is_overlapped, claim_of}
use Rattle.slot_rings.specs.Places.{claim_in, no_claims}
use Rattle.slot_rings.specs.declared.claims.CellClaims.{CellClaims}
use Rattle.slot_rings.proofs.JudgeLemmas.{cell_claimed, cell_kept, none_yet, not_yet}
use Rattle.slot_rings.proofs.judging.claim_more.Goals as goal

pub loop-k-init : goal.loop-k-init
loop-k-init c = record {
  len = omega (arith, c.reach.ensures.len);
  capacity = c.reach.ensures.capacity;
  reported = λ i. ap (λ (m : CellClaims). m.reported) (c.reach.ensures.same i);
  each = λ i re below. rw (none_yet c.args.from i) (ap (λ (m : CellClaims). claim_in m re) (c.reach.ensures.same i));
  kept = λ i out. c.reach.ensures.same i;
}

pub claim_one-requires-clause-free : goal.claim_one-requires-clause-free
claim_one-requires-clause-free c =
    ap (λ (m : CellClaims). is_overlapped c.args.a.now.section c.args.a.now.mask (claim_in m)) (c.loop-k.invariant.kept c.loop-k.k (not_yet c.args.from c.loop-k.k c.loop-k.auto.k))
    ∙ c.requires.free c.loop-k.k c.loop-k.auto.k c.loop-k-test.true

pub loop-k-preserved : goal.loop-k-preserved
loop-k-preserved c =
    let l = c.loop-k in
    let a = c.args.a.now in
    let old = c.args.claims.now.items in
    let mid = l.claims.items in
    let new = c.claim_one.new.claims.items in
    record {
      len = omega (arith, l.invariant.len, c.claim_one.ensures.len);
      capacity = omega (arith, l.invariant.capacity, c.claim_one.ensures.capacity);
      reported = λ i. c.claim_one.ensures.reported i ∙ l.invariant.reported i;
      each = λ i re below. cell_claimed c.args.from l.k i (in_mask a.mask re) (Some (claim_of a)) (claim_in (get_or old i no_claims) re) (claim_in (get_or mid i no_claims) re) (claim_in (get_or new i no_claims) re) l.auto.k
          (λ e. subst (λ (j : ℕ). claim_in (get_or new j no_claims) re ≡ (if in_mask a.mask re then Some (claim_of a) else claim_in (get_or mid j no_claims) re)) (sym e) (c.claim_one.ensures.here re below))
          (λ ne. ap (λ (m : CellClaims). claim_in m re) (c.claim_one.ensures.others i ne)) (l.invariant.each i re below);
      kept = λ i out. cell_kept c.args.from l.k i (get_or old i no_claims) (get_or mid i no_claims) (get_or new i no_claims) l.auto.k (c.claim_one.ensures.others i) (l.invariant.kept i) out;
    }

pub returns : goal.returns
returns c =
    let l = c.loop-k in
    let a = c.args.a.now in
    let all : l.k - c.args.from ≡ c.args.count = omega (arith, c.loop-k-test.false, l.auto.k-end) in
    record {
      each = λ i re below. subst (λ (n : ℕ). claim_in (get_or l.claims.items i no_claims) re
          ≡ (if is_from c.args.from n i && in_mask a.mask re then Some (claim_of a) else claim_in (get_or c.args.claims.now.items i no_claims) re)) all (l.invariant.each i re below);
      others = λ i out. l.invariant.kept i (ap (λ (n : ℕ). is_from c.args.from n i) all ∙ out);
      reported = l.invariant.reported;
      capacity = l.invariant.capacity;
    }
