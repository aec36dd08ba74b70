use Rattle.std.proofs.Common.{◌≡◌, ℕ, Bool, ◌+◌, ◌∙◌, ap, arith, get_or}
use Rattle.std.specs.Prelude.{◌||◌}
use Rattle.unit_model.specs.Claims.{is_from}
use Rattle.slot_rings.specs.Places.{claim_in, is_in_use, is_reported, no_claims}
use Rattle.slot_rings.specs.declared.claims.CellClaims.{CellClaims}
use Rattle.slot_rings.proofs.ReportedLemmas.{blank_reported, reported_just, reported_others}
use Rattle.slot_rings.proofs.RowLemmas.{rows_same}
use Rattle.slot_rings.proofs.place.set_used_reported.Goals as goal

pub loop-k-preserved : goal.loop-k-preserved
loop-k-preserved c =
    let l = c.loop-k in
    let m = c.set_reported in
    let uses : ℕ → Bool = λ n. is_in_use (claim_in (get_or c.args.claims.now.items n no_claims)) in
    let used = c.is_used-used.ensures ∙ ap (λ (x : CellClaims). is_in_use (claim_in x)) (l.invariant.claims (c.args.from + l.k)) in
    record {
      here = reported_just (is_reported c.args.claims.now.items) (is_reported l.claims.items) (is_reported m.new.claims.items) uses c.args.from l.k l.invariant.others m.ensures.others l.invariant.here
          (m.ensures.here ∙ ap (λ (u : Bool). is_reported l.claims.items (c.args.from + l.k) || u) used);
      others = reported_others (is_reported c.args.claims.now.items) (is_reported l.claims.items) (is_reported m.new.claims.items) uses c.args.from l.k l.invariant.others m.ensures.others;
      claims = λ i. m.ensures.claims i ∙ l.invariant.claims i;
      len = omega (arith, l.invariant.len, m.ensures.len);
      capacity = omega (arith, l.invariant.capacity, m.ensures.capacity);
    }

pub returns-clause-rows : goal.returns-clause-rows
returns-clause-rows c prbs rows = rows_same prbs c.args.claims.now.items c.loop-k.claims.items rows c.loop-k.invariant.claims

pub returns-clause-blank : goal.returns-clause-blank
returns-clause-blank c prbs spans are = record {
  each = λ k none.
      blank_reported c.args.claims.now.items c.loop-k.claims.items c.args.from c.args.count k
      (λ j below. c.loop-k.invariant.here j (omega (arith, below, c.loop-k-test.false)))
      (λ i out. c.loop-k.invariant.others i (ap (λ (n : ℕ). is_from c.args.from n i) (let e : c.loop-k.k ≡ c.args.count = omega (arith, c.loop-k-test.false, c.loop-k.auto.k-end) in e) ∙ out))
      c.loop-k.invariant.claims (are.each k none);
}
