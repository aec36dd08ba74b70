use Rattle.std.proofs.Common.{◌≡◌, ℕ, ◌+◌, ◌*◌, ◌<◌, ◌≤◌, false, not, ◌&&◌, List, length, get_or, sym, subst, ap, ◌∙◌, arith}
use Rattle.std.proofs.lemmas.List.{take_all}
use Rattle.std.proofs.lemmas.Nat.{mul-le}
use Rattle.fh_base.proofs.Order.{symbols_few}
use Rattle.fh_base.specs.Numbering.{symbols_of}
use Rattle.window_config.specs.declared.plan.PlanLine.{PlanLine}
use Rattle.idle_spans.specs.Places.{is_index}
use Rattle.idle_text.specs.Free.{is_of_slot, is_touched, slot_at}
use Rattle.idle_text.proofs.FlagLemmas.{one_cleared}
use Rattle.idle_text.proofs.flags.clear_touched.Goals as goal

slot_inside : (k n s total : ℕ) → k < n → 0 < s → n * s ≤ total → k * s < total
slot_inside k n s total below some within =
    let product : (k + 1) * s ≤ n * s = mul-le (k + 1) s n s (omega arith) (omega arith) in
    let more : (k + 1) * s ≡ k * s + s = omega arith in
    omega (arith, product, more)

pub loop-index-preserved : goal.loop-index-preserved
loop-index-preserved c = record {
  cleared = λ first last cells t k below.
      let e = c.args.e.now in
      one_cleared (is_of_slot e (slot_at e.numerology first k)) c.args.lines.now c.loop-index.index c.line_at-line.result (get_or c.args.flags.now k false)
      (get_or c.loop-index.flags k false) (get_or c.clear.new.flags k false) (is_index c.touched_slot.result k)
      (subst (λ (n : ℕ). c.loop-index.index < n) c.len-index-end.ensures c.loop-index-test.true)
      c.line_at-line.ensures (c.loop-index.invariant.cleared first last cells t k below)
      (c.clear.ensures k (subst (λ (n : ℕ). k < n) (sym c.loop-index.auto.flags) below))
      (c.touched_slot.ensures first last cells t k
      (slot_inside k (length c.args.flags.now) (symbols_of e.numerology) _ below (symbols_few e.numerology).0 c.requires.size));
}

pub returns : goal.returns
returns c first last cells t k below =
    let e = c.args.e.now in
    c.loop-index.invariant.cleared first last cells t k below
    ∙ ap (λ (xs : List PlanLine). get_or c.args.flags.now k false && not (is_touched e xs (slot_at e.numerology first k)))
    (take_all _ c.args.lines.now (subst (λ (n : ℕ). n ≤ c.loop-index.index) c.len-index-end.ensures c.loop-index-test.false))
