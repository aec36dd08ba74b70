-- The grammar reads the proposed lines.
use Rattle.std.proofs.Common.{ℕ, ◌+◌, ◌-◌, ◌*◌, ◌/◌, ◌<◌, ◌≤◌, ◌^◌, sym, ap, subst, ◌∙◌, arith}
use Rattle.std.proofs.lemmas.Int.{ints}
use Rattle.std.proofs.lemmas.Nat.{div_below, mul-le}
use Rattle.fh_base.proofs.Order.{slots_few, symbols_few}
use Rattle.fh_base.specs.Numbering.{slots_of, symbols_of}
use Rattle.fh_base.specs.declared.numerology.Numerology.{Numerology}
use Rattle.window_config.specs.declared.endpoints.EndpointConfig.{EndpointConfig}
use Rattle.window_config.specs.declared.plan.PlanLine.{PlanLine}
use Rattle.fh_document.specs.Proper.{IsPlanLine}
use Rattle.fh_document.proofs.PlanLemmas.{plan_read}
use Rattle.idle_spans.specs.Symbols.{frame_symbols}
use Rattle.idle_spans.specs.Tables.{AreFrames}
use Rattle.idle_spans.proofs.NumberLemmas.{frame_at, frame_few, frame_is, symbol_proper}
use Rattle.idle_text.specs.Lines.{idle_line}
use Rattle.idle_text.specs.Free.{slot_at, slot_count}
use Rattle.idle_laws.specs.Proposals.{ProposedAreRead}
use Rattle.idle_laws.proofs.ProposedLemmas.{proposed_is}
use Rattle.fh_base.proofs.MadeLists.{in_all}
use Rattle.fh_base.proofs.Orders.{product_grouped}

-- a slot of the frames is in one of them
frame_below : (n : Numerology) (first last k : ℕ) → AreFrames first last → k < slot_count n first last → first + k * symbols_of n / frame_symbols n ≤ last
frame_below n first last k frames below =
    let few = (frame_few n).0 in
    let order = frames.order in
    let some = (symbols_few n).0 in
    let inside : k * symbols_of n < (last + 1 - first) * frame_symbols n =
    subst (λ (x : ℕ). k * symbols_of n < x) (sym (product_grouped (last + 1 - first) (10 * slots_of n) (symbols_of n)) ∙ ap (λ (f : ℕ). (last + 1 - first) * f) (sym (frame_is n)))
    (times_lt k (slot_count n first last) (symbols_of n) below some) in
    let less : k * symbols_of n / frame_symbols n < last + 1 - first = div_below (k * symbols_of n) (frame_symbols n) (last + 1 - first) few inside in
    omega (arith, less, order)
  where
    times_lt : (a b s : ℕ) → a < b → 0 < s → a * s < b * s
    times_lt a b s h some =
        let more : (a + 1) * s ≤ b * s = mul-le (a + 1) s b s (omega arith) (omega arith) in
        omega (arith, more, some)

line_fits : (e : EndpointConfig) (first last k : ℕ) → AreFrames first last → k < slot_count e.numerology first last → IsPlanLine (idle_line e (slot_at e.numerology first k))
line_fits e first last k frames below =
    let n = e.numerology in
    let proper = symbol_proper n first (k * symbols_of n) in
    let frame = frame_at n first (k * symbols_of n) in
    let inside = frame_below n first last k frames below in
    let slots = (slots_few n).1 in
    let symbols = (symbols_few n).1 in
    let low = frames.low in
    let high = frames.high in
    let subframe = proper.subframe in
    let slot = proper.slot in
    record {
      frame = record { low = omega (arith, ints, frame, low); high = omega (arith, ints, frame, inside, high) };
      subframe = omega (arith, subframe);
      slot = omega (arith, slot, slots);
      symbol = omega arith;
      count = omega (arith, symbols);
      start_prb = omega arith;
      num_prb = omega arith;
      mask = omega arith;
      section = omega arith;
      beam = omega arith;
    }

pub are_proposed_read : ProposedAreRead
are_proposed_read es lines first last cells min ids frames r n line later reached m =
    let p = proposed_is first last cells min lines es line m in
    let fits = subst IsPlanLine (sym p.is) (line_fits p.e first last p.k frames p.below) in
    let id = subst (λ (l : PlanLine). l.id < 2 ^ 16) (sym p.is) (in_all (λ (e : EndpointConfig). e.id < 2 ^ 16) p.e es ids p.there) in
    let num = subst (λ (l : PlanLine). l.num_prb < 2 ^ 8) (sym p.is) (omega arith) in
    plan_read r n line later reached fits id num
