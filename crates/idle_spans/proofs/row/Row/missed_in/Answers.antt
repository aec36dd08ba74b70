use Rattle.std.proofs.Common.{arith, ◌≡◌, ◌∙◌, ◌+◌, ℕ, sym, ap, ap₂, Bool, if◌then◌else◌}
use Rattle.idle_spans.specs.Scans.{row_missing}
use Rattle.idle_spans.proofs.RunLemmas.{count_none, count_more}
use Rattle.idle_spans.proofs.TableLemmas.{few_seen, missing_read, byte_is, byte_few}
use Rattle.idle_spans.proofs.row.Row.missed_in.Goals as goal

pub loop-k-init : goal.loop-k-init
loop-k-init c = record { counted = sym (count_none (row_missing c.args.self.now) c.args.first); few = omega arith }

pub overflow_add-missed : goal.overflow_add-missed
overflow_add-missed c = omega (arith, few_seen _ c.args.self.now c.self.view_is c.self.invariant, byte_few _ _ c.from-missed.ensures)

pub loop-k-preserved : goal.loop-k-preserved
loop-k-preserved c =
    let read : c.index.result.now.missed ≡ row_missing c.args.self.now (c.args.first + c.loop-k.k) =
    missing_read _ c.args.self.now (c.args.first + c.loop-k.k) c.index.result.now c.self.view_is (omega (arith, c.requires)) c.index.ensures in
    record {
      counted =
          ap₂ (λ (x y : ℕ). x + y) c.loop-k.invariant.counted (c.from-missed.ensures ∙ byte_is c.index.result.now.missed ∙ ap (λ (b : Bool). if b then 1 else 0) read)
          ∙ sym (count_more (row_missing c.args.self.now) c.args.first c.loop-k.k);
      few = omega (arith, byte_few _ _ c.from-missed.ensures);
    }
