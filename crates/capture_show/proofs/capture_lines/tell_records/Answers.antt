use Rattle.std.proofs.Common.{◌+◌, length, ap, ◌∙◌, arith, refl}
use Rattle.capture_records.specs.Left.{left_of}
use Rattle.capture_records.specs.Records.{arrived_of}
use Rattle.capture_show.specs.Messages.{records_lines}
use Rattle.capture_show.proofs.Pieces.{records_step, records_none}
use Rattle.capture_show.proofs.Telling.{so_far_none, so_far_more, so_far_all, so_far_stopped}
use Rattle.capture_show.proofs.capture_lines.tell_records.Goals as goal
use Rattle.fh_base.proofs.OwedTelling.{anyhow}

pub loop-entry-init : goal.loop-entry-init
loop-entry-init g c =
    let left = ap left_of c.into_iter-entry-iterator.ensures.into_iter_gives ∙ c.records-entry-items.ensures.records in
    let same = ap (λ it. length (left_of it)) c.into_iter-entry-iterator.ensures.into_iter_gives in
    record {
      so_far = so_far_none _ _ _ (ap (records_lines 1) left);
      few = omega (arith, same, c.records-entry-items.ensures.few);
      still = refl;
    }

pub loop-entry-preserved : goal.loop-entry-preserved
loop-entry-preserved g c =
    let n = c.loop-entry.number in
    let rest = left_of c.next.new.self in
    let left = records_step (n + 1) (arrived_of c.in-Some.entry) rest (left_of c.loop-entry.entry-iterator) c.in-Some.ensures.steps in
    let longer = ap (λ rs. length rs) c.in-Some.ensures.steps in
    record {
      so_far = so_far_more _ _ _ _ _ (records_lines (n + 1 + 1) rest) _ left c.loop-entry.invariant.so_far c.in_ok-tell_record.ensures.told;
      few = omega (arith, longer, c.loop-entry.invariant.few);
      still = c.in_ok-tell_record.ensures.cause ∙ c.loop-entry.invariant.still;
    }

pub returns-in_err-tell_record-clause-part : goal.returns-in_err-tell_record-clause-part
returns-in_err-tell_record-clause-part g c =
    let n = c.loop-entry.number in
    let rest = left_of c.next.new.self in
    let left = records_step (n + 1) (arrived_of c.in-Some.entry) rest (left_of c.loop-entry.entry-iterator) c.in-Some.ensures.steps in
    anyhow c.from_residual.result
    (so_far_stopped _ _ _ _ _ (records_lines (n + 1 + 1) rest) _ left c.loop-entry.invariant.so_far c.in_err-tell_record.ensures.part)

pub returns-clause-told : goal.returns-clause-told
returns-clause-told g c =
    so_far_all _ _ _ _ (records_none (c.loop-entry.number + 1) (left_of c.loop-entry.entry-iterator) c.in-None.ensures.steps.0) c.loop-entry.invariant.so_far
