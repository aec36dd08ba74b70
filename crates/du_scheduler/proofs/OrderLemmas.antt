-- What is sent is all frames of all messages, in order.
use Rattle.std.proofs.Common.{ap, sym, ◌∙◌, List}
use Rattle.std.specs.Int.{int_gap}
use Rattle.std.specs.Prelude.{pos, ◌+ℤ◌}
use Rattle.unit_model.specs.Radiated.{first_clock}
use Rattle.unit_model.specs.Times.{end_of_time}
use Rattle.plan_model.specs.Lines.{planned}
use Rattle.plan_model.specs.Sent.{frames_from, sent}
use Rattle.du_scheduler.specs.Turns.{times}
use Rattle.du_scheduler.specs.declared.turns.Turn.{Turn}
use Rattle.du_scheduler.specs.Runs.{SentIsInOrder}
use Rattle.schedule_laws.proofs.SentTimeLemmas.{all_in_time}
use Rattle.du_scheduler.proofs.CountLemmas.{ticks_count}
use Rattle.schedule_laws.proofs.SentOrderLemmas.{frames_kept}
use Rattle.du_scheduler.proofs.KeptLemmas.{rising_of, ticks_kept}
use Rattle.plan_model.specs.SentOrder.{at_time}
use Rattle.du_scheduler.proofs.RunLemmas.{runs_are}
use Rattle.fh_base.specs.Lists.{each_tick}

pub sent_is_in_order : SentIsInOrder
unfolding sent
sent_is_in_order c lines config fit valid =
    let ps = planned c.endpoints lines in
    let all = frames_from c ps 0 c.endpoints in
    let count = int_gap first_clock (end_of_time +ℤ pos 1) in
    record {
      rising = rising_of (each_tick first_clock count (at_time all)) (ticks_kept all first_clock count (frames_kept c ps 0 c.endpoints));
      same = λ t. ticks_count t all first_clock count (all_in_time c lines config fit valid) ∙ sym (ap (λ (l : List Turn). times t l) (runs_are c ps 0 c.endpoints));
    }
