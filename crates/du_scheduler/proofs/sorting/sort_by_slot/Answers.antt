-- By what the sort ensures.
use Rattle.std.proofs.Common.{rules}
use Rattle.std.proofs.lemmas.List.Sorted.{answers_always}
use Rattle.schedule_laws.proofs.SlotSortLemmas.{homes_stay, first_ranks}
use Rattle.du_scheduler.specs.declared.sorting.SlotKey.{SlotKey}
use Rattle.plan_model.specs.declared.lines.PlannedLine.{PlannedLine}
use Rattle.schedule_laws.specs.SlotOrder.{comes_first}
use Rattle.fh_base.proofs.OrderedLemmas.{ordered_from}
use Rattle.du_scheduler.proofs.sorting.sort_by_slot.Goals as goal

abbrev key_of : PlannedLine → SlotKey
key_of p = record { frame = p.line.slot.frame; subframe = p.line.slot.subframe; slot = p.line.slot.slot }

pub returns-clause-order : goal.returns-clause-order
returns-clause-order c = ordered_from comes_first first_ranks _ (c.in_ok-sort_by_key.ensures.sorted key_of (answers_always _ _ _ (λ f a r q k. search rules)))

pub returns-clause-homes : goal.returns-clause-homes
returns-clause-homes c = homes_stay _ _ (c.sort_by_key.ensures.stable key_of (answers_always _ _ _ (λ f a r q k. search rules)))
