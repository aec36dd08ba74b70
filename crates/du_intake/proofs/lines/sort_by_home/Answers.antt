-- By what the sort ensures.
use Rattle.std.proofs.Common.{rules}
use Rattle.std.proofs.lemmas.List.Sorted.{answers_always}
use Rattle.du_intake.specs.declared.lines.HomeKey.{HomeKey}
use Rattle.du_intake.specs.declared.lines.UplinkLine.{UplinkLine}
use Rattle.du_intake.proofs.HomeLemmas.{homes_stay, in_order}
use Rattle.du_intake.proofs.lines.sort_by_home.Goals as goal

abbrev key_of : UplinkLine → HomeKey
key_of l = record { ep = l.ep; frame = l.slot.frame; subframe = l.slot.subframe; slot = l.slot.slot }

pub returns-clause-order : goal.returns-clause-order
returns-clause-order c = in_order _ (c.in_ok-sort_by_key.ensures.sorted key_of (answers_always _ _ _ (λ f a r q k. search rules)))

pub returns-clause-homes : goal.returns-clause-homes
returns-clause-homes c = homes_stay _ _ (c.sort_by_key.ensures.stable key_of (answers_always _ _ _ (λ f a r q k. search rules)))
