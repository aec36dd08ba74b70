use Rattle.std.proofs.Common.{refl}
use Rattle.explain_records.proofs.UnitLemmas.{none_yet}
use Rattle.explain_records.proofs.fragment_records.FragmentRecords.make.Goals as goal

pub returns : goal.returns
returns c = record {
  side_is = refl;
  hold_is = c.hold_at.ensures;
  recorded = none_yet _ _ c.in_ok-last.last.items c.new.result.items c.new-2.result.items c.in_ok-last.ensures c.new.ensures.items c.new-2.ensures.items;
}
