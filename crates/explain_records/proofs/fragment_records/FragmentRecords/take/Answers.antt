use Rattle.explain_records.proofs.UnitLemmas.{answers_rest, answers_take}
use Rattle.explain_records.proofs.fragment_records.FragmentRecords.take.Goals as goal

pub returns-then-is_time : goal.returns-then-is_time
returns-then-is_time c = record {
  ok = answers_take c.args.number c.args.heard.now _ _ _ _ c.told.ensures c.put.ensures.ok;
  err = answers_rest _ _ _ c.put.ensures.err;
}
