use Rattle.explain_records.proofs.UnitLemmas.{answers_unfinished}
use Rattle.explain_records.proofs.fragment_records.FragmentRecords.unfinished.Goals as goal

pub returns : goal.returns
returns c = answers_unfinished (λ v. v.items) c.args.self.now _ _ c.as_slice.ensures.value c.unfinished_of.ensures
