-- By what the search ensures.
use Rattle.std.proofs.Common.{rules}
use Rattle.std.proofs.lemmas.List.Sorted.{IsPartitionPoint-from_clause}
use Rattle.explain_records.proofs.RecordLemmas.{parts_within}
use Rattle.explain_records.specs.Order.{is_within}
use Rattle.explain_records.proofs.records.end_of.Goals as goal

pub returns : goal.returns
returns g c = record {
  most = c.partition_point.ensures.bound;
  parted =
      IsPartitionPoint-from_clause (is_within g.R.Keyed.key_of c.args.wanted) _ _ c.partition_point.ensures.partitioned
      (parts_within g.R.Keyed.key_of c.args.wanted c.args.records.now c.requires) (λ a r f k. search rules);
}
