-- By what the search ensures.
use Rattle.std.proofs.Common.{rules}
use Rattle.std.proofs.lemmas.List.Sorted.{IsPartitionPoint-from_clause}
use Rattle.explain_records.proofs.RecordLemmas.{parts_below}
use Rattle.explain_records.specs.Order.{is_below}
use Rattle.explain_records.proofs.records.first_from.Goals as goal

pub returns : goal.returns
returns g c = record {
  most = c.partition_point.ensures.bound;
  parted =
      IsPartitionPoint-from_clause (is_below g.R.Keyed.key_of c.args.wanted) _ _ c.partition_point.ensures.partitioned
      (parts_below g.R.Keyed.key_of c.args.wanted c.args.records.now c.requires) (λ a r f k. search rules);
}
