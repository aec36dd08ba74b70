-- The records between the two places.
use Rattle.std.proofs.Common.{subst, rules, ◌∙◌, ap}
use Rattle.explain_records.specs.Keys.{of_symbol}
use Rattle.explain_records.specs.Order.{IsEndOf, IsFirstFrom}
use Rattle.explain_records.proofs.RecordLemmas.{found, in_bounds}
use Rattle.explain_records.proofs.records.OrderedRecords.of_symbol.Goals as goal

pub slice_bounds-result-count : goal.slice_bounds-result-count
slice_bounds-result-count g c = in_bounds g.R.Keyed.key_of c.order_of-wanted.result _ _ _ c.first_from-first.ensures c.end_of-end.ensures

pub slice_bounds-result-start : goal.slice_bounds-result-start
slice_bounds-result-start g c =
    let le = in_bounds g.R.Keyed.key_of c.order_of-wanted.result _ _ _ c.first_from-first.ensures c.end_of-end.ensures in search rules

pub returns : goal.returns
returns g c =
    found g.R.Keyed.key_of c.args.key c.as_slice-records.result.now c.first_from-first.result c.end_of-end.result
    (subst (λ w. IsFirstFrom g.R.Keyed.key_of w c.as_slice-records.result.now c.first_from-first.result) c.order_of-wanted.ensures c.first_from-first.ensures)
    (subst (λ w. IsEndOf g.R.Keyed.key_of w c.as_slice-records.result.now c.end_of-end.result) c.order_of-wanted.ensures c.end_of-end.ensures)
    ∙ ap (of_symbol g.R.Keyed.key_of c.args.key) (search rules)
