use Rattle.std.proofs.Common.{rules, ap, sym, ◌∙◌}
use Rattle.frame_ways.proofs.RowLemmas.{listed_step, none_past, passed_step}
use Rattle.frame_ways.proofs.rows.listed.Goals as goal
use Rattle.frame_ways.proofs.rows.listed.Goals.{in-Some+then-is_of+in_ok-push, in-Some+else-is_of, in_default}

pub loop-place-preserved : goal.loop-place-preserved
loop-place-preserved c = elim c.match-get.branch [
  | in-Some+then-is_of+in_ok-push w ↦ record {
    items = listed_step c.args.side c.args.deliveries.now c.loop-place.place w.in-Some.delivery.now c.loop-place.rows.items c.match-get.rows.items (search rules) (sym w.is_of.ensures ∙ w.if-is_of.true) c.loop-place.invariant.items (search rules);
  }
  | in-Some+else-is_of w ↦ record {
    items = ap (λ v. v.items) w.rows-is ∙ passed_step c.args.side c.args.deliveries.now c.loop-place.place w.in-Some.delivery.now c.loop-place.rows.items (search rules) (sym w.is_of.ensures ∙ w.if-is_of.false) c.loop-place.invariant.items;
  }
  | in_default w ↦ record { items = absurd (none_past c.args.deliveries.now c.loop-place.place (search rules) (search rules)) }
]
