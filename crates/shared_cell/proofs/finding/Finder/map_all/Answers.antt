use Rattle.std.proofs.Common.{rules, ◌∙◌, ◌+◌, Some, cond, refl, ap}
use Rattle.std.specs.BTreeMap.{get, Updates}
use Rattle.std.specs.Ordering.{is_eq}
use Rattle.shared_cell.specs.declared.places.CellPlace.{CellPlace}
use Rattle.shared_cell.specs.Places.{place_cmp}
use Rattle.shared_cell.proofs.Finders.{mapped_more}
use Rattle.shared_cell.proofs.finding.Finder.map_all.Goals as goal

pub loop-k-preserved : goal.loop-k-preserved
loop-k-preserved c =
    let k = c.loop-k.k in
    let updates : Updates place_cmp c.loop-k.self.map c.insert.new.self c.place_in.result (Some k) = search rules in
    record {
      finds =
          mapped_more c.loop-k.self (record { greatest = c.loop-k.self.greatest; map = c.insert.new.self; mapped = k + 1 }) c.args.mixed.now k _
          c.loop-k.invariant.finds c.loop-k.invariant.mapped c.loop-k-test.true
          (λ q. updates.0 q ∙ ap (λ (p : CellPlace). cond (is_eq (place_cmp p q)) (Some k) (get place_cmp c.loop-k.self.map q)) c.place_in.ensures) refl refl;
      mapped = refl;
    }
