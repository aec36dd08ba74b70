use Rattle.std.proofs.Common.{◌≡◌, ◌∙◌, Bool, true, false, Some, cond, refl, ap, sym}
use Rattle.shared_cell.specs.declared.places.CellPlace.{CellPlace}
use Rattle.shared_cell.specs.Finding.{index_of, is_beyond}
use Rattle.shared_cell.specs.Places.{place_in}
use Rattle.shared_cell.proofs.Finders.{finds_pushed}
use Rattle.shared_cell.proofs.finding.Finder.add.Goals as goal

-- the place is the greatest now
pub returns-then-is_beyond : goal.returns-then-is_beyond
returns-then-is_beyond c = λ ms m finds at new.
    let old = c.args.self.now in
    let beyond : is_beyond old.greatest (place_in m) ≡ true = ap (is_beyond old.greatest) at ∙ sym c.is_beyond.ensures ∙ c.if-is_beyond.true in
    finds_pushed old (record { greatest = Some c.args.place; map = old.map; mapped = old.mapped }) ms m finds (ap (λ (p : CellPlace). index_of p ms) at ∙ new) refl refl
    (ap (λ (p : CellPlace). Some p) (sym at) ∙ sym (ap (λ (b : Bool). cond b (Some (place_in m)) old.greatest) beyond))

-- the greatest stays
pub returns-else-is_beyond : goal.returns-else-is_beyond
returns-else-is_beyond c = λ ms m finds at new.
    let old = c.args.self.now in
    let below : is_beyond old.greatest (place_in m) ≡ false = ap (is_beyond old.greatest) at ∙ sym c.is_beyond.ensures ∙ c.if-is_beyond.false in
    finds_pushed old (record { greatest = old.greatest; map = old.map; mapped = old.mapped }) ms m finds (ap (λ (p : CellPlace). index_of p ms) at ∙ new) refl refl
    (sym (ap (λ (b : Bool). cond b (Some (place_in m)) old.greatest) below))
