-- The first cell of a place is at the end, where it is found.
use Rattle.std.proofs.Common.{rules, ◌≡◌, ◌∙◌, ap, sym, subst, List, [], ◌∷◌, ◌++◌, None, All}
use Rattle.std.proofs.lemmas.List.Elements.{All-push}
use Rattle.shared_cell.specs.declared.places.CellPlace.{CellPlace}
use Rattle.shared_cell.specs.declared.values.Mixed.{Mixed}
use Rattle.shared_cell.specs.Finding.{Finds, index_of}
use Rattle.shared_cell.specs.Joined.{joined, joined_at, opened, IsBounded}
use Rattle.shared_cell.specs.Places.{place_in, place_of}
use Rattle.shared_cell.proofs.Found.{joined_at-first, place_in-joined}
use Rattle.shared_cell.proofs.mixing.Mixer.open.Goals as goal

pub invariant_of-self-2 : goal.invariant_of-self-2
invariant_of-self-2 c =
    let items = c.self.inside.mixed.items in
    let cell = c.args.c.now in
    let m = c.join.new.mixed in
    let is : m ≡ joined cell (opened cell) = c.join.ensures.value ∙ ap (joined cell) c.opened-mixed.ensures.value in
    let at : place_in m ≡ c.args.place = ap (λ (x : Mixed). place_in x) is ∙ place_in-joined cell (opened cell) ∙ sym c.requires.place in
    let first : index_of c.args.place items ≡ None = ap (index_of c.args.place) c.self.view_is ∙ c.requires.first in
    let pushed : c.push.new.self.items ≡ items ++ m ∷ [] = search rules in
    record {
      finds = subst (λ (xs : List Mixed). Finds c.add.new.self xs) (sym pushed) (c.add.ensures items m c.self.invariant.finds at first);
      bounded = subst (λ (xs : List Mixed). All IsBounded xs) (sym pushed) (All-push IsBounded items m c.self.invariant.bounded c.join.ensures.bounded);
    }

pub returns-clause-ok : goal.returns-clause-ok
returns-clause-ok c =
    let items = c.self.inside.mixed.items in
    let cell = c.args.c.now in
    let is : c.join.new.mixed ≡ joined cell (opened cell) = c.join.ensures.value ∙ ap (joined cell) c.opened-mixed.ensures.value in
    let first : index_of (place_of cell) items ≡ None =
    ap (λ (p : CellPlace). index_of p items) (sym c.requires.place) ∙ ap (index_of c.args.place) c.self.view_is ∙ c.requires.first in
    let pushed : c.push.new.self.items ≡ items ++ c.join.new.mixed ∷ [] = search rules in
    pushed ∙ ap (λ (m : Mixed). items ++ m ∷ []) is ∙ joined_at-first cell items first ∙ ap (joined_at cell) c.self.view_is
