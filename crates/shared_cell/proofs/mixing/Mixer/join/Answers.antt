-- The cell is joined to the combined cell of its place.
use Rattle.std.proofs.Common.{arith, ◌≡◌, ◌∙◌, ap, sym, subst, Some, set, get_or}
use Rattle.std.proofs.lemmas.List.Elements.{All-set}
use Rattle.shared_cell.specs.declared.values.Mixed.{Mixed}
use Rattle.shared_cell.specs.Finding.{index_of}
use Rattle.shared_cell.specs.Joined.{joined_at, joined_or_left, IsBounded}
use Rattle.shared_cell.specs.Places.{place_in, place_of}
use Rattle.shared_cell.proofs.Finders.{finds_set}
use Rattle.shared_cell.proofs.Found.{index_of-within, joined_at-found, place_in-joined_or_left}
use Rattle.shared_cell.proofs.mixing.Mixer.join.Goals as goal

pub index_mut-requires : goal.index_mut-requires
index_mut-requires c =
    let within = index_of-within (place_of c.args.c.now) c.self.inside.mixed.items c.args.index (ap (index_of (place_of c.args.c.now)) c.self.view_is ∙ c.requires) in
    omega (arith, c.self.inside.mixed.ok.0, within)

pub join_or_leave-requires : goal.join_or_leave-requires
join_or_leave-requires c =
    let within = index_of-within (place_of c.args.c.now) c.self.inside.mixed.items c.args.index (ap (index_of (place_of c.args.c.now)) c.self.view_is ∙ c.requires) in
    subst (λ (m : Mixed). IsBounded m) (sym c.index_mut.ensures.value) (c.self.invariant.bounded c.args.index c.index_mut.result.now within)

pub overflow_add-index : goal.overflow_add-index
overflow_add-index c =
    let within = index_of-within (place_of c.args.c.now) c.self.inside.mixed.items c.args.index (ap (index_of (place_of c.args.c.now)) c.self.view_is ∙ c.requires) in
    omega (arith, c.self.inside.mixed.ok.0, c.len-count.ensures, c.len-count.type_inv, within)

pub invariant_of-self : goal.invariant_of-self
invariant_of-self c =
    let items = c.self.inside.mixed.items in
    let k = c.args.index in
    let got = c.index_mut.result.now in
    let within = index_of-within (place_of c.args.c.now) items k (ap (index_of (place_of c.args.c.now)) c.self.view_is ∙ c.requires) in
    let at : place_in c.join_or_leave.new.mixed ≡ place_in (get_or items k got) =
    ap (λ (m : Mixed). place_in m) (c.join_or_leave.ensures.value) ∙ place_in-joined_or_left c.args.c.now got ∙ ap (λ (m : Mixed). place_in m) c.index_mut.ensures.value in
    record {
      finds = finds_set c.self.inside.finder items k c.join_or_leave.new.mixed got c.self.invariant.finds within at;
      bounded = All-set IsBounded items k c.join_or_leave.new.mixed c.join_or_leave.ensures.bounded c.self.invariant.bounded;
    }

pub returns : goal.returns
returns c =
    let items = c.self.inside.mixed.items in
    let k = c.args.index in
    let cell = c.args.c.now in
    let got = c.index_mut.result.now in
    let found : index_of (place_of cell) items ≡ Some k = ap (index_of (place_of cell)) c.self.view_is ∙ c.requires in
    ap (set items k) (c.join_or_leave.ensures.value ∙ ap (joined_or_left cell) c.index_mut.ensures.value)
    ∙ joined_at-found cell items k got found ∙ ap (joined_at cell) c.self.view_is
