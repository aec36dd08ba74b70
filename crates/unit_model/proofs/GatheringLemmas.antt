-- Items that are gathered one after the other.
use Rattle.std.proofs.Common.{[], ◌≡◌, ◌+◌, ◌-◌, List, ◌∷◌, ◌++◌, refl}
use Rattle.uplane_sections.specs.Messages.{Item}
use Rattle.unit_model.specs.Decoding.{Gathering, with_item, gathered}

pub gathered-append : (g : Gathering) (xs ys : List Item) → gathered g (xs ++ ys) ≡ gathered (gathered g xs) ys
unfolding gathered
gathered-append g [] ys = refl
gathered-append g (x ∷ xs) ys = gathered-append (with_item g x) xs ys
