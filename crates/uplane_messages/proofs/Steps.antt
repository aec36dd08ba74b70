-- What a walk gives next, where what it has left is known to be whole.
use Rattle.std.proofs.Common.{List, [], ◌∷◌}
use Rattle.uplane_sections.specs.Messages.{Item}

-- the items without the first
unfoldable pub tail_of : List Item → List Item
tail_of [] = []
tail_of (i ∷ items) = items
