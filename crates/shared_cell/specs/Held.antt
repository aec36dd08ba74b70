-- What a mixer keeps true of its combined cells.
use Rattle.std.specs.List.{All}
use Rattle.shared_cell.specs.declared.mixing.Mixer.TheInside.{Inside}
use Rattle.shared_cell.specs.Finding.{Finds}
use Rattle.shared_cell.specs.Joined.{IsBounded}

-- each combined cell is found by its place, and the sums are bounded
pub record KeepsPlaces (m : Inside) : Type 0 where
  pub finds : Finds m.finder m.mixed.items
  pub bounded : All IsBounded m.mixed.items
