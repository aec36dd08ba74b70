-- What a contract sees of the air for a unit's reports (this project's profile).
use Rattle.std.specs.Borrow.{GName}
use Rattle.unit_moments.specs.declared.reports.Reports.{Reports}

module _ {A : Type 0} where
  -- the ghost name of the reference to what it passes on to
  abbrev pub air_name : Reports A → GName
  air_name a = a.air.ghost_name

  -- and that itself
  abbrev pub air_of : Reports A → A
  air_of a = a.air.now
