-- What a contract sees of the air of a unit of a shared cell (this project's profile).
use Rattle.std.specs.Prelude.{ℕ, List}
use Rattle.std.specs.Borrow.{GName}
use Rattle.shared_cell.specs.declared.values.Mixed.{Mixed}
use Rattle.document_texts.specs.declared.unit_air.UnitAir.{UnitAir}

module _ {K : Type 0} where
  -- the ghost name of the reference to the sink
  abbrev pub sink_name : UnitAir K → GName
  sink_name a = a.sink.ghost_name

  -- the sink
  abbrev pub sink_of : UnitAir K → K
  sink_of a = a.sink.now

  -- the ghost name of the reference to the mixer
  abbrev pub mixer_name : UnitAir K → GName
  mixer_name a = a.mixer.ghost_name

  -- the combined cells of the mixer
  abbrev pub mixer_of : UnitAir K → List Mixed
  mixer_of a = a.mixer.now

  -- the bytes that are owed to the sink
  abbrev pub owed_of : UnitAir K → List ℕ
  owed_of a = a.owed

  -- the line that is told next
  abbrev pub line_of : UnitAir K → List ℕ
  line_of a = a.line
