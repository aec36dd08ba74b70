-- What a contract sees of the air that writes count lines (this project's profile).
use Rattle.std.specs.Prelude.{ℕ, List}
use Rattle.std.specs.Borrow.{GName}
use Rattle.report_airs.specs.declared.count_air.CountAir.{CountAir}

module _ {K : Type 0} where
  -- the ghost name of the reference to the sink
  abbrev pub sink_name : CountAir K → GName
  sink_name a = a.sink.ghost_name

  -- the sink
  abbrev pub sink_of : CountAir K → K
  sink_of a = a.sink.now

  -- the bytes that are owed to the sink
  abbrev pub owed_of : CountAir K → List ℕ
  owed_of a = a.owed

  -- the line that is told next
  abbrev pub line_of : CountAir K → List ℕ
  line_of a = a.line
