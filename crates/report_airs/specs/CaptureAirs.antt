-- What a contract sees of the air that writes a capture (this project's profile).
use Rattle.std.specs.Prelude.{ℕ, List}
use Rattle.std.specs.Borrow.{GName}
use Rattle.report_airs.specs.declared.capture_air.CaptureAir.{CaptureAir}

module _ {K : Type 0} where
  -- the ghost name of the reference to the sink
  abbrev pub sink_name : CaptureAir K → GName
  sink_name a = a.sink.ghost_name

  -- the sink
  abbrev pub sink_of : CaptureAir K → K
  sink_of a = a.sink.now

  -- the bytes that are owed to the sink
  abbrev pub owed_of : CaptureAir K → List ℕ
  owed_of a = a.owed
