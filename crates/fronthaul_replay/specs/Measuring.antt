-- How both units' meters relate to a document at a tick (this project's profile).
use Rattle.std.specs.Prelude.{ℤ, pos, ◌+ℤ◌, List, map}
use Rattle.air_source.specs.declared.events.Side.TheVariants.{Ru, Du}
use Rattle.document_traffic.specs.Replayed.{doings_at}
use Rattle.delay_laws.specs.Ticks.{Begin}
use Rattle.document_traffic.specs.Settings.{begin_of, compensation_of}
use Rattle.fh_document.specs.declared.document.Document.{Document}
use Rattle.unit_meters.specs.Begins.{MetersStand}
use Rattle.unit_meters.specs.declared.meters.Meters.{Meters}
use Rattle.fronthaul_replay.specs.Waiting.{begun_at}

-- the measurements that a document begins
abbrev pub begins_for : Document → List Begin
begins_for d = map begin_of d.measures

-- at the start of a tick
abbrev pub MeasuresWait : Document → ℤ → Meters → Type 0
MeasuresWait d now m = MetersStand (begins_for d) now (compensation_of d Ru) (compensation_of d Du) (doings_at d Ru now) (doings_at d Du now) m

-- once the measurements of a tick have begun
abbrev pub HaveBegun : Document → ℤ → Meters → Type 0
HaveBegun d tick m = MetersStand (begins_for d) (tick +ℤ pos 1) (compensation_of d Ru) (compensation_of d Du) (begun_at d Ru tick) (begun_at d Du tick) m
