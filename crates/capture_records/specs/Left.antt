-- What an iterator over records has left.
use Rattle.std.specs.Prelude.{List}
use Rattle.capture_records.specs.declared.iterating.Records.{Records}
use Rattle.capture_records.specs.Reading.{records_from}
use Rattle.capture_records.specs.Records.{Arrived}

-- the arrivals of the records that are left
abbrev pub left_of : Records → List Arrived
left_of it = records_from 0 it.rest.now
