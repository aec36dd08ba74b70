-- The reasons for which a capture is not written.
use Rattle.std.specs.Prelude.{ℕ, List, codes}
use Rattle.capture_records.specs.Refusals.{name_of as capture_name}
use Rattle.pcap_export.specs.declared.refusals.ExportWhy.{ExportWhy}
use Rattle.pcap_export.specs.declared.refusals.ExportWhy.TheVariants.{Capture, BeforeZero, LongFrame}

-- the name under which a reason is printed
abbrev pub name_of : ExportWhy → List ℕ
name_of (Capture why) = capture_name why
name_of BeforeZero = codes "BeforeZero"
name_of LongFrame = codes "LongFrame"
