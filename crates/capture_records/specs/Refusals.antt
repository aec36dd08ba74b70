-- The reasons for which a capture is refused.
use Rattle.std.specs.Prelude.{ℕ, List, codes}
use Rattle.capture_records.specs.declared.refusals.CaptureWhy.{CaptureWhy}
use Rattle.capture_records.specs.declared.refusals.CaptureWhy.TheVariants.{Magic, Cut, Way}

-- the name under which a reason is printed
abbrev pub name_of : CaptureWhy → List ℕ
name_of Magic = codes "Magic"
name_of Cut = codes "Cut"
name_of Way = codes "Way"
