-- The reasons for which a frame is refused.
use Rattle.std.specs.Prelude.{ℕ, List, codes}
use Rattle.ecpri_frames.specs.declared.refusals.PduWhy.{PduWhy}
use Rattle.ecpri_frames.specs.declared.refusals.PduWhy.TheVariants.{Revision, Truncated, NoPadding}

-- the name under which a reason is printed
abbrev pub name_of : PduWhy → List ℕ
name_of Revision = codes "Revision"
name_of Truncated = codes "Truncated"
name_of NoPadding = codes "NoPadding"
