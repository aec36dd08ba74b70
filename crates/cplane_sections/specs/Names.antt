-- The names of the reasons.
use Rattle.std.specs.Prelude.{ℕ, List, codes}
use Rattle.cplane_sections.specs.declared.values.CWhy.{CWhy}
use Rattle.cplane_sections.specs.declared.values.CWhy.TheVariants.{Truncated, Version, SectionType, SlotRange, SymbolRange, NoSections, EveryOtherRb, Extension, Trailing}

-- the name under which a reason is printed: its own
abbrev pub name_of : CWhy → List ℕ
name_of Truncated = codes "Truncated"
name_of Version = codes "Version"
name_of SectionType = codes "SectionType"
name_of SlotRange = codes "SlotRange"
name_of SymbolRange = codes "SymbolRange"
name_of NoSections = codes "NoSections"
name_of EveryOtherRb = codes "EveryOtherRb"
name_of Extension = codes "Extension"
name_of Trailing = codes "Trailing"
