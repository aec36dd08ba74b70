-- The names that a report prints for the reasons of a refusal.
use Rattle.std.specs.Prelude.{ℕ, List, codes}
use Rattle.uplane_sections.specs.declared.values.UWhy.{UWhy}
use Rattle.uplane_sections.specs.declared.values.UWhy.TheVariants.{Truncated, Version, SlotRange, SymbolRange, EveryOtherRb, PrbRange, Method}

abbrev pub name_of : UWhy → List ℕ
name_of Truncated = codes "Truncated"
name_of Version = codes "Version"
name_of SlotRange = codes "SlotRange"
name_of SymbolRange = codes "SymbolRange"
name_of EveryOtherRb = codes "EveryOtherRb"
name_of PrbRange = codes "PrbRange"
name_of Method = codes "Method"
