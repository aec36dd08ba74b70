-- The symbol that the header of a whole message names, by its first four bytes.
use Rattle.std.specs.Prelude.{ℕ, ℤ, List, nat_lt, if◌then◌else◌, Option, None}
use Rattle.explain_heard.specs.declared.heard.WholeHeard.{WholeHeard}
use Rattle.explain_model.specs.Sections.{symbol_named}
use Rattle.fh_base.specs.declared.numerology.Numerology.{Numerology}
use Rattle.fh_base.specs.declared.values.Slot.{Slot}

-- of a message of so many bytes
abbrev pub named_in : Numerology → ℕ → List ℕ → ℤ → Option (Slot × ℕ)
named_in n bytes start at = if nat_lt bytes 4 then None else symbol_named n start at

abbrev pub whole_named : WholeHeard → Option (Slot × ℕ)
whole_named w = named_in w.endpoint.numerology w.bytes w.start w.last.0
