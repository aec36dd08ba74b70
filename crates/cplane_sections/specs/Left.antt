-- What an iterator over sections has left.
use Rattle.std.specs.Prelude.{List}
use Rattle.cplane_sections.specs.declared.values.CSection.{CSection}
use Rattle.cplane_sections.specs.declared.iterating.Sections.{Sections}
use Rattle.cplane_sections.specs.Header.{kind_of}
use Rattle.cplane_sections.specs.Message.{sections_of}

abbrev pub left_of : Sections → List CSection
left_of it = sections_of it.left (kind_of it.body) it.bytes.now it.place it.symbol
