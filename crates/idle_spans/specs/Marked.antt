-- The mark of a symbol of which no cell was marked.
use Rattle.std.specs.Prelude.{false}
use Rattle.idle_spans.specs.declared.places.Mark.{Mark}

abbrev pub no_mark : Mark
no_mark = record { shown = false; missed = false }
