-- The grammar: what a text says, or its first line that is refused.
use Rattle.std.specs.Prelude.{ℕ, ◌+◌, List, [], ◌∷◌, length, ◌==◌, if◌then◌else◌, Result, Ok, Err}
use Rattle.std.specs.List.{slice_split}
use Rattle.fh_document.specs.declared.document.Document.{Document}
use Rattle.fh_document.specs.declared.document.Reading.{Reading}
use Rattle.fh_document.specs.declared.refusals.DocWhy.{DocWhy}
use Rattle.fh_document.specs.declared.refusals.DocWhy.TheVariants.{FirstLine}
use Rattle.fh_document.specs.Words.{without_last_feed}
use Rattle.fh_document.specs.Lines.{start, line_of}

-- the document that the lines say
abbrev pub finished : Reading → Document
finished r = record {
  config = record { widths = r.settings.widths; delays = r.settings.delays; gap = r.settings.gap; fragment = r.settings.fragment; pack = r.settings.pack; endpoints = r.endpoints };
  plan = r.plan;
  plan_lines = r.plan_lines;
  source = r.settings.source;
  antenna = r.settings.antenna;
  comps = r.settings.comps;
  transits = r.settings.transits;
  deliveries = r.deliveries;
  injections = r.injections;
  measures = r.measures;
}

abbrev pub after_line : {X : Type 0} → Result Reading DocWhy → (Reading → X) → (DocWhy → X) → X
after_line (Ok r) next fail = next r
after_line (Err why) next fail = fail why

-- the lines from the number n on
abbrev pub read_from : ℕ → Reading → List (List ℕ) → Result Document (ℕ × DocWhy)
read_from n r [] = Ok (finished r)
read_from n r (line ∷ lines) = after_line (line_of r n line) (λ next. read_from (n + 1) next lines) (λ why. Err (n, why))

-- the document that all lines of a text say; where there is no line, the first is missing
abbrev pub document_of : List ℕ → Result Document (ℕ × DocWhy)
document_of text = if length text == 0 then Err (1, FirstLine)
    else read_from 1 start (slice_split (λ b. b == 10) (without_last_feed text))
