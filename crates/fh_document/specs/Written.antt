-- What a text gives a document beside the limits of its numbers (this project's profile).
use Rattle.std.specs.Prelude.{◌≡◌, ℕ, ◌+◌, ◌≤◌, List, length, None, Ok, true}
use Rattle.std.specs.List.{AllByRecursion}
use Rattle.fh_document.specs.Document.{document_of}
use Rattle.fh_document.specs.declared.document.Document.{Document}
use Rattle.fh_base.specs.Numbering.{code_of, offsets_of}
use Rattle.fh_base.specs.Spacing.{is_normal_code}
use Rattle.window_config.specs.declared.endpoints.EndpointConfig.{EndpointConfig}

-- 1.25 and 5 kHz at an offset endpoint alone
abbrev pub IsSpaced : EndpointConfig → Type 0
IsSpaced e = offsets_of e.numerology ≡ None → is_normal_code (code_of e.numerology) ≡ true

-- and no line of the plan has a greater number
pub record IsWritten (most : ℕ) (d : Document) : Type 0 where
  pub spaced : AllByRecursion IsSpaced d.config.endpoints
  pub numbers : AllByRecursion (λ n. n ≤ most) d.plan_lines

-- a text has at most one line more than it has bytes
abbrev pub DocumentsAreWritten : Type 0
DocumentsAreWritten = (text : List ℕ) (d : Document) → document_of text ≡ Ok d → IsWritten (length text + 1) d
