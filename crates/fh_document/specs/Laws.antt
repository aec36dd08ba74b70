-- What a program wrote is read back.
use Rattle.std.specs.Prelude.{ℕ, ◌≡◌, ◌≢◌, ◌<◌, ◌≤◌, ◌^◌, List, All, length, true, Some, Ok, decimal, ◌==◌}
use Rattle.std.specs.List.{slice_split, list_all}
use Rattle.fh_base.specs.Words.{hex4_text, hex3_text}
use Rattle.window_config.specs.declared.plan.PlanLine.{PlanLine}
use Rattle.fh_document.specs.declared.delivered.Delivery.{Delivery}
use Rattle.fh_document.specs.declared.document.Injection.{Injection}
use Rattle.fh_document.specs.Document.{document_of}
use Rattle.fh_document.specs.Hex.{hex_of, frame_of}
use Rattle.fh_document.specs.Lines.{line_of, reached}
use Rattle.fh_document.specs.PlanLines.{planned}
use Rattle.fh_document.specs.DeliverLines.{delivered}
use Rattle.fh_document.specs.Proper.{IsFrom, IsPlanLine, IsDelivery}
use Rattle.fh_document.specs.Steps.{Said}
use Rattle.fh_document.specs.Words.{is_text, words_of, number_in, without_last_feed}
use Rattle.fh_document.specs.Joined.{is_word, spaced, fed}
use Rattle.fh_document.specs.LineWords.{frame_word, plan_words, deliver_words}
use Rattle.fh_document.specs.WrittenLines.{injections_text, document_with}
use Rattle.fh_base.specs.declared.nanoseconds.TheConstants.{LAST_TIME}
use Rattle.fh_base.specs.declared.source.TheConstants.{FRAME_LIMIT}

-- words that are joined by single spaces are the words of a line, and the line is text
abbrev pub WordsAreRead : Type 0
WordsAreRead = (ws : List (List ℕ)) → list_all is_word ws ≡ true → (words_of (spaced ws) ≡ ws) × (is_text (spaced ws) ≡ true)

-- lines of text that are joined by line feeds are these lines
abbrev pub LinesAreRead : Type 0
LinesAreRead = (lines : List (List ℕ)) → 0 < length lines → list_all is_text lines ≡ true → slice_split (λ b. b == 10) (without_last_feed (fed lines)) ≡ lines

-- a number in decimal is read within its range
abbrev pub NumbersAreRead : Type 0
NumbersAreRead = (low high n : ℕ) → low ≤ n → n ≤ high → n < 10 ^ 13 → number_in low high (decimal n) ≡ Some n

-- so are an id and a mask in hexadecimal digits
abbrev pub IdsAreRead : Type 0
IdsAreRead = ((n : ℕ) → n < 2 ^ 16 → hex_of 4 (hex4_text n) ≡ Some n) × ((n : ℕ) → n < 2 ^ 12 → hex_of 3 (hex3_text n) ≡ Some n)

abbrev pub AreBytes : List ℕ → Type 0
AreBytes bytes = All (λ b. b < 256) bytes

-- two digits for each byte are read as these bytes, and a dash as none
abbrev pub FramesAreRead : Type 0
FramesAreRead = (bytes : List ℕ) → AreBytes bytes → length bytes ≤ FRAME_LIMIT → frame_of (frame_word bytes) ≡ Some bytes

-- a frame that an inject line may have
pub record IsFrame (i : Injection) : Type 0 where
  pub time : IsFrom 0 LAST_TIME i.at
  pub bytes : AreBytes i.frame
  pub short : length i.frame ≤ FRAME_LIMIT

-- a text of inject lines is read as exactly these frames, in their order
abbrev pub InjectionsAreRead : Type 0
InjectionsAreRead = (is : List Injection) → All IsFrame is → document_of (injections_text is) ≡ Ok (document_with is)

-- a line of a plan after line 1, where there is no line of a later kind: it plans what was written
abbrev pub PlansAreRead : Type 0
PlansAreRead = (r : Said) (n : ℕ) (line : PlanLine) → n ≢ 1 → reached r ≤ 2 → IsPlanLine line → line.id < 2 ^ 16 → line.num_prb < 2 ^ 8
    → line_of r n (spaced (plan_words line)) ≡ planned r n line

-- the same of a deliver line
abbrev pub DeliveriesAreRead : Type 0
DeliveriesAreRead = (r : Said) (n : ℕ) (d : Delivery) → n ≢ 1 → reached r ≤ 3 → IsDelivery d
    → line_of r n (spaced (deliver_words d)) ≡ delivered r d
