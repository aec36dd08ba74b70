-- What is kept of a judgement is its records.
use Rattle.std.proofs.Common.{◌≡◌, ℕ, ℤ, Bool, true, false, not, ◌&&◌, ◌||◌, ◌==◌, if◌then◌else◌, List, [], ◌∷◌, ◌++◌, Option, Some, None, refl, sym, ap, ◌∙◌, append-nil}
use Rattle.air_source.specs.declared.events.Side.{Side}
use Rattle.ecpri_fragments.specs.Pieces.{joined}
use Rattle.ecpri_fragments.specs.Verdicts.{Message as Whole}
use Rattle.explain_heard.specs.Heard.{heard_of, whole_heard}
use Rattle.explain_heard.specs.Judged.{command_judged, data_judged, judged_of}
use Rattle.explain_model.specs.declared.values.WholeAnswer.{WholeAnswer}
use Rattle.explain_model.specs.declared.values.WholeAnswer.TheVariants as answer
use Rattle.explain_model.specs.Sections.{symbol_named}
use Rattle.explain_model.specs.SilentReasons.{Kept}
use Rattle.explain_model.specs.Records.{command_in, command_record, data_in, data_record, header_in, header_with}
use Rattle.explain_records.specs.OfJudged.{command_of, data_of, header_named, listed, why_of}
use Rattle.explain_heard.proofs.KeptLemmas.{named_is}
use Rattle.explain_records.specs.Steps.{kept_next}
use Rattle.explain_model.specs.declared.data.DataRecord.{DataRecord}
use Rattle.explain_model.specs.declared.headers.HeaderRecord.{HeaderRecord}
use Rattle.explain_model.specs.declared.sections.CommandRecord.{CommandRecord}
use Rattle.fh_base.specs.declared.values.Slot.{Slot}
use Rattle.unit_model.specs.Commands.{is_idle}
use Rattle.unit_model.specs.declared.heading.DataHeading.{DataHeading}
use Rattle.unit_model.specs.Judgements.{Judgement, Met, Commanded, Fragmented, Unread, Turned, Given}
use Rattle.unit_model.specs.declared.decoded.ControlSection.{ControlSection}
use Rattle.unit_model.specs.declared.verdicts.CommandVerdict.{CommandVerdict}
use Rattle.unit_model.specs.declared.verdicts.DataVerdict.{DataVerdict}
use Rattle.window_config.specs.declared.delays.Delays.{Delays}
use Rattle.window_config.specs.declared.endpoints.EndpointConfig.{EndpointConfig}

-- ---- one record

tests : {A : Type 0} (idle none : Bool) (x : A) → listed (let o : Option A = if idle || none then None else Some x in o) ≡ (let l : List A = if not idle && not none then x ∷ [] else [] in l)
tests true none x = refl
tests false true x = refl
tests false false x = refl

command_same : (d : Delays) (number : ℕ) (s : ControlSection) (v : CommandVerdict) → listed (command_of number (command_judged d s v)) ≡ command_in d number (Commanded s v)
unfolding command_record
command_same d number s v = tests (is_idle s.head.body) (s.section.mask == 0) (command_record d number s v)

data_same : (side : Side) (d : Delays) (number : ℕ) (h : DataHeading) (v : DataVerdict) → data_of side number (data_judged side d h v) ≡ data_record side d number h v
unfolding data_record
data_same side d number h v = refl

named_same : (side : Side) (number ep : ℕ) (a : WholeAnswer) (named : Option (Slot × ℕ)) → listed (header_named side number ep a named) ≡ header_with side number ep (why_of a) named
named_same side number ep a None = refl
named_same side number ep a (Some (slot, symbol)) = refl

-- ---- all that are kept

module _ (side : Side) (d : Delays) (number : ℕ) (k : Kept) where
  -- these records after the others
  abbrev pub with_all : List DataRecord → List CommandRecord → List HeaderRecord → Kept
  with_all given commanded headers =
      record { given = k.given ++ given; commanded = k.commanded ++ commanded; headers = k.headers ++ headers; repeated = k.repeated; begun = k.begun }

  abbrev filled : List DataRecord → List CommandRecord → List HeaderRecord → Kept
  filled given commanded headers = record { given = given; commanded = commanded; headers = headers; repeated = k.repeated; begun = k.begun }

  nothing : k ≡ with_all [] [] []
  nothing =
      ap (λ (xs : List DataRecord). filled xs k.commanded k.headers) (sym (append-nil k.given))
      ∙ ap (λ (xs : List CommandRecord). filled (k.given ++ []) xs k.headers) (sym (append-nil k.commanded))
      ∙ ap (λ (xs : List HeaderRecord). filled (k.given ++ []) (k.commanded ++ []) xs) (sym (append-nil k.headers))

  data_alone : (xs : List DataRecord) → filled (k.given ++ xs) k.commanded k.headers ≡ with_all xs [] []
  data_alone xs =
      ap (λ (ys : List CommandRecord). filled (k.given ++ xs) ys k.headers) (sym (append-nil k.commanded))
      ∙ ap (λ (ys : List HeaderRecord). filled (k.given ++ xs) (k.commanded ++ []) ys) (sym (append-nil k.headers))

  commands_alone : (xs : List CommandRecord) → filled k.given (k.commanded ++ xs) k.headers ≡ with_all [] xs []
  commands_alone xs =
      ap (λ (ys : List DataRecord). filled ys (k.commanded ++ xs) k.headers) (sym (append-nil k.given))
      ∙ ap (λ (ys : List HeaderRecord). filled (k.given ++ []) (k.commanded ++ xs) ys) (sym (append-nil k.headers))

  headers_alone : (xs : List HeaderRecord) → filled k.given k.commanded (k.headers ++ xs) ≡ with_all [] [] xs
  headers_alone xs =
      ap (λ (ys : List DataRecord). filled ys k.commanded (k.headers ++ xs)) (sym (append-nil k.given))
      ∙ ap (λ (ys : List CommandRecord). filled (k.given ++ []) ys (k.headers ++ xs)) (sym (append-nil k.commanded))

  whole_same : (ep : ℕ) (e : EndpointConfig) (m : Whole) (a : WholeAnswer)
      → kept_next side number (judged_of side d (whole_heard ep e m a)) k ≡ with_all [] [] (header_with side number ep (why_of a) (symbol_named e.numerology (joined m.pieces) m.last))
  whole_same ep e m a =
      ap (λ (named : Option (Slot × ℕ)). filled k.given k.commanded (k.headers ++ listed (header_named side number ep a named))) (named_is e.numerology (joined m.pieces) m.last)
      ∙ ap (λ (xs : List HeaderRecord). filled k.given k.commanded (k.headers ++ xs)) (named_same side number ep a (symbol_named e.numerology (joined m.pieces) m.last))
      ∙ headers_alone (header_with side number ep (why_of a) (symbol_named e.numerology (joined m.pieces) m.last))

  pub kept_judged : (es : List EndpointConfig) (j : Judgement)
      → kept_next side number (judged_of side d (heard_of side es j)) k ≡ with_all (data_in side d number j) (command_in d number j) (header_in side number j)
  kept_judged es (Met m) = nothing
  kept_judged es (Commanded s v) =
      ap (λ (xs : List CommandRecord). filled k.given (k.commanded ++ xs) k.headers) (command_same d number s v) ∙ commands_alone (command_in d number (Commanded s v))
  kept_judged es (Fragmented e f v) = nothing
  kept_judged es (Unread ep e m why) = whole_same ep e m (answer.Refused why)
  kept_judged es (Turned ep e m) = whole_same ep e m answer.WrongWay
  kept_judged es (Given h v) =
      ap (λ (x : DataRecord). filled (k.given ++ x ∷ []) k.commanded k.headers) (data_same side d number h v) ∙ data_alone (data_in side d number (Given h v))
