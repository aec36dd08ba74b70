-- `plan KIND ID FRAME SUBFRAME SLOT SYMBOL COUNT PRB NUM MASK SECTION BEAM`
use Rattle.std.specs.Prelude.{ℕ, pos, List, [], ◌∷◌, ◌++◌, length, ◌==◌, if◌then◌else◌, Option, Some, None, Result, Ok, Err, codes}
use Rattle.std.specs.Str.{bytes_eq}
use Rattle.fh_base.specs.declared.values.Slot.{Slot}
use Rattle.window_config.specs.declared.plan.PlanKind.{PlanKind}
use Rattle.window_config.specs.declared.plan.PlanKind.TheVariants.{Down, Up, Idle}
use Rattle.window_config.specs.declared.plan.PlanLine.{PlanLine}
use Rattle.fh_document.specs.declared.document.Reading.{Reading}
use Rattle.fh_document.specs.declared.refusals.DocWhy.{DocWhy}
use Rattle.fh_document.specs.declared.refusals.DocWhy.TheVariants as why
use Rattle.window_config.specs.declared.plan.TheConstants.{PLAN_LINES, LAST_FRAME}
use Rattle.fh_document.specs.Refusals.{or_refuse, ◌>>=◌}
use Rattle.fh_document.specs.Words.{number_in}
use Rattle.fh_document.specs.Hex.{hex_of}
use Rattle.fh_document.specs.ConfigLines.{counted}
use Rattle.fh_document.specs.EndpointLines.{taking}
use Rattle.fh_base.specs.Numbers.{word_at}

-- downlink data, uplink data, or downlink resources that stay idle
abbrev pub plan_kind_of : List ℕ → Option PlanKind
plan_kind_of w =
    if bytes_eq w (codes "dl") then Some Down
    else (if bytes_eq w (codes "ul") then Some Up
    else (if bytes_eq w (codes "idle") then Some Idle
    else None))

-- FRAME, SUBFRAME and SLOT
abbrev pub slot_of : List (List ℕ) → Option Slot
slot_of ws =
    taking (number_in 1 LAST_FRAME (word_at ws 3)) (λ frame.
    taking (number_in 0 9 (word_at ws 4)) (λ subframe.
    taking (number_in 0 63 (word_at ws 5)) (λ slot.
    Some (record { frame = pos frame; subframe = subframe; slot = slot }))))

-- SYMBOL and COUNT
abbrev pub symbols_of : List (List ℕ) → Option (ℕ × ℕ)
symbols_of ws = taking (number_in 0 63 (word_at ws 6)) (λ symbol. taking (number_in 0 15 (word_at ws 7)) (λ count. Some (symbol, count)))

-- PRB and NUM
abbrev pub prbs_of : List (List ℕ) → Option (ℕ × ℕ)
prbs_of ws = taking (number_in 0 1023 (word_at ws 8)) (λ first. taking (number_in 0 255 (word_at ws 9)) (λ many. Some (first, many)))

-- SECTION and BEAM
abbrev pub section_of : List (List ℕ) → Option (ℕ × ℕ)
section_of ws = taking (number_in 0 4095 (word_at ws 11)) (λ section. taking (number_in 0 32767 (word_at ws 12)) (λ beam. Some (section, beam)))

-- the line of a plan that the words describe, where each has its form and range
abbrev pub plan_of : List (List ℕ) → Option PlanLine
plan_of ws =
    taking (plan_kind_of (word_at ws 1)) (λ kind.
    taking (hex_of 4 (word_at ws 2)) (λ id.
    taking (slot_of ws) (λ slot.
    taking (symbols_of ws) (λ symbols.
    taking (prbs_of ws) (λ prbs.
    taking (hex_of 3 (word_at ws 10)) (λ mask.
    taking (section_of ws) (λ section.
    Some (record {
      kind = kind;
      id = id;
      slot = slot;
      symbol = symbols.0;
      count = symbols.1;
      start_prb = prbs.0;
      num_prb = prbs.1;
      mask = mask;
      section = section.0;
      beam = section.1;
    }))))))))

-- one line more, with its number in the document, where there are fewer than PLAN_LINES
abbrev pub planned : Reading → ℕ → PlanLine → Result Reading DocWhy
planned r n line =
    if length r.plan == PLAN_LINES then Err why.TooMany
    else Ok (record r { plan = r.plan ++ line ∷ []; plan_lines = r.plan_lines ++ n ∷ [] })

abbrev pub plan_line : Reading → ℕ → List (List ℕ) → Result Reading DocWhy
plan_line r n ws = counted 13 ws (or_refuse (plan_of ws) why.Number >>= (λ line. planned r n line))
