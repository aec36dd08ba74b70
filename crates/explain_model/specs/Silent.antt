-- The lines that say why elements of a plan are silent (this project's profile).
use Rattle.std.specs.Prelude.{ℕ, zero, suc, ◌+◌, ◌*◌, ◌==◌, Bool, true, false, not, ◌&&◌, if◌then◌else◌, List, [], ◌∷◌, length, slice_index}
use Rattle.std.specs.List.{flat_map}
use Rattle.fh_base.specs.Air.{air_of}
use Rattle.air_source.specs.declared.events.Event.{Event}
use Rattle.air_source.specs.declared.events.Side.TheVariants.{Ru}
use Rattle.window_config.specs.declared.config.Config.{Config}
use Rattle.window_config.specs.declared.plan.PlanKind.{PlanKind}
use Rattle.window_config.specs.declared.plan.PlanKind.TheVariants as kind
use Rattle.window_config.specs.declared.plan.PlanLine.{PlanLine}
use Rattle.unit_model.specs.Claims.{first_prb, in_mask, prb_count}
use Rattle.fh_base.specs.Lists.{each}
use Rattle.plan_model.specs.Lines.{line_allocation, planned}
use Rattle.plan_model.specs.declared.lines.PlannedLine.{PlannedLine}
use Rattle.explain_model.specs.declared.places.PrbRun.{PrbRun}
use Rattle.explain_model.specs.declared.reasons.Reason.{Reason}
use Rattle.explain_model.specs.declared.values.ExplainLine.{ExplainLine}
use Rattle.explain_model.specs.declared.values.ExplainLine.TheVariants as line
use Rattle.explain_model.specs.Pieces.{pieces}
use Rattle.explain_model.specs.declared.sections.CommandRecord.{CommandRecord}
use Rattle.explain_model.specs.Commanded.{Elements, command_reason}
use Rattle.explain_model.specs.SilentReasons.{kept}
use Rattle.explain_model.specs.Same.{same_reason}
use Rattle.explain_model.specs.Seen.{Seen, is_heard, seen}

-- ---- a PRB of a line, with elements that no cell of the radio unit has

pub record SilentPrb : Type 0 where
  pub prb : ℕ
  pub mask : ℕ
  pub reason : Reason

-- the silent PRBs of a symbol of a line; the number is the line's in the document
pub record SilentSymbol : Type 0 where
  pub planned : PlannedLine
  pub number : ℕ
  pub symbol : ℕ
  pub prbs : List SilentPrb

-- of the first n elements those that pass, as a number of n bits whose most significant is element 0
unfoldable pub bits_below : (ℕ → Bool) → ℕ → ℕ
bits_below p zero = 0
bits_below p (suc n) = 2 * bits_below p n + (if p n then 1 else 0)

-- an element of the line that no cell of its symbol and PRB has
abbrev pub is_silent : List Seen → PlannedLine → ℕ → ℕ → ℕ → Bool
is_silent cells p symbol prb re = in_mask p.line.mask re && not (is_heard cells Ru p.endpoint.id p.line.slot symbol prb re)

unfoldable pub silent_mask : List Seen → PlannedLine → ℕ → ℕ → ℕ
silent_mask cells p symbol prb = bits_below (is_silent cells p symbol prb) 12

-- elements of the line
abbrev pub line_elements : PlannedLine → ℕ → ℕ → ℕ → Elements
line_elements p symbol prb mask = record { key = record { ep = p.ep; slot = p.line.slot }; down = true; symbol = symbol; prb = prb; mask = mask }

abbrev pub silent_with : List CommandRecord → PlannedLine → ℕ → ℕ → ℕ → List SilentPrb
silent_with commands p symbol prb mask =
    if mask == 0 then [] else record { prb = prb; mask = mask; reason = command_reason commands (line_elements p symbol prb mask) } ∷ []

abbrev pub silent_prb : List CommandRecord → List Seen → PlannedLine → ℕ → ℕ → List SilentPrb
silent_prb commands cells p symbol prb = silent_with commands p symbol prb (silent_mask cells p symbol prb)

-- its PRBs upwards
unfoldable pub silent_prbs : List CommandRecord → List Seen → PlannedLine → ℕ → List SilentPrb
silent_prbs commands cells p symbol = each (first_prb (line_allocation p)) (prb_count (line_allocation p)) (silent_prb commands cells p symbol)

abbrev pub silent_symbol : List CommandRecord → List Seen → ℕ → PlannedLine → ℕ → SilentSymbol
silent_symbol commands cells number p symbol = record { planned = p; number = number; symbol = symbol; prbs = silent_prbs commands cells p symbol }

-- its symbols upwards
unfoldable pub silent_of_line : List CommandRecord → List Seen → ℕ → PlannedLine → List SilentSymbol
silent_of_line commands cells number p = each p.line.symbol p.line.count (λ y. silent_symbol commands cells number p y ∷ [])

abbrev pub is_dl : PlanKind → Bool
is_dl kind.Down = true
is_dl kind.Up = false
is_dl kind.Idle = false

abbrev pub silent_of : List CommandRecord → List Seen → List ℕ → PlannedLine → List SilentSymbol
silent_of commands cells numbers p =
    if is_dl p.line.kind then silent_of_line commands cells (slice_index numbers p.index) p else []

-- of these lines, in their order; the numbers are theirs in the document
unfoldable pub silent_symbols : List CommandRecord → List Seen → List ℕ → List PlannedLine → List SilentSymbol
silent_symbols commands cells numbers ps = flat_map (silent_of commands cells numbers) ps

-- ---- their lines

-- the second goes on with a run of the first
abbrev pub goes_on_silent : SilentPrb → SilentPrb → Bool
goes_on_silent a b = (a.mask == b.mask) && (same_reason a.reason b.reason && (a.prb + 1 == b.prb))

abbrev pub silent_run : SilentSymbol → ℕ → ℕ → PrbRun
silent_run s prb count = record {
  side = Ru;
  at = record { 0 = air_of s.planned.endpoint.numerology s.planned.line.slot s.symbol };
  place = record { id = s.planned.endpoint.id; slot = s.planned.line.slot; symbol = s.symbol };
  prb = prb;
  num = count;
  section = s.planned.line.section;
}

abbrev pub silent_line : SilentSymbol → List SilentPrb → List ExplainLine
silent_line s [] = []
silent_line s (x ∷ xs) = line.WhySilent (silent_run s x.prb (length (x ∷ xs))) x.mask s.number x.reason ∷ []

-- a line for each run
unfoldable pub silent_symbol_lines : SilentSymbol → List ExplainLine
silent_symbol_lines s = flat_map (silent_line s) (pieces goes_on_silent s.prbs)

unfoldable pub silent_lines_of : List SilentSymbol → List ExplainLine
silent_lines_of ss = flat_map silent_symbol_lines ss

-- of a plan, whose lines have these numbers in the document
abbrev pub silent_in : Config → List PlanLine → List ℕ → List Event → List SilentSymbol
silent_in c plan numbers events = silent_symbols (kept c events).commanded (seen events) numbers (planned c.endpoints plan)

abbrev pub silent_lines : Config → List PlanLine → List ℕ → List Event → List ExplainLine
silent_lines c plan numbers events = silent_lines_of (silent_in c plan numbers events)
