-- The lines that tell of idle endpoints (this project's profile; section type 0 names resources that are idle, O-RAN.WG4.CUS, C-plane
-- sections).
use Rattle.std.specs.Prelude.{ℕ, List, ◌++◌, codes}
use Rattle.fh_base.specs.Numbering.{symbols_of}
use Rattle.fh_base.specs.declared.values.Slot.{Slot}
use Rattle.fh_base.specs.Words.{hex4_text, spaced_text, spaced_signed_text}
use Rattle.window_config.specs.declared.endpoints.EndpointConfig.{EndpointConfig}
use Rattle.window_config.specs.declared.plan.PlanKind.TheVariants.{Idle}
use Rattle.window_config.specs.declared.plan.PlanLine.{PlanLine}
use Rattle.fh_document.specs.Joined.{spaced}
use Rattle.fh_document.specs.LineWords.{plan_words}
use Rattle.idle_spans.specs.declared.places.Place.{Place}
use Rattle.idle_spans.specs.declared.places.Span.{Span}

-- a symbol: frame, subframe, slot and symbol, each after a space
abbrev pub place_text : Place → List ℕ
place_text p = spaced_signed_text p.slot.frame ++ spaced_text p.slot.subframe ++ spaced_text p.slot.slot ++ spaced_text p.symbol

-- the line of a span: the endpoint's id, the first and the last symbol, how many symbols, and in how many of them a cell is missing
unfoldable pub span_line_text : ℕ → Span → List ℕ
span_line_text id s = codes "idle " ++ hex4_text id ++ place_text s.first ++ place_text s.last ++ spaced_text s.symbols ++ spaced_text s.missed ++ codes "\n"

-- the plan line of section type 0 for all resource elements of a slot
abbrev pub idle_line : EndpointConfig → Slot → PlanLine
idle_line e slot = record {
  kind = Idle;
  id = e.id;
  slot = slot;
  symbol = 0;
  count = symbols_of e.numerology;
  start_prb = 0;
  num_prb = 0;
  mask = 4095;
  section = 4095;
  beam = 0;
}

-- a plan line as a document has it
unfoldable pub plan_line_text : PlanLine → List ℕ
plan_line_text line = spaced (plan_words line) ++ codes "\n"
