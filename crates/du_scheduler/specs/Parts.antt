-- The parts of an endpoint's messages, as they are listed and in their order (this project's means).
use Rattle.std.specs.Prelude.{ℕ, ℤ, pos, neg_ℤ, ◌^◌, ◌≤◌, ◌≤ℤ◌, Bool, true, false, not, ◌&&◌, ◌==◌, if◌then◌else◌, List, [], ◌∷◌, ◌++◌}
use Rattle.std.specs.Ordering.{nat_cmp, int_cmp, on, then_cmp, is_lt}
use Rattle.std.specs.declared.cmp.Ordering.{Ordering}
use Rattle.unit_model.specs.Commands.{is_uplink}
use Rattle.fh_base.specs.Lists.{each}
use Rattle.unit_model.specs.declared.allocations.Allocation.{Allocation}
use Rattle.plan_model.specs.Departures.{start_of_part}
use Rattle.plan_model.specs.Lines.{line_allocation}
use Rattle.plan_model.specs.Streams.{Part, part_in, section_size}
use Rattle.plan_model.specs.declared.lines.PlannedLine.{PlannedLine}
use Rattle.plan_model.specs.declared.streams.Stream.{Stream}
use Rattle.plan_model.specs.declared.streams.Stream.TheVariants.{DownCommands, UpCommands, DownData, UpData}
use Rattle.schedule_laws.specs.Sweeping.{PartSymbol, is_symbol}
use Rattle.du_scheduler.specs.declared.parts.TimedPart.{TimedPart}

-- only uplink data is ordered by more than lines
abbrev pub is_up_data : Stream → Bool
is_up_data DownCommands = false
is_up_data UpCommands = false
is_up_data DownData = false
is_up_data UpData = true

abbrev pub if_up : Bool → ℕ → ℕ
if_up true n = n
if_up false n = 0

abbrev pub timed : Stream → Part → TimedPart
timed stream p = record {
  start = record { 0 = start_of_part p };
  frame = p.planned.line.slot.frame;
  subframe = p.planned.line.slot.subframe;
  slot = p.planned.line.slot.slot;
  symbol = p.symbol;
  start_prb = if_up (is_up_data stream) p.planned.line.start_prb;
  num_prb = if_up (is_up_data stream) p.planned.line.num_prb;
  section = if_up (is_up_data stream) p.planned.line.section;
  size = section_size p.planned.endpoint p.planned.line.num_prb;
  line = p.planned.index;
}

-- its start can be told, and its section fits into a message
pub record IsTimed (p : TimedPart) : Type 0 where
  pub low : neg_ℤ (pos (2 ^ 56)) ≤ℤ p.start.0
  pub high : p.start.0 ≤ℤ pos (2 ^ 56)
  pub size : p.size ≤ 13383

-- the line has messages of this stream
abbrev pub has_stream : Stream → Allocation → Bool
has_stream DownCommands a = a.down
has_stream UpCommands a = not a.down
has_stream DownData a = a.down && not a.idle
has_stream UpData a = is_uplink a

abbrev pub is_sent : Stream → ℕ → PlannedLine → Bool
is_sent stream ep p = has_stream stream (line_allocation p) && (p.ep == ep)

-- in how many symbols, from its first one on: a command has one part
abbrev pub part_symbols : Stream → PlannedLine → ℕ
part_symbols DownCommands p = 1
part_symbols UpCommands p = 1
part_symbols DownData p = p.line.count
part_symbols UpData p = p.line.count

abbrev pub line_parts : Stream → PlannedLine → List Part
line_parts stream p = each p.line.symbol (part_symbols stream p) (λ symbol. part_in symbol p ∷ [])

-- those of one endpoint and stream, line by line
unfoldable pub listed : Stream → ℕ → List PlannedLine → List Part
listed stream ep [] = []
listed stream ep (p ∷ ps) = (if is_sent stream ep p then line_parts stream p else []) ++ listed stream ep ps

-- ---- their order

abbrev pub prb_cmp : TimedPart → TimedPart → Ordering
prb_cmp = then_cmp (on (λ p. p.start_prb) nat_cmp) (then_cmp (on (λ p. p.num_prb) nat_cmp) (on (λ p. p.section) nat_cmp))

abbrev pub part_cmp : TimedPart → TimedPart → Ordering
part_cmp = then_cmp (on (λ p. p.start.0) int_cmp) (then_cmp (on (λ p. p.frame) int_cmp) (then_cmp (on (λ p. p.subframe) nat_cmp)
    (then_cmp (on (λ p. p.slot) nat_cmp) (then_cmp (on (λ p. p.symbol) nat_cmp) prb_cmp))))

abbrev pub part_first : TimedPart → TimedPart → Bool
part_first p q = is_lt (part_cmp p q)

-- ---- their symbols

abbrev pub symbol_of : TimedPart → PartSymbol
symbol_of p = record { start = p.start.0; frame = p.frame; subframe = p.subframe; slot = p.slot; symbol = p.symbol }

abbrev pub is_at : ℤ → ℕ → ℕ → ℕ → TimedPart → Bool
is_at frame subframe slot symbol p = is_symbol frame subframe slot symbol (symbol_of p)
