-- The messages of one endpoint and stream, in the order of their symbols' starts, and in a symbol in the order of lines; uplink
-- data there in the order in which the radio unit sends them (this project's profile; the fields are those of O-RAN.WG4.CUS).
use Rattle.std.specs.Prelude.{ℕ, pos, ◌+◌, ◌*◌, ◌+ℤ◌, Bool, not, ◌&&◌, ◌==◌, List, map, filter}
use Rattle.std.specs.Int.{int_gap}
use Rattle.fh_base.specs.Carrier.{count_of}
use Rattle.fh_base.specs.declared.values.Slot.{Slot}
use Rattle.bfp_codec.specs.Layout.{length_of}
use Rattle.uplane_sections.specs.Section.{header_size}
use Rattle.window_config.specs.declared.config.Config.{Config}
use Rattle.window_config.specs.declared.endpoints.EndpointConfig.{EndpointConfig}
use Rattle.unit_model.specs.Claims.{same_slot, is_from}
use Rattle.fh_base.specs.Lists.{each_tick, in_order}
use Rattle.unit_model.specs.Radiated.{first_clock}
use Rattle.unit_model.specs.Sweeps.{of_endpoint}
use Rattle.unit_model.specs.Times.{end_of_time}
use Rattle.unit_model.specs.Uplink.{is_before, sends_in}
use Rattle.unit_model.specs.declared.allocations.Allocation.{Allocation}
use Rattle.plan_model.specs.Lines.{line_allocation}
use Rattle.plan_model.specs.Packs.{PartFields, Message, Numbered, size_of, packs, numbered}
use Rattle.plan_model.specs.declared.lines.PlannedLine.{PlannedLine}
use Rattle.plan_model.specs.declared.streams.Stream.{Stream}
use Rattle.plan_model.specs.declared.streams.Stream.TheVariants.{DownCommands, UpCommands, DownData, UpData}
use Rattle.unit_model.specs.Terms.{piece_count}

-- a line in one of its symbols
pub record Part : Type 0 where
  pub planned : PlannedLine
  pub symbol : ℕ

-- the bytes of a U-plane section with its headers and all PRBs, where numPrb is this
abbrev pub section_size : EndpointConfig → ℕ → ℕ
section_size e num_prb = header_size e.format + count_of e.prbs num_prb * length_of e.format.method

abbrev pub part_fields : PartFields Part
part_fields = record {
  slot = λ p. p.planned.line.slot;
  symbol = λ p. p.symbol;
  filter = λ p. (line_allocation p.planned).filter;
  size = λ p. section_size p.planned.endpoint p.planned.line.num_prb;
}

-- ---- the parts of a symbol

abbrev pub begins_in : ℕ → Slot → ℕ → Allocation → Bool
begins_in ep slot symbol a = (a.ep == ep) && (same_slot a.slot slot && (a.symbol == symbol))

abbrev pub lasts_in : ℕ → Slot → ℕ → Allocation → Bool
lasts_in ep slot symbol a = (a.ep == ep) && (same_slot a.slot slot && is_from a.symbol a.num_symbol symbol)

-- a line has a part in a symbol: a command in its first one, data in each
abbrev pub has_part : Stream → ℕ → Slot → ℕ → Allocation → Bool
has_part DownCommands ep slot symbol a = a.down && begins_in ep slot symbol a
has_part UpCommands ep slot symbol a = not a.down && begins_in ep slot symbol a
has_part DownData ep slot symbol a = (a.down && not a.idle) && lasts_in ep slot symbol a
has_part UpData ep slot symbol a = sends_in ep slot symbol a

-- the order in a symbol: that of lines, which uplink data has only where the radio unit's own order does not decide
abbrev pub line_before : PlannedLine → PlannedLine → Bool
line_before p q = is_before (line_allocation p) (line_allocation q)

abbrev pub in_stream_order : Stream → List PlannedLine → List PlannedLine
in_stream_order DownCommands ps = ps
in_stream_order UpCommands ps = ps
in_stream_order DownData ps = ps
in_stream_order UpData ps = in_order line_before ps

abbrev pub part_in : ℕ → PlannedLine → Part
part_in symbol p = record { planned = p; symbol = symbol }

unfoldable pub symbol_parts : Stream → List PlannedLine → ℕ → Slot → ℕ → List Part
symbol_parts stream lines ep slot symbol =
    map (part_in symbol) (in_stream_order stream (filter (λ p. has_part stream ep slot symbol (line_allocation p)) lines))

-- ---- the messages

-- how many parts a message may have: a command has one, data so many as `pack` says
abbrev pub most_parts : Config → Stream → ℕ
most_parts c DownCommands = 1
most_parts c UpCommands = 1
most_parts c DownData = c.pack
most_parts c UpData = c.pack

-- a command goes in one frame, data in fragments
abbrev pub frames_in : Config → Stream → Message Part → ℕ
frames_in c DownCommands m = 1
frames_in c UpCommands m = 1
frames_in c DownData m = piece_count c.fragment (size_of part_fields m)
frames_in c UpData m = piece_count c.fragment (size_of part_fields m)

-- something of each symbol of an endpoint, in the order of starts, and at one start of slots and symbols
abbrev pub over_symbols : {A : Type 0} → (Slot → ℕ → List A) → EndpointConfig → List A
over_symbols g e = each_tick first_clock (int_gap first_clock (end_of_time +ℤ pos 1)) (of_endpoint g e)

-- the parts of a stream of the endpoint with this index
unfoldable pub parts_in : List PlannedLine → Stream → ℕ → EndpointConfig → List Part
parts_in lines stream ep e = over_symbols (symbol_parts stream lines ep) e

-- its messages
unfoldable pub messages_of : Config → List PlannedLine → Stream → ℕ → EndpointConfig → List (Numbered Part)
messages_of c lines stream ep e = numbered part_fields (frames_in c stream) (packs part_fields (most_parts c stream) (parts_in lines stream ep e))
