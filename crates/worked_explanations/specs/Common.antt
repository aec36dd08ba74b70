-- What the documents have in common.
use Rattle.std.specs.Prelude.{ℕ, ℤ, pos, true, false, if◌then◌else◌, List, [], Option, Some, None}
use Rattle.fh_base.specs.Numbering.{offset_at, ordinary_at}
use Rattle.fh_base.specs.declared.spacing.Spacing.TheVariants.{Khz30, Khz1x25}
use Rattle.fh_base.specs.declared.values.Slot.{Slot}
use Rattle.fault_counters.specs.declared.kinds.Counter.{Counter}
use Rattle.bfp_codec.specs.declared.samples.Wide.{Wide}
use Rattle.bfp_codec.specs.declared.methods.Method.TheVariants.{Bfp}
use Rattle.air_source.specs.Units.{same_side}
use Rattle.air_source.specs.declared.events.Event.{Event}
use Rattle.air_source.specs.declared.events.Event.TheVariants as event
use Rattle.air_source.specs.declared.events.Side.{Side}
use Rattle.window_config.specs.declared.config.Config.{Config}
use Rattle.window_config.specs.declared.endpoints.EndpointConfig.{EndpointConfig}
use Rattle.plan_model.specs.Examples.{config_with, endpoint_of}
use Rattle.explain_model.specs.declared.places.PrbRun.{PrbRun}
use Rattle.explain_model.specs.declared.values.ExplainLine.{ExplainLine}
use Rattle.explain_model.specs.Text.{Reasoned}

-- the usual delays, and these endpoints
abbrev pub config_of : List EndpointConfig → Config
config_of es = record (config_with 1) { endpoints = es }

-- a frame that arrives at so many ticks
abbrev pub arrives : Side → ℕ → List ℕ → Event
arrives side at frame = event.Arrival side (record { 0 = pos at }) frame

abbrev pub slot_at : ℤ → ℕ → ℕ → Slot
slot_at frame subframe slot = record { frame = frame; subframe = subframe; slot = slot }

-- a cell; which samples it has is not told
abbrev pub cell : Side → ℕ → ℕ → Slot → ℕ → ℕ → ℕ → ℕ → Option (List Wide) → Event
cell side at id slot symbol prb section mask block = event.Cell (record {
  side = side;
  at = record { 0 = pos at };
  id = id;
  slot = slot;
  symbol = symbol;
  prb = prb;
  section = section;
  mask = mask;
  block = block;
})

abbrev pub shown : Option (List Wide)
shown = Some []

abbrev pub missing : Option (List Wide)
missing = None

abbrev pub count : Side → Counter → ℕ → Event
count side counter value = event.Count side counter value

abbrev pub nothing : Reasoned
nothing = record { whys = []; sums = λ side e. [] }

-- 30 kHz, 106 PRBs, block floating point that each section names
abbrev pub second : EndpointConfig
second = record (endpoint_of (ordinary_at Khz30) 106) { id = 1; format = record { dynamic = true; method = Bfp 9 } }

-- 30 kHz, 4 PRBs
abbrev pub narrow : EndpointConfig
narrow = endpoint_of (ordinary_at Khz30) 4

-- 1.25 kHz with offsets, 6 PRBs
abbrev pub offset : EndpointConfig
offset = record (endpoint_of (offset_at 65535 3168 Khz1x25) 6) { id = 16; format = record { dynamic = false; method = Bfp 9 } }

-- PRBs of a symbol of frame 1, subframe 0, slot 0 of endpoint 0: when it starts, the symbol, the first PRB, their number and the section id
abbrev pub run : Side → ℕ → ℕ → ℕ → ℕ → ℕ → ℕ → PrbRun
run side at id symbol prb num section = record {
  side = side;
  at = record { 0 = pos at };
  place = record { id = id; slot = slot_at (pos 1) 0 0; symbol = symbol };
  prb = prb;
  num = num;
  section = section;
}

-- these sums, of the only endpoint of a unit
abbrev pub sums_at : Side → List ExplainLine → Side → EndpointConfig → List ExplainLine
sums_at at lines side e = if same_side side at then lines else []
