-- The definitions at values that were worked out by hand. Endpoints have id 0, no compression and a static format; where nothing else
-- is said, the times are the usual ones (T1a of data 234,000 to 345,000 ns, gap 1,000 ns) and a frame carries 1,492 bytes.
use Rattle.std.specs.Prelude.{◌≡◌, refl, ℕ, ℤ, pos, ◌+◌, ◌*◌, false, List, [], ◌∷◌, map, Option, Some, None}
use Rattle.fh_base.specs.Numbering.{ordinary_at}
use Rattle.fh_base.specs.declared.numerology.Numerology.{Numerology}
use Rattle.fh_base.specs.declared.spacing.Spacing.TheVariants.{Khz30}
use Rattle.fh_base.specs.declared.values.Slot.{Slot}
use Rattle.bfp_codec.specs.declared.methods.Method.TheVariants.{Plain}
use Rattle.window_config.specs.Usual.{usual_delays}
use Rattle.window_config.specs.declared.config.Config.{Config}
use Rattle.window_config.specs.declared.endpoints.EndpointConfig.{EndpointConfig}
use Rattle.window_config.specs.declared.plan.PlanKind.{PlanKind}
use Rattle.window_config.specs.declared.plan.PlanKind.TheVariants.{Down, Up, Idle}
use Rattle.window_config.specs.declared.plan.PlanLine.{PlanLine}
use Rattle.fh_base.specs.Lists.{each}
use Rattle.plan_model.specs.Dense.{down_distance, up_distance, dense_in, lesser}
use Rattle.plan_model.specs.declared.dense.Sending.{Sending}
use Rattle.plan_model.specs.Departures.{departure, departures_of}
use Rattle.plan_model.specs.Lines.{planned}
use Rattle.plan_model.specs.Packs.{PartFields, Message, Numbered, packs, numbered, parts_of}
use Rattle.plan_model.specs.Streams.{Part, section_size, part_fields, most_parts, symbol_parts}
use Rattle.plan_model.specs.Validity.{first_refused}
use Rattle.plan_model.specs.declared.refusals.PlanWhy.{PlanWhy}
use Rattle.plan_model.specs.declared.refusals.PlanWhy.TheVariants.{UnknownEndpoint, Range, Overlap}
use Rattle.plan_model.specs.declared.streams.Stream.TheVariants.{DownCommands, UpCommands, DownData, UpData}
use Rattle.fh_base.specs.declared.frames.TheConstants.{FRAME}
use Rattle.unit_model.specs.Terms.{piece_count}

abbrev pub endpoint_of : Numerology → ℕ → EndpointConfig
endpoint_of n prbs = record { id = 0; numerology = n; prbs = prbs; format = record { dynamic = false; method = Plain } }

-- 30 kHz, 106 PRBs
abbrev pub usual : EndpointConfig
usual = endpoint_of (ordinary_at Khz30) 106

abbrev pub config_with : ℕ → Config
config_with pack = record {
  widths = record { du = 4; band = 4; carrier = 4; port = 4; whole = refl };
  delays = usual_delays;
  gap = pos 1000;
  fragment = 1492;
  pack = pack;
  endpoints = usual ∷ [];
}

abbrev pub slot_0 : Slot
slot_0 = record { frame = pos 1; subframe = 0; slot = 0 }

-- a line of one symbol, symbol 0 of that slot: its PRBs, mask and section id
abbrev pub worked_line : PlanKind → ℕ → ℕ → ℕ → ℕ → PlanLine
worked_line kind prb num mask section = record {
  kind = kind;
  id = 0;
  slot = slot_0;
  symbol = 0;
  count = 1;
  start_prb = prb;
  num_prb = num;
  mask = mask;
  section = section;
  beam = 0;
}

-- ---- bytes, frames and packs

abbrev pub simple_fields : PartFields (ℕ × ℕ × ℕ)
simple_fields = record { slot = λ p. slot_0; symbol = λ p. p.0; filter = λ p. p.1; size = λ p. p.2 }

abbrev pub lists_of : List (Message (ℕ × ℕ × ℕ)) → List (List (ℕ × ℕ × ℕ))
lists_of ms = map parts_of ms

abbrev pub part : ℕ → ℕ → ℕ × ℕ × ℕ
part filter size = (0, filter, size)

pub record PacksAreAsWorked : Type 0 where
  -- 273 PRBs without compression: 13,112 bytes in nine frames, the last of 1,176
  pub greatest_section : section_size (endpoint_of (ordinary_at Khz30) 273) 0 ≡ 13108
  pub nine_frames : piece_count 1492 (4 + 13108) ≡ 9
  pub one_frame : piece_count 1492 (4 + section_size usual 1) ≡ 1
  pub whole_frames : piece_count 128 256 ≡ 2
  pub in_pairs : lists_of (packs simple_fields 2 (part 0 52 ∷ part 0 52 ∷ part 0 52 ∷ [])) ≡ (part 0 52 ∷ part 0 52 ∷ []) ∷ (part 0 52 ∷ []) ∷ []
  pub alone : lists_of (packs simple_fields 1 (part 0 52 ∷ part 0 52 ∷ [])) ≡ (part 0 52 ∷ []) ∷ (part 0 52 ∷ []) ∷ []
  -- a section of another filterIndex ends a message, also where one of the first follows
  pub filters : lists_of (packs simple_fields 64 (part 0 52 ∷ part 1 52 ∷ part 0 52 ∷ [])) ≡ (part 0 52 ∷ []) ∷ (part 1 52 ∷ []) ∷ (part 0 52 ∷ []) ∷ []
  -- a message has one symbol
  pub symbols : lists_of (packs simple_fields 64 ((0, 0, 52) ∷ (1, 0, 52) ∷ (1, 0, 52) ∷ [])) ≡ ((0, 0, 52) ∷ []) ∷ ((1, 0, 52) ∷ (1, 0, 52) ∷ []) ∷ []
  -- 16,384 bytes and one more
  pub fits : lists_of (packs simple_fields 2 (part 0 13108 ∷ part 0 3272 ∷ [])) ≡ (part 0 13108 ∷ part 0 3272 ∷ []) ∷ []
  pub too_long : lists_of (packs simple_fields 2 (part 0 13108 ∷ part 0 3273 ∷ [])) ≡ (part 0 13108 ∷ []) ∷ (part 0 3273 ∷ []) ∷ []

-- ---- numbers

-- two messages of two frames in symbol 0, and one in symbol 1
abbrev pub three : List (Message (ℕ × ℕ × ℕ))
three = record { first = (0, 0, 0); more = [] } ∷ record { first = (0, 0, 1); more = [] } ∷ record { first = (1, 0, 2); more = [] } ∷ []

abbrev pub places_of : List (Numbered (ℕ × ℕ × ℕ)) → List (ℕ × ℕ)
places_of ns = map (λ n. (n.number, n.before)) ns

pub record NumbersAreAsWorked : Type 0 where
  pub places : places_of (numbered simple_fields (λ m. 2) three) ≡ (0, 0) ∷ (1, 2) ∷ (2, 0) ∷ []

-- ---- departures

-- the gap of 60,000 ns and T1a_up from 234,000 to 345,000 ns: frames leave 0, 60,000, 111,000 and 111,000 ns after the first
abbrev pub slow_config : Config
slow_config = record (config_with 1) { gap = pos 60000 }

abbrev pub frame_1 : ℤ
frame_1 = FRAME

pub record DeparturesAreAsWorked : Type 0 where
  pub first : departure (departures_of slow_config DownData) frame_1 0 ≡ pos 14830080000
  pub second : departure (departures_of slow_config DownData) frame_1 1 ≡ pos 14922240000
  pub third : departure (departures_of slow_config DownData) frame_1 2 ≡ pos 15000576000
  pub fourth : departure (departures_of slow_config DownData) frame_1 3 ≡ pos 15000576000
  -- 470,000 ns before, 125,000 of them the advance; 470,000 ns before; 50,000 ns after
  pub down_command : departure (departures_of slow_config DownCommands) frame_1 0 ≡ pos 14638080000
  pub up_command : departure (departures_of slow_config UpCommands) frame_1 0 ≡ pos 14638080000
  pub up_data : departure (departures_of slow_config UpData) frame_1 0 ≡ pos 15436800000

-- ---- tests of lines

abbrev pub worked_refusal : List PlanLine → Option (ℕ × PlanWhy)
worked_refusal lines = first_refused (usual ∷ []) lines

pub record RefusalsAreAsWorked : Type 0 where
  pub twice : worked_refusal (worked_line Down 0 1 4095 1 ∷ worked_line Down 0 1 4095 1 ∷ []) ≡ Some (1, Overlap)
  pub two_ids : worked_refusal (worked_line Down 0 1 3840 1 ∷ worked_line Down 0 1 15 2 ∷ []) ≡ Some (1, Overlap)
  pub one_id : worked_refusal (worked_line Down 0 1 3840 1 ∷ worked_line Down 0 1 15 1 ∷ []) ≡ None
  -- masks ff0 and 0ff have four elements in common
  pub in_part : worked_refusal (worked_line Down 0 1 4080 1 ∷ worked_line Down 0 1 255 1 ∷ []) ≡ Some (1, Overlap)
  pub with_idle : worked_refusal (worked_line Down 0 1 4095 1 ∷ worked_line Idle 0 1 4095 1 ∷ []) ≡ Some (1, Overlap)
  pub both_ways : worked_refusal (worked_line Down 0 1 4095 1 ∷ worked_line Up 0 1 4095 1 ∷ []) ≡ None
  -- numPrb 0 means all PRBs, whatever startPrb
  pub all_prbs : worked_refusal (worked_line Down 1023 0 4095 1 ∷ worked_line Down 105 1 4095 1 ∷ []) ≡ Some (1, Overlap)
  pub past_carrier : worked_refusal (worked_line Down 106 1 4095 1 ∷ []) ≡ Some (0, Range)
  pub no_mask : worked_refusal (worked_line Down 0 1 0 1 ∷ []) ≡ Some (0, Range)
  -- 30 kHz has the slots 0 and 1
  pub no_slot : worked_refusal (record (worked_line Down 0 1 4095 1) { slot = record { frame = pos 1; subframe = 0; slot = 2 } } ∷ []) ≡ Some (0, Range)
  pub last_symbol : worked_refusal (record (worked_line Down 0 1 4095 1) { symbol = 13 } ∷ []) ≡ None
  pub no_symbol : worked_refusal (record (worked_line Down 0 1 4095 1) { symbol = 13; count = 2 } ∷ []) ≡ Some (0, Range)
  pub unknown : worked_refusal (record (worked_line Down 0 1 0 1) { id = 1 } ∷ []) ≡ Some (0, UnknownEndpoint)

-- ---- the parts of a symbol

abbrev pub worked_sections : List Part → List ℕ
worked_sections ps = map (λ p. p.planned.line.section) ps

abbrev pub prbs_planned : PlanKind → List PlanLine
prbs_planned kind = worked_line kind 1 1 4095 5 ∷ worked_line kind 0 1 4095 6 ∷ []

pub record PartsAreAsWorked : Type 0 where
  -- downlink data by line, uplink data by startPrb
  pub by_line : worked_sections (symbol_parts DownData (planned (usual ∷ []) (prbs_planned Down)) 0 slot_0 0) ≡ 5 ∷ 6 ∷ []
  pub by_prb : worked_sections (symbol_parts UpData (planned (usual ∷ []) (prbs_planned Up)) 0 slot_0 0) ≡ 6 ∷ 5 ∷ []
  pub other_symbol : worked_sections (symbol_parts DownData (planned (usual ∷ []) (prbs_planned Down)) 0 slot_0 1) ≡ []
  pub other_way : worked_sections (symbol_parts UpCommands (planned (usual ∷ []) (prbs_planned Down)) 0 slot_0 0) ≡ []
  -- an idle line has a command and no data
  pub idle_command : worked_sections (symbol_parts DownCommands (planned (usual ∷ []) (prbs_planned Idle)) 0 slot_0 0) ≡ 5 ∷ 6 ∷ []
  pub idle_data : worked_sections (symbol_parts DownData (planned (usual ∷ []) (prbs_planned Idle)) 0 slot_0 0) ≡ []
  -- two lines of one PRB in one symbol: one message where two sections are packed
  pub one_message : map (λ m. worked_sections (parts_of m)) (packs part_fields (most_parts (config_with 2) DownData) (symbol_parts DownData (planned (usual ∷ []) (prbs_planned Down)) 0 slot_0 0)) ≡ (5 ∷ 6 ∷ []) ∷ []
  pub two_messages : map (λ m. worked_sections (parts_of m)) (packs part_fields (most_parts (config_with 1) DownData) (symbol_parts DownData (planned (usual ∷ []) (prbs_planned Down)) 0 slot_0 0)) ≡ (5 ∷ []) ∷ (6 ∷ []) ∷ []

-- ---- dense messages

-- An offset endpoint of 15 kHz with cpLength 64: symbols of 68,750 ns. Nineteen lines in each of 14 symbols, a gap of 1,000 ns: message
-- 256 is the tenth of symbol 13, and leaves 13 * 68,750 + 9 * 1,000 = 902,750 ns after message 0.
abbrev pub sending : ℕ → ℕ → Sending
sending symbol line = record { at = record { 0 = pos (15360000000 + (symbol * 105600000 + line * 1536000)) }; line = line }

unfoldable pub nineteen : List Sending
nineteen = each 0 14 (λ symbol. each 0 19 (λ line. sending symbol line ∷ []))

pub record DenseAreAsWorked : Type 0 where
  -- 211,000 + 100,000 ns, and 221,000 + 100,000 ns
  pub down : down_distance usual_delays ≡ pos 477696000
  pub up : up_distance usual_delays ≡ pos 493056000
  -- 902,750 ns, and a nanosecond less
  pub near : dense_in (pos 1386624000) nineteen ≡ Some (record { number = 256; line = 9 })
  pub apart : dense_in (pos 1386622464) nineteen ≡ None
  -- the lesser number is named, of one number the first
  pub least : lesser (Some (record { number = 300; line = 1 })) (Some (record { number = 256; line = 2 })) ≡ Some (record { number = 256; line = 2 })
  pub first_of_two : lesser (Some (record { number = 256; line = 1 })) (Some (record { number = 256; line = 2 })) ≡ Some (record { number = 256; line = 1 })
