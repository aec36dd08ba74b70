-- The verdicts on the sections of commands, over all that were accepted before (O-RAN.WG4.CUS for the fields and the windows; the
-- verdicts and their order are this project's profile).
use Rattle.std.specs.Prelude.{ℕ, ℤ, ◌+◌, ◌%◌, ◌==◌, Bool, true, false, not, ◌&&◌, nat_le, if◌then◌else◌, List, [], ◌∷◌, Option, Some, None}
use Rattle.fh_base.specs.declared.values.Slot.{Slot}
use Rattle.fh_base.specs.declared.numerology.Numerology.{Numerology}
use Rattle.fh_base.specs.Air.{air_of}
use Rattle.fh_base.specs.Frame.{absolute_frame}
use Rattle.fh_base.specs.Numbering.{code_of, offsets_of}
use Rattle.cplane_sections.specs.declared.values.CBody.{CBody}
use Rattle.cplane_sections.specs.declared.values.CBody.TheVariants.{Idle, Normal, Offset}
use Rattle.cplane_sections.specs.Header.{kind_of}
use Rattle.fh_base.specs.Carrier.{is_outside}
use Rattle.window_config.specs.declared.delays.Delays.{Delays}
use Rattle.window_config.specs.declared.verdicts.Class.{Class}
use Rattle.window_config.specs.declared.verdicts.Class.TheVariants as class
use Rattle.window_config.specs.Classes.{class_of}
use Rattle.window_config.specs.Windows.{command_window_of}
use Rattle.unit_model.specs.Claims.{same_slot, repeats, overlaps}
use Rattle.unit_model.specs.declared.allocations.Allocation.{Allocation}
use Rattle.unit_model.specs.declared.decoded.ControlSection.{ControlSection}
use Rattle.unit_model.specs.declared.verdicts.CommandVerdict.{CommandVerdict}
use Rattle.unit_model.specs.declared.verdicts.CommandVerdict.TheVariants.{Mismatch, Late, Early, Range, Repeat, Overlap, Full, Accepted}
use Rattle.unit_model.specs.declared.uplink.TheConstants.{SLOT_SECTIONS}

-- the slot that a command names, by the frame nearest to its arrival
abbrev pub command_slot : ControlSection → Slot
command_slot c = record { frame = absolute_frame c.head.frame_id c.at.0; subframe = c.head.subframe; slot = c.head.slot }

abbrev pub is_idle : CBody → Bool
is_idle body = kind_of body == 0

abbrev pub allocation_of : ControlSection → Allocation
allocation_of c = record {
  ep = c.ep;
  endpoint = c.endpoint;
  down = c.head.down;
  idle = is_idle c.head.body;
  slot = command_slot c;
  symbol = c.section.symbol;
  num_symbol = c.section.num_symbol;
  start_prb = c.section.start_prb;
  num_prb = c.section.num_prb;
  mask = c.section.mask;
  section = c.section.id;
  filter = c.head.filter;
}

-- ---- the tests

abbrev pub has_no_offsets : Option (ℕ × ℕ) → Bool
has_no_offsets None = true
has_no_offsets (Some p) = false

abbrev pub has_offsets : ℕ → ℕ → Option (ℕ × ℕ) → Bool
has_offsets time_offset cp_length None = false
has_offsets time_offset cp_length (Some (t, c)) = (time_offset == t) && (cp_length == c)

-- the header is one for the endpoint: type 0 for any, type 1 for one without offsets, type 3 for an offset one with these numbers;
-- the low four bits of frameStructure are the spacing code
abbrev pub is_for : CBody → Numerology → Bool
is_for (Idle t structure cp) n = true
is_for (Normal comp) n = has_no_offsets (offsets_of n)
is_for (Offset t structure cp comp) n = has_offsets t cp (offsets_of n) && (structure % 16 == code_of n)

abbrev pub command_start : ControlSection → ℤ
command_start c = air_of c.endpoint.numerology (command_slot c) c.head.start_symbol

-- whether it is on time goes by the header's symbol, also where its own is a later one
abbrev pub command_class : Delays → ControlSection → Class
command_class d c = class_of c.at.0 c.at.0 (command_start c) (command_window_of d c.head.down)

-- an uplink section of type 1 or 3: the radio unit sends data for it
abbrev pub is_uplink : Allocation → Bool
is_uplink a = not a.down && not a.idle

-- how many of these are uplink sections of one endpoint and slot
abbrev pub uplink_in : ℕ → Slot → List Allocation → ℕ
uplink_in ep slot [] = 0
uplink_in ep slot (a ∷ earlier) =
    uplink_in ep slot earlier + (if is_uplink a && ((a.ep == ep) && same_slot a.slot slot) then 1 else 0)

abbrev pub is_full : List Allocation → Allocation → Bool
is_full accepted a = is_uplink a && nat_le SLOT_SECTIONS (uplink_in a.ep a.slot accepted)

-- the verdict on an allocation that is on time, where these were accepted
abbrev pub timely_verdict : List Allocation → Allocation → CommandVerdict
timely_verdict accepted a =
    if is_outside a.endpoint.prbs a.start_prb a.num_prb then Range
    else (if repeats accepted a then Repeat
    else (if overlaps accepted a then Overlap
    else (if is_full accepted a then Full
    else Accepted)))

abbrev pub verdict_in : Class → List Allocation → Allocation → CommandVerdict
verdict_in class.Late accepted a = Late
verdict_in class.Early accepted a = Early
verdict_in class.OnTime accepted a = timely_verdict accepted a

unfoldable pub command_verdict : Delays → List Allocation → ControlSection → CommandVerdict
command_verdict d accepted c =
    if is_for c.head.body c.endpoint.numerology then verdict_in (command_class d c) accepted (allocation_of c) else Mismatch

-- ---- all sections, the newest first

abbrev pub with_accepted : CommandVerdict → Allocation → List Allocation → List Allocation
with_accepted Accepted a accepted = a ∷ accepted
with_accepted _ a accepted = accepted

-- what was accepted of these
unfoldable pub accepted : Delays → List ControlSection → List Allocation
accepted d [] = []
accepted d (c ∷ earlier) = with_accepted (command_verdict d (accepted d earlier) c) (allocation_of c) (accepted d earlier)

-- the verdicts
unfoldable pub command_verdicts : Delays → List ControlSection → List CommandVerdict
command_verdicts d [] = []
command_verdicts d (c ∷ earlier) = command_verdict d (accepted d earlier) c ∷ command_verdicts d earlier
