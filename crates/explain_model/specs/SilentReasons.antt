-- Why a cell is missing (this project's profile): the first rule that holds, each over the records of the cell's symbol.
use Rattle.std.specs.Prelude.{ℕ, Bool, true, false, not, ◌&&◌, List, [], ◌∷◌, filter, Option, Some, None}
use Rattle.std.specs.List.{find}
use Rattle.air_source.specs.declared.events.Event.{Event}
use Rattle.air_source.specs.declared.events.Side.{Side}
use Rattle.air_source.specs.declared.events.Side.TheVariants.{Ru, Du}
use Rattle.window_config.specs.declared.config.Config.{Config}
use Rattle.window_config.specs.declared.verdicts.Class.{Class}
use Rattle.window_config.specs.declared.verdicts.Class.TheVariants.{OnTime, Late, Early}
use Rattle.unit_model.specs.Claims.{is_from}
use Rattle.fh_base.specs.Lists.{or_else}
use Rattle.explain_model.specs.declared.reasons.Reason.{Reason}
use Rattle.explain_model.specs.declared.reasons.Reason.TheVariants as reason
use Rattle.explain_model.specs.Stories.{Story, stories}
use Rattle.explain_model.specs.Keys.{beginning_key, command_key, data_key, header_key, repeated_key, same_slot_key, same_symbol}
use Rattle.explain_model.specs.declared.data.DataRecord.{DataRecord}
use Rattle.explain_model.specs.declared.headers.BeginningRecord.{BeginningRecord}
use Rattle.explain_model.specs.declared.headers.HeaderRecord.{HeaderRecord}
use Rattle.explain_model.specs.declared.headers.HeaderWhy.{HeaderWhy}
use Rattle.explain_model.specs.declared.headers.HeaderWhy.TheVariants as header
use Rattle.explain_model.specs.declared.headers.RepeatedRecord.{RepeatedRecord}
use Rattle.explain_model.specs.declared.keys.SlotKey.{SlotKey}
use Rattle.explain_model.specs.declared.keys.SymbolKey.{SymbolKey}
use Rattle.explain_model.specs.declared.sections.CommandRecord.{CommandRecord}
use Rattle.explain_model.specs.Commanded.{Elements, accepted_command, command_reason, nearest}
use Rattle.explain_model.specs.Fragments.{beginning_records, repeated_records}
use Rattle.explain_model.specs.Records.{command_records, data_records, header_records}

-- what is kept
pub record Kept : Type 0 where
  pub given : List DataRecord
  pub commanded : List CommandRecord
  pub headers : List HeaderRecord
  pub repeated : List RepeatedRecord
  pub begun : List BeginningRecord

abbrev pub kept_of : Config → List Story → Kept
kept_of c ss = record {
  given = data_records c ss;
  commanded = command_records c ss;
  headers = header_records ss;
  repeated = repeated_records c ss;
  begun = beginning_records c ss;
}

-- of a list of events
abbrev pub kept : Config → List Event → Kept
kept c events = kept_of c (stories c events)

-- of these the records of one symbol, and the commands of its slot
abbrev pub slot_of : SymbolKey → SlotKey
slot_of k = record { ep = k.ep; slot = k.slot }

abbrev pub of_symbol : SymbolKey → Kept → Kept
of_symbol k all = record {
  given = filter (λ r. same_symbol (data_key r) k) all.given;
  commanded = filter (λ r. same_slot_key (command_key r) (slot_of k)) all.commanded;
  headers = filter (λ r. same_symbol (header_key r) k) all.headers;
  repeated = filter (λ r. same_symbol (repeated_key r) k) all.repeated;
  begun = filter (λ r. same_symbol (beginning_key r) k) all.begun;
}

-- ---- the block of a PRB

-- a section of data covers a PRB of a symbol
unfoldable pub covers_prb : SymbolKey → ℕ → DataRecord → Bool
covers_prb k prb r = same_symbol (data_key r) k && is_from r.first_prb r.prbs prb

abbrev pub is_on_time : Class → Bool
is_on_time OnTime = true
is_on_time _ = false

abbrev pub gives_prb : SymbolKey → ℕ → DataRecord → Bool
gives_prb k prb r = covers_prb k prb r && is_on_time r.class

-- the section that gave it its block, if one did: the first on time that covers it
unfoldable pub giver_of : List DataRecord → SymbolKey → ℕ → Option DataRecord
giver_of rs k prb = find (gives_prb k prb) rs

-- ---- each rule

-- it has a block, of another section id
abbrev pub other_of : Option DataRecord → Option Reason
other_of None = None
other_of (Some r) = Some (reason.Other r.section r.number)

unfoldable pub other_reason : List DataRecord → SymbolKey → ℕ → Option Reason
other_reason rs k prb = other_of (giver_of rs k prb)

-- of the data that cover it late or early, the nearest
abbrev pub untimely_by : Class → ℕ → ℕ → Option Reason
untimely_by OnTime by from = None
untimely_by Late by from = Some (reason.Late by from)
untimely_by Early by from = Some (reason.Early by from)

abbrev pub untimely_of : Option DataRecord → Option Reason
untimely_of None = None
untimely_of (Some r) = untimely_by r.class r.distance r.number

abbrev pub misses_prb : SymbolKey → ℕ → DataRecord → Bool
misses_prb k prb r = covers_prb k prb r && not (is_on_time r.class)

unfoldable pub untimely_reason : List DataRecord → SymbolKey → ℕ → Option Reason
untimely_reason rs k prb = untimely_of (nearest (λ r. r.distance) (filter (misses_prb k prb) rs))

-- the first whole message of the symbol that was not decoded
abbrev pub header_by : HeaderWhy → ℕ → Reason
header_by header.Refused from = reason.Refused from
header_by header.WrongWay from = reason.WrongWay from

abbrev pub header_of : Option HeaderRecord → Option Reason
header_of None = None
header_of (Some r) = Some (header_by r.why r.number)

unfoldable pub header_reason : List HeaderRecord → SymbolKey → Option Reason
header_reason rs k = header_of (find (λ r. same_symbol (header_key r) k) rs)

-- the first message of the symbol that was received under a used sequence id
abbrev pub repeated_of : Option RepeatedRecord → Option Reason
repeated_of None = None
repeated_of (Some r) = Some (reason.Repeated r.seq r.number)

unfoldable pub repeated_reason : List RepeatedRecord → SymbolKey → Option Reason
repeated_reason rs k = repeated_of (find (λ r. same_symbol (repeated_key r) k) rs)

-- the last of the symbol that never became whole
unfoldable pub last_of : {A : Type 0} → List A → Option A
last_of [] = None
last_of (x ∷ xs) = or_else (last_of xs) (Some x)

abbrev pub unfinished_of : Option BeginningRecord → Option Reason
unfinished_of None = None
unfinished_of (Some r) = Some (reason.Unfinished r.seq r.pieces r.number)

unfoldable pub unfinished_reason : List BeginningRecord → SymbolKey → Option Reason
unfinished_reason rs k = unfinished_of (last_of (filter (λ r. same_symbol (beginning_key r) k) rs))

-- what became of a received message: these rules in their order
unfoldable pub came_reason : Kept → SymbolKey → ℕ → Option Reason
came_reason all k prb =
    or_else (other_reason all.given k prb)
    (or_else (untimely_reason all.given k prb)
    (or_else (header_reason all.headers k)
    (or_else (repeated_reason all.repeated k) (unfinished_reason all.begun k))))

-- the radio unit was asked for the cell
abbrev pub asked_of : Option CommandRecord → Option Reason
asked_of None = None
asked_of (Some r) = Some (reason.NoData (Some r.number))

-- the elements of an uplink cell, all twelve
abbrev pub uplink_elements : SymbolKey → ℕ → Elements
uplink_elements k prb = record { key = slot_of k; down = false; symbol = k.symbol; prb = prb; mask = 0xfff }

abbrev pub or_reason : Option Reason → Reason → Reason
or_reason None r = r
or_reason (Some r) other = r

-- nothing was received: at the distributed unit it tells what became of the command
abbrev pub nothing_reason : Kept → Side → SymbolKey → ℕ → Reason
nothing_reason all Ru k prb = reason.NoData None
nothing_reason all Du k prb =
    or_reason (asked_of (accepted_command all.commanded (uplink_elements k prb))) (command_reason all.commanded (uplink_elements k prb))

-- why a cell that has no samples under its section id has none
unfoldable pub missing_reason : Kept → SymbolKey → ℕ → Reason
missing_reason all k prb = or_reason (came_reason all k prb) (nothing_reason all k.side k prb)
