-- What is counted of frames, messages and fragments is beside the counters of verdicts and cells.
use Rattle.std.proofs.Common.{◌≡◌, ℕ, ℤ, ◌+◌, Bool, true, false, List, [], ◌∷◌, ◌++◌, refl, arith}
use Rattle.std.specs.Prelude.{◌==◌, if◌then◌else◌, not, ◌||◌, nat_lt, length, map, All, Option, Some, None, Result, Ok, Err}
use Rattle.std.proofs.lemmas.List.Elements.{All-nil, All-cons, All-head, All-tail}
use Rattle.fh_base.specs.Numbering.{shape_of}
use Rattle.air_source.specs.declared.events.Side.{Side}
use Rattle.air_source.specs.declared.events.Side.TheVariants.{Ru, Du}
use Rattle.cplane_sections.specs.declared.values.CRefusal.{CRefusal}
use Rattle.cplane_sections.specs.declared.values.CHead.{CHead}
use Rattle.cplane_sections.specs.Tests.{checked}
use Rattle.ecpri_fragments.specs.declared.verdict.Verdict.{Verdict}
use Rattle.ecpri_fragments.specs.declared.verdict.Verdict.TheVariants as fragment
use Rattle.ecpri_fragments.specs.Verdicts.{verdict_on}
use Rattle.ecpri_frames.specs.declared.refusals.PduRefusal.{PduRefusal}
use Rattle.ecpri_frames.specs.Gathering.{whole_messages}
use Rattle.ecpri_frames.specs.Messages.{Message, pdu}
use Rattle.fault_counters.specs.declared.kinds.Counter.{Counter}
use Rattle.fault_counters.specs.declared.kinds.Counter.TheVariants as counter
use Rattle.window_config.specs.declared.endpoints.EndpointConfig.{EndpointConfig}
use Rattle.unit_model.specs.Counts.{decoded_counted, fragment_counter, frames_counted, meeting_counted, messages_counted, refusal_counted}
use Rattle.unit_model.specs.Decoding.{Decoded, Refused, Backwards, Sections, data_now}
use Rattle.unit_model.specs.Meetings.{Arrival, Meeting, Ignored, Commands, Piece, command_read, control_met, find_endpoint, fragments, meet, meetings, met_by, met_in}
use Rattle.unit_model.proofs.CountLemmas.{times-append}
use Rattle.unit_laws.specs.Totals.{commands_total, data_total}
use Rattle.replay_laws.specs.Sums.{cells_total}
use Rattle.ecpri_frames.specs.declared.heads.TheConstants.{ONE_WAY_DELAY, REAL_TIME_CONTROL, IQ_DATA}
use Rattle.ecpri_fragments.specs.Sequence.{id_of, sequence_of, application, is_fragmented}
use Rattle.fh_base.proofs.OntoLemmas.{All-onto}

-- none of these is a verdict's counter, or a cell's
pub record IsBeside (cs : List Counter) : Type 0 where
  pub commands : commands_total cs ≡ 0
  pub sections : data_total cs ≡ 0
  pub cells : cells_total cs ≡ 0

pub beside-none : IsBeside []
beside-none = record { commands = refl; sections = refl; cells = refl }

pub commands-append : (xs ys : List Counter) → commands_total (xs ++ ys) ≡ commands_total xs + commands_total ys
commands-append xs ys =
    omega (
      arith,
      times-append xs ys counter.CMismatch,
      times-append xs ys counter.CLate,
      times-append xs ys counter.CEarly,
      times-append xs ys counter.CRange,
      times-append xs ys counter.CRepeat,
      times-append xs ys counter.COverlap,
      times-append xs ys counter.CFull,
      times-append xs ys counter.CAccepted,
    )

pub data-append : (xs ys : List Counter) → data_total (xs ++ ys) ≡ data_total xs + data_total ys
data-append xs ys =
    omega (
      arith,
      times-append xs ys counter.ULate,
      times-append xs ys counter.UEarly,
      times-append xs ys counter.URepeat,
      times-append xs ys counter.UTaken,
    )

pub cells-append : (xs ys : List Counter) → cells_total (xs ++ ys) ≡ cells_total xs + cells_total ys
cells-append xs ys = omega (arith, times-append xs ys counter.Cells, times-append xs ys counter.Missing)

no_more : (a b whole : ℕ) → a ≡ 0 → b ≡ 0 → whole ≡ a + b → whole ≡ 0
no_more a b whole p q e = omega (arith, p, q, e)

pub beside-append : (xs ys : List Counter) → IsBeside xs → IsBeside ys → IsBeside (xs ++ ys)
beside-append xs ys p q = record {
  commands = no_more (commands_total xs) (commands_total ys) (commands_total (xs ++ ys)) p.commands q.commands (commands-append xs ys);
  sections = no_more (data_total xs) (data_total ys) (data_total (xs ++ ys)) p.sections q.sections (data-append xs ys);
  cells = no_more (cells_total xs) (cells_total ys) (cells_total (xs ++ ys)) p.cells q.cells (cells-append xs ys);
}

-- ---- frames

frame_beside : IsBeside (counter.Frames ∷ [])
frame_beside = record { commands = refl; sections = refl; cells = refl }

message_beside : IsBeside (counter.Messages ∷ [])
message_beside = record { commands = refl; sections = refl; cells = refl }

refusal_beside : (r : Option PduRefusal) → IsBeside (refusal_counted r)
refusal_beside None = beside-none
refusal_beside (Some r) = record { commands = refl; sections = refl; cells = refl }

pub frames_beside : (arrivals : List Arrival) → IsBeside (frames_counted arrivals)
unfolding frames_counted
frames_beside [] = beside-none
frames_beside (a ∷ earlier) =
    beside-append (refusal_counted (pdu a.frame).refusal) (counter.Frames ∷ frames_counted earlier) (refusal_beside (pdu a.frame).refusal)
    (beside-append (counter.Frames ∷ []) (frames_counted earlier) frame_beside (frames_beside earlier))

-- ---- fragments

decoded_beside : (told : Option Decoded) → IsBeside (decoded_counted told)
decoded_beside None = beside-none
decoded_beside (Some Refused) = record { commands = refl; sections = refl; cells = refl }
decoded_beside (Some Backwards) = record { commands = refl; sections = refl; cells = refl }
decoded_beside (Some (Sections ds)) = beside-none

fragment_beside : (v : Verdict) → IsBeside (fragment_counter v ∷ [])
fragment_beside fragment.Stored = record { commands = refl; sections = refl; cells = refl }
fragment_beside fragment.Whole = record { commands = refl; sections = refl; cells = refl }
fragment_beside fragment.Repeat = record { commands = refl; sections = refl; cells = refl }
fragment_beside fragment.Stray = record { commands = refl; sections = refl; cells = refl }
fragment_beside fragment.TooLong = record { commands = refl; sections = refl; cells = refl }

-- ---- messages

-- a message that is counted and changes nothing is not counted as one of a verdict
abbrev pub IsMetBeside : Meeting → Type 0
IsMetBeside (Ignored c) = IsBeside (c ∷ [])
IsMetBeside (Commands cs) = Unit {0}
IsMetBeside (Piece e f) = Unit {0}

either : (b : Bool) (x y : Meeting) → IsMetBeside x → IsMetBeside y → IsMetBeside (if b then x else y)
either true x y p q = p
either false x y p q = q

read_beside : (ep : ℕ) (e : EndpointConfig) (at : ℤ) (bytes : List ℕ) (r : Result CHead CRefusal) → IsMetBeside (command_read ep e at bytes r)
read_beside ep e at bytes (Err r) = record { commands = refl; sections = refl; cells = refl }
read_beside ep e at bytes (Ok head) = tt

control_beside : (side : Side) (ep : ℕ) (e : EndpointConfig) (at : ℤ) (payload : List ℕ) → IsMetBeside (control_met side ep e at payload)
control_beside Ru ep e at payload =
    either (is_fragmented (sequence_of payload)) (Ignored counter.CRefused)
    (command_read ep e at (application payload) (checked (shape_of e.numerology) (application payload)))
    (record { commands = refl; sections = refl; cells = refl })
    (read_beside ep e at (application payload) (checked (shape_of e.numerology) (application payload)))
control_beside Du ep e at payload = record { commands = refl; sections = refl; cells = refl }

by_beside : (side : Side) (kind : ℕ) (at : ℤ) (payload : List ℕ) (found : Option (ℕ × EndpointConfig)) → IsMetBeside (met_by side kind at payload found)
by_beside side kind at payload None = record { commands = refl; sections = refl; cells = refl }
by_beside side kind at payload (Some (ep, e)) = either (kind == REAL_TIME_CONTROL) (control_met side ep e at payload) _ (control_beside side ep e at payload) tt

meet_beside : (side : Side) (es : List EndpointConfig) (at : ℤ) (m : Message) → IsMetBeside (meet side es at m)
unfolding meet
meet_beside side es at m =
    either (m.head.kind == ONE_WAY_DELAY) (Ignored counter.Delay) _ (record { commands = refl; sections = refl; cells = refl })
    (either (not (m.head.kind == IQ_DATA || m.head.kind == REAL_TIME_CONTROL)) (Ignored counter.OtherType) _ (record { commands = refl; sections = refl; cells = refl })
    (either (nat_lt (length m.payload) 4) (Ignored counter.Short) _ (record { commands = refl; sections = refl; cells = refl })
    (by_beside side m.head.kind at m.payload (find_endpoint es (id_of m.payload)))))

all_met_beside : (side : Side) (es : List EndpointConfig) (at : ℤ) (ms : List Message) → All IsMetBeside (met_in side es at ms)
all_met_beside side es at [] = All-nil IsMetBeside
all_met_beside side es at (m ∷ ms) =
    All-cons IsMetBeside (meet side es at m) (map (meet side es at) ms) (meet_beside side es at m) (all_met_beside side es at ms)

pub meetings_beside : (side : Side) (es : List EndpointConfig) (arrivals : List Arrival) → All IsMetBeside (meetings side es arrivals)
unfolding meetings
meetings_beside side es [] = All-nil IsMetBeside
meetings_beside side es (a ∷ earlier) =
    All-onto IsMetBeside (meetings side es earlier) (met_in side es a.at (whole_messages a.frame)) (meetings_beside side es earlier)
    (all_met_beside side es a.at (whole_messages a.frame))

meeting_beside : (side : Side) (hold : ℤ) (m : Meeting) (earlier : List Meeting) → IsMetBeside m → IsBeside (meeting_counted side hold m earlier)
meeting_beside side hold (Ignored c) earlier h = beside-append (c ∷ []) (counter.Messages ∷ []) h message_beside
meeting_beside side hold (Commands cs) earlier h = message_beside
meeting_beside side hold (Piece e f) earlier h =
    let stood = fragments earlier in
    let told = data_now side hold e f stood in
    let verdict = fragment_counter (verdict_on hold f stood) ∷ [] in
    beside-append (decoded_counted told ++ verdict) (counter.Messages ∷ [])
    (beside-append (decoded_counted told) verdict (decoded_beside told) (fragment_beside (verdict_on hold f stood))) message_beside

pub messages_beside : (side : Side) (hold : ℤ) (ms : List Meeting) → All IsMetBeside ms → IsBeside (messages_counted side hold ms)
unfolding messages_counted
messages_beside side hold [] h = beside-none
messages_beside side hold (m ∷ earlier) h =
    beside-append (meeting_counted side hold m earlier) (messages_counted side hold earlier)
    (meeting_beside side hold m earlier (All-head IsMetBeside m earlier h)) (messages_beside side hold earlier (All-tail IsMetBeside m earlier h))
