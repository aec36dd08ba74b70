-- The sections of commands that are read do not go back in their slot.
use Rattle.std.proofs.Common.{ℕ, ℤ, zero, suc, ◌+◌, ◌≤◌, Bool, true, false, List, [], ◌∷◌, Option, Some, None, Result, Ok, Err, arith}
use Rattle.std.specs.Prelude.{All, ◌==◌, ◌||◌, not, nat_lt, length, drop, if◌then◌else◌}
use Rattle.std.proofs.lemmas.List.Elements.{All-nil, All-cons, All-head, All-tail, All-map, All-weaker}
use Rattle.fh_base.specs.Numbering.{shape_of}
use Rattle.unit_model.specs.Terms.{Side, Ru, Du}
use Rattle.cplane_sections.specs.declared.values.CHead.{CHead}
use Rattle.cplane_sections.specs.declared.values.CRefusal.{CRefusal}
use Rattle.cplane_sections.specs.declared.values.CSection.{CSection}
use Rattle.cplane_sections.specs.Header.{size_of_head, kind_of}
use Rattle.cplane_sections.specs.Message.{sections_in, sections_of}
use Rattle.cplane_sections.specs.Section.{symInc, size_of_section, section_of}
use Rattle.cplane_sections.specs.Tests.{checked}
use Rattle.ecpri_frames.specs.Gathering.{whole_messages}
use Rattle.ecpri_frames.specs.Messages.{Message}
use Rattle.window_config.specs.declared.endpoints.EndpointConfig.{EndpointConfig}
use Rattle.unit_model.specs.Meetings.{Arrival, Meeting, Ignored, Commands, Piece, command, command_read, commands, control_met, find_endpoint, meet, meetings, met_by, met_in, fragment_of}
use Rattle.unit_laws.specs.Past.{IsInOrder, CommandsAreInOrder}
use Rattle.ecpri_frames.specs.declared.heads.TheConstants.{ONE_WAY_DELAY, REAL_TIME_CONTROL, IQ_DATA}
use Rattle.ecpri_fragments.specs.Sequence.{id_of, sequence_of, application, is_fragmented}
use Rattle.fh_base.proofs.OntoLemmas.{All-onto}

-- the maintained symbol number is never below the one that it began with
sections_from : (n kind : ℕ) (bytes : List ℕ) (place before : ℕ) → All (λ (s : CSection). before ≤ s.symbol) (sections_of n kind bytes place before)
unfolding sections_of
sections_from zero kind bytes place before = All-nil (λ (s : CSection). before ≤ s.symbol)
sections_from (suc n) kind bytes place before =
    let next = before + symInc (drop place bytes) in
    let later : (s : CSection) → next ≤ s.symbol → before ≤ s.symbol = λ s h. omega arith in
    All-cons (λ (s : CSection). before ≤ s.symbol) (section_of kind before (drop place bytes))
    (sections_of n kind bytes (place + size_of_section kind) next) (omega arith)
    (All-weaker (λ (s : CSection). next ≤ s.symbol) (λ (s : CSection). before ≤ s.symbol) later
    (sections_of n kind bytes (place + size_of_section kind) next) (sections_from n kind bytes (place + size_of_section kind) next))

abbrev AreOrdered : Meeting → Type 0
AreOrdered (Ignored c) = Unit {0}
AreOrdered (Commands cs) = All IsInOrder cs
AreOrdered (Piece e f) = Unit {0}

read_ordered : (ep : ℕ) (e : EndpointConfig) (at : ℤ) (bytes : List ℕ) (r : Result CHead CRefusal) → AreOrdered (command_read ep e at bytes r)
read_ordered ep e at bytes (Err r) = tt
read_ordered ep e at bytes (Ok head) =
    All-map IsInOrder (command ep e at head) (sections_in head bytes)
    (sections_from head.count (kind_of head.body) bytes (size_of_head (kind_of head.body)) head.start_symbol)

choice : (b : Bool) (x y : Meeting) → AreOrdered x → AreOrdered y → AreOrdered (if b then x else y)
choice true x y h k = h
choice false x y h k = k

control_ordered : (side : Side) (ep : ℕ) (e : EndpointConfig) (at : ℤ) (payload : List ℕ) → AreOrdered (control_met side ep e at payload)
control_ordered Ru ep e at payload =
    choice (is_fragmented (sequence_of payload)) _ (command_read ep e at (application payload) (checked (shape_of e.numerology) (application payload)))
    tt (read_ordered ep e at (application payload) (checked (shape_of e.numerology) (application payload)))
control_ordered Du ep e at payload = tt

met_ordered : (side : Side) (kind : ℕ) (at : ℤ) (payload : List ℕ) (o : Option (ℕ × EndpointConfig)) → AreOrdered (met_by side kind at payload o)
met_ordered side kind at payload None = tt
met_ordered side kind at payload (Some (ep, e)) =
    choice (kind == REAL_TIME_CONTROL) (control_met side ep e at payload) (Piece e (fragment_of ep at payload)) (control_ordered side ep e at payload) tt

meet_ordered : (side : Side) (es : List EndpointConfig) (at : ℤ) (m : Message) → AreOrdered (meet side es at m)
unfolding meet
meet_ordered side es at m =
    choice (m.head.kind == ONE_WAY_DELAY) _ _ tt
    (choice (not (m.head.kind == IQ_DATA || m.head.kind == REAL_TIME_CONTROL)) _ _ tt
    (choice (nat_lt (length m.payload) 4) _ _ tt (met_ordered side m.head.kind at m.payload (find_endpoint es (id_of m.payload)))))

all_met : (side : Side) (es : List EndpointConfig) (at : ℤ) (ms : List Message) → All AreOrdered (met_in side es at ms)
all_met side es at [] = All-nil AreOrdered
all_met side es at (m ∷ ms) = All-cons AreOrdered (meet side es at m) (met_in side es at ms) (meet_ordered side es at m) (all_met side es at ms)

all_meetings : (side : Side) (es : List EndpointConfig) (arrivals : List Arrival) → All AreOrdered (meetings side es arrivals)
unfolding meetings
all_meetings side es [] = All-nil AreOrdered
all_meetings side es (a ∷ earlier) =
    All-onto AreOrdered (meetings side es earlier) (met_in side es a.at (whole_messages a.frame)) (all_meetings side es earlier) (all_met side es a.at (whole_messages a.frame))

all_commands : (ms : List Meeting) → All AreOrdered ms → All IsInOrder (commands ms)
unfolding commands
all_commands [] h = All-nil IsInOrder
all_commands (Ignored c ∷ earlier) h = all_commands earlier (All-tail AreOrdered (Ignored c) earlier h)
all_commands (Commands cs ∷ earlier) h =
    All-onto IsInOrder (commands earlier) cs (all_commands earlier (All-tail AreOrdered (Commands cs) earlier h)) (All-head AreOrdered (Commands cs) earlier h)
all_commands (Piece e f ∷ earlier) h = all_commands earlier (All-tail AreOrdered (Piece e f) earlier h)

pub commands_in_order : CommandsAreInOrder
commands_in_order side es arrivals = all_commands (meetings side es arrivals) (all_meetings side es arrivals)
