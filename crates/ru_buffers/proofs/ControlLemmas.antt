-- Frames without real-time control data: no command is received with them.
use Rattle.std.proofs.Common.{◌≡◌, ℕ, ℤ, Bool, true, false, ◌||◌, ◌==◌, not, List, [], ◌∷◌, length, map, refl, ap, ◌∙◌, Option, None, Some}
use Rattle.std.specs.Prelude.{nat_lt, if◌then◌else◌}
use Rattle.std.specs.List.{list_any}
use Rattle.std.proofs.lemmas.Bool.{or_parts}
use Rattle.air_source.specs.declared.events.Side.TheVariants.{Ru}
use Rattle.ecpri_fragments.specs.Generations.{Fragment}
use Rattle.fault_counters.specs.declared.kinds.Counter.{Counter}
use Rattle.fault_counters.specs.declared.kinds.Counter.TheVariants.{Delay, OtherType, Short, UnknownEndpoint}
use Rattle.ecpri_frames.specs.Gathering.{whole_messages}
use Rattle.ecpri_frames.specs.Messages.{Message}
use Rattle.window_config.specs.declared.config.Config.{Config}
use Rattle.window_config.specs.declared.endpoints.EndpointConfig.{EndpointConfig}
use Rattle.unit_model.specs.Commands.{accepted}
use Rattle.fh_base.specs.Lists.{onto}
use Rattle.unit_model.specs.Meetings.{Arrival, Meeting, Ignored, Piece, commands, control_met, find_endpoint, fragment_of, meet, meetings, met_by}
use Rattle.unit_model.specs.Reports.{accepted_of}
use Rattle.unit_model.specs.declared.decoded.ControlSection.{ControlSection}
use Rattle.unit_memory.specs.Control.{has_control, is_control}
use Rattle.ecpri_frames.specs.declared.heads.TheConstants.{ONE_WAY_DELAY, REAL_TIME_CONTROL, IQ_DATA}
use Rattle.ecpri_fragments.specs.Sequence.{id_of}

abbrev Adds : Meeting → Type 0
Adds m = (earlier : List Meeting) → commands (m ∷ earlier) ≡ commands earlier

ignored_adds : (c : Counter) → Adds (Ignored c)
unfolding commands
ignored_adds c earlier = refl

piece_adds : (e : EndpointConfig) (f : Fragment) → Adds (Piece e f)
unfolding commands
piece_adds e f earlier = refl

chosen : (b : Bool) (x y : Meeting) → Adds x → Adds y → Adds (if b then x else y)
chosen true x y p q = p
chosen false x y p q = q

other : (b : Bool) (x y : Meeting) → b ≡ false → Adds y → Adds (if b then x else y)
other true x y e q = absurd cc
other false x y e q = q

by_adds : (kind : ℕ) (at : ℤ) (payload : List ℕ) (o : Option (ℕ × EndpointConfig)) → (kind == REAL_TIME_CONTROL) ≡ false → Adds (met_by Ru kind at payload o)
by_adds kind at payload None e = ignored_adds UnknownEndpoint
by_adds kind at payload (Some (ep, endpoint)) e =
    other (kind == REAL_TIME_CONTROL) (control_met Ru ep endpoint at payload) (Piece endpoint (fragment_of ep at payload)) e (piece_adds endpoint (fragment_of ep at payload))

meets_none : (es : List EndpointConfig) (at : ℤ) (m : Message) → is_control m ≡ false → Adds (meet Ru es at m)
unfolding meet
meets_none es at m e =
    chosen (m.head.kind == ONE_WAY_DELAY) _ _ (ignored_adds Delay)
    (chosen (not (m.head.kind == IQ_DATA || m.head.kind == REAL_TIME_CONTROL)) _ _ (ignored_adds OtherType)
    (chosen (nat_lt (length m.payload) 4) _ _ (ignored_adds Short) (by_adds m.head.kind at m.payload (find_endpoint es (id_of m.payload)) e)))

onto_adds : (es : List EndpointConfig) (at : ℤ) (ms : List Message) (earlier : List Meeting) → list_any is_control ms ≡ false
    → commands (onto earlier (map (meet Ru es at) ms)) ≡ commands earlier
unfolding onto
onto_adds es at [] earlier none = refl
onto_adds es at (m ∷ ms) earlier none =
    let parts = or_parts (is_control m) (list_any is_control ms) none in
    onto_adds es at ms (meet Ru es at m ∷ earlier) parts.1 ∙ meets_none es at m parts.0 earlier

-- so no section of a command is accepted
pub none_accepted : (c : Config) (a : Arrival) (arrivals : List Arrival) → has_control a.frame ≡ false → accepted_of c (a ∷ arrivals) ≡ accepted_of c arrivals
unfolding meetings
none_accepted c a arrivals none =
    ap (λ (cs : List ControlSection). accepted c.delays cs) (onto_adds c.endpoints a.at (whole_messages a.frame) (meetings Ru c.endpoints arrivals) none)
