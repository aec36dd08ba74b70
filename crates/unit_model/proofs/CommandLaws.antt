-- Commands go to the radio unit alone: the distributed unit meets none.
use Rattle.std.proofs.Common.{◌≡◌, ℕ, ℤ, ◌==◌, Bool, true, false, cond, not, ◌||◌, nat_lt, List, length, Option, Some, None, refl, sym, subst}
use Rattle.air_source.specs.declared.events.Side.{Side}
use Rattle.air_source.specs.declared.events.Side.TheVariants.{Ru, Du}
use Rattle.ecpri_frames.specs.Messages.{Message}
use Rattle.fault_counters.specs.declared.kinds.Counter.TheVariants.{OtherType, Delay, Short, WrongWay}
use Rattle.window_config.specs.declared.endpoints.EndpointConfig.{EndpointConfig}
use Rattle.unit_model.specs.Meetings.{Meeting, Ignored, Commands, Piece, met_by, meet, find_endpoint, fragment_of}
use Rattle.unit_model.specs.declared.decoded.ControlSection.{ControlSection}
use Rattle.ecpri_frames.specs.declared.heads.TheConstants.{ONE_WAY_DELAY, REAL_TIME_CONTROL, IQ_DATA}
use Rattle.ecpri_fragments.specs.Sequence.{id_of}

abbrev pub IsNoCommand : Meeting → Type 0
IsNoCommand (Ignored c) = Unit {0}
IsNoCommand (Commands cs) = ⊥
IsNoCommand (Piece e f) = Unit {0}

either_none : (b : Bool) (x y : Meeting) → IsNoCommand x → IsNoCommand y → IsNoCommand (cond b x y)
either_none true x y p q = p
either_none false x y p q = q

none_by : (kind : ℕ) (at : ℤ) (payload : List ℕ) (found : Option (ℕ × EndpointConfig)) → IsNoCommand (met_by Du kind at payload found)
none_by kind at payload None = tt
none_by kind at payload (Some (ep, e)) = either_none (kind == REAL_TIME_CONTROL) (Ignored WrongWay) (Piece e (fragment_of ep at payload)) tt tt

pub none_met : (es : List EndpointConfig) (at : ℤ) (m : Message) → IsNoCommand (meet Du es at m)
unfolding meet
none_met es at m =
    let found = met_by Du m.head.kind at m.payload (find_endpoint es (id_of m.payload)) in
    let long = cond (nat_lt (length m.payload) 4) (Ignored Short) found in
    let typed = cond (not (m.head.kind == IQ_DATA || m.head.kind == REAL_TIME_CONTROL)) (Ignored OtherType) long in
    either_none (m.head.kind == ONE_WAY_DELAY) (Ignored Delay) typed tt
    (either_none (not (m.head.kind == IQ_DATA || m.head.kind == REAL_TIME_CONTROL)) (Ignored OtherType) long tt
    (either_none (nat_lt (length m.payload) 4) (Ignored Short) found tt (none_by m.head.kind at m.payload (find_endpoint es (id_of m.payload)))))

-- so where a message is a command, the unit is the radio unit
pub told_at_ru : (side : Side) (es : List EndpointConfig) (at : ℤ) (m : Message) (cs : List ControlSection) → Commands cs ≡ meet side es at m → side ≡ Ru
told_at_ru Ru es at m cs is = refl
told_at_ru Du es at m cs is = absurd (subst IsNoCommand (sym is) (none_met es at m))

pub for_ru : (side : Side) (es : List EndpointConfig) (at : ℤ) (m : Message) (cs : List ControlSection) (P : Side → Type 0) → Commands cs ≡ meet side es at m → P Ru → P side
for_ru Ru es at m cs P is here = here
for_ru Du es at m cs P is here = absurd (subst IsNoCommand (sym is) (none_met es at m))
