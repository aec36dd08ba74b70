-- An arrival changes nothing of what is past: at the radio unit what is reported up to it, at the distributed unit what is reported before
-- it.
use Rattle.std.specs.Prelude.{◌≡◌, ℤ, ◌≤ℤ◌, List, ◌∷◌}
use Rattle.unit_model.specs.Terms.{AirCell, Side, Ru}
use Rattle.window_config.specs.Limits.{IsWithinLimits}
use Rattle.window_config.specs.declared.delays.Delays.{Delays}
use Rattle.window_config.specs.declared.endpoints.EndpointConfig.{EndpointConfig}
use Rattle.unit_model.specs.Blocks.{timely}
use Rattle.unit_model.specs.Commands.{accepted}
use Rattle.unit_model.specs.Proper.{IsProperCommand, IsProperData}
use Rattle.unit_model.specs.Radiated.{known_of, reported}
use Rattle.unit_model.specs.Standing.{due, past_of}
use Rattle.unit_model.specs.declared.allocations.Allocation.{Allocation}
use Rattle.unit_model.specs.declared.decoded.ControlSection.{ControlSection}
use Rattle.unit_model.specs.declared.decoded.UserSection.{UserSection}
use Rattle.unit_laws.specs.Past.{IsInOrder}

abbrev pub CommandLeavesReported : Type 0
CommandLeavesReported =
    (es : List EndpointConfig) (d : Delays) (c : ControlSection) (earlier : List ControlSection) (given : List UserSection) (to : ℤ)
    → IsWithinLimits d → IsProperCommand es c → IsInOrder c → to ≤ℤ c.at.0
    → reported Ru d es (known_of (accepted d (c ∷ earlier)) given) to ≡ reported Ru d es (known_of (accepted d earlier) given) to

abbrev pub DataLeaveReported : Type 0
DataLeaveReported =
    (side : Side) (es : List EndpointConfig) (d : Delays) (x : UserSection) (earlier : List UserSection) (claimed : List Allocation) (to : ℤ)
    → IsWithinLimits d → IsProperData es x → to ≤ℤ past_of side x.last.0
    → reported side d es (known_of claimed (timely side d (x ∷ earlier))) to ≡ reported side d es (known_of claimed (timely side d earlier)) to

-- nor of what is due, whatever was heard
abbrev pub CommandLeavesDue : Type 0
CommandLeavesDue =
    (es : List EndpointConfig) (d : Delays) (c : ControlSection) (earlier : List ControlSection) (given : List UserSection) (heard : List AirCell) (to : ℤ)
    → IsWithinLimits d → IsProperCommand es c → IsInOrder c → to ≤ℤ c.at.0
    → due Ru d es (known_of (accepted d (c ∷ earlier)) given) heard to ≡ due Ru d es (known_of (accepted d earlier) given) heard to

abbrev pub DataLeaveDue : Type 0
DataLeaveDue =
    (side : Side) (es : List EndpointConfig) (d : Delays) (x : UserSection) (earlier : List UserSection) (claimed : List Allocation) (heard : List AirCell) (to : ℤ)
    → IsWithinLimits d → IsProperData es x → to ≤ℤ past_of side x.last.0
    → due side d es (known_of claimed (timely side d (x ∷ earlier))) heard to ≡ due side d es (known_of claimed (timely side d earlier)) heard to
