-- The messages that the radio unit is to send, up to a time.
use Rattle.std.specs.Prelude.{◌≡◌, ℤ, pos, ◌+ℤ◌, ◌≤ℤ◌, List, ◌∷◌, ◌++◌}
use Rattle.window_config.specs.Limits.{IsWithinLimits}
use Rattle.window_config.specs.declared.delays.Delays.{Delays}
use Rattle.window_config.specs.declared.endpoints.EndpointConfig.{EndpointConfig}
use Rattle.unit_model.specs.Commands.{accepted}
use Rattle.unit_model.specs.Proper.{IsProperCommand}
use Rattle.unit_model.specs.Radiated.{first_clock}
use Rattle.unit_model.specs.Sweeps.{sweep}
use Rattle.unit_model.specs.Uplink.{jobs, symbol_jobs}
use Rattle.unit_model.specs.declared.allocations.Allocation.{Allocation}
use Rattle.unit_model.specs.declared.decoded.ControlSection.{ControlSection}
use Rattle.unit_model.specs.declared.jobs.UplinkJob.{UplinkJob}
use Rattle.unit_laws.specs.Past.{IsInOrder}

-- those up to a later time begin with those up to an earlier one
abbrev pub JobsBegin : Type 0
JobsBegin =
    (es : List EndpointConfig) (claimed : List Allocation) (to later : ℤ) → to ≤ℤ later
    → (rest : List UplinkJob) × (jobs es claimed later ≡ jobs es claimed to ++ rest)

-- and go on with those of the symbols that start after it
abbrev pub JobsAppend : Type 0
JobsAppend =
    (es : List EndpointConfig) (claimed : List Allocation) (to later : ℤ) → first_clock ≤ℤ to → to ≤ℤ later
    → jobs es claimed later ≡ jobs es claimed to ++ sweep (symbol_jobs claimed) es (to +ℤ pos 1) (later +ℤ pos 1)

-- so a command changes nothing that is sent by its arrival
abbrev pub CommandLeavesSent : Type 0
CommandLeavesSent =
    (es : List EndpointConfig) (d : Delays) (c : ControlSection) (earlier : List ControlSection) (to : ℤ)
    → IsWithinLimits d → IsProperCommand es c → IsInOrder c → to ≤ℤ c.at.0
    → jobs es (accepted d (c ∷ earlier)) to ≡ jobs es (accepted d earlier) to
