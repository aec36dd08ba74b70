-- What a unit tells at ticks that are after its clock: at the radio unit only live slots tell anything.
use Rattle.std.specs.Prelude.{◌≡◌, ℕ, ℤ, pos, ◌<◌, ◌+ℤ◌, ◌-ℤ◌, ◌≤ℤ◌, List, [], ◌++◌, ◌⊎◌}
use Rattle.fh_base.specs.Air.{air_of}
use Rattle.fh_base.specs.Numbering.{symbols_of}
use Rattle.fh_base.specs.declared.numerology.Numerology.{Numerology}
use Rattle.fh_base.specs.declared.values.Slot.{Slot}
use Rattle.unit_model.specs.Terms.{AirCell, Side}
use Rattle.window_config.specs.Rings.{IsLive, ru_reach_of}
use Rattle.window_config.specs.declared.config.Config.{Config}
use Rattle.window_config.specs.declared.delays.Delays.{Delays}
use Rattle.window_config.specs.declared.endpoints.EndpointConfig.{EndpointConfig}
use Rattle.window_config.specs.declared.rings.Reach.{Reach}
use Rattle.unit_model.specs.Radiated.{Known, first_clock, wait_of}
use Rattle.unit_model.specs.Standing.{due, still_given, still_reported}
use Rattle.unit_model.specs.Sweeps.{sweep}
use Rattle.unit_model.specs.declared.allocations.Allocation.{Allocation}
use Rattle.unit_model.specs.declared.jobs.UplinkJob.{UplinkJob}
use Rattle.unit_laws.specs.Far.{IsFar}

-- a slot that is live later is live now, or not live yet
abbrev pub LiveLater : Type 0
LiveLater =
    (n : Numerology) (r : Reach) (clock later : ℤ) (slot : Slot) → clock ≤ℤ later → IsLive n r.before r.after later slot
    → IsLive n r.before r.after clock slot ⊎ IsFar n r clock slot

-- and so is the slot of a symbol that starts later
abbrev pub LaterSymbolsAreAhead : Type 0
LaterSymbolsAreAhead =
    (n : Numerology) (r : Reach) (clock : ℤ) (slot : Slot) (symbol : ℕ) → pos 0 ≤ℤ r.after → symbol < symbols_of n → clock ≤ℤ air_of n slot symbol
    → IsLive n r.before r.after clock slot ⊎ IsFar n r clock slot

-- a slot of the radio unit that is live
abbrev pub IsLiveSlot : Delays → EndpointConfig → ℤ → Slot → Type 0
IsLiveSlot d e clock slot = IsLive e.numerology (ru_reach_of d).before (ru_reach_of d).after clock slot

-- where nothing is due at a time, what is due later is told of the symbols whose moments are after it
abbrev pub DueAfterClock : Type 0
DueAfterClock =
    (side : Side) (d : Delays) (es : List EndpointConfig) (k : Known) (heard : List AirCell) (clock to : ℤ) → first_clock ≤ℤ clock → clock ≤ℤ to
    → due side d es k heard clock ≡ []
    → due side d es k heard to ≡ sweep (still_reported side k heard) es ((clock -ℤ wait_of side d) +ℤ pos 1) ((to -ℤ wait_of side d) +ℤ pos 1)

-- a job that was given is given no more
abbrev pub GivenInOrder : Type 0
GivenInOrder =
    (c : Config) (claimed : List Allocation) (given now rest : List UplinkJob) (to : ℤ) → still_given c claimed given to ≡ now ++ rest
    → still_given c claimed (given ++ now) to ≡ rest
