-- Of a slot that no message can name yet, nothing is known.
use Rattle.std.specs.Prelude.{◌≡◌, ℕ, ℤ, ◌<◌, ◌-ℤ◌, ◌≤ℤ◌, ◌<ℤ◌, List, [], All, None}
use Rattle.fh_base.specs.Air.{air_of}
use Rattle.fh_base.specs.Numbering.{symbols_of}
use Rattle.fh_base.specs.declared.numerology.Numerology.{Numerology}
use Rattle.fh_base.specs.declared.values.Slot.{Slot}
use Rattle.window_config.specs.Limits.{IsWithinLimits}
use Rattle.window_config.specs.Rings.{IsLive, ru_reach_of}
use Rattle.window_config.specs.Windows.{ticks_of_ns}
use Rattle.window_config.specs.declared.delays.Delays.{Delays}
use Rattle.window_config.specs.declared.endpoints.EndpointConfig.{EndpointConfig}
use Rattle.window_config.specs.declared.rings.Reach.{Reach}
use Rattle.unit_model.specs.Blocks.{data_slot}
use Rattle.unit_model.specs.Claims.{claim_at}
use Rattle.unit_model.specs.Commands.{accepted}
use Rattle.unit_model.specs.Proper.{IsAt}
use Rattle.unit_model.specs.Standing.{uplink_of}
use Rattle.unit_model.specs.declared.allocations.Allocation.{Allocation}
use Rattle.unit_model.specs.declared.cells.Cell.{Cell}
use Rattle.unit_model.specs.declared.decoded.ControlSection.{ControlSection}
use Rattle.unit_model.specs.declared.decoded.UserSection.{UserSection}

-- the slot was live at a time that is reached
pub record WasLive (n : Numerology) (r : Reach) (clock : ℤ) (slot : Slot) : Type 0 where
  pub when : ℤ
  pub come : when ≤ℤ clock
  pub live : IsLive n r.before r.after when slot

-- the slot is not live yet
abbrev pub IsFar : Numerology → Reach → ℤ → Slot → Type 0
IsFar n r clock slot = clock <ℤ (air_of n slot 0 -ℤ ticks_of_ns r.before)

-- what names a slot that was live
pub record IsReached (es : List EndpointConfig) (r : Reach) (clock : ℤ) (a : Allocation) : Type 0 where
  pub endpoint : IsAt es a.ep a.endpoint
  pub live : WasLive a.endpoint.numerology r clock a.slot

pub record IsReachedData (es : List EndpointConfig) (r : Reach) (clock : ℤ) (x : UserSection) : Type 0 where
  pub endpoint : IsAt es x.ep x.endpoint
  pub live : WasLive x.endpoint.numerology r clock (data_slot x)

-- sections that were read, and that were received by a time
pub record IsHeard (es : List EndpointConfig) (clock : ℤ) (c : ControlSection) : Type 0 where
  pub endpoint : IsAt es c.ep c.endpoint
  pub start_symbol : c.head.start_symbol < symbols_of c.endpoint.numerology
  pub come : c.at.0 ≤ℤ clock

pub record IsHeardData (es : List EndpointConfig) (clock : ℤ) (x : UserSection) : Type 0 where
  pub endpoint : IsAt es x.ep x.endpoint
  pub symbol : x.section.symbol < symbols_of x.endpoint.numerology
  pub order : x.first.0 ≤ℤ x.last.0
  pub come : x.last.0 ≤ℤ clock

-- all that was accepted named slots that were live when it was received, and so did all data on time
abbrev pub AcceptedAreReached : Type 0
AcceptedAreReached =
    (es : List EndpointConfig) (d : Delays) (clock : ℤ) (cs : List ControlSection) → IsWithinLimits d → All (IsHeard es clock) cs
    → All (IsReached es (ru_reach_of d) clock) (accepted d cs)

-- so a slot that is not live yet has no claim, no uplink section and no block
abbrev pub FarIsUnclaimed : Type 0
FarIsUnclaimed =
    (es : List EndpointConfig) (r : Reach) (clock : ℤ) (earlier : List Allocation) (e : EndpointConfig) (cell : Cell) (re : ℕ)
    → All (IsReached es r clock) earlier → IsAt es cell.ep e → IsFar e.numerology r clock cell.slot → claim_at earlier cell re ≡ None

abbrev pub FarHasNoUplink : Type 0
FarHasNoUplink =
    (es : List EndpointConfig) (r : Reach) (clock : ℤ) (earlier : List Allocation) (e : EndpointConfig) (ep : ℕ) (slot : Slot)
    → All (IsReached es r clock) earlier → IsAt es ep e → IsFar e.numerology r clock slot → uplink_of ep slot earlier ≡ []
