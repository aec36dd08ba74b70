-- Plans of which no two lines send data in one symbol of an endpoint and direction: their messages with one sequence id are 256
-- symbols apart.
use Rattle.std.specs.Prelude.{◌≡◌, ℕ, ℤ, pos, ◌+◌, ◌*◌, ◌<◌, ◌≤◌, ◌+ℤ◌, ◌≤ℤ◌, ◌<ℤ◌, true, List, None}
use Rattle.fh_base.specs.Air.{air_of, least_slot_of, span_of}
use Rattle.fh_base.specs.Numbering.{symbols_of}
use Rattle.fh_base.specs.declared.numerology.Numerology.{Numerology}
use Rattle.fh_base.specs.declared.values.Slot.{Slot}
use Rattle.window_config.specs.declared.config.Config.{Config}
use Rattle.window_config.specs.declared.endpoints.EndpointConfig.{EndpointConfig}
use Rattle.fh_base.specs.Lists.{AreRelated}
use Rattle.plan_model.specs.Dense.{dense, down_distance, up_distance}
use Rattle.plan_model.specs.Departures.{departures_of}
use Rattle.plan_model.specs.Lines.{line_allocation}
use Rattle.plan_model.specs.Streams.{has_part}
use Rattle.plan_model.specs.declared.lines.PlannedLine.{PlannedLine}
use Rattle.plan_model.specs.declared.streams.Stream.{Stream}
use Rattle.plan_model.specs.declared.streams.Stream.TheVariants.{DownData, UpData}
use Rattle.fh_base.specs.Members.{IsIn}

-- any two symbols of an endpoint start so far apart: two of a slot, and the last of a slot and the first of the next
pub record IsSpaced (n : Numerology) (least : ℕ) : Type 0 where
  pub some : 0 < least
  pub within : (slot : Slot) (i j : ℕ) → i < j → j < symbols_of n → (air_of n slot i +ℤ pos least) ≤ℤ air_of n slot j
  pub across : span_of n + least ≤ least_slot_of n

-- no two of these lines have a part in one symbol
abbrev pub AreAlone : Stream → List PlannedLine → Type 0
AreAlone stream =
    AreRelated (λ p q. (ep : ℕ) (slot : Slot) (symbol : ℕ) → has_part stream ep slot symbol (line_allocation p) ≡ true → has_part stream ep slot symbol (line_allocation q) ≡ true → ⊥)

-- 256 symbols are more than a distance and the time in which a symbol's messages leave
abbrev pub HasRoom : Config → Stream → ℕ → ℤ → Type 0
HasRoom c stream least distance = (distance +ℤ pos (departures_of c stream).spread) <ℤ pos (256 * least)

pub record IsSparse (c : Config) (lines : List PlannedLine) (least : ℕ) : Type 0 where
  pub single : c.pack ≡ 1
  pub spaced : (e : EndpointConfig) → IsIn e c.endpoints → IsSpaced e.numerology least
  pub placed : (e : EndpointConfig) → IsIn e c.endpoints → (p : PlannedLine) → IsIn p lines → p.endpoint.numerology ≡ e.numerology
  pub down : AreAlone DownData lines
  pub up : AreAlone UpData lines
  pub down_room : HasRoom c DownData least (down_distance c.delays)
  pub up_room : HasRoom c UpData least (up_distance c.delays)

abbrev pub SparsePlansAreNotDense : Type 0
SparsePlansAreNotDense = (c : Config) (lines : List PlannedLine) (least : ℕ) → IsSparse c lines least → dense c lines ≡ None
