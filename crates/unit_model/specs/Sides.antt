-- The two units: how far the messages of data of a unit lie from their symbols, and so which slots are live (this project's profile).
use Rattle.std.specs.Prelude.{ℕ, ℤ}
use Rattle.fh_base.specs.declared.values.Slot.{Slot}
use Rattle.air_source.specs.declared.events.Side.{Side}
use Rattle.air_source.specs.declared.events.Side.TheVariants.{Ru, Du}
use Rattle.window_config.specs.Rings.{IsLive, du_reach_of, ru_reach_of}
use Rattle.window_config.specs.declared.config.Config.{Config}
use Rattle.window_config.specs.declared.delays.Delays.{Delays}
use Rattle.window_config.specs.declared.endpoints.EndpointConfig.{EndpointConfig}
use Rattle.window_config.specs.declared.rings.Reach.{Reach}
use Rattle.unit_model.specs.Proper.{IsAt}

abbrev pub reach_of : Side → Delays → Reach
reach_of Ru d = ru_reach_of d
reach_of Du d = du_reach_of d

-- a slot of the unit that is live
abbrev pub IsLiveOn : Side → Delays → EndpointConfig → ℤ → Slot → Type 0
IsLiveOn side d e clock slot = IsLive e.numerology (reach_of side d).before (reach_of side d).after clock slot

abbrev pub IsLiveFor : Side → Config → ℤ → ℕ → Slot → Type 0
IsLiveFor side c clock ep slot = (e : EndpointConfig) → IsAt c.endpoints ep e → IsLiveOn side c.delays e clock slot
