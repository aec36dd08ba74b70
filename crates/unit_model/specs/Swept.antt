-- The symbols that are gone over in the order of time, and what that order gives.
use Rattle.std.specs.Prelude.{◌≡◌, ℕ, ℤ, pos, ◌<◌, ◌+ℤ◌, ◌≤ℤ◌, ◌<ℤ◌, List}
use Rattle.fh_base.specs.Air.{air_of}
use Rattle.fh_base.specs.Numbering.{IsSlotOf, symbols_of}
use Rattle.fh_base.specs.declared.values.Slot.{Slot}
use Rattle.window_config.specs.declared.endpoints.EndpointConfig.{EndpointConfig}
use Rattle.unit_model.specs.Proper.{IsAt}
use Rattle.unit_model.specs.Sweeps.{first_swept, frames_swept}

-- a symbol of an endpoint that is gone over at a tick: it starts then
pub record IsSwept (es : List EndpointConfig) (ep : ℕ) (e : EndpointConfig) (slot : Slot) (symbol : ℕ) (tick : ℤ) : Type 0 where
  pub endpoint : IsAt es ep e
  pub slot_is : IsSlotOf e.numerology slot
  pub symbol_is : symbol < symbols_of e.numerology
  pub frame_low : first_swept tick ≤ℤ slot.frame
  pub frame_high : slot.frame <ℤ (first_swept tick +ℤ pos frames_swept)
  pub starts : air_of e.numerology slot symbol ≡ tick
