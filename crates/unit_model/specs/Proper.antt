-- What is known of sections that were read, and of what they leave: the tests of the layouts and of the configuration give it.
use Rattle.std.specs.Prelude.{◌≡◌, ℕ, ℤ, pos, neg_ℤ, ◌+◌, ◌<◌, ◌≤◌, ◌≤ℤ◌, ◌^◌, List, length, slice_get, Some, false}
use Rattle.fh_base.specs.declared.numerology.Numerology.{Numerology}
use Rattle.fh_base.specs.declared.values.Slot.{Slot}
use Rattle.fh_base.specs.Numbering.{slots_of, symbols_of}
use Rattle.fh_base.specs.Carrier.{is_outside}
use Rattle.window_config.specs.declared.endpoints.EndpointConfig.{EndpointConfig}
use Rattle.unit_model.specs.Blocks.{data_prb_count}
use Rattle.unit_model.specs.declared.allocations.Allocation.{Allocation}
use Rattle.unit_model.specs.declared.decoded.ControlSection.{ControlSection}
use Rattle.unit_model.specs.declared.decoded.UserSection.{UserSection}

-- a time that a unit may be given
pub record IsTime (at : ℤ) : Type 0 where
  pub low : neg_ℤ (pos (2 ^ 53)) ≤ℤ at
  pub high : at ≤ℤ pos (2 ^ 53)

-- the endpoint with this index
abbrev pub IsAt : List EndpointConfig → ℕ → EndpointConfig → Type 0
IsAt es ep e = slice_get es ep ≡ Some e

-- a slot of this numerology, in a frame whose symbols' times can be told
pub record IsSlot (n : Numerology) (slot : Slot) : Type 0 where
  pub low : neg_ℤ (pos 1000000) ≤ℤ slot.frame
  pub high : slot.frame ≤ℤ pos 1000000
  pub subframe : slot.subframe < 10
  pub slot_is : slot.slot < slots_of n

pub record IsProperCommand (es : List EndpointConfig) (c : ControlSection) : Type 0 where
  pub endpoint : IsAt es c.ep c.endpoint
  pub at : IsTime c.at.0
  pub subframe : c.head.subframe < 10
  pub slot : c.head.slot < slots_of c.endpoint.numerology
  pub start_symbol : c.head.start_symbol < symbols_of c.endpoint.numerology
  pub some : 0 < c.section.num_symbol
  pub within : c.section.symbol + c.section.num_symbol ≤ symbols_of c.endpoint.numerology
  pub start_prb : c.section.start_prb < 1024

pub record IsProperData (es : List EndpointConfig) (d : UserSection) : Type 0 where
  pub endpoint : IsAt es d.ep d.endpoint
  pub first : IsTime d.first.0
  pub last : IsTime d.last.0
  pub subframe : d.head.subframe < 10
  pub slot : d.head.slot < slots_of d.endpoint.numerology
  pub symbol : d.section.symbol < symbols_of d.endpoint.numerology
  pub within : is_outside d.endpoint.prbs d.section.start_prb d.section.num_prb ≡ false
  pub blocks : length d.blocks ≡ data_prb_count d

pub record IsProperAllocation (es : List EndpointConfig) (a : Allocation) : Type 0 where
  pub endpoint : IsAt es a.ep a.endpoint
  pub slot : IsSlot a.endpoint.numerology a.slot
  pub within : a.symbol + a.num_symbol ≤ symbols_of a.endpoint.numerology
  pub prbs : is_outside a.endpoint.prbs a.start_prb a.num_prb ≡ false
