-- What the verdicts need of decoded sections and of what they name, whichever endpoints there are.
use Rattle.std.specs.Prelude.{◌≡◌, ◌+◌, ◌<◌, ◌≤◌, length, false}
use Rattle.fh_base.specs.Numbering.{slots_of, symbols_of}
use Rattle.fh_base.specs.Carrier.{is_outside}
use Rattle.unit_model.specs.Blocks.{data_prb_count}
use Rattle.unit_model.specs.Proper.{IsTime}
use Rattle.unit_model.specs.declared.allocations.Allocation.{Allocation}
use Rattle.unit_model.specs.declared.decoded.ControlSection.{ControlSection}
use Rattle.unit_model.specs.declared.decoded.UserSection.{UserSection}

-- it names a slot of its endpoint and symbols of that slot
pub record IsSoundCommand (c : ControlSection) : Type 0 where
  pub at : IsTime c.at.0
  pub subframe : c.head.subframe < 10
  pub slot : c.head.slot < slots_of c.endpoint.numerology
  pub start_symbol : c.head.start_symbol < symbols_of c.endpoint.numerology
  pub some : 0 < c.section.num_symbol
  pub within : c.section.symbol + c.section.num_symbol ≤ symbols_of c.endpoint.numerology

-- it names a slot and a symbol of its endpoint, and each of its PRBs has a block
pub record IsSoundData (d : UserSection) : Type 0 where
  pub first : IsTime d.first.0
  pub last : IsTime d.last.0
  pub subframe : d.head.subframe < 10
  pub slot : d.head.slot < slots_of d.endpoint.numerology
  pub symbol : d.section.symbol < symbols_of d.endpoint.numerology
  pub within : is_outside d.endpoint.prbs d.section.start_prb d.section.num_prb ≡ false
  pub blocks : data_prb_count d ≤ length d.blocks

-- it names symbols of a slot and PRBs of the carrier
pub record IsSoundAllocation (a : Allocation) : Type 0 where
  pub within : a.symbol + a.num_symbol ≤ symbols_of a.endpoint.numerology
  pub prbs : is_outside a.endpoint.prbs a.start_prb a.num_prb ≡ false
