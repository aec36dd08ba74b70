-- What it is to be accepted: a command passed all of its tests.
use Rattle.std.specs.Prelude.{◌≡◌, true, false, List}
use Rattle.fh_base.specs.Carrier.{is_outside}
use Rattle.window_config.specs.declared.delays.Delays.{Delays}
use Rattle.window_config.specs.declared.verdicts.Class.TheVariants.{OnTime}
use Rattle.unit_model.specs.Claims.{repeats, overlaps}
use Rattle.unit_model.specs.Commands.{allocation_of, command_class, command_verdict, is_for, is_full}
use Rattle.unit_model.specs.declared.allocations.Allocation.{Allocation}
use Rattle.unit_model.specs.declared.decoded.ControlSection.{ControlSection}
use Rattle.unit_model.specs.declared.verdicts.CommandVerdict.TheVariants.{Accepted}

-- it is one for its endpoint and on time, its PRBs are the carrier's, it is no repeat and overlaps nothing, and its slot has room
pub record IsAcceptable (d : Delays) (earlier : List Allocation) (c : ControlSection) : Type 0 where
  pub fits : is_for c.head.body c.endpoint.numerology ≡ true
  pub on_time : command_class d c ≡ OnTime
  pub within : is_outside c.endpoint.prbs c.section.start_prb c.section.num_prb ≡ false
  pub new : repeats earlier (allocation_of c) ≡ false
  pub apart : overlaps earlier (allocation_of c) ≡ false
  pub room : is_full earlier (allocation_of c) ≡ false

abbrev pub AcceptedIsAcceptable : Type 0
AcceptedIsAcceptable = (d : Delays) (earlier : List Allocation) (c : ControlSection) → command_verdict d earlier c ≡ Accepted → IsAcceptable d earlier c
