-- What is known of each thing that a unit judged of a frame, so that it has a line.
use Rattle.std.specs.Prelude.{◌+◌, ◌≤◌, List, All}
use Rattle.std.specs.List.{AllByRecursion}
use Rattle.air_source.specs.declared.events.Side.{Side}
use Rattle.explain_heard.specs.Judged.{all_judged}
use Rattle.explain_heard.specs.Sound.{IsSoundHeard}
use Rattle.explain_heard.specs.declared.heard.Heard.{Heard}
use Rattle.explain_heard.specs.declared.judged.Judged.{Judged}
use Rattle.explain_heard.specs.declared.judged.Judged.TheVariants as judged
use Rattle.unit_model.specs.Claims.{first_prb, prb_count}
use Rattle.unit_model.specs.Sound.{IsSoundAllocation}
use Rattle.unit_model.specs.declared.allocations.Allocation.{Allocation}
use Rattle.unit_model.specs.declared.verdicts.CommandVerdict.{CommandVerdict}
use Rattle.unit_model.specs.declared.verdicts.CommandVerdict.TheVariants.{Mismatch, Late, Early, Range, Repeat, Overlap, Full, Accepted}
use Rattle.window_config.specs.declared.delays.Delays.{Delays}

-- it names symbols of a slot and PRBs of the carrier, whose numbers have 16 bits
pub record IsOnCarrier (a : Allocation) : Type 0 where
  pub sound : IsSoundAllocation a
  pub prbs : first_prb a + prb_count a ≤ 65535

-- a section of a command that overlaps another one is on its carrier
abbrev pub IsWithin : CommandVerdict → Allocation → Type 0
IsWithin Mismatch a = Unit {0}
IsWithin Late a = Unit {0}
IsWithin Early a = Unit {0}
IsWithin Range a = Unit {0}
IsWithin Repeat a = Unit {0}
IsWithin Overlap a = IsOnCarrier a
IsWithin Full a = Unit {0}
IsWithin Accepted a = Unit {0}

abbrev pub IsFit : Judged → Type 0
IsFit (judged.Message m) = Unit {0}
IsFit (judged.Command c) = IsWithin c.verdict c.allocation
IsFit (judged.Fragment f) = Unit {0}
IsFit (judged.Whole w) = Unit {0}
IsFit (judged.Data d) = d.prbs.first + d.prbs.count ≤ 65535

-- what was heard of a frame can be judged, and that is fit
pub record AreFit (heard : List Heard) : Type 0 where
  pub sound : All IsSoundHeard heard
  pub fit : (side : Side) (d : Delays) → AllByRecursion IsFit (all_judged side d heard)
