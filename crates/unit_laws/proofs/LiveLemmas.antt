-- What is on time at a unit is within its reach.
use Rattle.std.proofs.Common.{◌≡◌, ℤ, ◌<◌, ◌≤ℤ◌, true, false, List, arith}
use Rattle.std.specs.Int.{int_max}
use Rattle.std.proofs.lemmas.Int.{ints, clamps}
use Rattle.window_config.specs.Limits.{IsWithinLimits}
use Rattle.window_config.specs.Rings.{IsLive, ru_reach_of}
use Rattle.window_config.specs.Windows.{data_window_of, command_window_of}
use Rattle.window_config.specs.declared.delays.Delays.{Delays}
use Rattle.window_config.proofs.Live.{live_on_time, live_on_time_up, live_on_command}
use Rattle.unit_model.specs.Terms.{Side, Ru, Du}
use Rattle.fh_base.specs.Numbering.{symbols_of}
use Rattle.unit_model.specs.Blocks.{data_class, data_slot}
use Rattle.unit_model.specs.Commands.{command_slot, command_verdict}
use Rattle.unit_model.specs.Sides.{IsLiveOn}
use Rattle.unit_model.specs.declared.allocations.Allocation.{Allocation}
use Rattle.unit_model.specs.declared.decoded.ControlSection.{ControlSection}
use Rattle.unit_model.specs.declared.decoded.UserSection.{UserSection}
use Rattle.unit_model.specs.declared.verdicts.CommandVerdict.TheVariants.{Accepted}
use Rattle.window_config.specs.declared.verdicts.Class.TheVariants.{OnTime}
use Rattle.unit_laws.proofs.AcceptanceLemmas.{accepted_is_acceptable}
use Rattle.fh_base.proofs.Orders.{low_one as some_more, not_negative}
use Rattle.std.specs.Int.Signed.{≤ℤ_refl}

first_most : (a b c : ℤ) → a ≤ℤ int_max (int_max a b) c
first_most a b c = omega (arith, ints, clamps)

pub second_most : (a b c : ℤ) → b ≤ℤ int_max (int_max a b) c
second_most a b c = omega (arith, ints, clamps)

pub third_most : (a b c : ℤ) → c ≤ℤ int_max (int_max a b) c
third_most a b c = omega (arith, ints, clamps)

-- all that it takes: the symbol is one of the slot's
pub command_live : (d : Delays) (earlier : List Allocation) (c : ControlSection) → IsWithinLimits d → c.head.start_symbol < symbols_of c.endpoint.numerology
    → command_verdict d earlier c ≡ Accepted → IsLive c.endpoint.numerology (ru_reach_of d).before (ru_reach_of d).after c.at.0 (command_slot c)
command_live d earlier c limits symbol h =
    let is = accepted_is_acceptable d earlier c h in
    live_on_command d c.endpoint.numerology (command_slot c) c.head.start_symbol c.at.0 c.at.0 (ru_reach_of d).before (ru_reach_of d).after c.head.down limits
    (second_most (data_window_of d).max (command_window_of d true).max (command_window_of d false).max)
    (third_most (data_window_of d).max (command_window_of d true).max (command_window_of d false).max)
    (not_negative d.ta3.min d.ta3.max limits.ta3.low limits.ta3.order) symbol (≤ℤ_refl c.at.0) is.on_time

pub data_live : (side : Side) (d : Delays) (x : UserSection) → IsWithinLimits d → x.section.symbol < symbols_of x.endpoint.numerology → x.first.0 ≤ℤ x.last.0
    → data_class side d x ≡ OnTime → IsLiveOn side d x.endpoint x.last.0 (data_slot x)
data_live Ru d x limits symbol order h =
    live_on_time x.endpoint.numerology (data_slot x) x.section.symbol x.first.0 x.last.0 (data_window_of d) (ru_reach_of d).before (ru_reach_of d).after symbol order
    (some_more d.t2a_up.min limits.t2a_up.low) (first_most (data_window_of d).max (command_window_of d true).max (command_window_of d false).max)
    (not_negative d.ta3.min d.ta3.max limits.ta3.low limits.ta3.order) h
data_live Du d x limits symbol order h =
    live_on_time_up x.endpoint.numerology (data_slot x) x.section.symbol x.first.0 x.last.0 d.ta4 d.ta4.max symbol order limits.ta4.low (≤ℤ_refl d.ta4.max) h
