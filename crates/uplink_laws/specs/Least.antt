-- The premise can be met by every valid plan whose windows pass the check, over however many messages: by each frame of both ways once,
-- with the least delay. Times are ticks.
use Rattle.std.specs.Prelude.{pos, ◌+ℤ◌, List, [], filter, map}
use Rattle.std.specs.Int.{int_gap}
use Rattle.std.specs.Ordering.{int_eq}
use Rattle.air_source.specs.declared.links.LinkFrame.{LinkFrame}
use Rattle.window_config.specs.Relations.{PassesCheck}
use Rattle.window_config.specs.Windows.{ticks_of_ns}
use Rattle.window_config.specs.declared.config.Config.{Config}
use Rattle.window_config.specs.declared.plan.PlanLine.{PlanLine}
use Rattle.fh_base.specs.Lists.{each_tick, onto}
use Rattle.unit_model.specs.Meetings.{Arrival}
use Rattle.unit_model.specs.Radiated.{first_clock}
use Rattle.unit_model.specs.Times.{end_of_time}
use Rattle.plan_model.specs.Lines.{planned}
use Rattle.schedule_laws.specs.Least.{with_least_delay}
use Rattle.sent_frames.specs.Frames.{sent_bytes}
use Rattle.sent_frames.specs.Messages.{Source}
use Rattle.uplink_laws.specs.Sent.{IsSendable}
use Rattle.uplink_model.specs.Frames.{Antenna}
use Rattle.uplink_laws.specs.Premise.{BothArrive, CanAnswer, frames_of, jobs_of}

-- the copy of a frame that takes T34's minimum
abbrev pub least_copy : Config → LinkFrame → Arrival
least_copy c f = record { at = f.at.0 +ℤ ticks_of_ns c.delays.t34.min; frame = f.frame }

-- frames tick by tick as they leave
abbrev pub by_time : List LinkFrame → List LinkFrame
by_time fs = each_tick first_clock (int_gap first_clock (end_of_time +ℤ pos 1)) (λ t. filter (λ f. int_eq f.at.0 t) fs)

-- each of them once, the newest first
abbrev pub least_copies : Config → List LinkFrame → List Arrival
least_copies c fs = onto [] (map (least_copy c) (by_time fs))

-- what is received at the radio unit, each frame once with T12's minimum
abbrev pub down_least : Config → List PlanLine → Source → List Arrival
down_least c lines source = with_least_delay c (planned c.endpoints lines) (sent_bytes c source)

-- and at the distributed unit, with T34's
abbrev pub up_least : Config → List PlanLine → Source → Antenna → List Arrival
up_least c lines source antenna = least_copies c (frames_of c antenna (jobs_of c (down_least c lines source)))

abbrev pub LeastUplinkDelaysArrive : Type 0
LeastUplinkDelaysArrive =
    (c : Config) (lines : List PlanLine) (source : Source) (antenna : Antenna) → IsSendable c lines source → CanAnswer c antenna → PassesCheck c.delays
    → BothArrive c lines source antenna (down_least c lines source) (up_least c lines source antenna)
