-- The radio unit's uplink as time passes, of all that lands at it: its messages and frames up to a tick, those of one tick, and those
-- that leave from a tick on (this project's profile). A tick's frames are handed over in it, and leave in it or later.
use Rattle.std.specs.Prelude.{ℤ, pos, ◌+ℤ◌, ◌-ℤ◌, List, [], length}
use Rattle.std.specs.Int.{int_gap}
use Rattle.window_config.specs.declared.config.Config.{Config}
use Rattle.air_source.specs.declared.links.LinkFrame.{LinkFrame}
use Rattle.fh_base.specs.Lists.{each_tick, onto}
use Rattle.unit_model.specs.Meetings.{Arrival}
use Rattle.unit_model.specs.Reports.{accepted_of}
use Rattle.unit_model.specs.Sweeps.{at_tick, sweep}
use Rattle.unit_model.specs.Times.{end_of_time}
use Rattle.unit_model.specs.Uplink.{jobs, symbol_jobs}
use Rattle.unit_model.specs.declared.allocations.Allocation.{Allocation}
use Rattle.unit_model.specs.declared.jobs.UplinkJob.{UplinkJob}
use Rattle.plan_model.specs.Packs.{Message}
use Rattle.replay_laws.specs.Moments.{all_arrivals}
use Rattle.uplink_model.specs.Frames.{Antenna, frames_behind}
use Rattle.uplink_model.specs.Messages.{uplink_messages_of}
use Rattle.uplink_model.specs.Sent.{leaving_at}

-- what the unit accepts of all that lands at it
abbrev pub all_accepted : Config → List Arrival → List Allocation
all_accepted c landings = accepted_of c (all_arrivals landings)

-- ---- jobs

-- those whose symbols start by a time
abbrev pub jobs_until : Config → List Arrival → ℤ → List UplinkJob
jobs_until c landings t = jobs c.endpoints (all_accepted c landings) t

-- those whose symbols start from one tick on and before another
abbrev pub jobs_between : Config → List Arrival → ℤ → ℤ → List UplinkJob
jobs_between c landings from end = sweep (symbol_jobs (all_accepted c landings)) c.endpoints from end

-- those whose symbols start at a tick
abbrev pub jobs_of_tick : Config → List Arrival → ℤ → List UplinkJob
jobs_of_tick c landings tick = at_tick (symbol_jobs (all_accepted c landings)) c.endpoints tick

-- ---- messages

abbrev pub messages_until : Config → List Arrival → ℤ → List (Message UplinkJob)
messages_until c landings t = uplink_messages_of c (jobs_until c landings t)

abbrev pub messages_between : Config → List Arrival → ℤ → ℤ → List (Message UplinkJob)
messages_between c landings from end = uplink_messages_of c (jobs_between c landings from end)

abbrev pub messages_of_tick : Config → List Arrival → ℤ → List (Message UplinkJob)
messages_of_tick c landings tick = uplink_messages_of c (jobs_of_tick c landings tick)

-- ---- frames, as they are handed over

-- all of them up to a time
abbrev pub handed_until : Config → Antenna → List Arrival → ℤ → List LinkFrame
handed_until c antenna landings t = frames_behind c antenna [] (messages_until c landings t)

-- those of messages that are after all that are before a tick
abbrev pub handed_behind : Config → Antenna → List Arrival → ℤ → List (Message UplinkJob) → List LinkFrame
handed_behind c antenna landings tick ms = frames_behind c antenna (onto [] (messages_until c landings (tick -ℤ pos 1))) ms

-- those of the messages from one tick on and before another
abbrev pub handed_between : Config → Antenna → List Arrival → ℤ → ℤ → List LinkFrame
handed_between c antenna landings from end = handed_behind c antenna landings from (messages_between c landings from end)

-- those of a tick
abbrev pub handed_at : Config → Antenna → List Arrival → ℤ → List LinkFrame
handed_at c antenna landings tick = handed_behind c antenna landings tick (messages_of_tick c landings tick)

-- ---- frames, as they are sent

-- of those that were handed over up to a time, those that leave at a tick
abbrev pub leaving_of_handed : Config → Antenna → List Arrival → ℤ → ℤ → List LinkFrame
leaving_of_handed c antenna landings until t = leaving_at (length c.endpoints) (handed_until c antenna landings until) t

-- those that leave at a tick
abbrev pub leaving_in_turn : Config → Antenna → List Arrival → ℤ → List LinkFrame
leaving_in_turn c antenna landings tick = leaving_of_handed c antenna landings tick tick

-- all that leave from a tick on, in the sent order
abbrev pub left_from : Config → Antenna → List Arrival → ℤ → List LinkFrame
left_from c antenna landings now = each_tick now (int_gap now (end_of_time +ℤ pos 1)) (leaving_of_handed c antenna landings end_of_time)
