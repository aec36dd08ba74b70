-- Under which names the faults of an air and of a replay are passed on.
use Rattle.air_source.specs.declared.airs.AirFault.{AirFault}
use Rattle.air_source.specs.declared.airs.AirFault.TheVariants as air
use Rattle.fronthaul_replay.specs.declared.replays.ReplayFault.{ReplayFault}
use Rattle.fronthaul_replay.specs.declared.replays.ReplayFault.TheVariants as replay
use Rattle.fronthaul_replay.specs.declared.report.TextFault.{TextFault}
use Rattle.fronthaul_replay.specs.declared.report.TextFault.TheVariants as text

-- by a replay
abbrev pub replay_fault : AirFault → ReplayFault
replay_fault air.Failed = replay.AirFailed
replay_fault air.NoMemory = replay.NoMemory

-- by a text's writer
abbrev pub text_fault : ReplayFault → TextFault
text_fault replay.AirFailed = text.WriteFault
text_fault replay.NoMemory = text.NoMemory
