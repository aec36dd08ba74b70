-- Under which names the faults of a sink are passed on by a text's writer.
use Rattle.std.specs.Prelude.{Result, Ok, Err}
use Rattle.fh_base.specs.declared.fault.SinkFault.{SinkFault}
use Rattle.fh_base.specs.declared.fault.SinkFault.TheVariants as sink
use Rattle.fronthaul_replay.specs.declared.report.TextFault.{TextFault}
use Rattle.fronthaul_replay.specs.declared.report.TextFault.TheVariants.{NoMemory, WriteFault}

abbrev pub text_result : Result (Unit {0}) SinkFault → Result (Unit {0}) TextFault
text_result (Ok u) = Ok u
text_result (Err sink.Failed) = Err WriteFault
text_result (Err sink.NoMemory) = Err NoMemory
