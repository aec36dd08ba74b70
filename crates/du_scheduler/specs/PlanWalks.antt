-- When the messages of a stream's parts leave (this project's means).
use Rattle.std.specs.Prelude.{pos, ◌+ℤ◌}
use Rattle.plan_model.specs.declared.dense.Sending.{Sending}
use Rattle.du_scheduler.specs.declared.limits.Limits.{Limits}
use Rattle.du_scheduler.specs.declared.open_messages.OpenMessage.{OpenMessage}

abbrev pub sending_from : Limits → OpenMessage → Sending
sending_from l m = record { at = record { 0 = (m.first.start.0 +ℤ l.departures.from.0) +ℤ pos m.wait }; line = m.first.line }
