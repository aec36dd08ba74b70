use Rattle.capture_records.specs.Reading.{checked}
use Rattle.capture_show.specs.Messages.{capture_lines}
use Rattle.capture_show.specs.Texts.{lines_text}
use Rattle.top_call.proofs.Captures.{held, shown_as}
use Rattle.top_call.proofs.commands.show.show_capture.Goals as goal

pub returns : goal.returns
returns g c =
    shown_as (lines_text c.args.json (capture_lines c.args.bytes.now)) (checked c.args.bytes.now) _ _ _ _ c.show.result _ c.shown_status.ensures
    c.show.ensures.ok c.show.ensures.front c.show.ensures.part (held g.K.Sink.written (checked c.args.bytes.now) c.show.result c.args.out.now c.show.new.out c.show.ensures.malformed)
    c.show.ensures.refused c.show.ensures.failed
