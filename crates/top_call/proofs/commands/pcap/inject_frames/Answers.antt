use Rattle.pcap_lines.specs.Texts.{lines_of}
use Rattle.pcap_frames.specs.Frames.{frames_of}
use Rattle.top_call.proofs.Packets.{unaccepted_as}
use Rattle.top_call.proofs.commands.pcap.inject_frames.Goals as goal

pub returns-in-Err : goal.returns-in-Err
returns-in-Err g c =
    unaccepted_as (lines_of (frames_of c.args.whose c.args.bytes.now c.args.start)) c.args.whose c.args.bytes.now c.args.start c.check.result c.in-Err.fault c.pcap_status.result _ _ c.in-Err.is c.pcap_status.ensures c.check.ensures
