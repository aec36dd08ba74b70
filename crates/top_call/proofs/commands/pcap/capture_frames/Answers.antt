use Rattle.std.proofs.Common.{map}
use Rattle.capture_records.specs.Records.{capture_bytes}
use Rattle.pcap_lines.specs.Texts.{arrived_as}
use Rattle.pcap_frames.specs.Frames.{frames_of}
use Rattle.top_call.proofs.Packets.{unaccepted_as}
use Rattle.top_call.proofs.commands.pcap.capture_frames.Goals as goal

pub returns-in-Err : goal.returns-in-Err
returns-in-Err g c =
    unaccepted_as (capture_bytes (map arrived_as (frames_of c.args.whose c.args.bytes.now c.args.start))) c.args.whose c.args.bytes.now c.args.start c.check.result c.in-Err.fault c.pcap_status.result _ _ c.in-Err.is c.pcap_status.ensures c.check.ensures
