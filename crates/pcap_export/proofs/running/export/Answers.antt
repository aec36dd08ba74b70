use Rattle.std.proofs.Common.{◌∙◌, sym}
use Rattle.capture_records.specs.Reading.{records_of}
use Rattle.pcap_export.specs.Checked.{checked}
use Rattle.pcap_export.specs.Packets.{pcap_bytes}
use Rattle.pcap_export.proofs.Runs.{put}
use Rattle.pcap_export.proofs.running.export.Goals as goal

pub returns-in-Ok : goal.returns-in-Ok
returns-in-Ok g c =
    put (pcap_bytes c.args.ways (records_of c.args.bytes.now)) (checked c.args.ways c.args.bytes.now) _ _ _ _ _ _ c.put_pcap.result _ (sym c.check.ensures ∙ c.in-Ok.is)
    c.ending_of.ensures c.put_pcap.ensures.ok c.put_pcap.ensures.front c.put_pcap.ensures.cause
