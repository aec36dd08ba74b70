use Rattle.std.proofs.lemmas.Result.{on_ok_weaker, on_err_weaker}
use Rattle.fh_base.specs.CarriedLaws.{carried_more}
use Rattle.capture_records.specs.Reading.{records_of}
use Rattle.pcap_export.specs.Packets.{file_head, packets_bytes, wanted}
use Rattle.pcap_export.proofs.Back.{read_back}
use Rattle.pcap_export.proofs.writing.put_pcap.Goals as goal
use Rattle.fh_base.proofs.OwedTelling.{last_front, all_written, anyhow}
use Rattle.fh_base.proofs.Parts.{part_front, part_behind, last_part}
use Rattle.fh_base.proofs.CommonLemmas.{first_part}

pub returns-in_err-tell_packets-clause-read : goal.returns-in_err-tell_packets-clause-read
returns-in_err-tell_packets-clause-read g c = λ usual whose reading. read_back whose reading (wanted c.args.ways (records_of c.args.bytes.now)) usual

pub returns-clause-read : goal.returns-clause-read
returns-clause-read g c = λ usual whose reading. read_back whose reading (wanted c.args.ways (records_of c.args.bytes.now)) usual

pub returns-clause-ok : goal.returns-clause-ok
returns-clause-ok g c =
    let packets = packets_bytes c.args.ways (records_of c.args.bytes.now) in
    let carried = carried_more _ _ _ _ _ _ file_head packets c.in_ok-tell.ensures.carried c.in_ok-tell_packets.ensures.carried in
    on_ok_weaker c.push_out.result (λ h. all_written _ _ _ c.new-owed.result _ _ c.new-owed.ensures carried h) c.push_out.ensures.all

pub returns-clause-front : goal.returns-clause-front
returns-clause-front g c =
    let packets = packets_bytes c.args.ways (records_of c.args.bytes.now) in
    let carried = carried_more _ _ _ _ _ _ file_head packets c.in_ok-tell.ensures.carried c.in_ok-tell_packets.ensures.carried in
    last_front _ _ _ c.new-owed.result _ _ c.new-owed.ensures carried c.push_out.ensures.front

pub returns-clause-part : goal.returns-clause-part
returns-clause-part g c =
    let packets = packets_bytes c.args.ways (records_of c.args.bytes.now) in
    let carried = carried_more _ _ _ _ _ _ file_head packets c.in_ok-tell.ensures.carried c.in_ok-tell_packets.ensures.carried in
    on_err_weaker c.push_out.result (λ h.
    last_part _ _ _ c.new-owed.result _ _ c.new-owed.ensures carried h) c.push_out.ensures.part

pub returns-in_err-tell_packets-clause-front : goal.returns-in_err-tell_packets-clause-front
returns-in_err-tell_packets-clause-front g c =
    let rest = packets_bytes c.args.ways (records_of c.args.bytes.now) in
    part_front _ _ _ (first_part _ _ _ _ c.new-owed.ensures (part_behind _ _ file_head _ _ rest _ c.in_ok-tell.ensures.carried c.in_err-tell_packets.ensures.part))

pub returns-in_err-tell_packets-clause-part : goal.returns-in_err-tell_packets-clause-part
returns-in_err-tell_packets-clause-part g c =
    let rest = packets_bytes c.args.ways (records_of c.args.bytes.now) in
    anyhow c.from_residual-in_err-tell_packets.result
    (first_part _ _ _ _ c.new-owed.ensures (part_behind _ _ file_head _ _ rest _ c.in_ok-tell.ensures.carried c.in_err-tell_packets.ensures.part))
