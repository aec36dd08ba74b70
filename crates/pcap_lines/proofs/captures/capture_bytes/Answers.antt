use Rattle.std.proofs.Common.{map}
use Rattle.fh_base.specs.CarriedLaws.{carried_more}
use Rattle.capture_records.specs.declared.layout.TheConstants.{MAGIC}
use Rattle.capture_records.specs.Records.{records_bytes}
use Rattle.pcap_frames.specs.Frames.{frames_of}
use Rattle.pcap_lines.specs.Texts.{arrived_as}
use Rattle.pcap_lines.proofs.captures.capture_bytes.Goals as goal
use Rattle.fh_base.proofs.OwedTelling.{last_front, anyhow}
use Rattle.fh_base.proofs.Parts.{part_front, part_behind, last_part}
use Rattle.std.proofs.lemmas.Result.{on_err_weaker}
use Rattle.fh_base.proofs.CommonLemmas.{first_part}

pub returns-clause-front : goal.returns-clause-front
returns-clause-front g c =
    let rest = records_bytes (map arrived_as (frames_of c.args.whose c.args.bytes.now c.args.start)) in
    last_front _ _ _ c.new-owed.result _ _ c.new-owed.ensures (carried_more _ _ _ _ _ _ MAGIC rest c.in_ok-tell.ensures.carried c.in_ok-tell_records.ensures.carried) c.push_out.ensures.front

pub returns-clause-part : goal.returns-clause-part
returns-clause-part g c =
    let rest = records_bytes (map arrived_as (frames_of c.args.whose c.args.bytes.now c.args.start)) in
    on_err_weaker c.push_out.result (λ h.
    last_part _ _ _ c.new-owed.result _ _ c.new-owed.ensures (carried_more _ _ _ _ _ _ MAGIC rest c.in_ok-tell.ensures.carried c.in_ok-tell_records.ensures.carried) h) c.push_out.ensures.part

pub returns-in_err-tell_records-clause-front : goal.returns-in_err-tell_records-clause-front
returns-in_err-tell_records-clause-front g c =
    let rest = records_bytes (map arrived_as (frames_of c.args.whose c.args.bytes.now c.args.start)) in
    part_front _ _ _ (first_part _ _ _ _ c.new-owed.ensures (part_behind _ _ MAGIC _ _ rest _ c.in_ok-tell.ensures.carried c.in_err-tell_records.ensures.part))

pub returns-in_err-tell_records-clause-part : goal.returns-in_err-tell_records-clause-part
returns-in_err-tell_records-clause-part g c =
    let rest = records_bytes (map arrived_as (frames_of c.args.whose c.args.bytes.now c.args.start)) in
    anyhow c.from_residual-in_err-tell_records.result
    (first_part _ _ _ _ c.new-owed.ensures (part_behind _ _ MAGIC _ _ rest _ c.in_ok-tell.ensures.carried c.in_err-tell_records.ensures.part))
