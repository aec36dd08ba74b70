use Rattle.std.proofs.Common.{◌≡◌, ◌++◌, List, ap, sym, subst, ◌∙◌, refl}
use Rattle.capture_records.specs.Left.{left_of}
use Rattle.capture_records.specs.Reading.{records_of}
use Rattle.capture_records.specs.Records.{Arrived, arrived_of}
use Rattle.pcap_lines.proofs.Telling.{so_far_none, so_far_more, so_far_stopped}
use Rattle.pcap_export.specs.Packets.{packets_bytes, wanted_bytes}
use Rattle.pcap_export.proofs.Packed.{packets_more}
use Rattle.pcap_export.proofs.Placed.{ArePlaced, all_placed}
use Rattle.pcap_export.proofs.writing.tell_packets.Goals as goal
use Rattle.fh_base.proofs.OwedTelling.{anyhow}

pub loop-record-init : goal.loop-record-init
loop-record-init g c =
    let all = ap left_of c.into_iter-record-iterator.ensures.into_iter_gives ∙ c.records-record-items.ensures.records in
    record {
      so_far = so_far_none _ _ _ _ (ap (packets_bytes c.args.ways) all);
      placed = subst (λ (landed : List Arrived). ArePlaced c.args.ways landed) (sym all) (all_placed c.args.ways 8 (records_of c.args.bytes.now) c.requires.placed);
      still = refl;
      refused_still = refl;
    }

pub loop-record-preserved : goal.loop-record-preserved
loop-record-preserved g c =
    let ways = c.args.ways in
    let a = arrived_of c.in-Some.record in
    let rest = left_of c.next.new.self in
    let left : packets_bytes ways (left_of c.loop-record.record-iterator) ≡ wanted_bytes ways a ++ packets_bytes ways rest = ap (packets_bytes ways) c.in-Some.ensures.steps ∙ packets_more ways a rest in
    record {
      so_far = so_far_more _ _ _ _ _ _ _ _ _ (packets_bytes ways rest) left c.loop-record.invariant.so_far c.in_ok-tell_wanted.ensures.carried;
      placed = (subst (λ (landed : List Arrived). ArePlaced ways landed) c.in-Some.ensures.steps c.loop-record.invariant.placed).1;
      still = c.in_ok-tell_wanted.ensures.cause.faults ∙ c.loop-record.invariant.still;
      refused_still = c.in_ok-tell_wanted.ensures.cause.refusals ∙ c.loop-record.invariant.refused_still;
    }

pub returns-in_err-tell_wanted-clause-part : goal.returns-in_err-tell_wanted-clause-part
returns-in_err-tell_wanted-clause-part g c =
    let ways = c.args.ways in
    let a = arrived_of c.in-Some.record in
    let rest = left_of c.next.new.self in
    let left : packets_bytes ways (left_of c.loop-record.record-iterator) ≡ wanted_bytes ways a ++ packets_bytes ways rest = ap (packets_bytes ways) c.in-Some.ensures.steps ∙ packets_more ways a rest in
    anyhow c.from_residual.result (so_far_stopped _ _ _ _ _ _ _ _ (packets_bytes ways rest) left c.loop-record.invariant.so_far c.in_err-tell_wanted.ensures.part)
