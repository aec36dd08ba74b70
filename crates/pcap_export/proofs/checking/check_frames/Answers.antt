use Rattle.std.proofs.Common.{ap, sym, ◌∙◌, arith}
use Rattle.capture_records.specs.Left.{left_of}
use Rattle.capture_records.specs.Records.{arrived_of}
use Rattle.pcap_export.specs.Checked.{placed_from}
use Rattle.pcap_export.proofs.Placed.{placed_next, placed_stop, placed_end}
use Rattle.pcap_export.proofs.Sizes.{sizes, sizes_fit}
use Rattle.pcap_export.proofs.checking.check_frames.Goals as goal

pub loop-record-init : goal.loop-record-init
loop-record-init c =
    let all = ap left_of c.into_iter-record-iterator.ensures.into_iter_gives ∙ c.records-record-items.ensures.records in
    let fits = sizes_fit c.args.bytes.now c.requires in
    let same = ap sizes all in
    record { so_far = ap (placed_from c.args.ways 8) (sym all); room = omega (arith, fits, same) }

pub returns-in-Some-fault : goal.returns-in-Some-fault
returns-in-Some-fault c =
    let rest = left_of c.next.new.self in
    let fault = sym c.fault.ensures ∙ c.in-Some-fault.is in
    sym (c.loop-record.invariant.so_far
    ∙ ap (placed_from c.args.ways c.loop-record.place) c.in-Some.ensures.steps
    ∙ placed_stop c.args.ways c.loop-record.place (arrived_of c.in-Some.record) rest c.in-Some-fault.why fault)

pub loop-record-preserved : goal.loop-record-preserved
loop-record-preserved c =
    let rest = left_of c.next.new.self in
    let none = sym c.fault.ensures ∙ c.in_default.is in
    let more = ap sizes c.in-Some.ensures.steps in
    record {
      so_far = c.loop-record.invariant.so_far
          ∙ ap (placed_from c.args.ways c.loop-record.place) c.in-Some.ensures.steps
          ∙ placed_next c.args.ways c.loop-record.place (arrived_of c.in-Some.record) rest none;
      room = omega (arith, c.loop-record.invariant.room, more);
    }

pub returns : goal.returns
returns c =
    sym (c.loop-record.invariant.so_far ∙ ap (placed_from c.args.ways c.loop-record.place) c.in-None.ensures.steps.0 ∙ placed_end c.args.ways c.loop-record.place)
