use Rattle.std.proofs.Common.{◌≡◌, ap, ap₂, ◌∙◌, sym, arith}
use Rattle.plan_model.specs.Streams.{part_in}
use Rattle.frame_bytes.specs.Cuts.{piece_frame}
use Rattle.frame_bytes.specs.Messages.{message_of, message_size}
use Rattle.frame_bytes.specs.declared.messages.Carrier.{Carrier}
use Rattle.frame_bytes.proofs.Sections.{length_message}
use Rattle.sent_frames.specs.Messages.{data_head}
use Rattle.sent_frames.proofs.Written.{fragment_written}
use Rattle.sent_frames.proofs.data.data_frame.Goals as goal
use Rattle.frame_bytes.specs.Headers.{carrier_of}

pub returns-clause-bytes : goal.returns-clause-bytes
returns-clause-bytes g c answer by blocks are =
    let ss = c.args.sections.now in
    let e = c.args.p.now.endpoint in
    let head = data_head (part_in c.args.symbol c.args.p.now) in
    let prbs : c.carrier_of.result.prbs ≡ e.prbs = ap (λ (k : Carrier). k.prbs) c.carrier_of.ensures in
    let written = c.piece.ensures.bytes blocks (λ place at prb samples lt met. met answer by ∙ sym (are place prb at (omega (arith, lt, prbs)))) in
    fragment_written e.id c.args.fragment c.field_of.result c.span_of.result.from c.span_of.result.to c.message_size-bytes.result (message_size (carrier_of e) ss)
    (message_of (carrier_of e) blocks head ss) _
    (written ∙ ap₂ (λ k h. piece_frame e.id c.field_of.result c.span_of.result.from c.span_of.result.to (message_of k blocks h ss)) c.carrier_of.ensures c.data_head.ensures)
    c.field_of.ensures c.span_of.ensures.from c.span_of.ensures.to (c.message_size-bytes.ensures ∙ ap (λ k. message_size k ss) c.carrier_of.ensures)
    (length_message (carrier_of e) blocks head ss)
