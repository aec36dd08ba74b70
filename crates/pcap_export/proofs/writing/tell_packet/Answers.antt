use Rattle.std.proofs.Common.{◌≡◌, ◌+◌, ◌++◌, length, ap, ◌∙◌}
use Rattle.std.specs.Prelude.{unwrap_or}
use Rattle.std.proofs.lemmas.Result.{on_ok_weaker, on_err_weaker}
use Rattle.capture_records.specs.Records.{arrived_of}
use Rattle.pcap_lines.proofs.Telling.{part_named}
use Rattle.pcap_export.specs.Packets.{ethernet_head, ns_of, record_head}
use Rattle.pcap_export.proofs.Packed.{three_carried, three_part, two_part}
use Rattle.pcap_export.proofs.writing.tell_packet.Goals as goal
use Rattle.fh_base.proofs.OwedTelling.{anyhow}

pub returns-in_err-tell-clause-part : goal.returns-in_err-tell-clause-part
returns-in_err-tell-clause-part g c =
    let r = c.args.arrival.now in
    let kept = 14 + length r.frame.now in
    let ns = c.unwrap_or-ns.ensures ∙ ap (λ o. unwrap_or o 0) c.nanoseconds.ensures.value in
    let head : c.record_head-head.result ≡ record_head (ns_of (arrived_of r)) kept = c.record_head-head.ensures ∙ ap (λ n. record_head n kept) ns in
    anyhow c.from_residual.result (part_named _ _ _ _ (record_head (ns_of (arrived_of r)) kept) (ethernet_head r.side ++ r.frame.now) head c.in_err-tell.ensures.part)

pub returns-in_err-tell-2-clause-part : goal.returns-in_err-tell-2-clause-part
returns-in_err-tell-2-clause-part g c =
    let r = c.args.arrival.now in
    let kept = 14 + length r.frame.now in
    let ns = c.unwrap_or-ns.ensures ∙ ap (λ o. unwrap_or o 0) c.nanoseconds.ensures.value in
    let head : c.record_head-head.result ≡ record_head (ns_of (arrived_of r)) kept = c.record_head-head.ensures ∙ ap (λ n. record_head n kept) ns in
    anyhow c.from_residual-in_err-tell-2.result
    (two_part _ _ _ _ _ _ _ (record_head (ns_of (arrived_of r)) kept) (ethernet_head r.side) r.frame.now head c.ethernet_head.ensures c.in_ok-tell.ensures.carried c.in_err-tell-2.ensures.part)

pub returns-clause-carried : goal.returns-clause-carried
returns-clause-carried g c =
    let r = c.args.arrival.now in
    let kept = 14 + length r.frame.now in
    let ns = c.unwrap_or-ns.ensures ∙ ap (λ o. unwrap_or o 0) c.nanoseconds.ensures.value in
    let head : c.record_head-head.result ≡ record_head (ns_of (arrived_of r)) kept = c.record_head-head.ensures ∙ ap (λ n. record_head n kept) ns in
    on_ok_weaker c.tell-3.result
    (λ h. three_carried _ _ _ _ _ _ _ _ _ _ (record_head (ns_of (arrived_of r)) kept) (ethernet_head r.side) r.frame.now head c.ethernet_head.ensures c.in_ok-tell.ensures.carried c.in_ok-tell-2.ensures.carried h)
    c.tell-3.ensures.carried

pub returns-clause-part : goal.returns-clause-part
returns-clause-part g c =
    let r = c.args.arrival.now in
    let kept = 14 + length r.frame.now in
    let ns = c.unwrap_or-ns.ensures ∙ ap (λ o. unwrap_or o 0) c.nanoseconds.ensures.value in
    let head : c.record_head-head.result ≡ record_head (ns_of (arrived_of r)) kept = c.record_head-head.ensures ∙ ap (λ n. record_head n kept) ns in
    on_err_weaker c.tell-3.result
    (λ h. three_part _ _ _ _ _ _ _ _ _ (record_head (ns_of (arrived_of r)) kept) (ethernet_head r.side) r.frame.now head c.ethernet_head.ensures c.in_ok-tell.ensures.carried c.in_ok-tell-2.ensures.carried h)
    c.tell-3.ensures.part
