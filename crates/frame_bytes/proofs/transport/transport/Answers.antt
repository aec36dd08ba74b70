use Rattle.std.proofs.Common.{arith, refl, rules, ◌+◌}
use Rattle.frame_bytes.proofs.Headers.{transport_is}
use Rattle.frame_bytes.proofs.transport.transport.Goals as goal

pub returns : goal.returns
returns c =
    let id = c.ranges.id.fits in
    transport_is c.args.kind c.args.id (4 + c.args.application) c.args.seq c.put_head-head.result c.put_seq-field.result _ _ (λ i. search rules) (λ i. search rules)
    c.put_head-head.ensures c.put_seq-field.ensures.reads (omega arith) refl refl
