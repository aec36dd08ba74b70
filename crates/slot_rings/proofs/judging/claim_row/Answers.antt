use Rattle.std.proofs.Common.{◌≡◌, ◌≤◌, ℕ, ◌+◌, ◌*◌, ◌∙◌, ◌&&◌, ap, ap₂, arith, get_or, if◌then◌else◌, Some}
use Rattle.unit_model.specs.Claims.{claim_of, in_mask, is_from}
use Rattle.slot_rings.specs.Places.{claim_in, no_claims}
use Rattle.slot_rings.proofs.JudgeLemmas.{inside}
use Rattle.slot_rings.proofs.WrittenLemmas.{blank_still, unwritten_in}
use Rattle.slot_rings.proofs.judging.claim_row.Goals as goal

pub is_unwritten-fresh-requires-clause-fits : goal.is_unwritten-fresh-requires-clause-fits
is_unwritten-fresh-requires-clause-fits c = omega (arith, c.first_cell-from.ensures.fits, c.prbs-prbs.ensures.first, c.prbs-prbs.ensures.count)

pub widen-requires-clause-fits : goal.widen-requires-clause-fits
widen-requires-clause-fits c = omega (arith, c.first_cell-from.ensures.fits, c.prbs-prbs.ensures.first, c.prbs-prbs.ensures.count)

pub claim_run-requires-clause-fresh : goal.claim_run-requires-clause-fresh
claim_run-requires-clause-fresh c new k low high =
    let prbs = c.prbs-prbs.result in
    let fits : prbs.first + prbs.count ≤ c.args.a.now.endpoint.prbs = omega (arith, inside c.args.a.now c.requires.inside, c.prbs-prbs.ensures.first, c.prbs-prbs.ensures.count) in
    c.requires.blank.each k (unwritten_in c.args.a.now.endpoint.prbs c.args.symbol prbs.first prbs.count k fits c.args.spans.now (c.is_unwritten-fresh.ensures new)
    (omega (arith, low, c.first_cell-from.ensures.value, c.prbs-prbs.ensures.first)) (omega (arith, high, c.first_cell-from.ensures.value, c.prbs-prbs.ensures.first)))

pub claim_run-requires-clause-free : goal.claim_run-requires-clause-free
claim_run-requires-clause-free c k low high =
    c.requires.free k (omega (arith, low, c.first_cell-from.ensures.value)) (omega (arith, high, c.first_cell-from.ensures.value, c.prbs-prbs.ensures.count))

pub claim_run-requires-clause-room : goal.claim_run-requires-clause-room
claim_run-requires-clause-room c = omega (arith, c.first_cell-from.ensures.within, c.prbs-prbs.ensures.count, c.requires.room)

pub claim_run-requires-clause-small : goal.claim_run-requires-clause-small
claim_run-requires-clause-small c = omega (arith, c.first_cell-from.ensures.small, c.prbs-prbs.ensures.count)

pub returns-clause-each : goal.returns-clause-each
returns-clause-each c k re below =
    c.claim_run.ensures.each k re below
    ∙ ap₂ (λ (n m : ℕ). if is_from n m k && in_mask c.args.a.now.mask re then Some (claim_of c.args.a.now) else claim_in (get_or c.args.claims.now.items k no_claims) re)
    c.first_cell-from.ensures.value c.prbs-prbs.ensures.count

pub returns-clause-blank : goal.returns-clause-blank
returns-clause-blank c =
    let prbs = c.prbs-prbs.result in
    let fits : prbs.first + prbs.count ≤ c.args.a.now.endpoint.prbs = omega (arith, inside c.args.a.now c.requires.inside, c.prbs-prbs.ensures.first, c.prbs-prbs.ensures.count) in
    let at : c.first_cell-from.result ≡ c.args.symbol * c.args.a.now.endpoint.prbs + prbs.first = omega (arith, c.first_cell-from.ensures.value, c.prbs-prbs.ensures.first) in
    blank_still no_claims c.args.a.now.endpoint.prbs c.args.symbol prbs.first prbs.count c.args.claims.now.items c.claim_run.new.claims.items c.args.spans.now c.widen.new.spans fits
    c.requires.blank c.widen.ensures.own c.widen.ensures.more (λ k out. c.claim_run.ensures.others k (ap (λ (n : ℕ). is_from n prbs.count k) at ∙ out))
