-- The first that passes.
use Rattle.std.proofs.Common.{Some, ap, sym, ◌∙◌}
use Rattle.explain_model.specs.SilentReasons.{header_of, header_reason}
use Rattle.explain_model.specs.Keys.{header_key, same_symbol}
use Rattle.explain_records.proofs.NearestLemmas.{find_all, find_here, find_step}
use Rattle.explain_records.proofs.headers.header_reason.Goals as goal

pub loop-r-preserved : goal.loop-r-preserved
loop-r-preserved c = find_step (λ r. same_symbol (header_key r) c.args.key) c.args.headers.now c.loop-r.r-index _ c.loop-r-test.true c.loop-r.invariant (sym c.is_header_of.ensures ∙ c.if-is_header_of.false)

pub returns-then-is_header_of : goal.returns-then-is_header_of
unfolding header_reason
returns-then-is_header_of c =
    ap Some c.header_by.ensures ∙ ap header_of (find_here (λ r. same_symbol (header_key r) c.args.key) c.args.headers.now c.loop-r.r-index _ c.loop-r-test.true c.loop-r.invariant
    (sym c.is_header_of.ensures ∙ c.if-is_header_of.true))

pub returns : goal.returns
unfolding header_reason
returns c = ap header_of (sym (find_all (λ r. same_symbol (header_key r) c.args.key) c.args.headers.now c.loop-r.r-index c.loop-r-test.false c.loop-r.invariant))
