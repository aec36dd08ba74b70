-- The first that passes.
use Rattle.std.proofs.Common.{ap, sym, ◌∙◌}
use Rattle.explain_model.specs.SilentReasons.{repeated_of, repeated_reason}
use Rattle.explain_model.specs.Keys.{repeated_key, same_symbol}
use Rattle.explain_records.proofs.NearestLemmas.{find_all, find_here, find_step}
use Rattle.explain_records.proofs.headers.repeated_reason.Goals as goal

pub loop-r-preserved : goal.loop-r-preserved
loop-r-preserved c = find_step (λ r. same_symbol (repeated_key r) c.args.key) c.args.repeated.now c.loop-r.r-index _ c.loop-r-test.true c.loop-r.invariant (sym c.is_repeated_of.ensures ∙ c.if-is_repeated_of.false)

pub returns-then-is_repeated_of : goal.returns-then-is_repeated_of
unfolding repeated_reason
returns-then-is_repeated_of c =
    ap repeated_of (find_here (λ r. same_symbol (repeated_key r) c.args.key) c.args.repeated.now c.loop-r.r-index _ c.loop-r-test.true c.loop-r.invariant
    (sym c.is_repeated_of.ensures ∙ c.if-is_repeated_of.true))

pub returns : goal.returns
unfolding repeated_reason
returns c = ap repeated_of (sym (find_all (λ r. same_symbol (repeated_key r) c.args.key) c.args.repeated.now c.loop-r.r-index c.loop-r-test.false c.loop-r.invariant))
