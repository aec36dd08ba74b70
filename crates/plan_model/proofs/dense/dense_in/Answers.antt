-- Place by place.
use Rattle.std.proofs.Common.{pos, sym, ◌∙◌}
use Rattle.plan_model.proofs.DenseLemmas.{found, passed, ended}
use Rattle.plan_model.specs.declared.dense.Sending.{Sending}
use Rattle.plan_model.proofs.dense.dense_in.Goals as goal

none : Sending
none = record { at = record { 0 = pos 0 }; line = 0 }

pub returns-then-is_near : goal.returns-then-is_near
unfolding none
returns-then-is_near c =
    sym (found c.args.distance.0 c.loop-k.k c.args.sendings.now none c.loop-k.auto.k c.loop-k-test.true (sym c.is_near.ensures ∙ c.if-is_near.true)) ∙ c.loop-k.invariant

pub loop-k-preserved : goal.loop-k-preserved
unfolding none
loop-k-preserved c =
    sym (passed c.args.distance.0 c.loop-k.k c.args.sendings.now none c.loop-k.auto.k c.loop-k-test.true (sym c.is_near.ensures ∙ c.if-is_near.false)) ∙ c.loop-k.invariant

pub returns : goal.returns
returns c = sym (ended c.args.distance.0 c.loop-k.k c.args.sendings.now c.loop-k-test.false) ∙ c.loop-k.invariant
