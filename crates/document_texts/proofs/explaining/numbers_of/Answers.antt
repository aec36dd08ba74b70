use Rattle.std.proofs.Common.{ℕ, ◌≤◌, subst}
use Rattle.document_texts.proofs.NumberLemmas.{goes_all, goes_on}
use Rattle.document_texts.proofs.explaining.numbers_of.Goals as goal

pub loop-k-preserved : goal.loop-k-preserved
loop-k-preserved c =
    goes_on c.loop-k.k c.args.document.now.plan_lines c.number_at.result c.loop-k.numbers.items c.push.new.self.items
    c.loop-k.invariant c.number_at.ensures c.in_ok-push.ensures.items

pub returns : goal.returns
returns c =
    goes_all c.loop-k.k c.args.document.now.plan_lines c.loop-k.numbers.items c.loop-k.invariant
    (subst (λ (n : ℕ). n ≤ c.loop-k.k) c.len-k-end.ensures c.loop-k-test.false)
