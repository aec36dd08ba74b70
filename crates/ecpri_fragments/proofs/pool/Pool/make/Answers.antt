use Rattle.std.proofs.Common.{◌≡◌, None, replicate, arith, rules}
use Rattle.ecpri_fragments.proofs.Numbers.{none_at, none_given, once_none}
use Rattle.ecpri_fragments.proofs.pool.Pool.make.Goals as goal

pub invariant_of-result-clause-all : goal.invariant_of-result-clause-all
invariant_of-result-clause-all c =
    let e : c.in_ok-numbers.numbers.items ≡ replicate c.args.ids None = c.in_ok-numbers.ensures.items_if_clones_equal (λ y h. search rules) in
    rw e (omega (arith, none_given c.args.ids, c.in_ok-free.ensures.len, c.in_ok-places.ensures.len))

pub invariant_of-result-clause-once : goal.invariant_of-result-clause-once
invariant_of-result-clause-once c =
    let e : c.in_ok-numbers.numbers.items ≡ replicate c.args.ids None = c.in_ok-numbers.ensures.items_if_clones_equal (λ y h. search rules) in
    rw (e, c.in_ok-free.ensures.items, c.in_ok-places.ensures.len) (once_none c.args.ids)

pub returns-clause-none : goal.returns-clause-none
returns-clause-none c i n h =
    let e : c.in_ok-numbers.numbers.items ≡ replicate c.args.ids None = c.in_ok-numbers.ensures.items_if_clones_equal (λ y h. search rules) in
    none_at c.args.ids i n (rw (← e) h)
