use Rattle.std.proofs.Common.{◌≡◌, [], ◌∷◌, ◌++◌, Bool, cond, sym, ap, ◌∙◌, arith}
use Rattle.ecpri_fragments.proofs.Numbers.{one_less, one_longer, once_given}
use Rattle.ecpri_fragments.proofs.pool.Pool.give_back.Goals as goal

pub prove-unreachable-requires : goal.prove-unreachable-requires
prove-unreachable-requires c =
    let self = c.args.self.now in
    let less = one_less self.numbers.items c.args.id c.args.number c.requires in
    let h = c.push.ensures.succeeds (omega (arith, less, self.within, self.room_free, self.all)) in
    absurd (cc)

pub invariant_of-self-clause-room_free : goal.invariant_of-self-clause-room_free
invariant_of-self-clause-room_free c =
    let self = c.args.self.now in
    omega (arith, self.room_free, c.push.ensures.capacity)

pub invariant_of-self-clause-all : goal.invariant_of-self-clause-all
invariant_of-self-clause-all c =
    let self = c.args.self.now in
    let grown : c.push.new.self.items ≡ self.free.items ++ c.args.number ∷ [] = c.push.ensures.items ∙
    ap (λ (b : Bool). cond b (self.free.items ++ c.args.number ∷ []) self.free.items) (sym c.is_ok-kept.ensures.value ∙ c.if-prove.false) in
    let less = one_less self.numbers.items c.args.id c.args.number c.requires in
    let longer = one_longer self.free.items c.push.new.self.items c.args.number grown in
    omega (arith, less, longer, self.all, self.free.ok.0, c.push.new.self.ok.0)

pub invariant_of-self-clause-once : goal.invariant_of-self-clause-once
invariant_of-self-clause-once c =
    let self = c.args.self.now in
    let grown : c.push.new.self.items ≡ self.free.items ++ c.args.number ∷ [] = c.push.ensures.items ∙
    ap (λ (b : Bool). cond b (self.free.items ++ c.args.number ∷ []) self.free.items) (sym c.is_ok-kept.ensures.value ∙ c.if-prove.false) in
    rw grown (once_given self.numbers.items self.free.items _ self.once c.args.number c.args.id c.requires)
