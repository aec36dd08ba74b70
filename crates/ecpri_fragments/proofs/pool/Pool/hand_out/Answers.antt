use Rattle.std.proofs.Common.{[], None, refl, subst, arith}
use Rattle.std.proofs.lemmas.Option.{slice_get_within}
use Rattle.ecpri_fragments.specs.Places.{StandsIn}
use Rattle.ecpri_fragments.proofs.Numbers.{free_below, get_own, not_free, once_handed, one_more, put_other}
use Rattle.ecpri_fragments.proofs.pool.Pool.hand_out.Goals as goal

pub index_mut-requires : goal.index_mut-requires
index_mut-requires c =
    let self = c.args.self.now in
    free_below self.numbers.items self.free.items _ self.once c.pop.new.self.items c.in-Some.number c.in-Some.ensures.items

pub index_mut-requires-in-Some : goal.index_mut-requires-in-Some
index_mut-requires-in-Some c =
    let self = c.args.self.now in
    let within = slice_get_within self.numbers.items c.args.id None c.requires in
    omega (arith, within, self.numbers.ok.0)

pub invariant_of-self-clause-all : goal.invariant_of-self-clause-all
invariant_of-self-clause-all c =
    let self = c.args.self.now in
    let more = one_more self.numbers.items c.args.id c.in-Some.number c.requires in
    omega (arith, more, self.all, c.in-Some.ensures.cases)

pub invariant_of-self-clause-room_free : goal.invariant_of-self-clause-room_free
invariant_of-self-clause-room_free c =
    let self = c.args.self.now in
    omega (arith, self.room_free, c.in-Some.ensures.capacity)

pub invariant_of-self-clause-once : goal.invariant_of-self-clause-once
invariant_of-self-clause-once c =
    let self = c.args.self.now in
    once_handed self.numbers.items self.free.items _ self.once c.pop.new.self.items c.in-Some.number c.args.id c.in-Some.ensures.items c.requires

pub returns-in-Some : goal.returns-in-Some
returns-in-Some c =
    let self = c.args.self.now in
    let n = c.in-Some.number in
    let new = c.leave.new.self in
    let l = free_below self.numbers.items self.free.items _ self.once c.pop.new.self.items n c.in-Some.ensures.items in
    record {
      numbers = refl;
      len = refl;
      fresh = λ p e. subst (λ q. StandsIn q []) (get_own self.places.items n new p (omega (arith, l, self.places.ok.0)) e) c.leave.ensures;
      others = λ j k e. put_other self.places.items n k new (λ q. not_free self.numbers.items self.free.items _ self.once c.pop.new.self.items n j c.in-Some.ensures.items (rw (← q) e));
    }
