use Rattle.std.proofs.Common.{◌+◌, ◌*◌, ◌<◌, length, refl, arith, rules}
use Rattle.std.proofs.lemmas.Option.{slice_get_read}
use mir.Syntax.{w8}
use mir.Val.{Fits}
use Rattle.ecpri_fragments.specs.Generations.{fragment}
use Rattle.ecpri_fragments.specs.Assemblies.{StandsFor}
use Rattle.ecpri_fragments.proofs.Numbers.{below}
use Rattle.ecpri_fragments.proofs.Steps.{puts_in, stand_more, stand_still}
use Rattle.ecpri_fragments.proofs.assembly.Assembly.place.Goals as goal

pub index_mut-requires : goal.index_mut-requires
index_mut-requires c =
    let pool = c.place_of-number.new.self in
    below pool.numbers.items _ _ pool.once _ c.place_of-number.result c.place_of-number.ensures.has

pub returns-clause-took : goal.returns-clause-took
unfolding StandsFor
returns-clause-took c =
    let old = c.args.self.now in
    let pool = c.place_of-number.new.self in
    let number = c.place_of-number.result in
    let p = c.index_mut.result.now in
    let next = c.put-verdict.new.self in
    let a = fragment c.args.ep c.args.at c.args.seq c.args.bytes.now in
    let b : Fits w8 c.args.seq.seq = search rules in
    let low : a.seq < 256 = omega (arith, b) in
    let within : a.ep * 256 + a.seq < length old.done.items = omega (arith, b, c.requires.endpoint, old.done_per_endpoint, old.done.ok.0) in
    let l : number < length pool.places.items = let h = below pool.numbers.items _ _ pool.once _ number c.place_of-number.ensures.has in omega (arith, h, pool.places.ok.0) in
    let e = slice_get_read pool.places.items (length pool.places.items) number p refl l c.index_mut.ensures.value in
    record {
      hold = refl;
      endpoints = refl;
      stands = λ arrivals s. stand_more old.pool old.done.items pool old.hold.0 arrivals a number p next c.put-verdict.result low within c.place_of-number.ensures e s c.requires.making (c.put-verdict.ensures c.args.ep);
      rests = λ arrivals s. stand_still old.pool old.done.items pool old.hold.0 arrivals a number p next c.put-verdict.result low within c.place_of-number.ensures e s c.requires.making (c.put-verdict.ensures c.args.ep);
    }

pub returns-clause-verdict : goal.returns-clause-verdict
unfolding StandsFor
returns-clause-verdict c arrivals s =
    let old = c.args.self.now in
    let pool = c.place_of-number.new.self in
    let number = c.place_of-number.result in
    let p = c.index_mut.result.now in
    let a = fragment c.args.ep c.args.at c.args.seq c.args.bytes.now in
    let b : Fits w8 c.args.seq.seq = search rules in
    let low : a.seq < 256 = omega (arith, b) in
    let within : a.ep * 256 + a.seq < length old.done.items = omega (arith, b, c.requires.endpoint, old.done_per_endpoint, old.done.ok.0) in
    let l : number < length pool.places.items = let h = below pool.numbers.items _ _ pool.once _ number c.place_of-number.ensures.has in omega (arith, h, pool.places.ok.0) in
    let e = slice_get_read pool.places.items (length pool.places.items) number p refl l c.index_mut.ensures.value in
    let puts = puts_in old.pool old.done.items pool old.hold.0 arrivals a number p c.put-verdict.new.self c.put-verdict.result low within c.place_of-number.ensures e s c.requires.making (c.put-verdict.ensures c.args.ep) in
    puts.0
