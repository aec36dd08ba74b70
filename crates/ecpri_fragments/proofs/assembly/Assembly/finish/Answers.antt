use Rattle.std.proofs.Common.{◌≡◌, ◌<◌, length, Some, refl, arith}
use Rattle.std.specs.List.{slice_get}
use Rattle.std.proofs.lemmas.Option.{slice_get_read}
use Rattle.ecpri_fragments.specs.Assemblies.{StandsFor}
use Rattle.ecpri_fragments.proofs.Numbers.{below}
use Rattle.ecpri_fragments.proofs.Steps.{finished}
use Rattle.ecpri_fragments.proofs.assembly.Assembly.finish.Goals as goal

pub index-requires-2 : goal.index-requires-2
index-requires-2 c =
    let pool = c.args.self.now.pool in
    let has : slice_get pool.numbers.items c.args.id ≡ Some (Some c.in-Some.number) =
    rw c.in-Some.is at (slice_get_read pool.numbers.items (length pool.numbers.items) c.args.id c.index.result.now refl (omega (arith, c.requires, pool.numbers.ok.0)) c.index.ensures) in
    below pool.numbers.items _ _ pool.once c.args.id c.in-Some.number has

pub give_back-requires : goal.give_back-requires
give_back-requires c =
    let pool = c.args.self.now.pool in
    rw c.in-Some.is at (slice_get_read pool.numbers.items (length pool.numbers.items) c.args.id c.index.result.now refl (omega (arith, c.requires, pool.numbers.ok.0)) c.index.ensures)

pub returns-clause-stands : goal.returns-clause-stands
unfolding StandsFor
returns-clause-stands c arrivals s =
    let self = c.args.self.now in
    let pool = self.pool in
    let has : slice_get pool.numbers.items c.args.id ≡ Some (Some c.in-Some.number) =
    rw c.in-Some.is at (slice_get_read pool.numbers.items (length pool.numbers.items) c.args.id c.index.result.now refl (omega (arith, c.requires, pool.numbers.ok.0)) c.index.ensures) in
    let l = below pool.numbers.items _ _ pool.once c.args.id c.in-Some.number has in
    let its = slice_get_read pool.places.items (length pool.places.items) c.in-Some.number c.index-2.result.now refl (omega (arith, l, pool.places.ok.0)) c.index-2.ensures in
    let room : c.args.id < length self.done.items = omega (arith, c.requires, self.per_endpoint, self.done_per_endpoint, self.done.ok.0) in
    rw (c.give_back.ensures.numbers, c.give_back.ensures.places)
    (finished pool.numbers.items self.done.items pool.places.items self.hold.0 arrivals c.args.id c.in-Some.number c.index-2.result.now c.in-Some-done.begun has its room (λ gs st. c.in-Some-done.ensures gs st c.in-Some-done.begun refl) s)
