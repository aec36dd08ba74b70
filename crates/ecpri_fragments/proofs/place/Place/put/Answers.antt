use Rattle.ecpri_fragments.specs.Generations.{fragment, start_in, held_in}
use Rattle.ecpri_fragments.specs.Verdicts.{standing}
use Rattle.ecpri_fragments.proofs.Steps.{moved}
use Rattle.ecpri_fragments.proofs.place.Place.put.Goals as goal

pub returns : goal.returns
returns c ep gs st =
    let a = fragment ep c.args.at c.args.seq c.args.bytes.now in
    let hold = c.args.hold.0 in
    let j = c.join.ensures ep (start_in hold a.at gs) (standing (held_in hold a.at gs)) (c.enter.ensures gs st) in
    (j.0, moved hold gs a c.join.new.self j.1)
