use Rattle.air_source.specs.declared.events.Side.TheVariants.{Du}
use Rattle.unit_model.specs.Radiated.{first_clock}
use Rattle.fronthaul_replay.proofs.AnswerLemmas.{begins}
use Rattle.fronthaul_replay.proofs.WayLemmas.{starts}
use Rattle.fronthaul_replay.proofs.answers.Answers.make.Goals as goal

pub returns : goal.returns
returns g c =
    let d = c.args.doc.now in
    begins _ _ d c.args.antenna _ _ _ _ c.requires.kept c.requires.tone c.in_ok-uplink.ensures.antenna c.in_ok-uplink.ensures.numbered c.new-outbox.ensures.frames
    (c.make-queue.ensures.waits _ first_clock) (starts d Du _ c.in_ok-way.ensures)
