use Rattle.fronthaul_replay.proofs.DownLemmas.{down_begins}
use Rattle.fronthaul_replay.proofs.WayLemmas.{starts}
use Rattle.air_source.specs.declared.events.Side.TheVariants.{Ru}
use Rattle.fronthaul_replay.proofs.downlink.Downlink.make.Goals as goal

pub returns : goal.returns
returns c = let d = c.args.doc.now in down_begins d c.args.plan _ c.requires.plan (starts d Ru _ c.in_ok-way.ensures)
