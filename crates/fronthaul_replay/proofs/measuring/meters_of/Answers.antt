use Rattle.std.proofs.Common.{pos, ◌≤ℤ◌, sym, subst, arith}
use Rattle.std.proofs.lemmas.Int.{ints}
use Rattle.std.proofs.lemmas.Result.{IfOk-weaker}
use Rattle.air_source.specs.declared.events.Side.TheVariants.{Du, Ru}
use Rattle.delay_measure.specs.Kept.{IsInRange}
use Rattle.document_traffic.proofs.Documents.{compensation_is}
use Rattle.unit_model.specs.Radiated.{first_clock}
use Rattle.fronthaul_replay.proofs.MeasureLemmas.{measures_begin}
use Rattle.fronthaul_replay.proofs.measuring.meters_of.Goals as goal

clock_early : first_clock ≤ℤ pos 0
clock_early = omega (arith, ints)

pub make-requires-clause-ru : goal.make-requires-clause-ru
make-requires-clause-ru c = subst IsInRange (sym c.compensation_of-ru.ensures) (compensation_is c.args.doc.now c.requires.comps Ru)

pub make-requires-clause-du : goal.make-requires-clause-du
make-requires-clause-du c = subst IsInRange (sym c.compensation_of-du.ensures) (compensation_is c.args.doc.now c.requires.comps Du)

pub returns : goal.returns
returns c =
    IfOk-weaker c.make.result _ _
    (λ m h. measures_begin c.args.doc.now m c.compensation_of-ru.result c.compensation_of-du.result c.compensation_of-ru.ensures c.compensation_of-du.ensures (h first_clock clock_early)) c.make.ensures
