use Rattle.std.proofs.Common.{refl}
use Rattle.std.proofs.lemmas.Result.{on_ok_weaker}
use Rattle.unit_meters.proofs.BeginLemmas.{begun_du, begun_ru}
use Rattle.unit_meters.proofs.meters.Meters.begin_one.Goals as goal

pub returns-in-Ru : goal.returns-in-Ru
returns-in-Ru c cr cd x y ru du =
    on_ok_weaker c.begin.result
    (λ more. begun_ru c.args.tick.0 c.args.measure.now cr cd x y c.args.self.now _ refl refl c.in-Ru.is (more cr x ru) du)
    c.begin.ensures.has

pub returns-in-Du : goal.returns-in-Du
returns-in-Du c cr cd x y ru du =
    on_ok_weaker c.begin-in-Du.result
    (λ more. begun_du c.args.tick.0 c.args.measure.now cr cd x y c.args.self.now _ refl refl c.in-Du.is ru (more cd y du))
    c.begin-in-Du.ensures.has
