use Rattle.std.proofs.Common.{◌≡◌, refl, ap, arith, ◌+◌, rules, length, drop, true, false, Bool, cond, eqb}
use Rattle.fh_base.specs.declared.values.Ticks.{Ticks}
use Rattle.ecpri_fragments.specs.Generations.{fragment}
use Rattle.ecpri_fragments.specs.Places.{table_of}
use Rattle.ecpri_fragments.proofs.Tables.{stored}
use Rattle.ecpri_fragments.proofs.place.Place.store.Goals as goal

ticks : (b : Bool) (x y r : Ticks) → r ≡ cond b x y → r.0 ≡ cond b x.0 y.0
ticks true x y r e = ap (λ (t : Ticks). t.0) e
ticks false x y r e = ap (λ (t : Ticks). t.0) e

pub returns-clause-holds : goal.returns-clause-holds
returns-clause-holds c ep s h passes =
    let old = c.args.self.now in
    let a = fragment ep c.args.at c.args.seq c.args.bytes.now in
    let sizes : length old.spans ≡ 128 = search rules in
    let all : length old.bytes ≡ 16384 = search rules in
    stored (table_of old) _ s a (drop (old.used + length a.bytes) old.bytes) h old.inside passes c.requires.sub sizes (omega (arith, all, old.filled))
    refl c.write_at.ensures refl c.end_after-self.ensures c.max-self.ensures
    (ticks (eqb old.top 0) c.args.at old.first c.first_after-self.result c.first_after-self.ensures) refl
    (λ b. c.is_whole-self.ensures b)
