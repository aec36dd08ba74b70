use Rattle.std.proofs.Common.{refl, sym}
use Rattle.air_source.specs.declared.events.Side.TheVariants.{Du, Ru}
use Rattle.delay_model.specs.Doings.{with_begins}
use Rattle.unit_meters.specs.Begins.{begins_of}
use Rattle.unit_meters.proofs.BeginLemmas.{all_begun, fewer_wait, in_time, next_begun, next_passed, none_begun}
use Rattle.unit_meters.proofs.meters.Meters.begin.Goals as goal

pub loop-k-init : goal.loop-k-init
loop-k-init c bs cr cd x y stands = none_begun bs cr cd x y c.args.tick.0 c.args.self.now stands

pub begin_one-requires-clause-low : goal.begin_one-requires-clause-low
begin_one-requires-clause-low c =
    let r = c.requires in
    (in_time r.0 r.1 r.2 r.3 r.4 c.args.tick c.in-Some.k c.loop-k.self c.take_at.new.self (c.loop-k.invariant r.0 r.1 r.2 r.3 r.4 r.5) c.in-Some.ensures.took _ (sym c.in-Some-get.ensures)).0

pub begin_one-requires-clause-high : goal.begin_one-requires-clause-high
begin_one-requires-clause-high c =
    let r = c.requires in
    (in_time r.0 r.1 r.2 r.3 r.4 c.args.tick c.in-Some.k c.loop-k.self c.take_at.new.self (c.loop-k.invariant r.0 r.1 r.2 r.3 r.4 r.5) c.in-Some.ensures.took _ (sym c.in-Some-get.ensures)).1

pub loop-k-smaller-in-Continue-1 : goal.loop-k-smaller-in-Continue-1
loop-k-smaller-in-Continue-1 c =
    let r = c.requires in
    let so_far = c.loop-k.invariant r.0 r.1 r.2 r.3 r.4 r.5 in
    fewer_wait c.args.tick c.in-Some.k c.loop-k.self.waiting c.begin_one.new.self.waiting c.take_at.new.self c.in-Some.ensures.took (c.in_ok-begin_one.ensures r.1 r.2 _ _ so_far.ru so_far.du).waiting

pub loop-k-preserved-in-Continue-1 : goal.loop-k-preserved-in-Continue-1
loop-k-preserved-in-Continue-1 c bs cr cd x y stands =
    let so_far = c.loop-k.invariant bs cr cd x y stands in
    let begun = c.in_ok-begin_one.ensures cr cd (with_begins cr x (begins_of Ru so_far.gone)) (with_begins cd y (begins_of Du so_far.gone)) so_far.ru so_far.du in
    next_begun bs cr cd x y c.args.tick c.in-Some.k c.loop-k.self c.take_at.new.self so_far c.in-Some.ensures.took
    c.begin_one.new.self c.in-Some-get.measure.now (sym c.in-Some-get.ensures) begun.waiting begun.measures begun.ru begun.du

pub loop-k-preserved : goal.loop-k-preserved
loop-k-preserved c bs cr cd x y stands =
    next_passed bs cr cd x y c.args.tick c.in-Some.k c.loop-k.self c.take_at.new.self (c.loop-k.invariant bs cr cd x y stands) c.in-Some.ensures.took
    _ (sym c.in_default-get.ensures) refl refl refl refl

pub returns : goal.returns
returns c bs cr cd x y stands =
    all_begun bs cr cd x y c.args.tick c.loop-k.self _ (c.loop-k.invariant bs cr cd x y stands) c.in_default.ensures.took.0 refl refl refl
    c.take_at.ensures.rising c.in_default.ensures.took.1
