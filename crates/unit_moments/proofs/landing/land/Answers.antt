use Rattle.std.proofs.Common.{rules, ◌≡◌, ◌∙◌, ◌++◌, refl}
use Rattle.air_source.specs.declared.airs.AirFault.TheVariants.{Failed, NoMemory}
use Rattle.delay_model.specs.Doings.{with_frames}
use Rattle.frame_ways.specs.Landed.{bytes_of}
use Rattle.unit_model.specs.Standing.{arrived, at_clock}
use Rattle.unit_moments.specs.Landing.{landed, told_of_frames}
use Rattle.unit_moments.proofs.CauseLemmas.{cause_passed}
use Rattle.unit_moments.proofs.LandLemmas.{all_heard, all_landed, all_taken, came_so_far, halts_here, none_are_told, one_more_told, some_comes, stops_here}
use Rattle.unit_moments.proofs.StopLemmas.{follows_heard}
use Rattle.unit_moments.proofs.landing.land.Goals as goal

pub loop-frame-init : goal.loop-frame-init
loop-frame-init g a = record {
  lands = λ v c x may.
      none_are_told g.A.ListeningAir.grew a.args.side v a.args.tick.0 c x _ a.args.meter.now a.args.way.now a.args.out.now may
      (λ k earlier. g.met.A.ListeningAir.grew_none k earlier a.args.out.now);
  unit = a.requires.unit;
  same = g.met.A.ListeningAir.same_none a.args.out.now;
  still = refl;
}

pub hear-requires-clause-short : goal.hear-requires-clause-short
hear-requires-clause-short g a =
    let some = a.requires.some in
    let so_far = a.loop-frame.invariant.lands some.0 some.1 some.2 some.3 in
    (a.in-Some.ensures.next some.0 so_far.gone so_far.lands).short

pub hear-requires-clause-low : goal.hear-requires-clause-low
hear-requires-clause-low g a =
    let some = a.requires.some in
    let one = a.loop-frame in
    let so_far = one.invariant.lands some.0 some.1 some.2 some.3 in
    some_comes g.A.ListeningAir.grew a.args.side some.0 a.args.tick.0 some.1 some.2 a.in-Some.frame _ _ one.meter
    one.way a.next_at.new.self a.args.out.now one.out so_far (a.in-Some.ensures.next some.0 so_far.gone so_far.lands) some.3.late

pub hear-requires-clause-high : goal.hear-requires-clause-high
hear-requires-clause-high g a = a.requires.some.3.ended

pub loop-frame-preserved : goal.loop-frame-preserved
loop-frame-preserved g a =
    let tick = a.args.tick.0 in
    let f = a.in-Some.frame in
    let one = a.loop-frame in
    let old = one.invariant in
    let told = a.in_ok-hear.ensures in
    record {
      lands = λ v c x may.
          let so_far = old.lands v c x may in
          let has = with_frames c tick x so_far.gone in
          one_more_told g.A.ListeningAir.grew a.args.side v tick c x f _ _ one.meter one.way a.next_at.new.self a.args.out.now one.out
          so_far (a.in-Some.ensures.next v so_far.gone so_far.lands) g.met.A.ListeningAir.grew_more _ a.hear.new.meter a.hear.new.out
          (λ k planned h earlier takes came. told.heard c has k planned h earlier so_far.made takes came) (told.made c has so_far.made) told.took;
      unit = (old.unit.0, old.unit.1, arrived (at_clock old.unit.2 tick) (bytes_of f), told.took old.unit.0 old.unit.1 old.unit.2 old.unit.3);
      same = g.met.A.ListeningAir.same_more _ _ _ old.same a.hear.ensures.same;
      still = told.cause ∙ old.still;
    }

pub returns-in_err-hear-clause-stop : goal.returns-in_err-hear-clause-stop
returns-in_err-hear-clause-stop g a v c x k planned h earlier may takes came failed =
    let same : a.hear.result ≡ a.from_residual.result = search rules in
    let side = a.args.side in
    let tick = a.args.tick.0 in
    let f = a.in-Some.frame in
    let one = a.loop-frame in
    let so_far = one.invariant.lands v c x may in
    let next = a.in-Some.ensures.next v so_far.gone so_far.lands in
    let first = told_of_frames side c tick x so_far.gone in
    stops_here g.A.ListeningAir.grew side v tick c x f _ _ one.meter one.way a.next_at.new.self a.args.out.now one.out so_far next
    k earlier (g.A.ListeningAir.stopped Failed) (g.U.TakesFrames.may_take a.hear.new.unit k planned tick) h a.hear.new.out
    (follows_heard g.A.ListeningAir.grew g.met.A.ListeningAir.grew_more k earlier first a.args.out.now one.out (so_far.heard k planned h earlier takes came))
    (a.hear.ensures.stop c (with_frames c tick x so_far.gone) k planned (landed tick h so_far.gone) (earlier ++ first) so_far.made (so_far.takes k planned h takes)
    (came_so_far g.A.ListeningAir.grew side v tick c x f _ _ one.meter one.way a.next_at.new.self a.args.out.now one.out so_far next h earlier came) (same ∙ failed))

pub returns-in_err-hear-clause-wants : goal.returns-in_err-hear-clause-wants
returns-in_err-hear-clause-wants g a v c x k planned h earlier may takes came wants =
    let same : a.hear.result ≡ a.from_residual.result = search rules in
    let side = a.args.side in
    let tick = a.args.tick.0 in
    let f = a.in-Some.frame in
    let one = a.loop-frame in
    let so_far = one.invariant.lands v c x may in
    let next = a.in-Some.ensures.next v so_far.gone so_far.lands in
    let first = told_of_frames side c tick x so_far.gone in
    halts_here g.A.ListeningAir.grew side v tick c x f _ _ one.meter one.way a.next_at.new.self a.args.out.now one.out so_far next
    k earlier (g.A.ListeningAir.stopped NoMemory) (g.U.TakesFrames.may_take a.hear.new.unit k planned tick) h a.hear.new.out
    (follows_heard g.A.ListeningAir.grew g.met.A.ListeningAir.grew_more k earlier first a.args.out.now one.out (so_far.heard k planned h earlier takes came))
    (a.hear.ensures.wants c (with_frames c tick x so_far.gone) k planned (landed tick h so_far.gone) (earlier ++ first) so_far.made (so_far.takes k planned h takes)
    (came_so_far g.A.ListeningAir.grew side v tick c x f _ _ one.meter one.way a.next_at.new.self a.args.out.now one.out so_far next h earlier came) (same ∙ wants))

pub returns-clause-heard : goal.returns-clause-heard
returns-clause-heard g a v c x k planned h earlier may takes came =
    let one = a.loop-frame in
    let so_far = one.invariant.lands v c x may in
    all_heard g.A.ListeningAir.grew a.args.side v a.args.tick.0 c x _ _ one.meter one.way a.next_at.new.self a.args.out.now one.out so_far
    (a.in_default.ensures.next v so_far.gone so_far.lands) k planned h earlier takes came

pub returns-clause-landed : goal.returns-clause-landed
returns-clause-landed g a v c x may =
    let one = a.loop-frame in
    let so_far = one.invariant.lands v c x may in
    all_landed g.A.ListeningAir.grew a.args.side v a.args.tick.0 c x _ _ one.meter one.way a.next_at.new.self a.args.out.now one.out so_far
    (a.in_default.ensures.next v so_far.gone so_far.lands)

pub returns-clause-took : goal.returns-clause-took
returns-clause-took g a v c x k planned h may takes =
    let one = a.loop-frame in
    let so_far = one.invariant.lands v c x may in
    all_taken g.A.ListeningAir.grew a.args.side v a.args.tick.0 c x _ _ one.meter one.way a.next_at.new.self a.args.out.now one.out so_far
    (a.in_default.ensures.next v so_far.gone so_far.lands) k planned h takes

pub returns-in_err-hear-clause-cause : goal.returns-in_err-hear-clause-cause
returns-in_err-hear-clause-cause g a =
    let same : a.hear.result ≡ a.from_residual.result = search rules in
    let faults = g.A.ListeningAir.faults in
    cause_passed (faults a.args.out.now) (faults a.loop-frame.out) (faults a.hear.new.out) a.hear.result a.from_residual.result same a.loop-frame.invariant.still a.hear.ensures.cause
