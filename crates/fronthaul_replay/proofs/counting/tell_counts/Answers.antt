use Rattle.std.proofs.Common.{rules, ◌≡◌, ◌<◌, ◌≤◌, ℕ, List, length, ap, sym, subst, ◌∙◌, arith}
use Rattle.std.proofs.lemmas.Result.{IfErr-weaker}
use Rattle.air_source.specs.Stops.{StopsIn}
use Rattle.air_source.specs.declared.events.Event.{Event}
use Rattle.fault_counters.specs.declared.kinds.Counter.TheVariants.{Frames}
use Rattle.fronthaul_replay.specs.Counting.{told_number}
use Rattle.unit_moments.specs.Heard.{HeardAnyhow}
use Rattle.unit_moments.specs.HeardLaws.{anyhow_more}
use Rattle.fronthaul_replay.proofs.CountLemmas.{counts_to, heard_among, stops_among, told_are, told_to_end}
use Rattle.fronthaul_replay.proofs.counting.tell_counts.Goals as goal
use Rattle.unit_moments.proofs.CauseLemmas.{cause_passed}

-- of so many counters
inside : (n i : ℕ) → n ≡ 33 → i < 33 → i < n
inside n i is lt = omega (arith, is, lt)

past : (n i : ℕ) → n ≡ 33 → 33 ≤ i → n ≤ i
past n i is most = omega (arith, is, most)

pub loop-counter-preserved : goal.loop-counter-preserved
loop-counter-preserved g c =
    let old = c.loop-counter.invariant in
    let told = c.in_ok-tell_count.ensures in
    record {
      heard = λ comp x has.
          heard_among (HeardAnyhow g.A.ListeningAir.grew) (anyhow_more g.A.ListeningAir.grew g.met.A.ListeningAir.grew_more) c.args.side (told_number c.args.counters.now x.counted) c.all-counter-items.result c.loop-counter.counter-index Frames
          c.number_of.result c.args.out.now c.loop-counter.out c.tell_count.new.out
          (inside (length c.all-counter-items.result) c.loop-counter.counter-index (ap length c.all-counter-items.ensures.order) c.loop-counter-test.true)
          (c.number_of.ensures comp x has) (old.heard comp x has) told.heard;
      same = g.met.A.ListeningAir.same_more _ _ _ old.same told.same;
      still = told.cause ∙ old.still;
    }

pub returns-clause-heard : goal.returns-clause-heard
returns-clause-heard g c comp x has =
    let order = c.all-counter-items.ensures.order in
    subst (λ (es : List Event). HeardAnyhow g.A.ListeningAir.grew c.args.out.now es c.loop-counter.out)
    (told_to_end c.args.side c.args.counters.now x.counted c.all-counter-items.result c.loop-counter.counter-index order
    (past (length c.all-counter-items.result) c.loop-counter.counter-index (ap length order) c.loop-counter-test.false))
    (c.loop-counter.invariant.heard comp x has)

pub returns-in_err-tell_count-clause-stop : goal.returns-in_err-tell_count-clause-stop
returns-in_err-tell_count-clause-stop g c comp x has =
    let same : c.tell_count.result ≡ c.from_residual.result = search rules in
    let order = c.all-counter-items.ensures.order in
    let counted = counts_to c.args.side c.args.counters.now x.counted in
    rw (sym same) (IfErr-weaker c.tell_count.result _ _ (λ f stop.
    subst (λ (es : List Event). StopsIn (HeardAnyhow g.A.ListeningAir.grew) (g.A.ListeningAir.stopped f) es c.args.out.now c.tell_count.new.out) (ap counted order ∙ sym (told_are c.args.side c.args.counters.now x.counted))
    (stops_among (HeardAnyhow g.A.ListeningAir.grew) (anyhow_more g.A.ListeningAir.grew g.met.A.ListeningAir.grew_more) c.args.side (told_number c.args.counters.now x.counted) c.all-counter-items.result c.loop-counter.counter-index Frames
    c.number_of.result c.args.out.now c.loop-counter.out c.tell_count.new.out
    (inside (length c.all-counter-items.result) c.loop-counter.counter-index (ap length order) c.loop-counter-test.true)
    (c.number_of.ensures comp x has) (c.loop-counter.invariant.heard comp x has) (g.A.ListeningAir.stopped f) stop)) c.tell_count.ensures.stop)

pub returns-in_err-tell_count-clause-cause : goal.returns-in_err-tell_count-clause-cause
returns-in_err-tell_count-clause-cause g c =
    let same : c.tell_count.result ≡ c.from_residual.result = search rules in
    cause_passed (g.A.ListeningAir.faults c.args.out.now) (g.A.ListeningAir.faults c.loop-counter.out) (g.A.ListeningAir.faults c.tell_count.new.out) c.tell_count.result c.from_residual.result same c.loop-counter.invariant.still c.tell_count.ensures.cause
