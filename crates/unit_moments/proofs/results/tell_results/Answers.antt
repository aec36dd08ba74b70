use Rattle.std.proofs.Common.{rules, ◌≡◌, List, map, take, sym, subst, ◌∙◌}
use Rattle.std.proofs.lemmas.Result.{IfErr-weaker}
use Rattle.air_source.specs.declared.events.Event.{Event}
use Rattle.air_source.proofs.Stops.{stops_at}
use Rattle.unit_model.specs.Events.{result_event}
use Rattle.unit_moments.proofs.CauseLemmas.{cause_passed}
use Rattle.unit_moments.specs.Heard.{HeardAnyhow}
use Rattle.unit_moments.specs.HeardLaws.{anyhow_more}
use Rattle.unit_moments.proofs.HearLemmas.{results_next}
use Rattle.unit_moments.proofs.results.tell_results.Goals as goal

pub loop-known-preserved : goal.loop-known-preserved
loop-known-preserved g c =
    let old = c.loop-known.invariant in
    let told = c.in_ok-tell_result.ensures in
    let side = c.args.side in
    let at = c.args.at.0 in
    let results = c.args.results.now in
    let i = c.loop-known.known-index in
    record {
      heard = subst (λ (es : List Event). HeardAnyhow g.A.ListeningAir.grew c.args.out.now es c.tell_result.new.out) (results_next side at results i _ c.loop-known-test.true)
          (anyhow_more g.A.ListeningAir.grew g.met.A.ListeningAir.grew_more c.args.out.now c.loop-known.out c.tell_result.new.out (map (result_event side at) (take i results)) _ old.heard told.heard);
      same = g.met.A.ListeningAir.same_more _ _ _ old.same told.same;
      still = told.cause ∙ old.still;
    }

pub returns-in_err-tell_result-clause-stop : goal.returns-in_err-tell_result-clause-stop
returns-in_err-tell_result-clause-stop g c =
    let same : c.tell_result.result ≡ c.from_residual.result = search rules in
    rw (sym same) (IfErr-weaker c.tell_result.result _ _ (λ f stop.
    stops_at (HeardAnyhow g.A.ListeningAir.grew) (g.A.ListeningAir.stopped f) (result_event c.args.side c.args.at.0) c.args.results.now c.loop-known.known-index _
    c.args.out.now c.loop-known.out c.tell_result.new.out c.loop-known-test.true c.loop-known.invariant.heard stop) c.tell_result.ensures.stop)

pub returns-in_err-tell_result-clause-cause : goal.returns-in_err-tell_result-clause-cause
returns-in_err-tell_result-clause-cause g c =
    let same : c.tell_result.result ≡ c.from_residual.result = search rules in
    cause_passed (g.A.ListeningAir.faults c.args.out.now) (g.A.ListeningAir.faults c.loop-known.out) (g.A.ListeningAir.faults c.tell_result.new.out) c.tell_result.result c.from_residual.result same c.loop-known.invariant.still c.tell_result.ensures.cause
