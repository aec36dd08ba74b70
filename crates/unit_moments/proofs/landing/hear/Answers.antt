use Rattle.std.proofs.Common.{rules, ◌≡◌, [], ◌∷◌, ◌++◌, inl, inr, map, refl, subst, sym}
use Rattle.std.proofs.lemmas.Result.{IfErr-at_err, on_ok_weaker}
use Rattle.air_source.specs.declared.airs.AirFault.TheVariants.{Failed, NoMemory}
use Rattle.delay_model.specs.Doings.{with_frame}
use Rattle.unit_model.specs.Events.{arrival_event, result_event}
use Rattle.frame_ways.specs.Landing.{arrival_at}
use Rattle.unit_moments.specs.Heard.{HeardAnyhow}
use Rattle.unit_moments.specs.Landing.{HasTaken}
use Rattle.air_source.proofs.Causes.{air_cause_since}
use Rattle.unit_moments.proofs.CauseLemmas.{cause_handed_on, cause_wanted, fault_handed_on}
use Rattle.unit_moments.proofs.HearLemmas.{rests_arrived, stops_arriving, stops_telling, taken_frame, taken_none}
use Rattle.unit_moments.proofs.StopLemmas.{follows_anyhow}
use Rattle.unit_moments.proofs.landing.hear.Goals as goal

pub returns-in_err-measures-clause-stop : goal.returns-in_err-measures-clause-stop
returns-in_err-measures-clause-stop g a c x k planned h earlier has takes came failed =
    let side = a.args.side in
    let at = a.args.at.0 in
    let bytes = a.as_slice-bytes.result.now in
    let rests = a.in_err-measures.ensures.rests in
    let stands = g.U.TakesFrames.may_take a.arrival.new.unit k planned at in
    let takes_now : stands h = subst (λ u. g.U.TakesFrames.may_take u k planned at h) (sym rests) takes in
    rw (← a.as_slice-bytes.ensures)
    (stops_arriving (g.A.ListeningAir.grew k earlier) side (arrival_at at bytes) (with_frame c at x bytes).results (HasTaken stands side h) [] (g.A.ListeningAir.stopped Failed)
    a.args.out.now a.arrival.new.self (g.met.A.ListeningAir.grew_none k earlier a.args.out.now) (taken_none stands side h takes_now)
    (subst (λ f. g.A.ListeningAir.stopped f a.args.out.now (arrival_event side (arrival_at at bytes)) a.arrival.new.self) (fault_handed_on a.in_err-measures.field-0.0 Failed a.from_residual.result a.from_residual.ensures.1 failed)
    a.in_err-measures.ensures.stop))

pub returns-in_err-measures-clause-wants : goal.returns-in_err-measures-clause-wants
returns-in_err-measures-clause-wants g a c x k planned h earlier has takes came wants =
    let side = a.args.side in
    let at = a.args.at.0 in
    let bytes = a.as_slice-bytes.result.now in
    let rests = a.in_err-measures.ensures.rests in
    let stands = g.U.TakesFrames.may_take a.arrival.new.unit k planned at in
    let takes_now : stands h = subst (λ u. g.U.TakesFrames.may_take u k planned at h) (sym rests) takes in
    rw (← a.as_slice-bytes.ensures)
    (inl (stops_arriving (g.A.ListeningAir.grew k earlier) side (arrival_at at bytes) (with_frame c at x bytes).results (HasTaken stands side h) [] (g.A.ListeningAir.stopped NoMemory)
    a.args.out.now a.arrival.new.self (g.met.A.ListeningAir.grew_none k earlier a.args.out.now) (taken_none stands side h takes_now)
    (subst (λ f. g.A.ListeningAir.stopped f a.args.out.now (arrival_event side (arrival_at at bytes)) a.arrival.new.self) (fault_handed_on a.in_err-measures.field-0.0 NoMemory a.from_residual.result a.from_residual.ensures.1 wants)
    a.in_err-measures.ensures.stop)))

-- the frame was heard and taken, and memory ran out in the meter
pub returns-in_err-measure-clause-wants : goal.returns-in_err-measure-clause-wants
returns-in_err-measure-clause-wants g a c x k planned h earlier has takes came wants =
    let side = a.args.side in
    let at = a.args.at.0 in
    let bytes = a.as_slice-bytes.result.now in
    let ok = a.in_ok-measures.ensures in
    let stands = g.U.TakesFrames.may_take a.arrival.new.unit k planned at in
    rw (← a.as_slice-bytes.ensures)
    (inr (rests_arrived (g.A.ListeningAir.grew k earlier) side (arrival_at at bytes) (with_frame c at x bytes).results (HasTaken stands side h) [] a.args.out.now a.arrival.new.self
    (ok.heard k planned h earlier takes came) (taken_frame stands side h at bytes (ok.took k planned h takes))))

pub returns-clause-heard : goal.returns-clause-heard
returns-clause-heard g a c x k planned h earlier has takes came =
    let made = a.in_ok-measure.ensures c x has in
    let one = arrival_event a.args.side (arrival_at a.args.at.0 a.as_slice-bytes.result.now) ∷ [] in
    rw (← a.as_slice-bytes.ensures, ← a.results.ensures c _ made)
    (on_ok_weaker a.tell_results.result
    (λ more. g.met.A.ListeningAir.grew_more k earlier a.args.out.now a.arrival.new.self a.tell_results.new.out one
    (map (result_event a.args.side a.args.at.0) a.results.result.now) (a.in_ok-measures.ensures.heard k planned h earlier takes came) (more k (earlier ++ one))) a.tell_results.ensures.heard)

pub returns-clause-took : goal.returns-clause-took
returns-clause-took g a =
    rw (← a.as_slice-bytes.ensures) (on_ok_weaker a.tell_results.result (λ more k planned h takes. a.in_ok-measures.ensures.took k planned h takes) a.tell_results.ensures.heard)

pub returns-clause-made : goal.returns-clause-made
returns-clause-made g a c x has =
    rw (← a.as_slice-bytes.ensures) (on_ok_weaker a.tell_results.result (λ more. a.in_ok-measure.ensures c x has) a.tell_results.ensures.heard)

pub returns-clause-stop : goal.returns-clause-stop
returns-clause-stop g a c x k planned h earlier has takes came failed =
    let side = a.args.side in
    let at = a.args.at.0 in
    let bytes = a.as_slice-bytes.result.now in
    let made = a.in_ok-measure.ensures c x has in
    let ok = a.in_ok-measures.ensures in
    let stands = g.U.TakesFrames.may_take a.arrival.new.unit k planned at in
    let one = arrival_event side (arrival_at at bytes) ∷ [] in
    rw (← a.as_slice-bytes.ensures, ← a.results.ensures c _ made)
    (stops_telling (g.A.ListeningAir.grew k earlier) side (arrival_at at bytes) a.results.result.now (HasTaken stands side h) [] (HeardAnyhow g.A.ListeningAir.grew) (g.A.ListeningAir.stopped Failed)
    a.args.out.now a.arrival.new.self a.tell_results.new.out
    (follows_anyhow g.A.ListeningAir.grew g.met.A.ListeningAir.grew_more k earlier one a.args.out.now a.arrival.new.self (ok.heard k planned h earlier takes came))
    (taken_frame stands side h at bytes (ok.took k planned h takes)) (IfErr-at_err _ failed a.tell_results.ensures.stop))

pub returns-clause-wants : goal.returns-clause-wants
returns-clause-wants g a c x k planned h earlier has takes came wants =
    let side = a.args.side in
    let at = a.args.at.0 in
    let bytes = a.as_slice-bytes.result.now in
    let made = a.in_ok-measure.ensures c x has in
    let ok = a.in_ok-measures.ensures in
    let stands = g.U.TakesFrames.may_take a.arrival.new.unit k planned at in
    let one = arrival_event side (arrival_at at bytes) ∷ [] in
    rw (← a.as_slice-bytes.ensures, ← a.results.ensures c _ made)
    (inl (stops_telling (g.A.ListeningAir.grew k earlier) side (arrival_at at bytes) a.results.result.now (HasTaken stands side h) [] (HeardAnyhow g.A.ListeningAir.grew) (g.A.ListeningAir.stopped NoMemory)
    a.args.out.now a.arrival.new.self a.tell_results.new.out
    (follows_anyhow g.A.ListeningAir.grew g.met.A.ListeningAir.grew_more k earlier one a.args.out.now a.arrival.new.self (ok.heard k planned h earlier takes came))
    (taken_frame stands side h at bytes (ok.took k planned h takes)) (IfErr-at_err _ wants a.tell_results.ensures.stop)))

pub returns-in_err-measures-clause-cause : goal.returns-in_err-measures-clause-cause
returns-in_err-measures-clause-cause g a =
    let faults = g.A.ListeningAir.faults in
    cause_handed_on (faults a.args.out.now) (faults a.arrival.new.self) a.in_err-measures.field-0.0 a.from_residual.result a.from_residual.ensures.1 a.in_err-measures.ensures.cause

pub returns-in_err-measure-clause-cause : goal.returns-in_err-measure-clause-cause
returns-in_err-measure-clause-cause g a =
    let faults = g.A.ListeningAir.faults in
    cause_wanted (faults a.args.out.now) (faults a.arrival.new.self) a.from_residual-in_err-measure.result a.from_residual-in_err-measure.ensures.1 a.in_ok-measures.ensures.cause

pub returns-clause-cause : goal.returns-clause-cause
returns-clause-cause g a =
    let faults = g.A.ListeningAir.faults in
    air_cause_since (faults a.args.out.now) (faults a.arrival.new.self) (faults a.tell_results.new.out) a.tell_results.result a.in_ok-measures.ensures.cause a.tell_results.ensures.cause
