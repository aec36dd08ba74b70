use Rattle.std.proofs.Common.{◌≡◌, ◌≤◌, ℕ, Option, List, arith, refl, rules, subst, sym, ap, ◌∙◌}
use Rattle.std.specs.Io.KnownBytes.{append_known}
use Rattle.std.proofs.lemmas.Result.{on_err_weaker, on_ok_weaker}
use Rattle.document_texts.specs.Shared.{units_text}
use Rattle.document_texts.proofs.Summing.{mixed, summed, unit_sound, units_taken}
use Rattle.document_texts.proofs.SharedWriting.{all_done, mixes_cut, mixes_part, taken_next, taken_none, units_cut, units_next, units_none, units_part}
use Rattle.fronthaul_replay.proofs.Written.{error_passed}
use Rattle.document_texts.proofs.Causes.{share_cause_since, share_same, share_sink}
use Rattle.document_texts.proofs.sharing.share.Goals as goal
use Rattle.fh_base.proofs.CommonLemmas.{on_err as at_error}

pub loop-unit-init : goal.loop-unit-init
loop-unit-init g c = record {
  below = omega arith;
  written = units_none c.args.doc.now c.args.step _;
  mixed = taken_none c.args.doc.now c.args.step _ c.make-mixer.ensures;
  still = refl;
}

pub loop-unit-preserved : goal.loop-unit-preserved
loop-unit-preserved g c =
    let i = c.loop-unit.invariant in
    let done = c.in_ok-share_unit.ensures in
    record {
      below = omega (arith, c.loop-unit-test.true);
      written = units_next c.args.doc.now c.args.step c.loop-unit.unit _ _ _ i.written done.done;
      mixed = taken_next c.args.doc.now c.args.step c.loop-unit.unit _ _ i.mixed done.mixed;
      still = done.cause ∙ i.still;
    }

pub returns-in_err-share_unit-clause-front : goal.returns-in_err-share_unit-clause-front
returns-in_err-share_unit-clause-front g c =
    units_cut c.args.doc.now c.args.count c.args.step c.loop-unit.unit _ _ _ (omega (arith, c.loop-unit-test.true)) c.loop-unit.invariant.written c.in_err-share_unit.ensures.front

pub returns-in_err-share_unit-clause-sound : goal.returns-in_err-share_unit-clause-sound
returns-in_err-share_unit-clause-sound g c = λ unit below. unit_sound c.args.doc.now c.requires.document c.requires.plan c.args.step unit

pub returns-in_err-share_unit-clause-summed : goal.returns-in_err-share_unit-clause-summed
returns-in_err-share_unit-clause-summed g c = summed c.args.doc.now c.requires.document c.requires.plan c.args.step c.args.count (omega (arith, c.requires.low))

pub returns-clause-front : goal.returns-clause-front
returns-clause-front g c =
    let i = c.loop-unit.invariant in
    let all : c.loop-unit.unit ≡ c.args.count = omega (arith, i.below, c.loop-unit-test.false) in
    let written = subst (λ (n : ℕ). g.K.Sink.written c.loop-unit.out ≡ append_known (g.K.Sink.written c.args.out.now) (units_text c.args.doc.now c.args.step n)) all i.written in
    let stands = i.mixed ∙ ap (units_taken c.args.doc.now c.args.step) all ∙ mixed c.args.doc.now c.requires.document c.requires.plan c.args.step c.args.count c.requires.high in
    mixes_cut c.args.doc.now c.args.count c.args.step c.loop-unit.mixer _ _ _ stands written c.put_combined.ensures.front

pub returns-clause-done : goal.returns-clause-done
returns-clause-done g c =
    let i = c.loop-unit.invariant in
    let all : c.loop-unit.unit ≡ c.args.count = omega (arith, i.below, c.loop-unit-test.false) in
    let written = subst (λ (n : ℕ). g.K.Sink.written c.loop-unit.out ≡ append_known (g.K.Sink.written c.args.out.now) (units_text c.args.doc.now c.args.step n)) all i.written in
    let stands = i.mixed ∙ ap (units_taken c.args.doc.now c.args.step) all ∙ mixed c.args.doc.now c.requires.document c.requires.plan c.args.step c.args.count c.requires.high in
    let done = on_ok_weaker c.put_combined.result (λ now. all_done c.args.doc.now c.args.count c.args.step c.loop-unit.mixer _ _ _ stands written now) c.put_combined.ensures.ok in
    search (rules, done)

pub returns-clause-sound : goal.returns-clause-sound
returns-clause-sound g c = λ unit below. unit_sound c.args.doc.now c.requires.document c.requires.plan c.args.step unit

pub returns-clause-summed : goal.returns-clause-summed
returns-clause-summed g c = summed c.args.doc.now c.requires.document c.requires.plan c.args.step c.args.count (omega (arith, c.requires.low))

pub returns-in_err-share_unit-clause-part : goal.returns-in_err-share_unit-clause-part
returns-in_err-share_unit-clause-part g c =
    at_error c.from_residual.result _
    (units_part c.args.doc.now c.args.count c.args.step c.loop-unit.unit _ _ _ (omega (arith, c.loop-unit-test.true)) c.loop-unit.invariant.written c.in_err-share_unit.ensures.front)

pub returns-clause-part : goal.returns-clause-part
returns-clause-part g c =
    let i = c.loop-unit.invariant in
    let all : c.loop-unit.unit ≡ c.args.count = omega (arith, i.below, c.loop-unit-test.false) in
    let written = subst (λ (n : ℕ). g.K.Sink.written c.loop-unit.out ≡ append_known (g.K.Sink.written c.args.out.now) (units_text c.args.doc.now c.args.step n)) all i.written in
    let stands = i.mixed ∙ ap (units_taken c.args.doc.now c.args.step) all ∙ mixed c.args.doc.now c.requires.document c.requires.plan c.args.step c.args.count c.requires.high in
    error_passed c.put_combined.result c.map_err.result _ c.map_err.ensures.variant
    (on_err_weaker c.put_combined.result (λ part. mixes_part c.args.doc.now c.args.count c.args.step c.loop-unit.mixer _ _ _ stands written part) c.put_combined.ensures.part)

pub returns-in_err-share_unit-clause-cause : goal.returns-in_err-share_unit-clause-cause
returns-in_err-share_unit-clause-cause g c =
    let f = g.K.Sink.faults in
    let same : c.share_unit.result ≡ c.from_residual.result = search rules in
    share_same (f c.args.out.now) (f c.share_unit.new.out) c.share_unit.result c.from_residual.result same
    (share_cause_since (f c.args.out.now) (f c.loop-unit.out) (f c.share_unit.new.out) c.share_unit.result c.loop-unit.invariant.still c.share_unit.ensures.cause)

pub returns-clause-cause : goal.returns-clause-cause
returns-clause-cause g c =
    let f = g.K.Sink.faults in
    share_cause_since (f c.args.out.now) (f c.loop-unit.out) (f c.put_combined.new.out) c.map_err.result c.loop-unit.invariant.still
    (share_sink (f c.loop-unit.out) (f c.put_combined.new.out) c.put_combined.result c.map_err.result (search rules) c.put_combined.ensures.cause.faults)
