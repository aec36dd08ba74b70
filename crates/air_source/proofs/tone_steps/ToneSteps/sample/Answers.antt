use Rattle.std.proofs.Common.{rules, w32, ◌≡◌, ◌+◌, ◌*◌, ◌%◌, sym, ap, subst, ◌∙◌}
use Rattle.std.proofs.lemmas.Int.{to_z-of_z}
use mir.Val.{SFits}
use Rattle.air_source.specs.Tones.{base_of, tone_of}
use Rattle.air_source.specs.declared.tones.Tone.{Tone}
use Rattle.air_source.proofs.Sums.{sample_is}
use Rattle.air_source.proofs.tone_steps.ToneSteps.sample.Goals as goal

pub returns-clause-value : goal.returns-clause-value
returns-clause-value c = λ p re i q.
    let s = c.self.inside in
    let fits_i : SFits w32 c.wave_of.result = search rules in
    let fits_q : SFits w32 c.wave_of-2.result = search rules in
    let in_i = to_z-of_z w32 c.wave_of.result fits_i in
    let in_q = to_z-of_z w32 c.wave_of-2.result fits_q in
    let same : s.tone ≡ c.args.self.now = search rules in
    let rest_i = subst (λ (t : Tone). c.args.rests.i ≡ base_of t p % (2 * t.amplitude)) (sym same) i in
    let rest_q = subst (λ (t : Tone). c.args.rests.q ≡ (3 * base_of t p + 7) % (2 * t.amplitude)) (sym same) q in
    sample_is s.tone p c.args.re s.turn c.args.rests.i c.args.rests.q _ _ c.stepped.result c.stepped-2.result _ _
    s.twice re rest_i rest_q (s.i_steps c.args.re c.requires.re) (s.q_steps c.args.re c.requires.re) c.stepped.ensures.value c.stepped-2.ensures.value
    (in_i ∙ c.wave_of.ensures.value) (in_q ∙ c.wave_of-2.ensures.value)
    ∙ ap (λ t. tone_of t p) same
