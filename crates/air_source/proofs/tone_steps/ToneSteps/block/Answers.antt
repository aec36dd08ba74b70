use Rattle.std.proofs.Common.{sym, ◌∙◌, arith}
use Rattle.std.proofs.lemmas.List.{ext_get_or}
use Rattle.bfp_codec.specs.Samples.{no_wide}
use Rattle.air_source.specs.Tones.{tone_block}
use Rattle.air_source.proofs.ToneBlocks.{length-tone_block, get_or-tone_block}
use Rattle.air_source.proofs.tone_steps.ToneSteps.block.Goals as goal

pub returns : goal.returns
returns c =
    let t = c.args.self.now in
    let i = c.loop-re.invariant in
    ext_get_or no_wide c.loop-re.block (tone_block t c.args.id c.args.slot c.args.symbol c.args.prb) (i.size ∙ sym (length-tone_block t c.args.id c.args.slot c.args.symbol c.args.prb)) (λ k lt.
    i.done k (omega (arith, lt, i.size, c.loop-re-test.false)) ∙ sym (get_or-tone_block t c.args.id c.args.slot c.args.symbol c.args.prb k no_wide (omega (arith, lt, i.size))))
