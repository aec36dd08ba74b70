use Rattle.std.proofs.Common.{◌≡◌, map, length, sym, ◌∙◌, arith}
use Rattle.std.proofs.lemmas.List.{ext_get_or, get_or-map, length-map}
use Rattle.bfp_codec.specs.Samples.{no_iq, no_wide}
use Rattle.air_source.specs.Answers.{widened}
use Rattle.text_tests.proofs.telling.wide_block.Goals as goal

pub returns : goal.returns
returns c =
    let wide = c.loop-re.wide in
    let i = c.loop-re.invariant in
    let size : length wide ≡ length (map widened c.args.block.now) = i.size ∙ sym (length-map c.args.block.now widened ∙ i.source) in
    ext_get_or no_wide wide (map widened c.args.block.now) size (λ k lt.
    i.done k (omega (arith, lt, i.size, c.loop-re-test.false)) ∙ sym (get_or-map widened c.args.block.now k no_iq no_wide (omega (arith, lt, size, length-map c.args.block.now widened))))
