use Rattle.std.proofs.Common.{take, arith, w8}
use Rattle.std.specs.Prelude.{◌==◌}
use Rattle.std.proofs.lemmas.Simd.{bitmask_splat, length-chunk}
use Rattle.line_words.proofs.parts.marks_of_16.Goals as goal

pub returns : goal.returns
returns c =
    bitmask_splat w8 (λ a b. a == b) (take 16 c.args.bytes.now) 16 c.args.separator (length-chunk 0 16 c.args.bytes.now (omega arith)) (omega arith)
