use Rattle.std.proofs.Common.{◌+◌, ◌*◌, ◌<◌, length, ◌∙◌, arith, rules, length-set}
use Rattle.std.proofs.lemmas.Int.{to_z-of_z}
use Rattle.std.specs.Int.{w32}
use mir.Val.{SFits}
use Rattle.bfp_codec.specs.Samples.{pair_of}
use Rattle.bfp_codec.proofs.Filling.{filled_next, pair}
use Rattle.bfp_codec.proofs.Whole.{plain_in, plain_place, unpacked_plain}
use Rattle.bfp_codec.proofs.unpacking.unpack_plain.Goals as goal

pub loop-k-preserved : goal.loop-k-preserved
loop-k-preserved c =
    let bytes = c.args.bytes.now in
    let k = c.loop-k.k in
    let i : SFits w32 c.plain_at.result = search rules in
    let q : SFits w32 c.plain_at-in-loop-k.result = search rules in
    let inside : k < length c.loop-k.into = omega (arith, c.loop-k.invariant.len) in
    record {
      len = length-set c.loop-k.into k _ ∙ c.loop-k.invariant.len;
      done = filled_next c.loop-k.into k _ (pair_of (plain_in bytes)) inside c.loop-k.invariant.done
          (pair _ _ _ _ (to_z-of_z w32 c.plain_at.result i ∙ c.plain_at.ensures ∙ plain_place bytes (4 * k) (2 * k) (omega arith))
          (to_z-of_z w32 c.plain_at-in-loop-k.result q ∙ c.plain_at-in-loop-k.ensures ∙ plain_place bytes (4 * k + 2) (2 * k + 1) (omega arith)));
    }

pub returns : goal.returns
returns c =
    unpacked_plain c.args.bytes.now c.loop-k.into c.loop-k.invariant.len (λ j lt. c.loop-k.invariant.done j (omega (arith, c.loop-k-test.false)))
