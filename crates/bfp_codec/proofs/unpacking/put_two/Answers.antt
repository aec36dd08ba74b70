use Rattle.std.proofs.Common.{◌+◌, ◌<◌, length, inl, inr, ◌∙◌, arith, rules, get_or-set_other, length-set}
use Rattle.std.proofs.lemmas.Int.{to_z-of_z}
use Rattle.std.specs.Int.{w32}
use mir.Val.{SFits}
use Rattle.bfp_codec.specs.Samples.{no_wide, pair_of}
use Rattle.bfp_codec.specs.Eight.{four_in}
use Rattle.bfp_codec.proofs.Filling.{filled, pair}
use Rattle.bfp_codec.proofs.unpacking.put_two.Goals as goal

pub loop-k-preserved : goal.loop-k-preserved
loop-k-preserved c =
    let i : SFits w32 c.value_of_four.result = search rules in
    let q : SFits w32 c.value_of_four-in-loop-k.result = search rules in
    let from = c.args.from in
    let inside : from + c.loop-k.k < length c.loop-k.into = omega (arith, c.loop-k.invariant.len) in
    record {
      len = length-set c.loop-k.into (from + c.loop-k.k) _ ∙ c.loop-k.invariant.len;
      done = filled c.loop-k.into from c.loop-k.k _ (pair_of (four_in c.args.four c.args.width c.args.e)) inside c.loop-k.invariant.done
          (pair _ _ _ _ (to_z-of_z w32 c.value_of_four.result i ∙ c.value_of_four.ensures) (to_z-of_z w32 c.value_of_four-in-loop-k.result q ∙ c.value_of_four-in-loop-k.ensures));
      others = λ j h. get_or-set_other c.loop-k.into (from + c.loop-k.k) j _ no_wide (elim h [ inl lt ↦ omega arith | inr ge ↦ omega arith ]) ∙ c.loop-k.invariant.others j h;
    }
