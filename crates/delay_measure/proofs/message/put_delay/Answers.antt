use Rattle.std.proofs.Common.{◌≡◌, rules, get_or, set, replicate, ◌∙◌, ap, arith}
use Rattle.std.proofs.lemmas.Grind.{common_steps}
use Rattle.std.proofs.lemmas.Int.{to_z-of_z}
use Rattle.std.specs.Int.{w64}
use mir.Val.{SFits}
use Rattle.bfp_codec.specs.Field.{signed}
use Rattle.delay_measure.proofs.Written.{payload_written}
use Rattle.delay_measure.proofs.message.put_delay.Goals as goal

pub returns : goal.returns
returns c =
    let m = c.args.m.now in
    let b0 = set (set (replicate 20 0) 0 m.id) 1 m.action in
    let first : get_or b0 0 0 ≡ m.id = grind (arith, common_steps) in
    let second : get_or b0 1 0 ≡ m.action = grind (arith, common_steps) in
    let fits : SFits w64 m.comp = search rules in
    let comp : signed 64 c.bits_of.result ≡ m.comp = c.bits_of.ensures ∙ to_z-of_z w64 m.comp fits in
    record {
      len = search rules;
      reads = payload_written m b0 c.put_number.new.into c.put_number-2.new.into c.put_number-3.new.into first second (search rules) (search rules)
          c.put_number.ensures.others c.put_number.ensures.number
          c.put_number-2.ensures.others c.put_number-2.ensures.number
          c.put_number-3.ensures.others (ap (signed 64) c.put_number-3.ensures.number ∙ comp);
    }
