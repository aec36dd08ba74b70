use Rattle.std.proofs.Common.{◌≡◌, ℕ, ◌+◌, ◌*◌, ◌%◌, ◌^◌, ◌<◌, ◌≤◌, List, get_or, bit_or, refl, sym, ap, ◌∙◌, arith}
use Rattle.std.proofs.lemmas.Grind.{or_after_shift}
use Rattle.std.proofs.Math.Nat.{pow-le-pow_right}
use Rattle.bfp_codec.specs.Field.{field}
use Rattle.bfp_codec.proofs.Field.{field_more_byte, field_fits}
use Rattle.bfp_codec.proofs.fields.number_at.Goals as goal

read_step : (bytes : List ℕ) (at k n b : ℕ) → n ≡ field bytes (8 * at) (8 * k) → k < 16 → get_or bytes (at + k) 0 ≡ b → b < 256
    → bit_or (n * 256 % 2 ^ 128) b ≡ field bytes (8 * at) (8 * (k + 1))
read_step bytes at k n b n_is small byte fits =
    let below : n < 2 ^ (8 * k) = rw n_is (field_fits bytes (8 * at) (8 * k)) in
    let power : 2 ^ (8 * k) ≤ 2 ^ 120 = pow-le-pow_right {n = 2} (omega arith) {i = 8 * k} {j = 120} (omega arith) in
    or_after_shift n 256 (2 ^ 128) b refl fits (omega arith) ∙ ap (λ x. x * 256 + b) n_is ∙ sym (field_more_byte bytes at k b byte fits)

pub loop-k-init : goal.loop-k-init
unfolding field
loop-k-init c = refl

pub loop-k-preserved : goal.loop-k-preserved
loop-k-preserved c = read_step c.args.bytes.now c.args.at c.loop-k.k c.loop-k.number _ c.loop-k.invariant (omega arith) refl (omega (arith, c.type_inv.bytes (c.args.at + c.loop-k.k)))
