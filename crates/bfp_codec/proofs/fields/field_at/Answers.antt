use Rattle.std.proofs.Common.{◌≡◌, ℕ, ◌+◌, ◌-◌, ◌*◌, ◌/◌, ◌%◌, ◌^◌, ◌<◌, ◌≤◌, List, get_or, bit_or, bit_and, refl, ap, ◌∙◌, arith, add-one}
use Rattle.std.proofs.lemmas.Grind.{or_after_shift}
use Rattle.std.proofs.lemmas.Nat.{and_mask}
use Rattle.std.proofs.Math.Nat.{pow-le-pow_right}
use Rattle.bfp_codec.specs.Field.{field, bit}
use Rattle.bfp_codec.proofs.Field.{field_fits}
use Rattle.bfp_codec.proofs.Cut.{field_is_cut}
use Rattle.bfp_codec.proofs.fields.field_at.Goals as goal

-- one more bit
bit_step : (bytes : List ℕ) (place k n : ℕ) → n ≡ field bytes place k → k < 128
    → bit_or (n * 2 % 2 ^ 128) (bit_and (get_or bytes (place / 8 + (place % 8 + k) / 8) 0 / 2 ^ (7 - (place % 8 + k) % 8)) 1) ≡ field bytes place (k + 1)
unfolding field
bit_step bytes place k n n_is small =
    let byte : place / 8 + (place % 8 + k) / 8 ≡ (place + k) / 8 = omega arith in
    let within : (place % 8 + k) % 8 ≡ (place + k) % 8 = omega arith in
    let here : bit_and (get_or bytes (place / 8 + (place % 8 + k) / 8) 0 / 2 ^ (7 - (place % 8 + k) % 8)) 1 ≡ bit bytes (place + k) =
    and_mask (get_or bytes (place / 8 + (place % 8 + k) / 8) 0 / 2 ^ (7 - (place % 8 + k) % 8)) 1 ∙ rw (byte, within) refl in
    let below : n < 2 ^ k = rw n_is (field_fits bytes place k) in
    let power : 2 ^ k ≤ 2 ^ 127 = pow-le-pow_right {n = 2} (omega arith) {i = k} {j = 127} (omega arith) in
    rw (here, add-one k) (or_after_shift n 2 (2 ^ 128) (bit bytes (place + k)) refl (omega arith) (omega arith) ∙ ap (λ x. x * 2 + bit bytes (place + k)) n_is)

pub loop-k-init : goal.loop-k-init
unfolding field
loop-k-init c = refl

pub loop-k-preserved : goal.loop-k-preserved
loop-k-preserved c = bit_step c.args.bytes.now c.args.place c.loop-k.k c.loop-k.number c.loop-k.invariant (omega arith)

pub returns-clause-cut : goal.returns-clause-cut
returns-clause-cut c =
    let number : c.loop-k.number ≡ field c.args.bytes.now c.args.place c.args.count = grind (arith, c.loop-k.invariant) in
    number ∙ field_is_cut c.args.bytes.now c.args.place c.args.count c.requires.room
