-- The fields of a payload that was written number by number.
use Rattle.std.proofs.Common.{◌≡◌, ℕ, ◌+◌, ◌<◌, ◌≤◌, ◌⊎◌, List, get_or, refl, ◌∙◌, arith}
use Rattle.bfp_codec.specs.Field.{field, signed}
use Rattle.bfp_codec.proofs.Field.{field_byte, field_kept}
use Rattle.delay_measure.specs.declared.message.DelayMessage.{DelayMessage}
use Rattle.delay_measure.specs.Payload.{message_of}

-- all bytes but those of a number stay
abbrev pub Stays : List ℕ → List ℕ → ℕ → ℕ → Type 0
Stays after before at count = (k : ℕ) → (k < at) ⊎ (at + count ≤ k) → get_or after k 0 ≡ get_or before k 0

pub payload_written : (m : DelayMessage) (b0 b1 b2 b3 : List ℕ)
    → get_or b0 0 0 ≡ m.id → get_or b0 1 0 ≡ m.action → m.id < 256 → m.action < 256
    → Stays b1 b0 2 6 → field b1 16 48 ≡ m.seconds
    → Stays b2 b1 8 4 → field b2 64 32 ≡ m.nanoseconds
    → Stays b3 b2 12 8 → signed 64 (field b3 96 64) ≡ m.comp
    → message_of b3 ≡ m
payload_written m b0 b1 b2 b3 id action id_fits action_fits s1 seconds s2 nanoseconds s3 comp =
    let to1 : (i n : ℕ) → i + n ≤ 96 → field b3 i n ≡ field b2 i n = λ i n h. field_kept b3 b2 12 8 i n s3 h in
    let to2 : (i n : ℕ) → i + n ≤ 64 → field b2 i n ≡ field b1 i n = λ i n h. field_kept b2 b1 8 4 i n s2 h in
    let to3 : (i n : ℕ) → i + n ≤ 16 → field b1 i n ≡ field b0 i n = λ i n h. field_kept b1 b0 2 6 i n s1 h in
    let byte0 : field b0 0 8 ≡ m.id = field_byte b0 0 (rw id id_fits) ∙ id in
    let byte1 : field b0 8 8 ≡ m.action = field_byte b0 1 (rw action action_fits) ∙ action in
    let e0 : field b3 0 8 ≡ m.id = to1 0 8 (omega arith) ∙ to2 0 8 (omega arith) ∙ to3 0 8 (omega arith) ∙ byte0 in
    let e1 : field b3 8 8 ≡ m.action = to1 8 8 (omega arith) ∙ to2 8 8 (omega arith) ∙ to3 8 8 (omega arith) ∙ byte1 in
    let e2 : field b3 16 48 ≡ m.seconds = to1 16 48 (omega arith) ∙ to2 16 48 (omega arith) ∙ seconds in
    let e3 : field b3 64 32 ≡ m.nanoseconds = to1 64 32 (omega arith) ∙ nanoseconds in
    rw (e0, e1, e2, e3, comp) refl
