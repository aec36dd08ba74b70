-- Division of signed numbers that rounds down.
use Rattle.std.proofs.Common.{◌≡◌, ℕ, ℤ, pos, negsuc, ◌-◌, ◌%◌, ◌^◌, ◌<◌, ◌+ℤ◌, ◌-ℤ◌, ◌*ℤ◌, ◌≤ℤ◌, ◌<ℤ◌, neg_ℤ, refl, sym, ◌∙◌, arith, to_z, of_z}
use mir.Syntax.{w64}
use Rattle.std.specs.Int.{int_div_euclid, int_rem_euclid}
use Rattle.std.proofs.lemmas.Int.{ints}
use Rattle.fh_base.specs.Frame.{IsFrame}
use Rattle.fh_base.specs.declared.frames.TheConstants.{FRAME}

-- the frame in which a time lies
pub frame_floor : (a : ℤ) → ((int_div_euclid a FRAME *ℤ FRAME) ≤ℤ a) × (a <ℤ (int_div_euclid a FRAME *ℤ FRAME +ℤ FRAME))
frame_floor (pos n) = (omega (arith, ints), omega (arith, ints))
frame_floor (negsuc n) = (omega (arith, ints), omega (arith, ints))

-- a number is its quotient by 256 and a rest below that
pub parts_256 : (z : ℤ) → (r : ℕ) × (r < 256) × (int_rem_euclid z (pos 256) ≡ pos r) × (z ≡ int_div_euclid z (pos 256) *ℤ pos 256 +ℤ pos r)
parts_256 (pos n) = (n % 256, omega arith, refl, omega (arith, ints))
parts_256 (negsuc n) = (255 - n % 256, omega arith, refl, omega (arith, ints))

pub rest_256 : (z q : ℤ) (r : ℕ) → r < 256 → z ≡ q *ℤ pos 256 +ℤ pos r → int_rem_euclid z (pos 256) ≡ pos r
rest_256 (pos n) q r h e = omega (arith, ints)
rest_256 (negsuc n) q r h e = omega (arith, ints)

pub resolved : (id : ℕ) (at q r : ℤ) → id < 256 → q ≡ int_div_euclid (at +ℤ (FRAME -ℤ pos 1)) FRAME → r ≡ int_rem_euclid (pos id -ℤ (q -ℤ pos 128)) (pos 256) → IsFrame id at (q -ℤ pos 128 +ℤ r)
resolved id at q r h q_is r_is =
    let floor = frame_floor (at +ℤ (FRAME -ℤ pos 1)) in
    let low = rw (← q_is) at floor.0 in
    let high = rw (← q_is) at floor.1 in
    let parts = parts_256 (pos id -ℤ (q -ℤ pos 128)) in
    let n = parts.0 in
    let k = int_div_euclid (pos id -ℤ (q -ℤ pos 128)) (pos 256) in
    let r_n : r ≡ pos n = r_is ∙ parts.2 in
    let whole = parts.3 in
    record {
      id_is = rest_256 (q -ℤ pos 128 +ℤ r) (neg_ℤ k) id h (omega (arith, ints));
      low = omega (arith, ints);
      high = omega (arith, ints);
    }

-- there is no other
pub one_frame : (id : ℕ) (at a b : ℤ) → IsFrame id at a → IsFrame id at b → a ≡ b
one_frame id at a b p q =
    let x = parts_256 a in
    let y = parts_256 b in
    let same : pos x.0 ≡ pos y.0 = sym x.2 ∙ p.id_is ∙ sym q.id_is ∙ y.2 in
    omega (arith, ints, x.3, y.3, p.low, p.high, q.low, q.high)

-- and a number that fits
pub frame_small : (at q : ℤ) → neg_ℤ (pos 72057594037927936) ≤ℤ at → at ≤ℤ pos 72057594037927936 → q ≡ int_div_euclid (at +ℤ (FRAME -ℤ pos 1)) FRAME → (neg_ℤ (pos 5000000) ≤ℤ q) × (q ≤ℤ pos 5000000)
frame_small at q low high q_is =
    let floor = frame_floor (at +ℤ (FRAME -ℤ pos 1)) in
    let under = rw (← q_is) at floor.0 in
    let over = rw (← q_is) at floor.1 in
    (omega (arith, ints), omega (arith, ints))

-- what the code computes, where nothing wraps
pub unwrapped : (q r : ℤ) → neg_ℤ (pos 5000000) ≤ℤ q → q ≤ℤ pos 5000000 → pos 0 ≤ℤ r → r <ℤ pos 256 → q -ℤ pos 128 +ℤ r ≡ to_z w64 (of_z w64 (to_z w64 (of_z w64 (to_z w64 (of_z w64 q) -ℤ pos 128)) +ℤ to_z w64 (of_z w64 r)))
unwrapped q r a b c d = omega (arith, ints)

pub rest_small : (z r : ℤ) → r ≡ int_rem_euclid z (pos 256) → (pos 0 ≤ℤ r) × (r <ℤ pos 256)
rest_small z r r_is =
    let parts = parts_256 z in
    let r_n : r ≡ pos parts.0 = r_is ∙ parts.2 in
    rw r_n (omega (arith, ints), omega (arith, ints))

-- a time within 2^53 of 0 means a frame that has air times
pub frame_near : (id : ℕ) (at frame : ℤ) → IsFrame id at frame → neg_ℤ (pos (2 ^ 53)) ≤ℤ at → at ≤ℤ pos (2 ^ 53)
    → (neg_ℤ (pos 1000000) ≤ℤ frame) × (frame ≤ℤ pos 1000000)
frame_near id at frame is low high = (omega (arith, ints, is.low, is.high), omega (arith, ints, is.low, is.high))
