-- Stamps are rounded down by less than a nanosecond.
use Rattle.std.proofs.Common.{◌≡◌, ℕ, ℤ, pos, negsuc, ◌+◌, ◌-◌, ◌*◌, ◌/◌, ◌<◌, ◌≤◌, ◌≤ℤ◌, ◌-ℤ◌, ◌*ℤ◌, refl, ◌∙◌, arith}
use Rattle.std.proofs.lemmas.Int.{ints}
use Rattle.delay_measure.specs.Payload.{value_of}
use Rattle.delay_measure.specs.declared.stamps.Stamp.{Stamp}
use Rattle.delay_measure.specs.Stamps.{sending_ns, receiving_ns, delay_between, stamped}
use Rattle.delay_laws.specs.Delays.{IsNear, IsWholeTime, IsWholeCompensation}
use Rattle.delay_measure.specs.declared.stamps.TheConstants.{MOST_COMPENSATION}
use Rattle.fh_base.specs.declared.nanoseconds.TheConstants.{NANOSECOND}

pub value_stamped : (id action : ℕ) (stamp : Stamp) → value_of (stamped id action stamp) ≡ stamp.nanoseconds
value_stamped id action stamp = omega arith

near_floors : (a b c d s r : ℕ) → s * 196608 + c * 3 ≤ a * 128 → a * 128 < s * 196608 + c * 3 + 196608 → r * 196608 ≤ b * 128 + d * 3 → b * 128 + d * 3 < r * 196608 + 196608
    → IsNear (pos a) (pos b) (delay_between s (pos c) r (pos d))
near_floors a b c d s r sl sh rl rh = record { above = omega (arith, ints); below = omega (arith, ints) }

sent_floor : (a c s : ℕ) → c * 3 ≤ a * 128 → s ≡ (a * 128 - c * 3) / 196608 → (s * 196608 + c * 3 ≤ a * 128) × (a * 128 < s * 196608 + c * 3 + 196608)
sent_floor a c s le is = (omega arith, omega arith)

came_floor : (b d r : ℕ) → r ≡ (b * 128 + d * 3) / 196608 → (r * 196608 ≤ b * 128 + d * 3) × (b * 128 + d * 3 < r * 196608 + 196608)
came_floor b d r is = (omega arith, omega arith)

near_natural : (a b c d : ℕ) → c * 3 ≤ a * 128 → IsNear (pos a) (pos b) (delay_between (sending_ns (pos a) (pos c)) (pos c) (receiving_ns (pos b) (pos d)) (pos d))
near_natural a b c d le =
    let sent = sent_floor a c (sending_ns (pos a) (pos c)) le refl in
    let came = came_floor b d (receiving_ns (pos b) (pos d)) refl in
    near_floors a b c d (sending_ns (pos a) (pos c)) (receiving_ns (pos b) (pos d)) sent.0 sent.1 came.0 came.1

-- the time is at a millisecond or later, and the compensation at most a millisecond
pub near_is : (a b c d : ℤ) → pos 1536000000 ≤ℤ a → a ≤ℤ b → pos 0 ≤ℤ c → c ≤ℤ pos MOST_COMPENSATION → pos 0 ≤ℤ d → IsNear a b (delay_between (sending_ns a c) c (receiving_ns b d) d)
near_is (pos a) (pos b) (pos c) (pos d) late after low high least = near_natural a b c d (omega (arith, ints))
near_is (negsuc a) b c d late after low high least = absurd (omega (arith, ints))
near_is (pos a) (negsuc b) c d late after low high least = absurd (omega (arith, ints))
near_is (pos a) (pos b) (negsuc c) d late after low high least = absurd (omega (arith, ints))
near_is (pos a) (pos b) (pos c) (negsuc d) late after low high least = absurd (omega (arith, ints))

exact_floors : (a b c d s r : ℕ) → s ≡ a - c → r ≡ b + d → c ≤ a
    → (pos NANOSECOND *ℤ (delay_between s (pos (65536 * c)) r (pos (65536 * d)))) ≡ (pos 65536 *ℤ (pos (NANOSECOND * b) -ℤ pos (NANOSECOND * a)))
exact_floors a b c d s r is ir le = omega (arith, ints)

whole_sent : (a c : ℕ) → sending_ns (pos (NANOSECOND * a)) (pos (65536 * c)) ≡ a - c
whole_sent a c = omega arith

whole_came : (b d : ℕ) → receiving_ns (pos (NANOSECOND * b)) (pos (65536 * d)) ≡ b + d
whole_came b d = omega arith

exact_natural : (a b c d : ℕ) → c ≤ a
    → (pos NANOSECOND *ℤ delay_between (sending_ns (pos (NANOSECOND * a)) (pos (65536 * c))) (pos (65536 * c)) (receiving_ns (pos (NANOSECOND * b)) (pos (65536 * d))) (pos (65536 * d))) ≡ (pos 65536 *ℤ (pos (NANOSECOND * b) -ℤ pos (NANOSECOND * a)))
exact_natural a b c d le = exact_floors a b c d _ _ (whole_sent a c) (whole_came b d) le

product : (m n : ℕ) → (pos m *ℤ pos n) ≡ pos (m * n)
product m n = refl

pub exact_is : (a b c d : ℤ) → pos 1536000000 ≤ℤ a → c ≤ℤ pos MOST_COMPENSATION → IsWholeTime a → IsWholeTime b → IsWholeCompensation c → IsWholeCompensation d
    → (pos NANOSECOND *ℤ delay_between (sending_ns a c) c (receiving_ns b d) d) ≡ (pos 65536 *ℤ (b -ℤ a))
exact_is a b c d late high wa wb wc wd =
    let ea = wa.1 ∙ product NANOSECOND wa.0 in
    let eb = wb.1 ∙ product NANOSECOND wb.0 in
    let ec = wc.1 ∙ product 65536 wc.0 in
    let ed = wd.1 ∙ product 65536 wd.0 in
    rw (ea, eb, ec, ed) (exact_natural wa.0 wb.0 wc.0 wd.0 (omega (arith, ints)))
