-- Slots that are live.
use Rattle.std.proofs.Common.{◌≡◌, ℕ, ℤ, pos, negsuc, ◌+◌, ◌*◌, ◌/◌, ◌%◌, ◌<◌, ◌≤◌, ◌+ℤ◌, ◌-ℤ◌, ◌*ℤ◌, ◌≤ℤ◌, ◌<ℤ◌, ◌↔◌, Bool, true, false, not, refl, sym, ◌∙◌, arith, inl, inr}
use Rattle.std.specs.Prelude.{int_lt}
use Rattle.std.proofs.lemmas.Int.{ints}
use Rattle.std.proofs.lemmas.Nat.{mod_below, div-add-mod'}
use Rattle.std.proofs.lemmas.Bool.{cases_lt}
use Rattle.std.proofs.Math.Nat.{mul-le-mul_right}
use Rattle.fh_base.specs.declared.numerology.Numerology.{Numerology}
use Rattle.fh_base.specs.declared.values.Slot.{Slot}
use Rattle.fh_base.specs.Air.{air_of, least_slot_of, span_of}
use Rattle.fh_base.specs.Numbering.{symbols_of, slot_number, IsSlotOf}
use Rattle.fh_base.proofs.Order.{later_by, symbol_in_span, symbols_in_order}
use Rattle.window_config.specs.declared.delays.Range.{Range}
use Rattle.window_config.specs.declared.delays.Delays.{Delays}
use Rattle.window_config.specs.declared.verdicts.Class.TheVariants.{OnTime}
use Rattle.window_config.specs.Limits.{IsWithinLimits}
use Rattle.window_config.specs.Windows.{ticks_of_ns, command_window_of}
use Rattle.window_config.specs.Classes.{class_of, class_up_of, IsOnTime, IsOnTimeUp}
use Rattle.window_config.specs.Rings.{IsLive}
use Rattle.window_config.proofs.Timing.{class_on_time, class_up_on_time}
use Rattle.fh_base.proofs.Orders.{after_by, low_one, under, not_under}
use Rattle.fh_base.specs.declared.nanoseconds.TheConstants.{NANOSECOND}

begun_before : (start s first clock most before : ℤ) → start ≤ℤ s → (s -ℤ first) ≤ℤ (most *ℤ pos NANOSECOND) → first ≤ℤ clock → most ≤ℤ before
    → (start -ℤ before *ℤ pos NANOSECOND) ≤ℤ clock
begun_before start s first clock most before a b c d = omega (arith, ints)

over_after : (start s span clock least after : ℤ) → s ≤ℤ (start +ℤ span) → (least *ℤ pos NANOSECOND) ≤ℤ (s -ℤ clock) → pos 0 ≤ℤ least → pos 0 ≤ℤ after
    → clock ≤ℤ (start +ℤ span +ℤ after *ℤ pos NANOSECOND)
over_after start s span clock least after a b c d = omega (arith, ints)

begun_is : (start before clock : ℤ) → (start -ℤ clock) ≤ℤ before → (start -ℤ before) ≤ℤ clock
begun_is start before clock h = omega (arith, ints)

lasting_is : (end after clock : ℤ) → (clock -ℤ end) ≤ℤ after → clock ≤ℤ (end +ℤ after)
lasting_is end after clock h = omega (arith, ints)

over_is : (end after clock : ℤ) → after <ℤ (clock -ℤ end) → clock ≤ℤ (end +ℤ after) → ⊥
over_is end after clock h k = omega (arith, ints)

-- what is on time at the RU at the clock names a live slot
pub live_on_time : (n : Numerology) (slot : Slot) (symbol : ℕ) (first clock : ℤ) (w : Range) (before after : ℤ)
    → symbol < symbols_of n → first ≤ℤ clock → pos 0 ≤ℤ w.min → w.max ≤ℤ before → pos 0 ≤ℤ after
    → class_of first clock (air_of n slot symbol) w ≡ OnTime → IsLive n before after clock slot
live_on_time n slot symbol first clock w before after below order some most later e =
    let is : IsOnTime first clock (air_of n slot symbol) w = (class_on_time first clock (air_of n slot symbol) w).0 e in
    record {
      begun = begun_before (air_of n slot 0) (air_of n slot symbol) first clock w.max before (symbols_in_order n slot 0 symbol (omega arith)) is.late_enough order most;
      lasting = over_after (air_of n slot 0) (air_of n slot symbol) (pos (span_of n)) clock w.min after (symbol_in_span n slot symbol below) is.soon_enough some later;
    }

begun_up : (start s first clock least : ℤ) → start ≤ℤ s → (least *ℤ pos NANOSECOND) ≤ℤ (first -ℤ s) → first ≤ℤ clock → pos 0 ≤ℤ least
    → (start -ℤ pos 0 *ℤ pos NANOSECOND) ≤ℤ clock
begun_up start s first clock least a b c d = omega (arith, ints)

over_up : (start s span clock most after : ℤ) → s ≤ℤ (start +ℤ span) → (clock -ℤ s) ≤ℤ (most *ℤ pos NANOSECOND) → most ≤ℤ after
    → clock ≤ℤ (start +ℤ span +ℤ after *ℤ pos NANOSECOND)
over_up start s span clock most after a b c = omega (arith, ints)

-- and at the DU
pub live_on_time_up : (n : Numerology) (slot : Slot) (symbol : ℕ) (first clock : ℤ) (w : Range) (after : ℤ)
    → symbol < symbols_of n → first ≤ℤ clock → pos 0 ≤ℤ w.min → w.max ≤ℤ after
    → class_up_of first clock (air_of n slot symbol) w ≡ OnTime → IsLive n (pos 0) after clock slot
live_on_time_up n slot symbol first clock w after below order some most e =
    let is : IsOnTimeUp first clock (air_of n slot symbol) w = (class_up_on_time first clock (air_of n slot symbol) w).0 e in
    record {
      begun = begun_up (air_of n slot 0) (air_of n slot symbol) first clock w.min (symbols_in_order n slot 0 symbol (omega arith)) is.late_enough order some;
      lasting = over_up (air_of n slot 0) (air_of n slot symbol) (pos (span_of n)) clock w.max after (symbol_in_span n slot symbol below) is.soon_enough most;
    }

-- so many steps that fit are fewer than one more than the quotient
under_quotient : (d least most : ℕ) → 0 < least → d * least ≤ most → d < most / least + 1
under_quotient d least most some fits =
    let whole : most / least * least + most % least ≡ most = div-add-mod' most least in
    let rest : most % least < least = mod_below most least some in
    elim (cases_lt d (most / least + 1)) [
      | inl below ↦ below
      | inr above ↦
          let more : (most / least + 1) * least ≤ d * least = mul-le-mul_right least above in
          absurd (omega (arith, whole, rest, more))
    ]

pub quotient_few : (least most : ℕ) → 95900000 ≤ least → most < 82000000000 → most / least < 1000
quotient_few least most large small =
    let whole : most / least * least + most % least ≡ most = div-add-mod' most least in
    elim (cases_lt (most / least) 1000) [
      | inl below ↦ below
      | inr above ↦
          let more : 1000 * least ≤ most / least * least = mul-le-mul_right least above in
          absurd (omega (arith, whole, more, large, small))
    ]

steps_fit : (start other clock before after : ℤ) (span most steps : ℕ) → pos most ≡ before +ℤ pos span +ℤ after
    → (start +ℤ pos steps) ≤ℤ other → (other -ℤ before) ≤ℤ clock → clock ≤ℤ (start +ℤ pos span +ℤ after) → steps ≤ most
steps_fit start other clock before after span most steps e a b c = omega (arith, ints)

near_after : (a b : ℤ) (d places : ℕ) → b ≡ a +ℤ pos d → d < places → b <ℤ (a +ℤ pos places)
near_after a b d places e h = omega (arith, ints)

near_before : (a b : ℤ) (d places : ℕ) → negsuc d ≡ b -ℤ a → b <ℤ (a +ℤ pos places)
near_before a b d places e = omega (arith, ints)

by_number : (n : Numerology) (before after clock z : ℤ) (a b : Slot) (most : ℕ) → z ≡ slot_number n b -ℤ slot_number n a → 0 < least_slot_of n
    → pos most ≡ ticks_of_ns before +ℤ pos (span_of n) +ℤ ticks_of_ns after → IsSlotOf n a → IsSlotOf n b → IsLive n before after clock a → IsLive n before after clock b
    → slot_number n b <ℤ (slot_number n a +ℤ pos (most / least_slot_of n + 1))
by_number n before after clock (pos d) a b most e some most_is is_a is_b live_a live_b =
    let number = after_by (slot_number n a) (slot_number n b) d e in
    let later = later_by n a b d is_a is_b number in
    let fits = steps_fit (air_of n a 0) (air_of n b 0) clock (ticks_of_ns before) (ticks_of_ns after) (span_of n) most (d * least_slot_of n) most_is later live_b.begun live_a.lasting in
    near_after (slot_number n a) (slot_number n b) d _ number (under_quotient d (least_slot_of n) most some fits)
by_number n before after clock (negsuc d) a b most e some most_is is_a is_b live_a live_b =
    near_before (slot_number n a) (slot_number n b) d _ e

-- two slots that are live at one clock are fewer places apart than the ring has
pub live_near : (n : Numerology) (before after clock : ℤ) (a b : Slot) (most : ℕ) → 0 < least_slot_of n
    → pos most ≡ ticks_of_ns before +ℤ pos (span_of n) +ℤ ticks_of_ns after → IsSlotOf n a → IsSlotOf n b → IsLive n before after clock a → IsLive n before after clock b
    → slot_number n b <ℤ (slot_number n a +ℤ pos (most / least_slot_of n + 1))
live_near n before after clock a b most some most_is is_a is_b live_a live_b = by_number n before after clock _ a b most refl some most_is is_a is_b live_a live_b

-- the two tests of a clock
pub live_is : (n : Numerology) (slot : Slot) (before after clock : ℤ) (soon late : Bool) → soon ≡ false
    → soon ≡ int_lt (ticks_of_ns before) (air_of n slot 0 -ℤ clock)
    → late ≡ int_lt (ticks_of_ns after) (clock -ℤ (air_of n slot 0 +ℤ pos (span_of n)))
    → (not late ≡ true) ↔ IsLive n before after clock slot
live_is n slot before after clock soon false none soon_is late_is =
    let begun = not_under (ticks_of_ns before) (air_of n slot 0 -ℤ clock) (sym soon_is ∙ none) in
    let lasting = not_under (ticks_of_ns after) (clock -ℤ (air_of n slot 0 +ℤ pos (span_of n))) (sym late_is) in (
      λ _. record {
        begun = begun_is (air_of n slot 0) (ticks_of_ns before) clock begun;
        lasting = lasting_is (air_of n slot 0 +ℤ pos (span_of n)) (ticks_of_ns after) clock lasting;
      },
      λ _. refl,
    )
live_is n slot before after clock soon true none soon_is late_is =
    let over = under (ticks_of_ns after) (clock -ℤ (air_of n slot 0 +ℤ pos (span_of n))) (sym late_is) in
    (λ e. cc, λ live. absurd (over_is (air_of n slot 0 +ℤ pos (span_of n)) (ticks_of_ns after) clock over live.lasting))

low_sum : (a b : ℤ) → pos 1 ≤ℤ a → pos 0 ≤ℤ b → pos 0 ≤ℤ (a +ℤ b)
low_sum a b h k = omega (arith, ints)

-- a command that is on time at the RU names a live slot, whichever its direction
pub live_on_command : (d : Delays) (n : Numerology) (slot : Slot) (symbol : ℕ) (first clock before after : ℤ) (down : Bool) → IsWithinLimits d
    → (command_window_of d true).max ≤ℤ before → (command_window_of d false).max ≤ℤ before → pos 0 ≤ℤ after
    → symbol < symbols_of n → first ≤ℤ clock
    → class_of first clock (air_of n slot symbol) (command_window_of d down) ≡ OnTime → IsLive n before after clock slot
live_on_command d n slot symbol first clock before after true is most_down most_up later below order e =
    live_on_time n slot symbol first clock (command_window_of d true) before after below order (low_sum d.t2a_up.min d.advance is.t2a_up.low is.advance.low) most_down later e
live_on_command d n slot symbol first clock before after false is most_down most_up later below order e =
    live_on_time n slot symbol first clock (command_window_of d false) before after below order (low_one d.t2a_cp_ul.min is.t2a_cp_ul.low) most_up later e
