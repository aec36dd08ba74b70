-- What the radio unit tells at ticks that are after its clock.
use Rattle.std.proofs.Common.{◌≡◌, ℕ, ℤ, pos, ◌<◌, ◌+ℤ◌, ◌-ℤ◌, ◌≤ℤ◌, ◌⊎◌, inl, inr, List, [], ◌++◌, length, drop, refl, sym, ap, ◌∙◌, subst, arith, length-append}
use Rattle.std.specs.Prelude.{filter}
use Rattle.std.proofs.lemmas.Int.{ints, by_lt_z}
use Rattle.std.proofs.lemmas.List.{drop-drop, drop_at}
use Rattle.fh_base.specs.Air.{air_of, span_of}
use Rattle.fh_base.specs.Numbering.{symbols_of}
use Rattle.fh_base.specs.declared.numerology.Numerology.{Numerology}
use Rattle.fh_base.specs.declared.values.Slot.{Slot}
use Rattle.fh_base.proofs.Order.{symbol_in_span}
use Rattle.unit_model.specs.Terms.{AirCell, Ru}
use Rattle.window_config.specs.Limits.{IsWithinLimits}
use Rattle.window_config.specs.Rings.{IsLive, ru_reach_of}
use Rattle.window_config.specs.Windows.{ticks_of_ns}
use Rattle.window_config.specs.declared.delays.Delays.{Delays}
use Rattle.window_config.specs.declared.endpoints.EndpointConfig.{EndpointConfig}
use Rattle.window_config.specs.declared.rings.Reach.{Reach}
use Rattle.unit_model.specs.Radiated.{Known, first_clock, symbol_report, wait_of}
use Rattle.unit_model.specs.Standing.{due, still_reported}
use Rattle.unit_model.specs.Sweeps.{sweep}
use Rattle.unit_model.specs.Uplink.{jobs}
use Rattle.unit_laws.specs.Far.{IsFar}
use Rattle.unit_laws.specs.Ticks.{LiveLater, LaterSymbolsAreAhead, IsLiveSlot, DueAfterClock, GivenInOrder}
use Rattle.unit_laws.proofs.DueLemmas.{unheard}
use Rattle.unit_model.proofs.SweepLemmas.{sweep-append}
use Rattle.fh_base.proofs.Orders.{not_negative, up_to as to_last, at_most}

live_or_far : (n : Numerology) (r : Reach) (clock : ℤ) (slot : Slot) → clock ≤ℤ (air_of n slot 0 +ℤ pos (span_of n) +ℤ ticks_of_ns r.after)
    → IsLive n r.before r.after clock slot ⊎ IsFar n r clock slot
live_or_far n r clock slot lasting =
    by_lt_z clock (air_of n slot 0 -ℤ ticks_of_ns r.before) (λ before. inr before) (λ begun. inl (record { begun = begun; lasting = lasting }))

pub live_later : LiveLater
live_later n r clock later slot order live =
    live_or_far n r clock slot (at_most clock later (air_of n slot 0 +ℤ pos (span_of n) +ℤ ticks_of_ns r.after) order live.lasting)

in_reach : (clock start end after : ℤ) → clock ≤ℤ start → start ≤ℤ end → pos 0 ≤ℤ after → clock ≤ℤ (end +ℤ ticks_of_ns after)
in_reach clock start end after a b c = omega (arith, ints)

pub starts_later : LaterSymbolsAreAhead
starts_later n r clock slot symbol after small order =
    live_or_far n r clock slot (in_reach clock (air_of n slot symbol) (air_of n slot 0 +ℤ pos (span_of n)) r.after order (symbol_in_span n slot symbol small) after)

-- at the radio unit, of a symbol that starts at a tick that is not before the clock
pub starts_at : (d : Delays) (e : EndpointConfig) (clock tick : ℤ) (slot : Slot) (symbol : ℕ) → IsWithinLimits d → clock ≤ℤ tick → symbol < symbols_of e.numerology
    → air_of e.numerology slot symbol ≡ tick → IsLiveSlot d e clock slot ⊎ IsFar e.numerology (ru_reach_of d) clock slot
starts_at d e clock tick slot symbol limits order small starts =
    starts_later e.numerology (ru_reach_of d) clock slot symbol (not_negative d.ta3.min d.ta3.max limits.ta3.low limits.ta3.order) small
    (subst (λ (t : ℤ). clock ≤ℤ t) (sym starts) order)

pub still_nothing : (k : Known) (heard : List AirCell) (ep : ℕ) (e : EndpointConfig) (slot : Slot) (symbol : ℕ) → symbol_report Ru k ep e slot symbol ≡ []
    → still_reported Ru k heard ep e slot symbol ≡ []
unfolding still_reported
still_nothing k heard ep e slot symbol none = ap (filter (unheard heard)) none

-- ---- from the clock on

from_first : (first clock wait : ℤ) → first ≤ℤ clock → (first -ℤ wait) ≤ℤ ((clock -ℤ wait) +ℤ pos 1)
from_first first clock wait h = omega (arith, ints)

pub due_after_clock : DueAfterClock
unfolding due
due_after_clock side d es k heard clock to begun order none =
    let g = still_reported side k heard in
    let w = wait_of side d in
    let mid = (clock -ℤ w) +ℤ pos 1 in
    let end = (to -ℤ w) +ℤ pos 1 in
    sweep-append g es (first_clock -ℤ w) mid end (from_first first_clock clock w begun) (to_last clock to w order)
    ∙ ap (λ (xs : List AirCell). xs ++ sweep g es mid end) none

-- at the radio unit, at the ticks after it
start_is : (t : ℤ) → (t -ℤ pos 0) +ℤ pos 1 ≡ t +ℤ pos 1
start_is t = omega (arith, ints)

pub due_after_now : (d : Delays) (es : List EndpointConfig) (k : Known) (heard : List AirCell) (clock to : ℤ) → first_clock ≤ℤ clock → clock ≤ℤ to
    → due Ru d es k heard clock ≡ [] → due Ru d es k heard to ≡ sweep (still_reported Ru k heard) es (clock +ℤ pos 1) (to +ℤ pos 1)
due_after_now d es k heard clock to begun order none =
    let g = still_reported Ru k heard in
    due_after_clock Ru d es k heard clock to begun order none
    ∙ ap (λ (t : ℤ). sweep g es t ((to -ℤ pos 0) +ℤ pos 1)) (start_is clock)
    ∙ ap (λ (t : ℤ). sweep g es (clock +ℤ pos 1) t) (start_is to)

pub given_in_order : GivenInOrder
given_in_order c claimed given now rest to is =
    let all = jobs c.endpoints claimed to in
    ap (λ (k : ℕ). drop k all) (length-append given now) ∙ sym (drop-drop (length now) (length given) all) ∙ ap (drop (length now)) is ∙ drop_at now rest (length now) refl
