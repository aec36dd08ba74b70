-- A frame at one end of its window, which is received outside the other unit's.
use Rattle.std.proofs.Common.{◌≡◌, ℤ, ◌+ℤ◌, ◌-ℤ◌, ◌≤ℤ◌, ◌<ℤ◌, neg_ℤ, Bool, true, false, refl, arith}
use Rattle.std.proofs.lemmas.Int.{ints}
use Rattle.window_config.specs.declared.delays.Range.{Range}
use Rattle.window_config.specs.declared.delays.Delays.{Delays}
use Rattle.window_config.specs.declared.relations.Relation.TheVariants.{UpMax, UpMin, CpUlMax, CpUlMin, Ta4Min, Ta4Max}
use Rattle.window_config.specs.declared.verdicts.Class.TheVariants.{Late, Early}
use Rattle.window_config.specs.Limits.{IsWithinLimits}
use Rattle.window_config.specs.Windows.{ticks_of_ns}
use Rattle.window_config.specs.Classes.{classified, class_of, class_up_of}
use Rattle.window_config.specs.Relations.{holds}
use Rattle.window_plan.specs.Breaches.{before, arrival, IsIn, MissesWindow}
use Rattle.fh_base.proofs.Orders.{under_is, not_under_is, weak as weaker, le_false as not_at_most, later_than as least_first, below as least_last}

is_late : (late early : Bool) → late ≡ true → classified late early ≡ Late
is_late true early e = refl
is_late false early e = cc

is_early : (late early : Bool) → late ≡ false → early ≡ true → classified late early ≡ Early
is_early true early e f = cc
is_early false true e f = refl
is_early false false e f = cc

-- how long before its symbol a frame is received
gap_before : (s ns sent delay : ℤ) → ns <ℤ (neg_ℤ sent -ℤ delay) → ticks_of_ns ns <ℤ (s -ℤ arrival s sent delay)
gap_before s ns sent delay h = omega (arith, ints)

gap_under : (s ns sent delay : ℤ) → (neg_ℤ sent -ℤ delay) <ℤ ns → (s -ℤ arrival s sent delay) <ℤ ticks_of_ns ns
gap_under s ns sent delay h = omega (arith, ints)

-- how long after it
gap_after : (s ns sent delay : ℤ) → ns <ℤ (sent +ℤ delay) → ticks_of_ns ns <ℤ (arrival s sent delay -ℤ s)
gap_after s ns sent delay h = omega (arith, ints)

gap_short : (s ns sent delay : ℤ) → (sent +ℤ delay) <ℤ ns → (arrival s sent delay -ℤ s) <ℤ ticks_of_ns ns
gap_short s ns sent delay h = omega (arith, ints)

-- at the RU: early where it is received more than the maximum before the symbol, late where it is received less than the minimum before it
early_before : (w : Range) (s sent delay : ℤ) → w.min ≤ℤ w.max → w.max <ℤ (neg_ℤ sent -ℤ delay) → class_of (arrival s sent delay) (arrival s sent delay) s w ≡ Early
early_before w s sent delay order far =
    is_early _ _
    (not_under_is _ _ (weaker _ _ (gap_before s w.min sent delay (least_first _ _ _ order far))))
    (under_is _ _ (gap_before s w.max sent delay far))

late_before : (w : Range) (s sent delay : ℤ) → (neg_ℤ sent -ℤ delay) <ℤ w.min → class_of (arrival s sent delay) (arrival s sent delay) s w ≡ Late
late_before w s sent delay near = is_late _ _ (under_is _ _ (gap_under s w.min sent delay near))

-- at the DU: early where it is received less than the minimum after the symbol, late where it is received more than the maximum after it
early_after : (w : Range) (s sent delay : ℤ) → w.min ≤ℤ w.max → (sent +ℤ delay) <ℤ w.min → class_up_of (arrival s sent delay) (arrival s sent delay) s w ≡ Early
early_after w s sent delay order near =
    is_early _ _
    (not_under_is _ _ (weaker _ _ (gap_short s w.max sent delay (least_last _ _ _ near order))))
    (under_is _ _ (gap_short s w.min sent delay near))

late_after : (w : Range) (s sent delay : ℤ) → w.max <ℤ (sent +ℤ delay) → class_up_of (arrival s sent delay) (arrival s sent delay) s w ≡ Late
late_after w s sent delay far = is_late _ _ (under_is _ _ (gap_after s w.max sent delay far))

-- both ends of a range lie in it
pub at_min : (r : Range) → r.min ≤ℤ r.max → IsIn r r.min
at_min r order = record { low = omega (arith, ints); high = order }

pub at_max : (r : Range) → r.min ≤ℤ r.max → IsIn r r.max
at_max r order = record { low = order; high = omega (arith, ints) }

pub turned : (r : Range) → r.min ≤ℤ r.max → (before r).min ≤ℤ (before r).max
turned r order = omega (arith, ints)

before_max : (t2a t12 t1a : ℤ) → (t2a +ℤ t12) <ℤ t1a → t2a <ℤ (neg_ℤ (neg_ℤ t1a) -ℤ t12)
before_max t2a t12 t1a h = omega (arith, ints)

before_min : (t2a t12 t1a : ℤ) → t1a <ℤ (t2a +ℤ t12) → (neg_ℤ (neg_ℤ t1a) -ℤ t12) <ℤ t2a
before_min t2a t12 t1a h = omega (arith, ints)

pub up_max_misses : (d : Delays) → IsWithinLimits d → holds UpMax d ≡ false → MissesWindow UpMax d (neg_ℤ d.t1a_up.max) d.t12.min
up_max_misses d is fails =
    let missed = λ (s : ℤ). early_before d.t2a_up s (neg_ℤ d.t1a_up.max) d.t12.min is.t2a_up.order (before_max _ _ _ (not_at_most _ _ fails)) in
    record {
      sent_inside = at_min (before d.t1a_up) (turned d.t1a_up is.t1a_up.order);
      delay_inside = at_min d.t12 is.t12.order;
      missed = missed;
      not_on_time = λ s on_time. cc (missed s);
    }

pub up_min_misses : (d : Delays) → IsWithinLimits d → holds UpMin d ≡ false → MissesWindow UpMin d (neg_ℤ d.t1a_up.min) d.t12.max
up_min_misses d is fails =
    let missed = λ (s : ℤ). late_before d.t2a_up s (neg_ℤ d.t1a_up.min) d.t12.max (before_min _ _ _ (not_at_most _ _ fails)) in
    record {
      sent_inside = at_max (before d.t1a_up) (turned d.t1a_up is.t1a_up.order);
      delay_inside = at_max d.t12 is.t12.order;
      missed = missed;
      not_on_time = λ s on_time. cc (missed s);
    }

pub cp_ul_max_misses : (d : Delays) → IsWithinLimits d → holds CpUlMax d ≡ false → MissesWindow CpUlMax d (neg_ℤ d.t1a_cp_ul.max) d.t12.min
cp_ul_max_misses d is fails =
    let missed = λ (s : ℤ). early_before d.t2a_cp_ul s (neg_ℤ d.t1a_cp_ul.max) d.t12.min is.t2a_cp_ul.order (before_max _ _ _ (not_at_most _ _ fails)) in
    record {
      sent_inside = at_min (before d.t1a_cp_ul) (turned d.t1a_cp_ul is.t1a_cp_ul.order);
      delay_inside = at_min d.t12 is.t12.order;
      missed = missed;
      not_on_time = λ s on_time. cc (missed s);
    }

pub cp_ul_min_misses : (d : Delays) → IsWithinLimits d → holds CpUlMin d ≡ false → MissesWindow CpUlMin d (neg_ℤ d.t1a_cp_ul.min) d.t12.max
cp_ul_min_misses d is fails =
    let missed = λ (s : ℤ). late_before d.t2a_cp_ul s (neg_ℤ d.t1a_cp_ul.min) d.t12.max (before_min _ _ _ (not_at_most _ _ fails)) in
    record {
      sent_inside = at_max (before d.t1a_cp_ul) (turned d.t1a_cp_ul is.t1a_cp_ul.order);
      delay_inside = at_max d.t12 is.t12.order;
      missed = missed;
      not_on_time = λ s on_time. cc (missed s);
    }

pub ta4_min_misses : (d : Delays) → IsWithinLimits d → holds Ta4Min d ≡ false → MissesWindow Ta4Min d d.ta3.min d.t34.min
ta4_min_misses d is fails =
    let missed = λ (s : ℤ). early_after d.ta4 s d.ta3.min d.t34.min is.ta4.order (not_at_most _ _ fails) in
    record { sent_inside = at_min d.ta3 is.ta3.order; delay_inside = at_min d.t34 is.t34.order; missed = missed; not_on_time = λ s on_time. cc (missed s) }

pub ta4_max_misses : (d : Delays) → IsWithinLimits d → holds Ta4Max d ≡ false → MissesWindow Ta4Max d d.ta3.max d.t34.max
ta4_max_misses d is fails =
    let missed = λ (s : ℤ). late_after d.ta4 s d.ta3.max d.t34.max (not_at_most _ _ fails) in
    record { sent_inside = at_max d.ta3 is.ta3.order; delay_inside = at_max d.t34 is.t34.order; missed = missed; not_on_time = λ s on_time. cc (missed s) }
