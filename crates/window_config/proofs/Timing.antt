-- What the classes mean.
use Rattle.std.proofs.Common.{◌≡◌, ℤ, ◌-ℤ◌, ◌<ℤ◌, ◌↔◌, Bool, true, false, refl}
use Rattle.std.specs.Prelude.{int_lt}
use Rattle.window_config.specs.declared.delays.Range.{Range}
use Rattle.window_config.specs.declared.verdicts.Class.TheVariants.{OnTime, Late}
use Rattle.window_config.specs.Windows.{ticks_of_ns}
use Rattle.window_config.specs.Classes.{classified, class_of, class_up_of, IsOnTime, IsOnTimeUp}
use Rattle.fh_base.proofs.Orders.{under, under_is, not_under, not_under_is}

late_first : (a b : Bool) → (classified a b ≡ Late) ↔ (a ≡ true)
late_first true b = (λ _. refl, λ _. refl)
late_first false true = (λ e. cc, λ e. cc)
late_first false false = (λ e. cc, λ e. cc)

neither : (a b : Bool) → classified a b ≡ OnTime → (a ≡ false) × (b ≡ false)
neither true b e = cc
neither false true e = cc
neither false false e = (refl, refl)

on_time : (a b : Bool) → a ≡ false → b ≡ false → classified a b ≡ OnTime
on_time true b p q = cc
on_time false true p q = cc
on_time false false p q = refl

pub class_late : (first last s : ℤ) (w : Range) → (class_of first last s w ≡ Late) ↔ ((s -ℤ last) <ℤ ticks_of_ns w.min)
class_late first last s w =
    let late = late_first (int_lt (s -ℤ last) (ticks_of_ns w.min)) (int_lt (ticks_of_ns w.max) (s -ℤ first)) in
    (λ e. under _ _ (late.0 e), λ h. late.1 (under_is _ _ h))

pub class_on_time : (first last s : ℤ) (w : Range) → (class_of first last s w ≡ OnTime) ↔ IsOnTime first last s w
class_on_time first last s w = (
  λ e.
      let no = neither (int_lt (s -ℤ last) (ticks_of_ns w.min)) (int_lt (ticks_of_ns w.max) (s -ℤ first)) e in
      record { soon_enough = not_under _ _ no.0; late_enough = not_under _ _ no.1 },
  λ h. on_time (int_lt (s -ℤ last) (ticks_of_ns w.min)) (int_lt (ticks_of_ns w.max) (s -ℤ first)) (not_under_is _ _ h.soon_enough) (not_under_is _ _ h.late_enough),
)

pub class_up_late : (first last s : ℤ) (w : Range) → (class_up_of first last s w ≡ Late) ↔ (ticks_of_ns w.max <ℤ (last -ℤ s))
class_up_late first last s w =
    let late = late_first (int_lt (ticks_of_ns w.max) (last -ℤ s)) (int_lt (first -ℤ s) (ticks_of_ns w.min)) in
    (λ e. under _ _ (late.0 e), λ h. late.1 (under_is _ _ h))

pub class_up_on_time : (first last s : ℤ) (w : Range) → (class_up_of first last s w ≡ OnTime) ↔ IsOnTimeUp first last s w
class_up_on_time first last s w = (
  λ e.
      let no = neither (int_lt (ticks_of_ns w.max) (last -ℤ s)) (int_lt (first -ℤ s) (ticks_of_ns w.min)) e in
      record { soon_enough = not_under _ _ no.0; late_enough = not_under _ _ no.1 },
  λ h. on_time (int_lt (ticks_of_ns w.max) (last -ℤ s)) (int_lt (first -ℤ s) (ticks_of_ns w.min)) (not_under_is _ _ h.soon_enough) (not_under_is _ _ h.late_enough),
)
