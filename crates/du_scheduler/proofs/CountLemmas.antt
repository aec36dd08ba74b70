-- Going over all ticks finds each frame as often as it is in the list.
use Rattle.std.proofs.Common.{◌≡◌, ℕ, ℤ, pos, zero, suc, ◌+◌, ◌+ℤ◌, ◌≤ℤ◌, ◌<ℤ◌, inl, inr, true, if◌then◌else◌, List, [], ◌∷◌, ◌++◌, map, refl, ap, ◌∙◌, arith}
use Rattle.std.specs.Ordering.{int_eq}
use Rattle.std.proofs.lemmas.Bool.Decides.{Decides-int_eq}
use Rattle.std.proofs.lemmas.Int.{ints}
use Rattle.std.proofs.lemmas.List.{map-append}
use Rattle.fh_base.specs.Lists.{each_tick}
use Rattle.plan_model.specs.Sent.{SentFrame}
use Rattle.plan_model.proofs.TickLemmas.{int_cases, same_not, next_tick, ticks_same}
use Rattle.du_scheduler.specs.Turns.{is_turn, times}
use Rattle.du_scheduler.specs.declared.turns.Turn.{Turn}
use Rattle.du_scheduler.specs.Runs.{turn_of}
use Rattle.plan_model.specs.SentOrder.{at_time}
use Rattle.du_scheduler.proofs.Left.{times-append}
use Rattle.fh_base.specs.Members.{IsIn}
use Rattle.fh_base.proofs.Orders.{int_below}

ticks_none : (from : ℤ) (count : ℕ) → each_tick from count (at_time []) ≡ []
unfolding each_tick
ticks_none from zero = refl
ticks_none from (suc n) = ticks_none (from +ℤ pos 1) n

-- a frame more in the list is one more in all ticks
first_tick : (t : Turn) (x : SentFrame) (xs : List SentFrame) (from : ℤ) (count : ℕ) → from ≤ℤ x.at → x.at <ℤ (from +ℤ pos count)
    → times t (map turn_of (each_tick from count (at_time (x ∷ xs)))) ≡ (let n : ℕ = if is_turn t (turn_of x) then 1 else 0 in n) + times t (map turn_of (each_tick from count (at_time xs)))
unfolding each_tick
first_tick t x xs from zero low high = absurd (omega (arith, ints))
first_tick t x xs from (suc n) low high = elim (int_cases x.at from) [
  | inl e ↦
      let here : int_eq x.at from ≡ true = (Decides-int_eq x.at from).1 e in
      let rest : each_tick (from +ℤ pos 1) n (at_time (x ∷ xs)) ≡ each_tick (from +ℤ pos 1) n (at_time xs) =
      ticks_same (from +ℤ pos 1) n (at_time (x ∷ xs)) (at_time xs) (λ k le. let other = int_below x.at k (omega (arith, ints)) in rw other refl) in
      rw here (ap (λ l. times t (map turn_of (x ∷ (at_time xs from ++ l)))) rest)
  | inr ne ↦
      let up = next_tick from x.at low (λ e. same_not x.at from e ne) in
      let later = first_tick t x xs (from +ℤ pos 1) n up (omega (arith, ints)) in
      let a = map-append turn_of (at_time xs from) (each_tick (from +ℤ pos 1) n (at_time (x ∷ xs))) in
      let b = map-append turn_of (at_time xs from) (each_tick (from +ℤ pos 1) n (at_time xs)) in
      let d = times-append t (map turn_of (at_time xs from)) (map turn_of (each_tick (from +ℤ pos 1) n (at_time (x ∷ xs)))) in
      let g = times-append t (map turn_of (at_time xs from)) (map turn_of (each_tick (from +ℤ pos 1) n (at_time xs))) in
      let first = ap (times t) a ∙ d in
      let second = ap (times t) b ∙ g in
      rw ne (sum_step _ _ _ _ _ _ first second later)
]
  where
    sum_step : (all others here one two : ℕ) → (k : ℕ) → all ≡ here + one → others ≡ here + two → one ≡ k + two → all ≡ k + others
    sum_step all others here one two k p q r = omega (arith, p, q, r)

pub ticks_count : (t : Turn) (xs : List SentFrame) (from : ℤ) (count : ℕ) → ((f : SentFrame) → IsIn f xs → (from ≤ℤ f.at) × (f.at <ℤ (from +ℤ pos count)))
    → times t (map turn_of (each_tick from count (at_time xs))) ≡ times t (map turn_of xs)
ticks_count t [] from count h = ap (λ (l : List SentFrame). times t (map turn_of l)) (ticks_none from count)
ticks_count t (x ∷ xs) from count h =
    let own = h x (inl refl) in
    first_tick t x xs from count own.0 own.1 ∙ ap (λ n. (let k : ℕ = if is_turn t (turn_of x) then 1 else 0 in k) + n) (ticks_count t xs from count (λ f m. h f (inr m)))
