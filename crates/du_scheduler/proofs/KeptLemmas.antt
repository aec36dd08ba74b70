-- The frames of one time are in their order.
use Rattle.std.proofs.Common.{◌≡◌, ℕ, ℤ, pos, zero, suc, ◌+◌, ◌<◌, ◌+ℤ◌, ◌<ℤ◌, ◌⊎◌, inl, inr, false, List, [], ◌∷◌, map, refl, sym, ◌∙◌, arith}
use Rattle.std.specs.List.{AllByRecursion}
use Rattle.std.specs.Ordering.{int_eq, int_cmp, nat_cmp, ordering_then, is_gt}
use Rattle.std.specs.declared.cmp.Ordering.{Ordering}
use Rattle.std.specs.declared.cmp.Ordering.TheVariants.{Less, Equal}
use Rattle.std.proofs.lemmas.Int.{ints}
use Rattle.fh_base.specs.Lists.{each_tick}
use Rattle.plan_model.specs.Sent.{SentFrame}
use Rattle.plan_model.proofs.TickLemmas.{nat_same, int_same}
use Rattle.du_scheduler.specs.Turns.{AreRising, IsUpTo}
use Rattle.plan_model.specs.SentOrder.{stream_place, IsBehind, at_time}
use Rattle.du_scheduler.specs.Runs.{turn_of}
use Rattle.fh_base.proofs.Orders.{nat_up, nat_less, int_less}
use Rattle.schedule_laws.proofs.SentOrderLemmas.{time_is, later_than}
use Rattle.fh_base.specs.Members.{IsIn}
use Rattle.fh_base.proofs.MemberLemmas.{InOrder, order_join, order_filter}

-- ---- which of two frames is first

first_less : (o q : Ordering) → o ≡ Less → is_gt (ordering_then o q) ≡ false
first_less o q e = rw e refl

first_same : (o q : Ordering) → o ≡ Equal → is_gt q ≡ false → is_gt (ordering_then o q) ≡ false
first_same o q e h = rw e h

step : (x y : ℕ) (q : Ordering) → ((x < y) ⊎ ((x ≡ y) × (is_gt q ≡ false))) → is_gt (ordering_then (nat_cmp x y) q) ≡ false
step x y q h = elim h [
  | inl l ↦ first_less (nat_cmp x y) q (nat_less x y l)
  | inr r ↦ first_same (nat_cmp x y) q (nat_same x y r.0) r.1
]

-- two frames of one time
pub up_behind : (f g : SentFrame) → f.at ≡ g.at → IsBehind f g → IsUpTo (turn_of f) (turn_of g)
up_behind f g e h =
    first_same (int_cmp f.at g.at) _ (int_same f.at g.at e)
    (step f.ep g.ep _ (elim h [
      | inl l ↦ inl l
      | inr r ↦ inr (
        r.0,
        step (stream_place f.stream) (stream_place g.stream) _ (elim r.1 [
          | inl l ↦ inl l
          | inr s ↦ inr (
            s.0,
            step f.number g.number _ (elim s.1 [ inl l ↦ inl l | inr t ↦ inr (t.0, nat_up f.sub g.sub t.1) ]),
          )
        ]),
      )
    ]))

pub up_later : (f g : SentFrame) → f.at <ℤ g.at → IsUpTo (turn_of f) (turn_of g)
up_later f g h = first_less (int_cmp f.at g.at) _ (int_less f.at g.at h)

-- ---- tick by tick

abbrev pub IsNotAfter : SentFrame → SentFrame → Type 0
IsNotAfter f g = IsUpTo (turn_of f) (turn_of g)

kept_at : (t : ℤ) (xs : List SentFrame) → InOrder IsBehind xs → ((f : SentFrame) → IsIn f xs → f.at ≡ t) → InOrder IsNotAfter xs
kept_at t [] h at = tt
kept_at t (f ∷ xs) h at = (
  λ g m. up_behind f g (at f (inl refl) ∙ sym (at g (inr m))) (h.0 g m),
  kept_at t xs h.1 (λ g m. at g (inr m)),
)

pub ticks_kept : (xs : List SentFrame) (from : ℤ) (count : ℕ) → InOrder IsBehind xs → InOrder IsNotAfter (each_tick from count (at_time xs))
unfolding each_tick
ticks_kept xs from zero h = tt
ticks_kept xs from (suc n) h =
    order_join IsNotAfter (at_time xs from) (each_tick (from +ℤ pos 1) n (at_time xs))
    (kept_at from (at_time xs from) (order_filter IsBehind (λ (f : SentFrame). int_eq f.at from) xs h) (time_is xs from)) (ticks_kept xs (from +ℤ pos 1) n h) (λ f g m i.
    (let x = time_is xs from f m in
    let y = later_than xs (from +ℤ pos 1) n g i in
    up_later f g (omega (arith, ints, x, y))))

all_up : (f : SentFrame) (xs : List SentFrame) → ((g : SentFrame) → IsIn g xs → IsNotAfter f g) → AllByRecursion (IsUpTo (turn_of f)) (map turn_of xs)
all_up f [] h = tt
all_up f (g ∷ xs) h = (h g (inl refl), all_up f xs (λ y m. h y (inr m)))

pub rising_of : (xs : List SentFrame) → InOrder IsNotAfter xs → AreRising (map turn_of xs)
rising_of [] h = tt
rising_of (f ∷ xs) h = (all_up f xs h.0, rising_of xs h.1)
