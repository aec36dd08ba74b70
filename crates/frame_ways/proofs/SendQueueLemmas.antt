-- What a frame more, and a frame less, make of a queue, for callers.
use Rattle.std.proofs.Common.{◌≡◌, ◌≢◌, ℕ, ℤ, pos, zero, suc, ◌+◌, ◌<◌, ◌≤◌, ◌+ℤ◌, ◌≤ℤ◌, ◌<ℤ◌, inl, inr, Bool, true, false, ◌&&◌, ◌||◌, ◌==◌, if◌then◌else◌, List, [], ◌∷◌, ◌++◌, Option, Some, None, int_lt, ◌-ℤ◌, IfSome, refl, ap, ap₂, sym, ◌∙◌, subst, arith, append-nil, append_assoc}
use Rattle.std.specs.Prelude.{nat_lt}
use Rattle.std.specs.List.{AllByRecursion}
use Rattle.std.specs.Ordering.{int_eq}
use Rattle.std.proofs.lemmas.Bool.{and_parts, cases_eq, eq-eqb, eqb-true, ne_eqb, le-ltb}
use Rattle.std.proofs.lemmas.Bool.Decides.{Decides-int_eq, nat_tests}
use Rattle.std.proofs.lemmas.Int.{ints}
use Rattle.std.proofs.lemmas.List.Elements.{All-from_recursion, All-head, All-nil, All-tail, filter-append, recursion_from_All}
use Rattle.std.specs.Int.Signed.{<ℤ-≤ℤ_trans}
use Rattle.fh_base.proofs.Orders.{at_most, before_it, beyond_next, weak, not_eq, nat_lt_true}
use Rattle.air_source.specs.declared.links.LinkFrame.{LinkFrame}
use Rattle.fh_base.specs.declared.values.Ticks.{Ticks}
use Rattle.fh_base.specs.Lists.{each}
use Rattle.plan_model.proofs.TickLemmas.{next_tick}
use Rattle.uplink_model.specs.Sent.{leaves_at, leaving_at, frames_leaving}
use Rattle.uplink_model.specs.SentLaws.{AreOf}
use Rattle.frame_ways.specs.SendQueues.{AllHaveLeft, LeaveFrom, AreQueuedInTurn, Gives, HasLeft, IsNextTime, IsSilentTo, Leaves, Took, WaitsFor, all_queued, first_time, leaves_after, queued, waiting_at}
use Rattle.fh_base.proofs.MemberLemmas.{all_map, all_join, filter_has, all_unit}
use Rattle.fh_base.proofs.EachLemmas.{each_none, each_same}

-- ---- the order of two frames

abbrev pub after : ℤ → ℕ → ℤ → ℕ → Bool
after a x b y = int_lt b a || (int_eq b a && nat_lt y x)

-- of one tick, by endpoint
after_together : (a b : ℤ) (x y : ℕ) → a ≡ b → after a x b y ≡ nat_lt y x
after_together a b x y e = grind (arith, ints, nat_tests)

-- what does not leave before one that leaves after a third leaves after this too
after_chain : (a b c : ℤ) (x y z : ℕ) → after b y a x ≡ true → after b y c z ≡ false → after c z a x ≡ true
after_chain a b c x y z h k = grind (arith, ints, nat_tests)

not_both : (a b : ℤ) (x y : ℕ) → after b y a x ≡ true → after a x b y ≡ false
not_both a b x y h = grind (arith, ints, nat_tests)

-- and this does not leave after it
not_after : (a b c : ℤ) (x y z : ℕ) → after b y a x ≡ true → after b y c z ≡ false → after a x c z ≡ false
not_after a b c x y z h k = not_both a c x z (after_chain a b c x y z h k)

-- ---- one frame more, in its place

-- what holds of it and of all that wait holds of all
all_queued_one : (P : LinkFrame → Type 0) (f : LinkFrame) (q : List LinkFrame) → P f → AllByRecursion P q → AllByRecursion P (queued f q)
all_queued_one P f [] here h = (here, tt)
all_queued_one P f (g ∷ gs) here h = go (leaves_after g f) (all_queued_one P f gs here h.1)
  where
    go : (b : Bool) → AllByRecursion P (queued f gs) → AllByRecursion P (let ys : List LinkFrame = if b then f ∷ g ∷ gs else g ∷ queued f gs in ys)
    go true rest = (here, h)
    go false rest = (h.0, rest)

-- before frames that all leave after it, it is first
queued_first : (f : LinkFrame) (q : List LinkFrame) → AllByRecursion (λ g. leaves_after g f ≡ true) q → queued f q ≡ f ∷ q
queued_first f [] h = refl
queued_first f (g ∷ gs) h = let e = h.0 in rw e refl

-- after frames that do not leave after it, it is among the others
queued_behind : (f : LinkFrame) (xs ys : List LinkFrame) → AllByRecursion (λ g. leaves_after g f ≡ false) xs → queued f (xs ++ ys) ≡ xs ++ queued f ys
queued_behind f [] ys h = refl
queued_behind f (x ∷ xs) ys h = let e = h.0 in rw e (ap (λ (zs : List LinkFrame). x ∷ zs) (queued_behind f xs ys h.1))

-- where a frame is before one that leaves after it, all that follow leave after it
later_behind : (f g : LinkFrame) (gs : List LinkFrame) → leaves_after g f ≡ true → AllByRecursion (λ h. leaves_after g h ≡ false) gs → AllByRecursion (λ h. leaves_after h f ≡ true) gs
later_behind f g gs first rest =
    all_map (λ h. leaves_after g h ≡ false) (λ h. leaves_after h f ≡ true) (λ h e. after_chain f.at.0 g.at.0 h.at.0 f.ep g.ep h.ep first e) gs rest

none_behind : (f g : LinkFrame) (gs : List LinkFrame) → leaves_after g f ≡ true → AllByRecursion (λ h. leaves_after g h ≡ false) gs → AllByRecursion (λ h. leaves_after f h ≡ false) gs
none_behind f g gs first rest =
    all_map (λ h. leaves_after g h ≡ false) (λ h. leaves_after f h ≡ false) (λ h e. not_after f.at.0 g.at.0 h.at.0 f.ep g.ep h.ep first e) gs rest

-- a queue in turn stays in turn
in_turn : (f : LinkFrame) (q : List LinkFrame) → AreQueuedInTurn q → AreQueuedInTurn (queued f q)
in_turn f [] order = (tt, tt)
in_turn f (g ∷ gs) order = go (leaves_after g f) refl (in_turn f gs order.1)
  where
    go : (b : Bool) → leaves_after g f ≡ b → AreQueuedInTurn (queued f gs) → AreQueuedInTurn (let ys : List LinkFrame = if b then f ∷ g ∷ gs else g ∷ queued f gs in ys)
    go true e rest = ((not_both f.at.0 g.at.0 f.ep g.ep e, none_behind f g gs e order.0), order)
    go false e rest = (all_queued_one (λ h. leaves_after g h ≡ false) f gs e order.0, rest)

-- ---- one frame more, at each tick

abbrev kept : Bool → LinkFrame → List LinkFrame → List LinkFrame
kept b f q = if b then f ∷ q else q

-- those that leave at another tick stay as they are
waiting_other : (t : ℤ) (f : LinkFrame) (q : List LinkFrame) → leaves_at t f ≡ false → waiting_at t (queued f q) ≡ waiting_at t q
waiting_other t f [] other = rw other refl
waiting_other t f (g ∷ gs) other = go (leaves_after g f) (waiting_other t f gs other)
  where
    go : (b : Bool) → waiting_at t (queued f gs) ≡ waiting_at t gs → waiting_at t (let ys : List LinkFrame = if b then f ∷ g ∷ gs else g ∷ queued f gs in ys) ≡ waiting_at t (g ∷ gs)
    go true rest = rw other refl
    go false rest = ap (kept (leaves_at t g) g) rest

-- among those of its own tick it is placed as it is among all
waiting_one : (t : ℤ) (f : LinkFrame) (q : List LinkFrame) → leaves_at t f ≡ true → AreQueuedInTurn q → waiting_at t (queued f q) ≡ queued f (waiting_at t q)
waiting_one t f [] own order = rw own refl
waiting_one t f (g ∷ gs) own order = go (leaves_after g f) refl (waiting_one t f gs own order.1)
  where
    among : (b : Bool) → leaves_after g f ≡ false → kept b g (queued f (waiting_at t gs)) ≡ queued f (kept b g (waiting_at t gs))
    among true e = rw e refl
    among false e = refl

    go : (b : Bool) → leaves_after g f ≡ b → waiting_at t (queued f gs) ≡ queued f (waiting_at t gs)
        → waiting_at t (let ys : List LinkFrame = if b then f ∷ g ∷ gs else g ∷ queued f gs in ys) ≡ queued f (waiting_at t (g ∷ gs))
    go true e rest =
        rw own (sym (queued_first f (waiting_at t (g ∷ gs))
        (filter_has (λ h. leaves_after h f ≡ true) (λ h. leaves_after h f ≡ true) (leaves_at t) (λ h k own. k) (g ∷ gs) (e, later_behind f g gs e order.0))))
    go false e rest = ap (kept (leaves_at t g) g) rest ∙ among (leaves_at t g) e

-- ---- one frame more that was handed over

-- those of an endpoint, and this one if it is of it
leaving_more : (frames : List LinkFrame) (f : LinkFrame) (t : ℤ) (ep : ℕ) → frames_leaving (frames ++ f ∷ []) t ep ≡ frames_leaving frames t ep ++ frames_leaving (f ∷ []) t ep
leaving_more frames f t ep = filter-append (λ g. leaves_at t g && (g.ep == ep)) frames (f ∷ [])

-- which is of no other
of_other : (f : LinkFrame) (t : ℤ) (ep : ℕ) → (f.ep ≡ ep → ⊥) → frames_leaving (f ∷ []) t ep ≡ []
of_other f t ep other = go (leaves_at t f) (f.ep == ep) (ne_eqb f.ep ep other)
  where
    go : (a b : Bool) → b ≡ false → (let ys : List LinkFrame = if a && b then f ∷ [] else [] in ys) ≡ []
    go true b e = rw e refl
    go false b e = refl

same_of_other : (frames : List LinkFrame) (f : LinkFrame) (t : ℤ) (ep : ℕ) → (f.ep ≡ ep → ⊥) → frames_leaving (frames ++ f ∷ []) t ep ≡ frames_leaving frames t ep
same_of_other frames f t ep other =
    leaving_more frames f t ep ∙ ap (λ (fs : List LinkFrame). frames_leaving frames t ep ++ fs) (of_other f t ep other) ∙ append-nil (frames_leaving frames t ep)

-- and of its own
of_own : (f : LinkFrame) (t : ℤ) → leaves_at t f ≡ true → frames_leaving (f ∷ []) t f.ep ≡ f ∷ []
of_own f t own = go (leaves_at t f) (f.ep == f.ep) own (eq-eqb f.ep f.ep refl)
  where
    go : (a b : Bool) → a ≡ true → b ≡ true → (let ys : List LinkFrame = if a && b then f ∷ [] else [] in ys) ≡ f ∷ []
    go a b p q = rw (p, q) refl

-- and of no other tick
at_other : (f : LinkFrame) (t : ℤ) (ep : ℕ) → leaves_at t f ≡ false → frames_leaving (f ∷ []) t ep ≡ []
at_other f t ep other = go (leaves_at t f) (f.ep == ep) other
  where
    go : (a b : Bool) → a ≡ false → (let ys : List LinkFrame = if a && b then f ∷ [] else [] in ys) ≡ []
    go a b e = rw e refl

leaving_other : (n : ℕ) (frames : List LinkFrame) (f : LinkFrame) (t : ℤ) → leaves_at t f ≡ false → leaving_at n (frames ++ f ∷ []) t ≡ leaving_at n frames t
unfolding leaving_at
leaving_other n frames f t other =
    each_same 0 n (frames_leaving (frames ++ f ∷ []) t) (frames_leaving frames t)
    (λ ep. leaving_more frames f t ep ∙ ap (λ (fs : List LinkFrame). frames_leaving frames t ep ++ fs) (at_other f t ep other) ∙ append-nil (frames_leaving frames t ep))

-- those of an endpoint leave after the frame where the endpoint's number is greater
by_endpoint : (frames : List LinkFrame) (f : LinkFrame) (t : ℤ) (ep : ℕ) → leaves_at t f ≡ true → AllByRecursion (λ g. leaves_after g f ≡ nat_lt f.ep ep) (frames_leaving frames t ep)
by_endpoint frames f t ep own =
    filter_has (λ (g : LinkFrame). Unit {0}) (λ g. leaves_after g f ≡ nat_lt f.ep ep) (λ g. leaves_at t g && (g.ep == ep)) (λ g u e.
    (let w = and_parts (leaves_at t g) (g.ep == ep) e in
    let one = (Decides-int_eq g.at.0 t).0 w.0 in
    let two = (Decides-int_eq f.at.0 t).0 own in
    after_together g.at.0 f.at.0 g.ep f.ep (one ∙ sym two) ∙ ap (λ (k : ℕ). nat_lt f.ep k) (eqb-true g.ep ep w.1))) frames (all_unit frames)

module _ (frames : List LinkFrame) (f : LinkFrame) (t : ℤ) (own : leaves_at t f ≡ true) where
  -- those of the endpoints after it
  all_after : (from n : ℕ) → f.ep < from → AllByRecursion (λ g. leaves_after g f ≡ true) (each from n (frames_leaving frames t))
  unfolding each
  all_after from zero less = tt
  all_after from (suc n) less =
      all_join (λ g. leaves_after g f ≡ true) (frames_leaving frames t from) (each (from + 1) n (frames_leaving frames t))
      (all_map (λ g. leaves_after g f ≡ nat_lt f.ep from) (λ g. leaves_after g f ≡ true) (λ g e. e ∙ nat_lt_true f.ep from less) (frames_leaving frames t from) (by_endpoint frames f t from own))
      (all_after (from + 1) n (omega arith))

  all_same : (from n : ℕ) → f.ep < from → each from n (frames_leaving (frames ++ f ∷ []) t) ≡ each from n (frames_leaving frames t)
  unfolding each
  all_same from zero less = refl
  all_same from (suc n) less = ap₂ ◌++◌ (same_of_other frames f t from (λ e. omega (arith, e, less))) (all_same (from + 1) n (omega arith))

  -- it is after those of its endpoint, before those of the next
  each_queued : (from n : ℕ) → from ≤ f.ep → f.ep < from + n → queued f (each from n (frames_leaving frames t)) ≡ each from n (frames_leaving (frames ++ f ∷ []) t)
  unfolding each
  each_queued from zero low high = absurd (omega arith)
  each_queued from (suc n) low high =
      queued_behind f (frames_leaving frames t from) (each (from + 1) n (frames_leaving frames t))
      (all_map (λ g. leaves_after g f ≡ nat_lt f.ep from) (λ g. leaves_after g f ≡ false) (λ g e. e ∙ le-ltb f.ep from low) (frames_leaving frames t from) (by_endpoint frames f t from own))
      ∙ elim (cases_eq f.ep from) [
        | inl here ↦
            ap₂ ◌++◌ refl
            (queued_first f (each (from + 1) n (frames_leaving frames t)) (all_after (from + 1) n (omega (arith, here)))
            ∙ ap (λ (fs : List LinkFrame). f ∷ fs) (sym (all_same (from + 1) n (omega (arith, here)))))
            ∙ sym (append_assoc (frames_leaving frames t from) (f ∷ []) (each (from + 1) n (frames_leaving (frames ++ f ∷ []) t)))
            ∙ ap (λ (fs : List LinkFrame). fs ++ each (from + 1) n (frames_leaving (frames ++ f ∷ []) t))
            (sym (leaving_more frames f t from ∙ ap (λ (fs : List LinkFrame). frames_leaving frames t from ++ fs) (ap (frames_leaving (f ∷ []) t) (sym here) ∙ of_own f t own)))
        | inr other ↦
            ap₂ ◌++◌ (sym (same_of_other frames f t from other)) (each_queued (from + 1) n (omega (arith, other)) (omega arith))
      ]

leaving_one : (n : ℕ) (frames : List LinkFrame) (f : LinkFrame) (t : ℤ) → leaves_at t f ≡ true → f.ep < n → queued f (leaving_at n frames t) ≡ leaving_at n (frames ++ f ∷ []) t
unfolding leaving_at
leaving_one n frames f t own few = each_queued frames f t own 0 n (omega arith) (omega (arith, few))

leaving_none : (n : ℕ) (t : ℤ) → leaving_at n [] t ≡ []
unfolding leaving_at
leaving_none n t = each_none 0 n (frames_leaving [] t) (λ ep. refl)

-- ---- what waits

-- nothing was handed over
pub waits_for_none : (n : ℕ) (now : ℤ) → WaitsFor n now [] []
waits_for_none n now = record { from = All-nil (λ (f : LinkFrame). now ≤ℤ f.at.0); at = λ t later. sym (leaving_none n t); order = tt }

from_more : (now : ℤ) (f : LinkFrame) (q : List LinkFrame) → now ≤ℤ f.at.0 → LeaveFrom now q → LeaveFrom now (queued f q)
from_more now f q here from =
    All-from_recursion (λ (g : LinkFrame). now ≤ℤ g.at.0) (queued f q) (all_queued_one (λ (g : LinkFrame). now ≤ℤ g.at.0) f q here (recursion_from_All (λ (g : LinkFrame). now ≤ℤ g.at.0) q from))

-- one frame more
waits_for_more : (n : ℕ) (now : ℤ) (handed : List LinkFrame) (f : LinkFrame) (q : List LinkFrame) → WaitsFor n now handed q → f.ep < n → now ≤ℤ f.at.0
    → WaitsFor n now (handed ++ f ∷ []) (queued f q)
waits_for_more n now handed f q w few later = record {
  from = from_more now f q later w.from;
  at = λ t from. go t (leaves_at t f) refl (w.at t from);
  order = in_turn f q w.order;
}
  where
    go : (t : ℤ) (b : Bool) → leaves_at t f ≡ b → waiting_at t q ≡ leaving_at n handed t → waiting_at t (queued f q) ≡ leaving_at n (handed ++ f ∷ []) t
    go t true e same = waiting_one t f q e w.order ∙ ap (queued f) same ∙ leaving_one n handed f t e few
    go t false e same = waiting_other t f q e ∙ same ∙ sym (leaving_other n handed f t e)

-- several frames more
pub waits_for_all : (n : ℕ) (now : ℤ) (handed frames q : List LinkFrame) → WaitsFor n now handed q → AreOf n frames → LeaveFrom now frames
    → WaitsFor n now (handed ++ frames) (all_queued frames q)
waits_for_all n now handed [] q w few from = subst (λ (fs : List LinkFrame). WaitsFor n now fs q) (sym (append-nil handed)) w
waits_for_all n now handed (f ∷ fs) q w few from =
    subst (λ (gs : List LinkFrame). WaitsFor n now gs (all_queued fs (queued f q))) (append_assoc handed (f ∷ []) fs)
    (waits_for_all n now (handed ++ f ∷ []) fs (queued f q)
    (waits_for_more n now handed f q w (All-head (λ (g : LinkFrame). g.ep < n) f fs few) (All-head (λ (g : LinkFrame). now ≤ℤ g.at.0) f fs from))
    (All-tail (λ (g : LinkFrame). g.ep < n) f fs few) (All-tail (λ (g : LinkFrame). now ≤ℤ g.at.0) f fs from))

-- ---- as time passes

just_before : (a b : ℤ) → (a -ℤ pos 1) <ℤ b → a ≤ℤ b
just_before a b h = omega (arith, ints)

-- where none leaves before a tick, all leave from it on
pub from_silent : (tick : ℤ) (q : List LinkFrame) → ((to : ℤ) → to <ℤ tick → IsSilentTo q to) → LeaveFrom tick q
from_silent tick q silent = λ k d lt. just_before tick _ (silent (tick -ℤ pos 1) (before_it tick) k d lt)

-- where none leaves before a later tick, it waits from that tick on
pub waits_on : (endpoints : ℕ) (now tick : ℤ) (handed q : List LinkFrame) → WaitsFor endpoints now handed q → now ≤ℤ tick → ((to : ℤ) → to <ℤ tick → IsSilentTo q to)
    → WaitsFor endpoints tick handed q
waits_on n now tick handed q w order silent = record { from = from_silent tick q silent; at = λ t later. w.at t (at_most now tick t order later); order = w.order }

-- what waits from a tick on begins to leave at it, and none is gone
pub leaves_at_once : (endpoints : ℕ) (tick : ℤ) (handed q : List LinkFrame) → WaitsFor endpoints tick handed q → Leaves endpoints tick handed [] q
leaves_at_once n tick handed q w = record {
  at_tick = sym (w.at tick (weakly tick));
  later = λ t later. w.at t (weak tick t later);
  from = w.from;
  order = w.order;
}
  where
    weakly : (a : ℤ) → a ≤ℤ a
    weakly a = omega (arith, ints)

-- ---- the next time

not_past : (a : ℤ) → a <ℤ a → ⊥
not_past a h = omega (arith, ints)

-- the first one's tick, where none leaves before it
pub next_time_is : (q : List LinkFrame) (time : Option Ticks) → time ≡ first_time q → IfSome time (λ t. LeaveFrom t.0 q) → IsNextTime q time
next_time_is q None is from = λ to. none to q is
  where
    none : (to : ℤ) (q : List LinkFrame) → None ≡ first_time q → IsSilentTo q to
    none to [] e = All-nil _
    none to (f ∷ fs) e = absurd (cc e)
next_time_is q (Some t) is from = record { before = λ to lt k d l. <ℤ-≤ℤ_trans lt (from k d l); at = λ silent. first q is silent }
  where
    first : (q : List LinkFrame) → Some t ≡ first_time q → IsSilentTo q t.0 → ⊥
    first [] e silent = absurd (cc e)
    first (f ∷ fs) e silent =
        let same : t ≡ f.at = cc e in
        not_past t.0 (subst (λ (u : Ticks). t.0 <ℤ u.0) (sym same) (All-head (λ (g : LinkFrame). t.0 <ℤ g.at.0) f fs silent))

-- ---- one frame less

-- the first one, where it leaves at the tick
first_own : (t : ℤ) (f : LinkFrame) (q : List LinkFrame) → f.at.0 ≡ t → waiting_at t (f ∷ q) ≡ f ∷ waiting_at t q
first_own t f q own = let e = (Decides-int_eq f.at.0 t).1 own in rw e refl

-- and at another
first_other : (t : ℤ) (f : LinkFrame) (q : List LinkFrame) → (f.at.0 ≡ t → ⊥) → waiting_at t (f ∷ q) ≡ waiting_at t q
first_other t f q other = let e = not_eq f.at.0 t other in rw e refl

none_waits : (t : ℤ) (q : List LinkFrame) → LeaveFrom (t +ℤ pos 1) q → waiting_at t q ≡ []
none_waits t [] from = refl
none_waits t (f ∷ fs) from =
    first_other t f fs (λ e. next_is_not t f.at.0 (All-head (λ (g : LinkFrame). (t +ℤ pos 1) ≤ℤ g.at.0) f fs from) e)
    ∙ none_waits t fs (All-tail (λ (g : LinkFrame). (t +ℤ pos 1) ≤ℤ g.at.0) f fs from)
  where
    next_is_not : (a b : ℤ) → (a +ℤ pos 1) ≤ℤ b → b ≡ a → ⊥
    next_is_not a b h e = omega (arith, ints)

-- what is after one that it does not leave before
no_earlier : (a b : ℤ) (x y : ℕ) → after a x b y ≡ false → a ≤ℤ b
no_earlier a b x y h = grind (arith, ints, nat_tests)

-- where the first one leaves at another tick, all leave later
all_later : (tick : Ticks) (q : List LinkFrame) → LeaveFrom tick.0 q → AreQueuedInTurn q → first_time q ≢ Some tick → LeaveFrom (tick.0 +ℤ pos 1) q
all_later tick [] from order other = All-nil (λ (g : LinkFrame). (tick.0 +ℤ pos 1) ≤ℤ g.at.0)
all_later tick (f ∷ fs) from order other =
    let here = next_tick tick.0 f.at.0 (All-head (λ (g : LinkFrame). tick.0 ≤ℤ g.at.0) f fs from) (λ same. other (ap (λ (z : ℤ). let t : Ticks = record { 0 = z } in Some t) same)) in
    All-from_recursion (λ (g : LinkFrame). (tick.0 +ℤ pos 1) ≤ℤ g.at.0) (f ∷ fs)
    (here, all_map (λ g. leaves_after f g ≡ false) (λ g. (tick.0 +ℤ pos 1) ≤ℤ g.at.0) (λ g e. at_most (tick.0 +ℤ pos 1) f.at.0 g.at.0 here (no_earlier f.at.0 g.at.0 f.ep g.ep e)) fs order.0)

-- the first one is gone
left : (n : ℕ) (tick : ℤ) (handed gone : List LinkFrame) (f : LinkFrame) (q : List LinkFrame) → f.at.0 ≡ tick → Leaves n tick handed gone (f ∷ q) → HasLeft n tick handed gone f q
left n tick handed gone f q own l =
    let next = l.at_tick ∙ ap (λ (fs : List LinkFrame). gone ++ fs) (first_own tick f q own) in
    record {
      rest = waiting_at tick q;
      next = next;
      leaves = record {
        at_tick = next ∙ sym (append_assoc gone (f ∷ []) (waiting_at tick q));
        later = λ t later. sym (first_other t f q (λ e. is_later tick f.at.0 t later own e)) ∙ l.later t later;
        from = All-tail (λ (g : LinkFrame). tick ≤ℤ g.at.0) f q l.from;
        order = l.order.1;
      };
    }
  where
    is_later : (a b c : ℤ) → a <ℤ c → b ≡ a → b ≡ c → ⊥
    is_later a b c h own e = omega (arith, ints)

-- none leaves at the tick any more
all_left : (n : ℕ) (tick : Ticks) (handed gone q : List LinkFrame) → first_time q ≢ Some tick → Leaves n tick.0 handed gone q → AllHaveLeft n tick.0 handed gone q
all_left n tick handed gone q other l =
    let from = all_later tick q l.from l.order other in
    record {
      all = l.at_tick ∙ ap (λ (fs : List LinkFrame). gone ++ fs) (none_waits tick.0 q from) ∙ append-nil gone;
      leaves = l;
      waits = record { from = from; at = λ t later. l.later t (beyond_next tick.0 t later); order = l.order };
    }

pub gives : (n : ℕ) (tick : Ticks) (handed gone : List LinkFrame) (o : Option LinkFrame) (before now : List LinkFrame) → Took tick o before now
    → Leaves n tick.0 handed gone before → Gives n tick.0 handed gone o now
gives n tick handed gone None before now took l = subst (λ (q : List LinkFrame). AllHaveLeft n tick.0 handed gone q) (sym took.0) (all_left n tick handed gone before took.1 l)
gives n tick handed gone (Some f) before now took l =
    left n tick.0 handed gone f now (ap (λ (t : Ticks). t.0) took.1) (subst (λ (q : List LinkFrame). Leaves n tick.0 handed gone q) took.0 l)
