-- A queue that takes one message after the other.
use Rattle.std.proofs.Common.{◌≡◌, ℕ, suc, ◌+◌, ◌<◌, ◌≤◌, Bool, true, false, if◌then◌else◌, List, [], ◌∷◌, length, get_or, drop, drop-cons, refl, ap, sym, ◌∙◌, subst, arith}
use Rattle.std.specs.List.{AllByRecursion}
use Rattle.std.specs.Ordering.{is_gt, ordering_reverse}
use Rattle.std.specs.declared.cmp.Ordering.{Ordering}
use Rattle.std.specs.declared.cmp.Ordering.TheVariants.{Less, Equal, Greater}
use Rattle.du_scheduler.specs.Queues.{IsMerged, IsQueue, StandsFor, gap_of, held, room}
use Rattle.du_scheduler.specs.Turns.{AreRising, IsUpTo, is_turn, rest_of, times, turn_cmp}
use Rattle.du_scheduler.specs.declared.queue.Queue.{Queue}
use Rattle.du_scheduler.specs.declared.turns.Run.{Run}
use Rattle.du_scheduler.specs.declared.turns.Turn.{Turn}
use Rattle.du_scheduler.specs.TurnLaws.{turn_total}
use Rattle.du_scheduler.proofs.TurnOrder.{up_chain}
use Rattle.du_scheduler.specs.Filling.{IsFilled}
use Rattle.du_scheduler.specs.Runs.{rests_of}
use Rattle.du_scheduler.proofs.Left.{times-append}

-- ---- a list in order, of two

abbrev put_turn : Turn → List Turn → List Turn
put_turn t [] = t ∷ []
put_turn t (u ∷ us) = if is_gt (turn_cmp t u) then u ∷ put_turn t us else t ∷ u ∷ us

abbrev put_all : List Turn → List Turn → List Turn
put_all l [] = l
put_all l (t ∷ ts) = put_turn t (put_all l ts)

turned : (o p : Ordering) → p ≡ ordering_reverse o → is_gt o ≡ true → is_gt p ≡ false
turned Less p e h = cc
turned Equal p e h = cc
turned Greater p e h = rw e refl

other_way : (t u : Turn) → is_gt (turn_cmp t u) ≡ true → IsUpTo u t
other_way t u h = turned (turn_cmp t u) (turn_cmp u t) (turn_total.antisymm u t) h

below_put : (u t : Turn) (us : List Turn) → IsUpTo u t → AllByRecursion (IsUpTo u) us → AllByRecursion (IsUpTo u) (put_turn t us)
below_put u t [] le h = (le, tt)
below_put u t (v ∷ us) le h = go (is_gt (turn_cmp t v)) (below_put u t us le h.1)
  where
    go : (b : Bool) → AllByRecursion (IsUpTo u) (put_turn t us) → AllByRecursion (IsUpTo u) (let l : List Turn = if b then v ∷ put_turn t us else t ∷ v ∷ us in l)
    go true k = (h.0, k)
    go false k = (le, h)

above_all : (t u : Turn) (us : List Turn) → IsUpTo t u → AllByRecursion (IsUpTo u) us → AllByRecursion (IsUpTo t) us
above_all t u [] le h = tt
above_all t u (v ∷ us) le h = (up_chain t u v le h.0, above_all t u us le h.1)

put_rising : (t : Turn) (us : List Turn) → AreRising us → AreRising (put_turn t us)
put_rising t [] h = (tt, tt)
put_rising t (u ∷ us) h = go (is_gt (turn_cmp t u)) refl (put_rising t us h.1)
  where
    go : (b : Bool) → is_gt (turn_cmp t u) ≡ b → AreRising (put_turn t us) → AreRising (let l : List Turn = if b then u ∷ put_turn t us else t ∷ u ∷ us in l)
    go true e k = (below_put u t us (other_way t u e) h.0, k)
    go false e k = ((e, above_all t u us e h.0), h)

put_times : (s t : Turn) (us : List Turn) → times s (put_turn t us) ≡ times s (t ∷ us)
put_times s t [] = refl
put_times s t (u ∷ us) = go (is_gt (turn_cmp t u)) (put_times s t us)
  where
    swap : (a b n m : ℕ) → n ≡ a + m → b + n ≡ a + (b + m)
    swap a b n m e = omega (arith, e)

    go : (b : Bool) → times s (put_turn t us) ≡ times s (t ∷ us) → times s (let l : List Turn = if b then u ∷ put_turn t us else t ∷ u ∷ us in l) ≡ times s (t ∷ u ∷ us)
    go true e = swap (if is_turn s t then 1 else 0) (if is_turn s u then 1 else 0) (times s (put_turn t us)) (times s us) e
    go false e = refl

all_rising : (l ts : List Turn) → AreRising l → AreRising (put_all l ts)
all_rising l [] h = h
all_rising l (t ∷ ts) h = put_rising t (put_all l ts) (all_rising l ts h)

all_times : (s : Turn) (l ts : List Turn) → times s (put_all l ts) ≡ times s l + times s ts
all_times s l [] = omega arith
all_times s l (t ∷ ts) = let a = put_times s t (put_all l ts) in let b = all_times s l ts in omega (arith, a, b)

merged : (l more : List Turn) → AreRising l → IsMerged l more (put_all l more)
merged l more h = record { rising = all_rising l more h; same = λ t. all_times t l more }

-- ---- message by message

pub one_more : (gap : ℕ) (runs : List Run) (k : ℕ) (d : Run) (old new : Queue) → k < length runs → IsFilled gap runs k old
    → IsQueue new → gap_of new ≡ gap_of old → room old ≤ room new → held new ≡ held old + 1
    → ((l all : List Turn) → StandsFor old l → IsMerged l (rest_of (gap_of old) (get_or runs k d)) all → StandsFor new all) → IsFilled gap runs (k + 1) new
one_more gap runs k d old new below h queue gap_same room_same held_more stands =
    let r = get_or runs k d in
    let next : suc k ≡ k + 1 = omega arith in
    let here : drop k runs ≡ r ∷ drop (k + 1) runs = drop-cons runs k d below ∙ ap (λ (n : ℕ). r ∷ drop n runs) next in
    let own = h.held_is in
    let large = h.room_is in
    record {
      queue = queue;
      gap_is = gap_same ∙ h.gap_is;
      room_is = omega (arith, large, room_same);
      held_is = omega (arith, own, held_more);
      list = put_all h.list (rest_of gap r);
      stands = stands h.list (put_all h.list (rest_of gap r)) h.stands (subst (λ (n : ℕ). IsMerged h.list (rest_of n r) (put_all h.list (rest_of gap r))) (sym h.gap_is) (merged h.list (rest_of gap r) h.stands.rising));
      all = λ t.
          (let a = all_times t h.list (rest_of gap r) in
          let b = h.all t in
          let d = ap (λ (rs : List Run). times t (rests_of gap rs)) here in
          let e = times-append t (rest_of gap r) (rests_of gap (drop (k + 1) runs)) in
          omega (arith, a, b, d, e));
    }
