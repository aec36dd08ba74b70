-- The first of the frames that are left is next.
use Rattle.std.proofs.Common.{◌≡◌, ◌≤ℤ◌, get_or, ℕ, zero, suc, ◌+◌, ◌-◌, ◌<◌, ◌≤◌, ◌⊎◌, inl, inr, false, List, [], ◌∷◌, ◌++◌, length, All, Option, Some, None, IfSome, refl, ap, ap₂, sym, ◌∙◌, subst, arith}
use Rattle.std.specs.List.{AllByRecursion, sum_by}
use Rattle.std.specs.List.Sorted.{IsPermutation}
use Rattle.std.specs.BinaryHeap.{IsUpperBound, heap_items}
use Rattle.std.specs.Cmp.{IsTotalOrder, then_total, on_total, nat_cmp_total, int_cmp_total}
use Rattle.std.specs.Ordering.{is_lt, ordering_reverse}
use Rattle.std.specs.declared.cmp.Ordering.{Ordering}
use Rattle.std.specs.declared.cmp.Ordering.TheVariants.{Less, Equal, Greater}
use Rattle.std.proofs.lemmas.Bool.Decides.{nat_tests}
use Rattle.std.proofs.lemmas.Int.{ints}
use Rattle.std.specs.declared.cmp.Reverse.{Reverse}
use Rattle.std.proofs.lemmas.Bool.{cases_lt, cases_Bool, lt-ltb, le-ltb}
use Rattle.std.proofs.lemmas.List.Sums.{sum_by-cons}
use Rattle.std.proofs.lemmas.List.Sorted.{sum_by-IsPermutation, All-permutation}
use Rattle.std.proofs.lemmas.List.Elements.{All-head, All-tail}
use Rattle.du_scheduler.specs.declared.turns.Turn.{Turn}
use Rattle.du_scheduler.specs.declared.turns.Run.{Run}
use Rattle.du_scheduler.specs.declared.queue.Queue.{Queue}
use Rattle.du_scheduler.specs.Turns.{AreRising, IsUpTo, IsRun, leaves, is_turn, times, turn_at, turns, rest_of, next_of}
use Rattle.du_scheduler.specs.Queues.{Held, IsMerged, StandsFor, first_time, heap_cmp, left_of, run_cmp}
use Rattle.du_scheduler.specs.TurnLaws.{turn_total}
use Rattle.du_scheduler.proofs.TurnOrder.{same_turn, own, up_itself, up_chain, up_both, run_up, frames_up, first_is, later_is}

pub times-append : (t : Turn) (xs ys : List Turn) → times t (xs ++ ys) ≡ times t xs + times t ys
times-append t [] ys = omega arith
times-append t (x ∷ xs) ys = let r = times-append t xs ys in omega arith

times-left : (t : Turn) (gap : ℕ) (rs : List (Reverse Run)) → times t (left_of gap rs) ≡ sum_by (λ r. times t (rest_of gap r.0)) rs
times-left t gap [] = refl
times-left t gap (r ∷ rs) =
    let a = times-append t (rest_of gap r.0) (left_of gap rs) in
    let b = times-left t gap rs in
    let d = sum_by-cons (λ (x : Reverse Run). times t (rest_of gap x.0)) r rs in
    omega arith

-- it is the same list in any order of the runs
pub times-permuted : (t : Turn) (gap : ℕ) (rs ss : List (Reverse Run)) → IsPermutation rs ss → times t (left_of gap ss) ≡ times t (left_of gap rs)
times-permuted t gap rs ss h = times-left t gap ss ∙ sum_by-IsPermutation (λ (x : Reverse Run). times t (rest_of gap x.0)) rs ss h ∙ sym (times-left t gap rs)

-- ---- a run

abbrev pub rest_with : ℕ → Option Run → List Turn
rest_with gap None = []
rest_with gap (Some r) = rest_of gap r

turns_later : (gap : ℕ) (r s : Run) (k n : ℕ) → s.turn ≡ turn_at gap r 1 → s.last ≡ r.last → turns gap r (k + 1) n ≡ turns gap s k n
turns_later gap r s k zero turn last = refl
turns_later gap r s k (suc n) turn last = ap₂ (λ (t : Turn) (ts : List Turn). t ∷ ts) (sym (later_is gap r s k turn last)) (turns_later gap r s (k + 1) n turn last)

turns_first : (gap : ℕ) (r : Run) (k n : ℕ) → 0 < n → turns gap r k n ≡ turn_at gap r k ∷ turns gap r (k + 1) (n - 1)
turns_first gap r k zero some = absurd (omega arith)
turns_first gap r k (suc n) some = ap (λ (m : ℕ). turn_at gap r k ∷ turns gap r (k + 1) m) (omega arith)

-- what is left of it is its next frame and what is left after it
pub rest_is : (gap : ℕ) (r : Run) → IsRun r → rest_of gap r ≡ r.turn ∷ rest_with gap (next_of gap r)
rest_is gap r h = turns_first gap r 0 r.left h.some ∙ ap₂ (λ (t : Turn) (ts : List Turn). t ∷ ts) (first_is gap r h.order) (go (cases_lt 1 r.left))
  where
    go : ((1 < r.left) ⊎ (r.left ≤ 1)) → turns gap r (0 + 1) (r.left - 1) ≡ rest_with gap (next_of gap r)
    go (inl lt) =
        let b = lt-ltb _ _ lt in
        rw b (turns_later gap r (record { turn = turn_at gap r 1; last = r.last; left = r.left - 1 }) 0 (r.left - 1) refl refl)
    go (inr le) =
        let b = le-ltb _ _ le in
        let n : r.left - 1 ≡ 0 = omega (arith, le) in
        rw b (ap (turns gap r (0 + 1)) n)

-- no frame of a run is earlier than its next one
turns_up : (gap : ℕ) (r : Run) (k n : ℕ) (low u : Turn) → IsUpTo low (turn_at gap r k) → 0 < times u (turns gap r k n) → IsUpTo low u
turns_up gap r k zero low u le some = absurd (omega arith)
turns_up gap r k (suc n) low u le some = elim (cases_Bool (is_turn u (turn_at gap r k))) [
  | inl is ↦ subst (IsUpTo low) (sym (same_turn u (turn_at gap r k) is)) le
  | inr not ↦
      let gone : 0 < 0 + times u (turns gap r (k + 1) n) = rw not at some in
      turns_up gap r (k + 1) n low u (up_chain low (turn_at gap r k) (turn_at gap r (k + 1)) le (frames_up gap r k)) (omega (arith, gone))
]

-- ---- the heap's order

pub least : (gap : ℕ) (x : Reverse Run) (rs : List (Reverse Run)) (u : Turn) → IsUpperBound heap_cmp x rs → AllByRecursion (λ r. IsRun r.0) rs → 0 < times u (left_of gap rs) → IsUpTo x.0.turn u
least gap x [] u top runs some = absurd (omega arith)
least gap x (r ∷ rs) u top runs some =
    let sum = times-append u (rest_of gap r.0) (left_of gap rs) in
    elim (cases_lt 0 (times u (rest_of gap r.0))) [
      | inl here ↦
          let le : IsUpTo x.0.turn r.0.turn = run_up r.0 x.0 top.0 in
          turns_up gap r.0 0 r.0.left x.0.turn u (subst (IsUpTo x.0.turn) (sym (first_is gap r.0 runs.0.order)) le) here
      | inr none ↦ least gap x rs u top.1 runs.1 (omega (arith, sum, none, some))
    ]

-- ---- one call

pub turn_in_rest : (gap : ℕ) (x : Reverse Run) (rs : List (Reverse Run)) → IsRun x.0 → left_of gap (x ∷ rs) ≡ x.0.turn ∷ (rest_with gap (next_of gap x.0) ++ left_of gap rs)
turn_in_rest gap x rs h = ap (λ (ts : List Turn). ts ++ left_of gap rs) (rest_is gap x.0 h)

first_least : (l : List Turn) (t u : Turn) → AreRising (t ∷ l) → 0 < times u (t ∷ l) → IsUpTo t u
first_least l t u up some = elim (cases_Bool (is_turn u t)) [
  | inl is ↦ subst (IsUpTo t) (sym (same_turn u t is)) (up_itself t)
  | inr not ↦ (let gone : 0 < 0 + times u l = rw not at some in below l up.0 (omega (arith, gone)))
]
  where
    below : (xs : List Turn) → AllByRecursion (IsUpTo t) xs → 0 < times u xs → IsUpTo t u
    below [] h n = absurd (omega arith)
    below (v ∷ xs) h n = elim (cases_Bool (is_turn u v)) [
      | inl is ↦ subst (IsUpTo t) (sym (same_turn u v is)) h.0
      | inr not ↦ (let gone : 0 < 0 + times u xs = rw not at n in below xs h.1 (omega (arith, gone)))
    ]

pub record Starts (l : List Turn) (t : Turn) (others : List Turn) : Type 0 where
  pub rest : List Turn
  pub is : l ≡ t ∷ rest
  pub rising : AreRising rest
  pub same : (u : Turn) → times u others ≡ times u rest

-- a list in order that holds these begins with the least of them
pub starts : (gap : ℕ) (x : Reverse Run) (rs : List (Reverse Run)) (l : List Turn) → AllByRecursion (λ r. IsRun r.0) (x ∷ rs) → IsUpperBound heap_cmp x (x ∷ rs) → AreRising l
    → ((t : Turn) → times t (left_of gap (x ∷ rs)) ≡ times t l) → Starts l x.0.turn (rest_with gap (next_of gap x.0) ++ left_of gap rs)
starts gap x rs [] runs top up same =
    let e = same x.0.turn in
    let is = turn_in_rest gap x rs runs.0 in
    let o = own x.0.turn in
    let some : 0 < times x.0.turn (x.0.turn ∷ (rest_with gap (next_of gap x.0) ++ left_of gap rs)) = rw o (omega arith) in
    let there : 0 < times x.0.turn (left_of gap (x ∷ rs)) = subst (λ (ts : List Turn). 0 < times x.0.turn ts) (sym is) some in
    absurd (omega (arith, e, there))
starts gap x rs (t ∷ l) runs top up same =
    let is = turn_in_rest gap x rs runs.0 in
    let o = own x.0.turn in
    let some : 0 < times x.0.turn (x.0.turn ∷ (rest_with gap (next_of gap x.0) ++ left_of gap rs)) = rw o (omega arith) in
    let there : 0 < times x.0.turn (left_of gap (x ∷ rs)) = subst (λ (ts : List Turn). 0 < times x.0.turn ts) (sym is) some in
    let lower = first_least l t x.0.turn up (subst (λ (n : ℕ). 0 < n) (same x.0.turn) there) in
    let w = own t in
    let first : 0 < times t (t ∷ l) = rw w (omega arith) in
    let held : 0 < times t (left_of gap (x ∷ rs)) = subst (λ (n : ℕ). 0 < n) (sym (same t)) first in
    let upper = least gap x (x ∷ rs) t top runs held in
    let e : t ≡ x.0.turn = up_both t x.0.turn lower upper in
    record {
      rest = l;
      is = ap (λ (u : Turn). u ∷ l) e;
      rising = up.1;
      same = λ u. (let a = same u in let b = ap (times u) is in let d = ap (λ (v : Turn). times u (v ∷ l)) e in omega (arith, a, b, d));
    }

-- ---- what the calls make of the queue

next_run : (gap : ℕ) (r : Run) → IsRun r → 1 < r.left → IsRun (record { turn = turn_at gap r 1; last = r.last; left = r.left - 1 })
next_run gap r h lt =
    let order : leaves gap r 1 ≤ℤ r.last.0 = grind (arith, ints, nat_tests) in
    record { some = omega (arith, lt); subs = (let s = h.subs in omega (arith, s, lt)); order = order; bound = h.bound }

by_recursion : {X : Type 0} (P : X → Type 0) (xs : List X) → All P xs → AllByRecursion P xs
by_recursion P [] h = tt
by_recursion P (x ∷ xs) h = (All-head P x xs h, by_recursion P xs (All-tail P x xs h))

empty : (rs : List (Reverse Run)) → length rs ≡ 0 → rs ≡ []
empty [] n = refl
empty (r ∷ rs) n = absurd (omega (arith, n))

-- nothing is left in an empty heap
pub nothing_left : (q : Queue) (l : List Turn) → length (heap_items q.heap) ≡ 0 → StandsFor q l → l ≡ []
nothing_left q [] none h = refl
nothing_left q (t ∷ l) none h =
    let e = h.same t in
    let z = ap (λ (rs : List (Reverse Run)). times t (left_of q.gap rs)) (empty (heap_items q.heap) none) in
    let o = own t in
    let some : 0 < times t (t ∷ l) = rw o (omega arith) in
    absurd (omega (arith, e, z, some))

not_less_itself : (o : Ordering) → o ≡ ordering_reverse o → is_lt o ≡ false
not_less_itself Less e = cc
not_less_itself Equal e = refl
not_less_itself Greater e = refl

run_total : IsTotalOrder run_cmp
run_total = then_total (on_total (λ r. r.turn) turn_total) (then_total (on_total (λ r. r.last.0) int_cmp_total) (on_total (λ r. r.left) nat_cmp_total))

not_lower : (y : Reverse Run) → is_lt (heap_cmp y y) ≡ false
not_lower y = not_less_itself (run_cmp y.0 y.0) (run_total.antisymm y.0 y.0)

-- what was popped, and what was put back
pub gives : (old new : Queue) (x : Reverse Run) (mid : List (Reverse Run)) (l : List Turn) → new.gap ≡ old.gap → All (λ r. IsRun r.0) (heap_items old.heap)
    → IsPermutation (heap_items old.heap) (x ∷ mid) → IsUpperBound heap_cmp x mid
    → ((t : Turn) → times t (left_of old.gap (heap_items new.heap)) ≡ times t (rest_with old.gap (next_of old.gap x.0) ++ left_of old.gap mid))
    → StandsFor old l → (rest : List Turn) × (l ≡ x.0.turn ∷ rest) × StandsFor new rest
gives old new x mid l gap runs popped below held h =
    let all : All (λ r. IsRun r.0) (x ∷ mid) = All-permutation (λ (r : Reverse Run). IsRun r.0) (heap_items old.heap) (x ∷ mid) popped runs in
    let s = starts old.gap x mid l (by_recursion (λ (r : Reverse Run). IsRun r.0) (x ∷ mid) all) (not_lower x, below) h.rising
    (λ t. times-permuted t old.gap (heap_items old.heap) (x ∷ mid) popped ∙ h.same t) in (
      s.rest,
      s.is,
      record {
        rising = s.rising;
        same = λ t. ap (λ (g : ℕ). times t (left_of g (heap_items new.heap))) gap ∙ held t ∙ s.same t;
      },
    )

pub put_held : (gap : ℕ) (run : Option Run) (mid new : List (Reverse Run)) → Held run mid new → (t : Turn) → times t (left_of gap new) ≡ times t (rest_with gap run ++ left_of gap mid)
put_held gap None mid new e t = ap (λ (rs : List (Reverse Run)). times t (left_of gap rs)) e
put_held gap (Some r) mid new p t = times-permuted t gap (record { 0 = r } ∷ mid) new p

pub is_next : (gap : ℕ) (r : Run) → IsRun r → IfSome (next_of gap r) (λ s. IsRun s)
is_next gap r h = elim (cases_lt 1 r.left) [
  | inl lt ↦ let b = lt-ltb _ _ lt in rw b (next_run gap r h lt)
  | inr le ↦ let b = le-ltb _ _ le in rw b tt
]

-- a message more
pub added : (old new : Queue) (r : Run) (l all : List Turn) → new.gap ≡ old.gap → IsPermutation (record { 0 = r } ∷ heap_items old.heap) (heap_items new.heap)
    → StandsFor old l → IsMerged l (rest_of old.gap r) all → StandsFor new all
added old new r l all gap put h m = record {
  rising = m.rising;
  same = λ t.
      (let a = times-permuted t old.gap (record { 0 = r } ∷ heap_items old.heap) (heap_items new.heap) put in
      let b = times-append t (rest_of old.gap r) (left_of old.gap (heap_items old.heap)) in
      let d = h.same t in
      let e = m.same t in
      let g = ap (λ (n : ℕ). times t (left_of n (heap_items new.heap))) gap in
      omega (arith, a, b, d, e, g));
}

first_in : (gap : ℕ) (rs : List (Reverse Run)) (x : Reverse Run) (l : List Turn) → All (λ r. IsRun r.0) rs → 0 < length rs → x ≡ get_or rs 0 x → IsUpperBound heap_cmp x rs → AreRising l
    → ((t : Turn) → times t (left_of gap rs) ≡ times t l) → Some x.0.turn.at ≡ first_time l
first_in gap [] x l runs some is top rising same = absurd (omega arith)
first_in gap (y ∷ rs) x l runs some is top rising same =
    let bound = subst (λ (z : Reverse Run). IsUpperBound heap_cmp z (y ∷ rs)) is top in
    let s = starts gap y rs l (by_recursion (λ (r : Reverse Run). IsRun r.0) (y ∷ rs) runs) bound rising same in
    ap (λ (z : Reverse Run). Some z.0.turn.at) is ∙ sym (ap first_time s.is)

-- the first frame of a queue that holds something is that of its top
pub time_is : (q : Queue) (x : Reverse Run) (l : List Turn) → All (λ r. IsRun r.0) (heap_items q.heap) → 0 < length (heap_items q.heap) → x ≡ get_or (heap_items q.heap) 0 x → IsUpperBound heap_cmp x (heap_items q.heap)
    → StandsFor q l → Some x.0.turn.at ≡ first_time l
time_is q x l runs some is top h = first_in q.gap (heap_items q.heap) x l runs some is top h.rising h.same

-- a queue that holds what another holds, of which nothing is left
pub nothing_still : (old new : Queue) (l : List Turn) → heap_items new.heap ≡ heap_items old.heap → new.gap ≡ old.gap → l ≡ [] → StandsFor old l → StandsFor new []
nothing_still old new l same gap none h =
    let here = subst (StandsFor old) none h in
    record {
      rising = here.rising;
      same = λ t. ap₂ (λ (n : ℕ) (rs : List (Reverse Run)). times t (left_of n rs)) gap same ∙ here.same t;
    }
