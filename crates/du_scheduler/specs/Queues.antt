-- The frames that a queue has still to give.
use Rattle.std.specs.Prelude.{◌≡◌, ℕ, ◌+◌, ◌≤◌, List, [], ◌∷◌, ◌++◌, length, All, Option, Some, None}
use Rattle.std.specs.List.Sorted.{IsPermutation}
use Rattle.std.specs.BinaryHeap.{IsHeap, heap_capacity, heap_items, heap_len}
use Rattle.std.specs.declared.cmp.Reverse.{Reverse}
use Rattle.std.specs.Ordering.{nat_cmp, int_cmp, on, then_cmp}
use Rattle.std.specs.declared.cmp.Ordering.{Ordering}
use Rattle.fh_base.specs.declared.values.Ticks.{Ticks}
use Rattle.du_scheduler.specs.declared.turns.Turn.{Turn}
use Rattle.du_scheduler.specs.declared.turns.Run.{Run}
use Rattle.du_scheduler.specs.declared.queue.Queue.{Queue}
use Rattle.du_scheduler.specs.Turns.{AreRising, IsRun, turn_cmp, rest_of, times}

-- how many messages it holds, and how many it has room for
abbrev pub held : Queue → ℕ
held q = heap_len q.heap

abbrev pub room : Queue → ℕ
room q = heap_capacity q.heap

-- how far apart the frames of a message are
abbrev pub gap_of : Queue → ℕ
gap_of q = q.gap

-- all frames of these messages that have not left
abbrev pub left_of : ℕ → List (Reverse Run) → List Turn
left_of gap [] = []
left_of gap (r ∷ rs) = rest_of gap r.0 ++ left_of gap rs

-- these are the frames to follow, in order
pub record StandsFor (q : Queue) (l : List Turn) : Type 0 where
  pub rising : AreRising l
  pub same : (t : Turn) → times t (left_of q.gap (heap_items q.heap)) ≡ times t l

-- the frames of both lists, in order
pub record IsMerged (l more all : List Turn) : Type 0 where
  pub rising : AreRising all
  pub same : (t : Turn) → times t all ≡ times t l + times t more

-- it gave the first of the frames, and stands for the others; it gave none where there is none
abbrev pub Gives : List Turn → Option Turn → Queue → Type 0
Gives l None new = (l ≡ []) × StandsFor new []
Gives l (Some t) new = (rest : List Turn) × (l ≡ t ∷ rest) × StandsFor new rest

-- when the first of these frames leaves
abbrev pub first_time : List Turn → Option Ticks
first_time [] = None
first_time (t ∷ ts) = Some t.at

-- ---- the heap

abbrev pub run_cmp : Run → Run → Ordering
run_cmp = then_cmp (on (λ r. r.turn) turn_cmp) (then_cmp (on (λ r. r.last.0) int_cmp) (on (λ r. r.left) nat_cmp))

abbrev pub heap_cmp : Reverse Run → Reverse Run → Ordering
heap_cmp x y = run_cmp y.0 x.0

-- what a queue keeps true of its heap
pub record IsQueue (q : Queue) : Type 0 where
  pub heap : IsHeap heap_cmp (heap_items q.heap)
  pub runs : All (λ r. IsRun r.0) (heap_items q.heap)
  pub fits : heap_len q.heap ≤ heap_capacity q.heap
  pub len : length (heap_items q.heap) ≡ heap_len q.heap

-- the run is among those held, if there is one
abbrev pub Held : Option Run → List (Reverse Run) → List (Reverse Run) → Type 0
Held None old new = new ≡ old
Held (Some r) old new = IsPermutation (record { 0 = r } ∷ old) new

abbrev pub PutBack : Queue → Option Run → Queue → Type 0
PutBack old run new = Held run (heap_items old.heap) (heap_items new.heap)
