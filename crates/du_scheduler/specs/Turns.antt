-- When the frames of a message leave, and their order: this project's profile.
use Rattle.std.specs.Prelude.{◌≡◌, ⊤, ℕ, zero, suc, ℤ, pos, ◌+◌, ◌-◌, ◌*◌, ◌<◌, ◌≤◌, ◌^◌, ◌+ℤ◌, ◌≤ℤ◌, ◌<ℤ◌, min, Bool, true, false, if◌then◌else◌, nat_lt, List, [], ◌∷◌, Option, Some, None}
use Rattle.std.specs.List.{AllByRecursion}
use Rattle.std.specs.Int.{int_min}
use Rattle.std.specs.Ordering.{nat_cmp, int_cmp, on, then_cmp, is_gt, is_eq}
use Rattle.std.specs.declared.cmp.Ordering.{Ordering}
use Rattle.plan_model.specs.declared.streams.Stream.{Stream}
use Rattle.plan_model.specs.declared.streams.Stream.TheVariants.{DownCommands, UpCommands, DownData, UpData}
use Rattle.plan_model.specs.SentOrder.{stream_place}
use Rattle.du_scheduler.specs.declared.turns.Turn.{Turn}
use Rattle.du_scheduler.specs.declared.turns.Run.{Run}

-- its messages are C-plane commands
abbrev pub is_command : Stream → Bool
is_command DownCommands = true
is_command UpCommands = true
is_command DownData = false
is_command UpData = false

-- the order of frames that leave together: endpoint, stream, number, subsequence
abbrev pub one_time_cmp : Turn → Turn → Ordering
one_time_cmp = then_cmp (on (λ t. t.endpoint) nat_cmp)
    (then_cmp (on (λ t. stream_place t.stream) nat_cmp)
    (then_cmp (on (λ t. t.number) nat_cmp)
    (on (λ t. t.sub) nat_cmp)))

-- the order of frames: time, and then that
abbrev pub turn_cmp : Turn → Turn → Ordering
turn_cmp = then_cmp (on (λ t. t.at.0) int_cmp) one_time_cmp

-- the first is not after the second
abbrev pub IsUpTo : Turn → Turn → Type 0
IsUpTo t u = is_gt (turn_cmp t u) ≡ false

abbrev pub AreRising : List Turn → Type 0
AreRising [] = ⊤
AreRising (t ∷ ts) = AllByRecursion (IsUpTo t) ts × AreRising ts

-- when the frame k frames after the next one leaves: a gap after the one before it, and no later than the last may
abbrev pub leaves : ℕ → Run → ℕ → ℤ
leaves gap r k = int_min (r.turn.at.0 +ℤ pos (k * gap)) r.last.0

-- that frame's turn
abbrev pub turn_at : ℕ → Run → ℕ → Turn
turn_at gap r k = record { at = record { 0 = leaves gap r k }; endpoint = r.turn.endpoint; stream = r.turn.stream; number = r.turn.number; sub = r.turn.sub + k }

-- n frames from that one on
abbrev pub turns : ℕ → Run → ℕ → ℕ → List Turn
turns gap r k zero = []
turns gap r k (suc n) = turn_at gap r k ∷ turns gap r (k + 1) n

-- all frames of a message that have not left
abbrev pub rest_of : ℕ → Run → List Turn
rest_of gap r = turns gap r 0 r.left

-- a message with a frame left: no more than 128 in all, and none is due later than the last may leave
pub record IsRun (r : Run) : Type 0 where
  pub some : 0 < r.left
  pub subs : r.turn.sub + r.left ≤ 128
  pub order : r.turn.at.0 ≤ℤ r.last.0
  pub bound : r.last.0 <ℤ pos (2 ^ 62)

-- what is left of it after its next frame
abbrev pub next_of : ℕ → Run → Option Run
next_of gap r = if nat_lt 1 r.left then Some (record { turn = turn_at gap r 1; last = r.last; left = r.left - 1 }) else None

abbrev pub is_turn : Turn → Turn → Bool
is_turn t u = is_eq (turn_cmp t u)

-- how often a frame is in a list
abbrev pub times : Turn → List Turn → ℕ
times t [] = 0
times t (u ∷ us) = (if is_turn t u then 1 else 0) + times t us

-- Where frame i of a symbol leaves a gap after the one before it, and no later than `spread` after the first, and the next
-- frame of a message is such a frame, its other frames leave like that too.
abbrev pub FramesLeaveInTime : Type 0
FramesLeaveInTime =
    (gap : ℕ) (r : Run) (start : ℤ) (spread i k : ℕ) → r.turn.at.0 ≡ start +ℤ pos (min (i * gap) spread) → r.last.0 ≡ start +ℤ pos spread
    → leaves gap r k ≡ start +ℤ pos (min ((i + k) * gap) spread)
