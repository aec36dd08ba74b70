-- A queue while messages are added (this project's means).
use Rattle.std.specs.Prelude.{◌≡◌, ℕ, ◌+◌, ◌≤◌, List, length, drop}
use Rattle.du_scheduler.specs.Queues.{IsQueue, StandsFor, gap_of, held, room}
use Rattle.du_scheduler.specs.Turns.{times}
use Rattle.du_scheduler.specs.declared.queue.Queue.{Queue}
use Rattle.du_scheduler.specs.declared.turns.Run.{Run}
use Rattle.du_scheduler.specs.declared.turns.Turn.{Turn}
use Rattle.du_scheduler.specs.Runs.{rests_of}

-- it holds the first `done` of these messages, and has room for the others
pub record IsFilled (gap : ℕ) (runs : List Run) (done : ℕ) (q : Queue) : Type 0 where
  pub queue : IsQueue q
  pub gap_is : gap_of q ≡ gap
  pub room_is : length runs ≤ room q
  pub held_is : held q ≡ done
  pub list : List Turn
  pub stands : StandsFor q list
  pub all : (t : Turn) → times t list + times t (rests_of gap (drop done runs)) ≡ times t (rests_of gap runs)
