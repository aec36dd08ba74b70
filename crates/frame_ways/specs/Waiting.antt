-- How a queue holds the frames that wait (this project's profile).
use Rattle.std.specs.Prelude.{ℕ, ◌<◌, List, map}
use Rattle.std.specs.List.{AllByRecursion}
use Rattle.std.specs.Ordering.{int_cmp, nat_cmp, on, then_cmp}
use Rattle.std.specs.declared.cmp.Ordering.{Ordering}
use Rattle.air_source.specs.declared.links.LinkFrame.{LinkFrame}
use Rattle.frame_ways.specs.declared.send_queue.SendQueue.TheInside.{Inside}
use Rattle.frame_ways.specs.declared.turns.Turn.{Turn}

-- the order of turns: by time, at one time by endpoint, then by number
abbrev pub turn_cmp : Turn → Turn → Ordering
turn_cmp = then_cmp (on (λ t. t.at.0) int_cmp)
    (then_cmp (on (λ t. t.ep) nat_cmp)
    (on (λ t. t.serial) nat_cmp))

-- the frame of an entry: its turn and its bytes
abbrev pub entry_frame : Turn × List ℕ → LinkFrame
entry_frame e = record { at = e.0.at; ep = e.0.ep; frame = e.1 }

-- the frames in their order
abbrev pub waiting_frames : Inside → List LinkFrame
waiting_frames q = map entry_frame q.waiting.entries

-- each was taken in among the first of so many
abbrev pub AreAmong : ℕ → List (Turn × List ℕ) → Type 0
AreAmong number es = AllByRecursion (λ e. e.0.serial < number) es

abbrev pub KeepsTurns : Inside → Type 0
KeepsTurns q = AreAmong q.handed q.waiting.entries
