-- Frames that were handed over and wait for the ticks at which they leave (this project's profile). A queue is the list of them, in the
-- order in which they leave.
use Rattle.std.specs.Prelude.{◌≡◌, ◌≢◌, ℕ, ℤ, pos, ◌+ℤ◌, ◌<ℤ◌, ◌≤ℤ◌, ◌&&◌, ◌||◌, Bool, false, if◌then◌else◌, int_lt, nat_lt, List, [], ◌∷◌, ◌++◌, All, filter, Option, Some, None, ⊤}
use Rattle.std.specs.List.{AllByRecursion}
use Rattle.std.specs.Ordering.{int_eq}
use Rattle.air_source.specs.declared.links.LinkFrame.{LinkFrame}
use Rattle.fh_base.specs.declared.values.Ticks.{Ticks}
use Rattle.uplink_model.specs.Sent.{leaves_at, leaving_at}

-- ---- the list

-- the first leaves after the second: at a later tick, or at its tick and of an endpoint with a greater number
abbrev pub leaves_after : LinkFrame → LinkFrame → Bool
leaves_after f g = int_lt g.at.0 f.at.0 || (int_eq g.at.0 f.at.0 && nat_lt g.ep f.ep)

-- with one frame more, after all that do not leave after it
abbrev pub queued : LinkFrame → List LinkFrame → List LinkFrame
queued f [] = f ∷ []
queued f (g ∷ gs) = if leaves_after g f then f ∷ g ∷ gs else g ∷ queued f gs

-- with several more, one after the other
abbrev pub all_queued : List LinkFrame → List LinkFrame → List LinkFrame
all_queued [] q = q
all_queued (f ∷ fs) q = all_queued fs (queued f q)

-- none follows one that leaves after it
abbrev pub AreQueuedInTurn : List LinkFrame → Type 0
AreQueuedInTurn [] = ⊤
AreQueuedInTurn (f ∷ fs) = AllByRecursion (λ g. leaves_after f g ≡ false) fs × AreQueuedInTurn fs

-- the time of the first one, if there is one
abbrev pub first_time : List LinkFrame → Option Ticks
first_time [] = None
first_time (f ∷ fs) = Some f.at

-- the first one leaves at this tick and is gone; or none is there, or it leaves at another, and all stay
abbrev pub Took : Ticks → Option LinkFrame → List LinkFrame → List LinkFrame → Type 0
Took tick (Some f) before now = (before ≡ f ∷ now) × (f.at ≡ tick)
Took tick None before now = (now ≡ before) × (first_time before ≢ Some tick)

-- ---- by ticks

-- those that leave at a tick, as they are
abbrev pub waiting_at : ℤ → List LinkFrame → List LinkFrame
waiting_at t q = filter (leaves_at t) q

-- none leaves before a tick
abbrev pub LeaveFrom : ℤ → List LinkFrame → Type 0
LeaveFrom now q = All (λ f. now ≤ℤ f.at.0) q

-- none leaves up to a tick
abbrev pub IsSilentTo : List LinkFrame → ℤ → Type 0
IsSilentTo q to = All (λ f. to <ℤ f.at.0) q

-- one leaves at a tick, and none before
pub record LeavesFirstAt (q : List LinkFrame) (t : ℤ) : Type 0 where
  pub before : (to : ℤ) → to <ℤ t → IsSilentTo q to
  pub at : IsSilentTo q t → ⊥

-- the tick at which the first one leaves; none where none ever leaves
abbrev pub IsNextTime : List LinkFrame → Option Ticks → Type 0
IsNextTime q None = (to : ℤ) → IsSilentTo q to
IsNextTime q (Some t) = LeavesFirstAt q t.0

-- ---- what was handed over

-- Of all frames that were handed over, those wait that leave at a tick or later, and no others: at each such tick as they are sent.
pub record WaitsFor (endpoints : ℕ) (now : ℤ) (handed q : List LinkFrame) : Type 0 where
  pub from : LeaveFrom now q
  pub at : (t : ℤ) → now ≤ℤ t → waiting_at t q ≡ leaving_at endpoints handed t
  pub order : AreQueuedInTurn q

-- Of those that leave at a tick these are gone, and the rest waits, as all do that leave later, and no others.
pub record Leaves (endpoints : ℕ) (tick : ℤ) (handed gone q : List LinkFrame) : Type 0 where
  pub at_tick : leaving_at endpoints handed tick ≡ gone ++ waiting_at tick q
  pub later : (t : ℤ) → tick <ℤ t → waiting_at t q ≡ leaving_at endpoints handed t
  pub from : LeaveFrom tick q
  pub order : AreQueuedInTurn q

-- after those that are gone this one left, as the next that is sent
pub record HasLeft (endpoints : ℕ) (tick : ℤ) (handed gone : List LinkFrame) (f : LinkFrame) (q : List LinkFrame) : Type 0 where
  pub rest : List LinkFrame
  pub next : leaving_at endpoints handed tick ≡ gone ++ f ∷ rest
  pub leaves : Leaves endpoints tick handed (gone ++ f ∷ []) q

-- all are gone that leave at the tick, and the queue waits for the next one
pub record AllHaveLeft (endpoints : ℕ) (tick : ℤ) (handed gone q : List LinkFrame) : Type 0 where
  pub all : leaving_at endpoints handed tick ≡ gone
  pub leaves : Leaves endpoints tick handed gone q
  pub waits : WaitsFor endpoints (tick +ℤ pos 1) handed q

-- what a call did of it at a tick
abbrev pub Gives : ℕ → ℤ → List LinkFrame → List LinkFrame → Option LinkFrame → List LinkFrame → Type 0
Gives endpoints tick handed gone (Some f) q = HasLeft endpoints tick handed gone f q
Gives endpoints tick handed gone None q = AllHaveLeft endpoints tick handed gone q
