-- What is known of the order in which frames are sent.
use Rattle.std.specs.Prelude.{◌≡◌, ℕ, ℤ, ◌==◌, ◌<◌, ◌≤◌, ◌≤ℤ◌, ◌<ℤ◌, List, ◌++◌, All, filter, IsPermutation}
use Rattle.std.specs.List.{AllPairs}
use Rattle.air_source.specs.declared.links.LinkFrame.{LinkFrame}
use Rattle.unit_model.specs.Radiated.{first_clock}
use Rattle.unit_model.specs.Times.{end_of_time}
use Rattle.uplink_model.specs.Sent.{in_sent_order, leaves_at, leaving_at, frames_leaving}

-- each is of one of so many endpoints
abbrev pub AreOf : ℕ → List LinkFrame → Type 0
AreOf endpoints frames = All (λ f. f.ep < endpoints) frames

-- ---- at one tick

-- they are the frames that were handed over to leave then, each as often, in another order
abbrev pub LeavingAreReordered : Type 0
LeavingAreReordered =
    (endpoints : ℕ) (frames : List LinkFrame) (t : ℤ) → AreOf endpoints frames → IsPermutation (filter (leaves_at t) frames) (leaving_at endpoints frames t)

-- each of them leaves then, and at no other tick
abbrev pub LeavingLeaveThen : Type 0
LeavingLeaveThen = (endpoints : ℕ) (frames : List LinkFrame) (t : ℤ) → All (λ f. f.at.0 ≡ t) (leaving_at endpoints frames t)

-- they are in the order of endpoints
abbrev pub LeavingAreByEndpoint : Type 0
LeavingAreByEndpoint = (endpoints : ℕ) (frames : List LinkFrame) (t : ℤ) → AllPairs (λ f g. f.ep ≤ g.ep) (leaving_at endpoints frames t)

-- and those of an endpoint as they were handed over
abbrev pub LeavingAsHandedOver : Type 0
LeavingAsHandedOver =
    (endpoints : ℕ) (frames : List LinkFrame) (t : ℤ) (ep : ℕ) → ep < endpoints → filter (λ f. f.ep == ep) (leaving_at endpoints frames t) ≡ frames_leaving frames t ep

-- what is handed over later, to leave later, changes nothing
abbrev pub LaterChangeNothing : Type 0
LaterChangeNothing =
    (endpoints : ℕ) (frames later : List LinkFrame) (t : ℤ) → All (λ f. t <ℤ f.at.0) later → leaving_at endpoints (frames ++ later) t ≡ leaving_at endpoints frames t

-- ---- at all ticks

-- they leave in the times that are gone over
abbrev pub AreInTimes : List LinkFrame → Type 0
AreInTimes frames = All (λ f. (first_clock ≤ℤ f.at.0) × (f.at.0 ≤ℤ end_of_time)) frames

-- all frames are there, each as often
abbrev pub AllAreSent : Type 0
AllAreSent = (endpoints : ℕ) (frames : List LinkFrame) → AreOf endpoints frames → AreInTimes frames → IsPermutation frames (in_sent_order endpoints frames)

-- times do not go back
abbrev pub TimesRise : Type 0
TimesRise = (endpoints : ℕ) (frames : List LinkFrame) → AllPairs (λ f g. f.at.0 ≤ℤ g.at.0) (in_sent_order endpoints frames)

-- and those of a tick are in the order said of it
abbrev pub TicksStandTogether : Type 0
TicksStandTogether =
    (endpoints : ℕ) (frames : List LinkFrame) (t : ℤ) → first_clock ≤ℤ t → t ≤ℤ end_of_time
    → filter (leaves_at t) (in_sent_order endpoints frames) ≡ leaving_at endpoints frames t
