-- Listed frames in the order in which they land (this project's profile).
use Rattle.std.specs.Prelude.{◌≡◌, ◌≢◌, ℕ, suc, ℤ, ◌<◌, ◌≤ℤ◌, List, [], ◌∷◌, length, Option, Some, None, slice_get, ⊤}
use Rattle.std.specs.List.{AllByRecursion, filter}
use Rattle.std.specs.Ordering.{int_eq}
use Rattle.fh_base.specs.declared.values.Ticks.{Ticks}
use Rattle.frame_ways.specs.declared.landings.Landing.{Landing}

abbrev pub landing_of : Ticks → ℕ → Landing
landing_of at index = record { at = at; index = index }

-- frames with these times, and their places in the list from so many on
abbrev pub enumerated_from : ℕ → List Ticks → List Landing
enumerated_from k [] = []
enumerated_from k (t ∷ ts) = landing_of t k ∷ enumerated_from (suc k) ts

-- the same from place 0 on
abbrev pub enumerated : List Ticks → List Landing
enumerated times = enumerated_from 0 times

-- those of a time
abbrev pub at_time : ℤ → List Landing → List Landing
at_time t ls = filter (λ l. int_eq l.at.0 t) ls

-- each time is at most that of each landing after it
abbrev pub AreRising : List Landing → Type 0
AreRising [] = ⊤
AreRising (l ∷ ls) = AllByRecursion (λ m. l.at.0 ≤ℤ m.at.0) ls × AreRising ls

-- it is the frame at its place of the list
pub record IsPlaced (times : List Ticks) (l : Landing) : Type 0 where
  pub within : l.index < length times
  pub is : slice_get times l.index ≡ Some l.at

-- the time of the first one, if there is one
abbrev pub first_time : List Landing → Option Ticks
first_time [] = None
first_time (l ∷ ls) = Some l.at

-- the first one was of this time, and went; or there is none, or it is of another time, and all stayed
abbrev pub Took : Ticks → Option ℕ → List Landing → List Landing → Type 0
Took at (Some index) before now = before ≡ landing_of at index ∷ now
Took at None before now = (now ≡ before) × (first_time before ≢ Some at)
