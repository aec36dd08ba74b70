-- Deliver lines by the numbers of their frames.
use Rattle.std.specs.Prelude.{◌≡◌, ◌==◌, ℕ, Bool, suc, ◌≤◌, List, [], ◌∷◌, if◌then◌else◌, Option, Some, None, ⊤}
use Rattle.std.specs.List.{AllByRecursion}
use Rattle.air_source.specs.declared.events.Side.{Side}
use Rattle.fh_document.specs.declared.delivered.Delivery.{Delivery}
use Rattle.fh_document.specs.Delivered.{frame_number, way_number}
use Rattle.frame_ways.specs.declared.rows.Row.{Row}

abbrev pub row_of : ℕ → ℕ → Row
row_of number place = record { number = number; place = place }

-- the line speaks of a frame that is sent to this unit
abbrev pub is_of : Side → Delivery → Bool
is_of side d = way_number side == way_number d.side

-- of these lines, whose places count from so many on, the rows of those that speak of frames to a unit
abbrev pub numbered_from : Side → ℕ → List Delivery → List Row
numbered_from side place [] = []
numbered_from side place (d ∷ ds) = if is_of side d then row_of (frame_number d) place ∷ numbered_from side (suc place) ds else numbered_from side (suc place) ds

-- the same from place 0 on
abbrev pub numbered : Side → List Delivery → List Row
numbered side ds = numbered_from side 0 ds

-- the place of the first one with a number
abbrev pub first_place : ℕ → List Row → Option ℕ
first_place n [] = None
first_place n (r ∷ rs) = if r.number == n then Some r.place else first_place n rs

-- each number is at most that of each row after it
abbrev pub AreRising : List Row → Type 0
AreRising [] = ⊤
AreRising (r ∷ rs) = AllByRecursion (λ s. r.number ≤ s.number) rs × AreRising rs

-- these rows rise, and the first with a number is that of the first line that has it, of the lines that speak of frames to a unit
abbrev pub AreRowsOf : Side → List Delivery → List Row → Type 0
AreRowsOf side ds rows = AreRising rows × ((n : ℕ) → first_place n rows ≡ first_place n (numbered side ds))
