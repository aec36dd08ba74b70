-- The lines of the runs of a list, and the run that is open while items are given.
use Rattle.std.specs.Prelude.{◌≡◌, ◌+◌, ⊤, ℕ, Bool, true, List, [], ◌∷◌, ◌++◌, length, Option, Some, None}
use Rattle.std.specs.List.{flat_map}
use Rattle.explain_model.specs.declared.values.ExplainLine.{ExplainLine}
use Rattle.explain_model.specs.Pieces.{pieces, closed_pieces, open_piece}
use Rattle.explain_heard.specs.Stops.{StopsInLine}

-- ---- lines

-- the line of a run, if it has an item
abbrev pub piece_line : {T : Type 0} → (T → ℕ → ExplainLine) → List T → List ExplainLine
piece_line run_line [] = []
piece_line run_line (x ∷ xs) = run_line x (length (x ∷ xs)) ∷ []

-- a line for each of these runs
abbrev pub lines_of_runs : {T : Type 0} → (T → ℕ → ExplainLine) → List (List T) → List ExplainLine
lines_of_runs run_line ps = flat_map (piece_line run_line) ps

-- a line for each run of a list
abbrev pub run_lines : {T : Type 0} → (T → T → Bool) → (T → ℕ → ExplainLine) → List T → List ExplainLine
run_lines related run_line xs = lines_of_runs run_line (pieces related xs)

-- ---- the open run

-- a run that is not empty: its first item, its last one and how many they are
pub record OpenRun (T : Type 0) : Type 0 where
  pub first : T
  pub last : T
  pub count : ℕ

abbrev pub last_item : {T : Type 0} → T → List T → T
last_item x [] = x
last_item x (y ∷ ys) = last_item y ys

-- the open run of some items is these
abbrev pub IsOpen : {T : Type 0} → List T → Option (OpenRun T) → Type 0
IsOpen [] None = ⊤
IsOpen [] (Some o) = ⊥
IsOpen (x ∷ xs) None = ⊥
IsOpen (x ∷ xs) (Some o) = (o.first ≡ x) × (o.last ≡ last_item x xs) × (o.count ≡ length (x ∷ xs))

-- an item goes on with it, if there is one
abbrev pub takes : {T : Type 0} → (T → T → Bool) → Option (OpenRun T) → T → Bool
takes related None y = true
takes related (Some o) y = related o.last y

-- an item more
abbrev pub with_item : {T : Type 0} → Option (OpenRun T) → T → OpenRun T
with_item None y = record { first = y; last = y; count = 1 }
with_item (Some o) y = record { first = o.first; last = y; count = o.count + 1 }

abbrev pub open_line : {T : Type 0} → (T → ℕ → ExplainLine) → Option (OpenRun T) → List ExplainLine
open_line run_line None = []
open_line run_line (Some o) = run_line o.first o.count ∷ []

-- of these items the sink took the lines of all closed runs, and the last run is open
pub record AreRun {T W : Type 0} (related : T → T → Bool) (run_line : T → ℕ → ExplainLine) (grew : W → List ExplainLine → W → Type 0)
    (base : W) (items : List T) (open_run : Option (OpenRun T)) (out : W) : Type 0 where
  pub last_is : IsOpen (open_piece (pieces related items)) open_run
  pub told : grew base (lines_of_runs run_line (closed_pieces (pieces related items))) out

-- ---- items that are put

-- these items more, whatever preceded them
pub record HasPut {T W : Type 0} (related : T → T → Bool) (run_line : T → ℕ → ExplainLine) (grew : W → List ExplainLine → W → Type 0)
    (more : List T) (before : Option (OpenRun T)) (old : W) (after : Option (OpenRun T)) (new : W) : Type 0 where
  pub after_all : (base : W) (items : List T) → AreRun related run_line grew base items before old → AreRun related run_line grew base (items ++ more) after new

-- the sink stopped in a line of all items, whatever preceded these and whatever follows
pub record StopsPutting {T W : Type 0} (related : T → T → Bool) (run_line : T → ℕ → ExplainLine) (grew : W → List ExplainLine → W → Type 0)
    (stopped : W → ExplainLine → W → Type 0) (more : List T) (before : Option (OpenRun T)) (old new : W) : Type 0 where
  pub in_all : (base : W) (items later : List T) → AreRun related run_line grew base items before old
      → StopsInLine grew stopped (run_lines related run_line (items ++ (more ++ later))) base new
