-- What a walk over a message has left to tell.
use Rattle.std.specs.Prelude.{◌≡◌, ℕ, ◌+◌, List, [], ◌∷◌, ◌++◌, length, drop, Option, Some, None, MatchOption}
use Rattle.uplane_sections.specs.declared.values.URefusal.{URefusal}
use Rattle.uplane_sections.specs.declared.steps.UFeed.{UFeed}
use Rattle.uplane_sections.specs.Messages.{Item, Telling, blocks}
use Rattle.uplane_sections.specs.Phases.{feed_told}
use Rattle.uplane_sections.specs.States.{tells, held_by, run_of}
use Rattle.ecpri_fragments.specs.declared.assembly.Lease.{Lease}
use Rattle.uplane_messages.specs.declared.walk.DataWalk.{DataWalk}
use Rattle.uplane_messages.specs.declared.run.DataRun.{DataRun}
use Rattle.uplane_messages.specs.declared.run.JoinedPrb.{JoinedPrb}
use Rattle.uplane_messages.specs.Joined.{pieces_of, piece_of, bytes_from}

-- the message that it goes over
abbrev pub lease_of : DataWalk → Lease
lease_of walk = walk.lease.now

-- what is told of the bytes that it has not used
abbrev pub telling_of : DataWalk → Telling
telling_of walk = tells walk.walker (bytes_from (pieces_of (lease_of walk)) walk.piece walk.at)

-- the items that it has still to give
abbrev pub left_of : DataWalk → List Item
left_of walk = (telling_of walk).items

-- the refusal that follows them
abbrev pub refusal_of : DataWalk → Option URefusal
refusal_of walk = (telling_of walk).refusal

-- what is given tells just one item, the first that was left
pub record TellsFirst (old new : List Item) (what : UFeed) : Type 0 where
  pub one : length (feed_told what) ≡ 1
  pub first : old ≡ feed_told what ++ new

-- None is answered only where nothing is left
pub record NothingLeft (old new : List Item) : Type 0 where
  pub before : old ≡ []
  pub behind : new ≡ []

-- a call from s gave the first item that was left, if there was one, and led to t, which goes over the same message to
-- the same refusal
abbrev pub GivesItem : DataWalk → Option UFeed → DataWalk → Type 0
GivesItem s r t =
    MatchOption r (NothingLeft (left_of s) (left_of t)) (TellsFirst (left_of s) (left_of t))
    × (refusal_of t ≡ refusal_of s) × (lease_of t ≡ lease_of s)

-- the message ends here, or is refused already: what follows changes nothing
abbrev pub IsAtEnd : DataWalk → Type 0
IsAtEnd walk = telling_of walk ≡ tells walk.walker []

-- the rest of the first of these pieces that is not empty
abbrev pub first_of_pieces : List ℕ → List (List ℕ) → List ℕ
first_of_pieces [] [] = []
first_of_pieces [] (p ∷ ps) = first_of_pieces p ps
first_of_pieces (b ∷ bytes) ps = b ∷ bytes

-- the bytes that are next and are in one piece
abbrev pub next_part : DataWalk → List ℕ
next_part walk = first_of_pieces (drop walk.at (piece_of (pieces_of (lease_of walk)) walk.piece)) (drop (walk.piece + 1) (pieces_of (lease_of walk)))

-- how many packed PRBs are next that lie completely in that piece
abbrev pub run_in : DataWalk → ℕ
run_in walk = run_of walk.walker (length (next_part walk))

-- a call from s gave these packed PRBs, whose blocks were left first, and led to t, which goes over the same message to the
-- same refusal
pub record GivesRun (s : DataWalk) (r : DataRun) (t : DataWalk) : Type 0 where
  pub first : left_of s ≡ blocks r.method r.prb r.count r.packed.now ++ left_of t
  pub refusal : refusal_of t ≡ refusal_of s
  pub lease : lease_of t ≡ lease_of s

-- the bytes that it keeps: those of the PRB that was joined last
abbrev pub kept_by : DataWalk → List ℕ
kept_by walk = held_by walk.walker

-- what a joined PRB tells, where the bytes that are kept begin with its own
abbrev pub joined_told : Option JoinedPrb → List ℕ → List Item
joined_told None kept = []
joined_told (Some joined) kept = blocks joined.method joined.prb 1 kept

-- a call from s gave this PRB, which was left first, or none, and led to t, which goes over the same message to the same refusal
pub record GivesJoined (s : DataWalk) (r : Option JoinedPrb) (t : DataWalk) : Type 0 where
  pub first : left_of s ≡ joined_told r (kept_by t) ++ left_of t
  pub refusal : refusal_of t ≡ refusal_of s
  pub lease : lease_of t ≡ lease_of s
