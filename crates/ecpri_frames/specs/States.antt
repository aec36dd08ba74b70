-- What a decoder tells of the bytes that follow.
use Rattle.std.specs.Prelude.{◌≡◌, ℕ, ◌+◌, ◌<◌, ◌≤◌, List, [], ◌++◌, Bool, true, false, Option, Some, None, Result, Ok, Err}
use Rattle.ecpri_frames.specs.declared.decoding.Pdu.{Pdu}
use Rattle.ecpri_frames.specs.declared.phases.Phase.{Phase}
use Rattle.ecpri_frames.specs.declared.steps.Feed.{Feed}
use Rattle.ecpri_frames.specs.declared.steps.Feed.TheVariants.{More, Message, Body, End, Refused}
use Rattle.ecpri_frames.specs.declared.refusals.PduRefusal.{PduRefusal}
use Rattle.ecpri_frames.specs.declared.refusals.PduWhy.{PduWhy}
use Rattle.ecpri_frames.specs.declared.refusals.PduWhy.TheVariants.{Revision, Truncated, NoPadding}
use Rattle.ecpri_frames.specs.Messages.{over, fault, pdu}
use Rattle.ecpri_frames.specs.Phases.{Item, Telling, telling, after, resumed}

-- how many bytes it has used
abbrev pub used_by : Pdu → ℕ
used_by p = p.place

abbrev pub phase_of : Pdu → Phase
phase_of p = p.phase

-- what it tells of the bytes that follow, up to the end of the frame
abbrev pub tells : Pdu → List ℕ → Telling
tells p rest = resumed p.phase p.place rest

-- what is told of a frame, or of what was received of it
abbrev pub told : List ℕ → Telling
told bytes = telling (pdu bytes)

-- It is after these bytes: whatever follows, the frame tells what it has told of them, and then what the decoder tells.
abbrev pub StandsBehind : Pdu → List ℕ → Type 0
StandsBehind p bytes = (rest : List ℕ) → told (bytes ++ rest) ≡ after (told bytes).items (tells p rest)

-- the faults of a frame that ends too early
abbrev pub is_cut : PduWhy → Bool
is_cut Revision = false
is_cut Truncated = true
is_cut NoPadding = true

-- a frame with this refusal, if it has one, is neither whole nor refused for a revision
abbrev pub is_short : Option PduRefusal → Bool
is_short None = false
is_short (Some r) = is_cut r.why

-- what a refusal says: of what is before its place nothing more is told, it is given with the first byte that shows it, and it stays
pub record IsRefusal (new : Pdu) (used : ℕ) (r : PduRefusal) : Type 0 where
  pub why : r.why ≡ Revision
  pub first : 0 < used → used_by new ≡ r.place + 1
  pub stays : (rest : List ℕ) → tells new rest ≡ telling (fault r.place Revision)

-- what follows from an answer alone: `used` bytes of a piece of length `len`
abbrev pub Answers : Pdu → Pdu → ℕ → ℕ → Feed → Type 0
Answers old new used len More = (used ≡ len) × (is_short (tells new []).refusal ≡ true)
Answers old new used len (Message head) = (0 < used) × (4 ≤ used_by new)
Answers old new used len (Body from to last) = (from ≡ 0) × (0 < to) × (to ≡ used) × (last ≡ false → used ≡ len)
Answers old new used len End = (used ≡ 0) × ((rest : List ℕ) → tells old rest ≡ telling over)
Answers old new used len (Refused r) = IsRefusal new used r

-- Of these bytes old tells these items, and of any that follow what new tells.
abbrev pub Tells : Pdu → Pdu → List ℕ → List Item → Type 0
Tells old new bytes items = (rest : List ℕ) → tells old (bytes ++ rest) ≡ after items (tells new rest)

abbrev pub refusal_of : Result (Unit {0}) PduRefusal → Option PduRefusal
refusal_of (Ok _) = None
refusal_of (Err r) = Some r
