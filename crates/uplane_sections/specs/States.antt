-- What a walker tells of the bytes that follow.
use Rattle.std.specs.Prelude.{◌≡◌, ℕ, ◌+◌, ◌/◌, ◌<◌, ◌==◌, min, if◌then◌else◌, List, [], ◌∷◌, ◌++◌, length, take, false, Option, Some, None, Result, Ok, Err}
use Rattle.fh_base.specs.declared.values.Shape.{Shape}
use Rattle.bfp_codec.specs.declared.methods.Format.{Format}
use Rattle.bfp_codec.specs.Layout.{length_of}
use Rattle.uplane_sections.specs.declared.walking.UWalker.{UWalker}
use Rattle.uplane_sections.specs.declared.values.URefusal.{URefusal}
use Rattle.uplane_sections.specs.declared.values.UWhy.TheVariants.{Truncated}
use Rattle.uplane_sections.specs.declared.steps.UFeed.{UFeed}
use Rattle.uplane_sections.specs.declared.steps.UFeed.TheVariants as feed
use Rattle.uplane_sections.specs.Messages.{Item, Block, Telling, refused, after, told}
use Rattle.uplane_sections.specs.Phases.{resumed, is_cut, method_in_phase, prbs_to_come}

-- how many bytes it has used
abbrev pub used_by : UWalker → ℕ
used_by w = w.start + w.there

-- the bytes that it keeps: those of the unit that was joined last, until more are received
abbrev pub held_by : UWalker → List ℕ
held_by w = w.held

-- what it tells of the bytes that follow, up to the end of the message
abbrev pub tells : UWalker → List ℕ → Telling
tells w rest = resumed w.format w.prbs w.shape w.phase w.start (take w.there w.held ++ rest)

-- It is after these bytes of a message in this format, on a carrier of so many PRBs, in slots of this shape:
-- whatever follows, the message tells what it has told of them, and then what the walker tells.
abbrev pub StandsBehind : Format → ℕ → Shape → UWalker → List ℕ → Type 0
StandsBehind format prbs shape w bytes =
    (rest : List ℕ) → told format prbs shape (bytes ++ rest) ≡ after (told format prbs shape bytes).items (tells w rest)

-- Of these bytes old tells these items, and of any that follow what new tells.
abbrev pub Tells : UWalker → UWalker → List ℕ → List Item → Type 0
Tells old new bytes items = (rest : List ℕ) → tells old (bytes ++ rest) ≡ after items (tells new rest)

-- what a refusal says: it is not for the end of the message, and nothing but it is told of any bytes
pub record IsRefusal (new : UWalker) (r : URefusal) : Type 0 where
  pub why : is_cut r.why ≡ false
  pub stays : (rest : List ℕ) → tells new rest ≡ refused r

-- what follows from an answer alone: at least one byte is used unless it is a refusal, and where nothing is told yet a
-- message that ended here would end too early
abbrev pub Answers : UWalker → ℕ → UFeed → Type 0
Answers new used feed.More = (0 < used) × ((tells new []).refusal ≡ Some (record { place = used_by new; why = Truncated }))
Answers new used (feed.Refused r) = IsRefusal new r
Answers new used _ = 0 < used

-- nothing is told only where all of the piece is used
abbrev pub UsesAll : List ℕ → ℕ → UFeed → Type 0
UsesAll piece used feed.More = used ≡ length piece
UsesAll piece used _ = Unit {0}

-- nothing that follows changes what it tells
abbrev pub IsOver : UWalker → Type 0
IsOver w = (rest : List ℕ) → tells w rest ≡ tells w []

-- the first of these items, if there is one, is no PRB
abbrev pub BeginsWithout : List Item → Type 0
BeginsWithout (Block prb samples ∷ items) = ⊥
BeginsWithout _ = Unit {0}

-- whatever follows, no PRB is told next
abbrev pub BeginsOtherwise : UWalker → Type 0
BeginsOtherwise w = (rest : List ℕ) → BeginsWithout (tells w rest).items

-- Of these bytes old tells some items, and of any that follow what new tells; so over all of them it tells the
-- refusal that new tells over those that follow.
pub record Passes (old new : UWalker) (bytes : List ℕ) : Type 0 where
  pub items : List Item
  pub tells : Tells old new bytes items

-- how many packed PRBs are next that lie completely in so many bytes; none where a part of one was received before
abbrev pub run_of : UWalker → ℕ → ℕ
run_of w size = if w.there == 0 then min (size / length_of (method_in_phase w.phase)) (prbs_to_come w.phase) else 0

abbrev pub refusal_of : Result (Unit {0}) URefusal → Option URefusal
refusal_of (Ok _) = None
refusal_of (Err r) = Some r
