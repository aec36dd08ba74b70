-- An assembly, and all the fragments that it has taken, the newest first.
use Rattle.std.specs.Prelude.{◌≡◌, ℕ, ◌+◌, ◌*◌, ◌<◌, Bool, false, List, [], ◌∷◌, Option, Some, None, ℤ, slice_get}
use Rattle.ecpri_fragments.specs.declared.verdict.Verdict.TheVariants as verdicts
use Rattle.ecpri_fragments.specs.declared.place.Place.{Place}
use Rattle.ecpri_fragments.specs.declared.place.Begun.{Begun}
use Rattle.ecpri_fragments.specs.declared.assembly.Assembly.{Assembly}
use Rattle.ecpri_fragments.specs.declared.assembly.Lease.{Lease}
use Rattle.ecpri_fragments.specs.declared.assembly.Taken.{Taken}
use Rattle.ecpri_fragments.specs.declared.assembly.Taken.TheVariants.{Stored, Whole, Repeat, Stray, TooLong}
use Rattle.ecpri_fragments.specs.Generations.{Fragment, Generation, generations_of, is_first, is_within}
use Rattle.ecpri_fragments.specs.Verdicts.{Message, Rests, message, standing_before, verdict, verdict_on}
use Rattle.ecpri_fragments.specs.Spans.{pieces_in}
use Rattle.ecpri_fragments.specs.Places.{IsDone, StandsIn}
use Rattle.ecpri_fragments.specs.Pools.{place_at}

-- how many endpoints it serves, and how long a generation holds, in ticks
abbrev pub endpoints_of : Assembly → ℕ
endpoints_of a = a.endpoints

abbrev pub hold_of : Assembly → ℤ
hold_of a = a.hold.0

-- A place is that of the last of these generations. An id without one had no fragment, or a message that is whole.
abbrev pub StandsAt : Option Place → Option Begun → List Generation → Type 0
StandsAt (Some p) d gs = StandsIn p gs
StandsAt None (Some b) gs = IsDone b.at.0 gs
StandsAt None None gs = gs ≡ []

-- Each endpoint and sequence id is in the last of its generations.
abbrev pub StandIn : List (Option ℕ) → List (Option Begun) → List Place → ℤ → List Fragment → Type 0
StandIn numbers done places hold arrivals = (ep seq : ℕ) (n : Option ℕ) (d : Option Begun) → seq < 256 → slice_get numbers (ep * 256 + seq) ≡ Some n → slice_get done (ep * 256 + seq) ≡ Some d →
    StandsAt (place_at places n) d (generations_of hold ep seq arrivals)

-- The assembly stands for these arrivals: what it answers from now on is what the definitions say after them.
unfoldable pub StandsFor : Assembly → List Fragment → Type 0
StandsFor a arrivals = StandIn a.pool.numbers.items a.done.items a.pool.places.items a.hold.0 arrivals

-- whether a fragment that arrives now belongs to a message that is complete, of an id without a place
abbrev pub repeats : Option ℕ → Option Begun → ℤ → ℤ → Bool
repeats None (Some b) hold at = is_within hold b.at.0 at
repeats None None hold at = false
repeats (Some k) d hold at = false

-- the message that a lease shows
abbrev pub message_of : Lease → Message
message_of l = record { pieces = pieces_in l.place.now.spans l.place.now.bytes l.count; first = l.place.now.first.0; last = l.place.now.last.0 }

-- the answer is that of the verdict, and a lease shows the message that is whole now
abbrev pub Answers : List Fragment → Fragment → Taken → Type 0
Answers s a Stored = verdict s a ≡ verdicts.Stored
Answers s a (Whole l) = (verdict s a ≡ verdicts.Whole) × (message_of l ≡ message (a ∷ s))
Answers s a Repeat = verdict s a ≡ verdicts.Repeat
Answers s a Stray = verdict s a ≡ verdicts.Stray
Answers s a TooLong = verdict s a ≡ verdicts.TooLong

abbrev pub AnswersAfter : Assembly → Fragment → Taken → Type 0
AnswersAfter old a t = (arrivals : List Fragment) → StandsFor old arrivals → Answers (standing_before (hold_of old) a arrivals) a t

-- what a call leaves: the same hold and endpoints; whichever arrivals old stands for, new stands for one more,
-- and for those alone too where the fragment changes nothing
pub record Took (old new : Assembly) (a : Fragment) : Type 0 where
  pub hold : hold_of new ≡ hold_of old
  pub endpoints : endpoints_of new ≡ endpoints_of old
  pub stands : (arrivals : List Fragment) → StandsFor old arrivals → StandsFor new (a ∷ arrivals)
  pub rests : (arrivals : List Fragment) → StandsFor old arrivals → Rests (verdict_on (hold_of old) a arrivals) (is_first (hold_of old) a arrivals) → StandsFor new arrivals
