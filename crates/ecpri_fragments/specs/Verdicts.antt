-- What a fragment is in its generation, and the message that the pieces make. The newest fragment is first.
use Rattle.std.specs.Prelude.{◌≡◌, ⊤, ℕ, zero, suc, ◌+◌, ◌==◌, ◌&&◌, ◌||◌, if◌then◌else◌, Bool, true, false, List, [], ◌∷◌, ◌++◌, length, nat_lt, Option, Some, None, is_some, unwrap_or, ℤ, pos}
use Rattle.ecpri_fragments.specs.declared.verdict.Verdict.{Verdict}
use Rattle.ecpri_fragments.specs.declared.verdict.Verdict.TheVariants.{Stored, Whole, Repeat, Stray, TooLong}
use Rattle.ecpri_fragments.specs.Generations.{Fragment, seen}
use Rattle.ecpri_fragments.specs.declared.place.TheConstants.{MESSAGE_BYTES}

-- the bytes of the fragment that is stored at this subsequence
abbrev pub piece_at : List Fragment → ℕ → Option (List ℕ)
piece_at [] k = None
piece_at (a ∷ s) k = if a.sub == k then Some a.bytes else piece_at s k

abbrev pub stands : List Fragment → ℕ → Bool
stands s k = is_some (piece_at s k)

-- the subsequence of the fragment with E = 1
abbrev pub end_of : List Fragment → Option ℕ
end_of [] = None
end_of (a ∷ s) = if a.last then Some a.sub else end_of s

-- each subsequence below n is stored
abbrev pub all_stand : List Fragment → ℕ → Bool
all_stand s zero = true
all_stand s (suc n) = stands s n && all_stand s n

abbrev pub whole_to : List Fragment → Option ℕ → Bool
whole_to s None = false
whole_to s (Some e) = all_stand s (e + 1)

-- the subsequences up to that of the fragment with E = 1 are stored
abbrev pub is_whole : List Fragment → Bool
is_whole s = whole_to s (end_of s)

-- a fragment with E = 1 and a lesser subsequence is stored
abbrev pub is_past_end : List Fragment → ℕ → Bool
is_past_end [] k = false
is_past_end (b ∷ s) k = (b.last && nat_lt b.sub k) || is_past_end s k

-- a fragment with a greater subsequence is stored
abbrev pub has_greater : List Fragment → ℕ → Bool
has_greater [] k = false
has_greater (b ∷ s) k = nat_lt k b.sub || has_greater s k

abbrev pub is_stray : List Fragment → Fragment → Bool
is_stray s a = is_past_end s a.sub || (a.last && has_greater s a.sub)

abbrev pub size : List Fragment → ℕ
size [] = 0
size (a ∷ s) = length a.bytes + size s

-- why a fragment is not stored with these, by the first rule that holds; none where it is
abbrev pub refused : List Fragment → Fragment → Option Verdict
refused s a =
    if is_whole s || stands s a.sub then Some Repeat
    else if is_stray s a then Some Stray
    else if nat_lt MESSAGE_BYTES (size s + length a.bytes) then Some TooLong
    else None

abbrev pub answer : Option Verdict → Bool → Verdict
answer (Some v) whole = v
answer None whole = if whole then Whole else Stored

abbrev pub with_one : Option Verdict → Fragment → List Fragment → List Fragment
with_one (Some v) a s = s
with_one None a s = a ∷ s

-- what a fragment is where these are stored in its generation, and what is stored after it
abbrev pub verdict : List Fragment → Fragment → Verdict
verdict s a = answer (refused s a) (is_whole (a ∷ s))

abbrev pub placed : List Fragment → Fragment → List Fragment
placed s a = with_one (refused s a) a s

-- what is stored of all that arrived in a generation
abbrev pub standing : List Fragment → List Fragment
standing [] = []
standing (a ∷ held) = placed (standing held) a

-- what is stored in its generation when a fragment arrives, and what it is there
abbrev pub standing_before : ℤ → Fragment → List Fragment → List Fragment
standing_before hold a earlier = standing (seen hold a earlier)

abbrev pub verdict_on : ℤ → Fragment → List Fragment → Verdict
verdict_on hold a earlier = verdict (standing_before hold a earlier) a

-- a verdict that leaves all as it was: the fragment is stored nowhere, and begins no generation
abbrev pub Rests : Verdict → Bool → Type 0
Rests Repeat first = ⊤
Rests Stray first = ⊤
Rests TooLong first = first ≡ false
Rests Stored first = ⊥
Rests Whole first = ⊥

-- when the first and the last of these were received
abbrev pub first_of : List Fragment → ℤ
first_of [] = pos 0
first_of (a ∷ []) = a.at
first_of (a ∷ b ∷ s) = first_of (b ∷ s)

abbrev pub last_of : List Fragment → ℤ
last_of [] = pos 0
last_of (a ∷ s) = a.at

-- a complete message: its pieces in the order of subsequences, and when the first and the last of them were received
pub record Message : Type 0 where
  pub pieces : List (List ℕ)
  pub first : ℤ
  pub last : ℤ

-- the pieces below n
abbrev pub pieces_below : List Fragment → ℕ → List (List ℕ)
pieces_below s zero = []
pieces_below s (suc n) = pieces_below s n ++ unwrap_or (piece_at s n) [] ∷ []

abbrev pub pieces_to : List Fragment → Option ℕ → List (List ℕ)
pieces_to s None = []
pieces_to s (Some e) = pieces_below s (e + 1)

-- the message that these fragments make whole
abbrev pub message : List Fragment → Message
message s = record { pieces = pieces_to s (end_of s); first = first_of s; last = last_of s }

-- the message that a fragment makes whole, where it does
abbrev pub whole_of : Verdict → Fragment → List Fragment → Option Message
whole_of Stored f stood = None
whole_of Whole f stood = Some (message (f ∷ stood))
whole_of Repeat f stood = None
whole_of Stray f stood = None
whole_of TooLong f stood = None

abbrev pub whole_now : ℤ → Fragment → List Fragment → Option Message
whole_now hold f earlier = whole_of (verdict_on hold f earlier) f (standing_before hold f earlier)
