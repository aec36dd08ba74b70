-- Each message that was sent becomes whole exactly once, over the verdicts of `ecpri_fragments`.
use Rattle.std.specs.Prelude.{◌≡◌, ◌==◌, ◌&&◌, ◌⊎◌, ℕ, zero, suc, ℤ, ◌+ℤ◌, ◌≤ℤ◌, ◌+◌, ◌<◌, if◌then◌else◌, List, [], ◌∷◌, ◌++◌, Option, Some, None}
use Rattle.ecpri_fragments.specs.Generations.{Fragment}
use Rattle.ecpri_fragments.specs.declared.verdict.Verdict.{Verdict}
use Rattle.ecpri_fragments.specs.Verdicts.{stands, all_stand, Message, verdict, verdict_on, message, standing_before, first_of, whole_now}
use Rattle.ecpri_fragments.specs.declared.verdict.Verdict.TheVariants.{Stored, Whole, Repeat}
use Rattle.fragment_laws.specs.Apart.{Numbers, number_of, of_message}
use Rattle.fragment_laws.specs.Flow.{Flow, Bounds, sent_at, IsSound, numbers_of, IsDelivered}
use Rattle.fh_base.specs.Members.{IsIn}

-- a fragment that was received, what it was then, and the message that it makes with what was stored
pub record Answered : Type 0 where
  pub fragment : Fragment
  pub was : Verdict
  pub shows : Message

abbrev pub answered : List Fragment → Fragment → Answered
answered s a = record { fragment = a; was = verdict s a; shows = message (a ∷ s) }

-- the arrivals that are of one message, the newest first, each with what it was when it was received
abbrev pub answers : ℤ → Numbers → ℕ → ℕ → List Fragment → List Answered
answers hold num ep j [] = []
answers hold num ep j (a ∷ earlier) =
    if (a.ep == ep) && (number_of num a == j) then answered (standing_before hold a earlier) a ∷ answers hold num ep j earlier else answers hold num ep j earlier

-- the first n pieces
abbrev pub texts : (ℕ → List ℕ) → ℕ → List (List ℕ)
texts text zero = []
texts text (suc n) = texts text n ++ text n ∷ []

-- Of the answers to what was received of a message one is Whole: those before it are Stored or Repeat, those after it Repeat. It shows
-- all pieces of the message; its first is the first of all that were received, its last was received then; both are within the bounds.
pub record IsOnceWhole (b : Bounds) (f : Flow) (j : ℕ) (came : List Fragment) (all : List Answered) : Type 0 where
  pub after : List Answered
  pub whole : Answered
  pub before : List Answered
  pub is : all ≡ after ++ whole ∷ before
  pub was : whole.was ≡ Whole
  pub repeats : (x : Answered) → IsIn x after → x.was ≡ Repeat
  pub waits : (x : Answered) → IsIn x before → (x.was ≡ Stored) ⊎ (x.was ≡ Repeat)
  pub pieces : whole.shows.pieces ≡ texts (f.text j) (f.pieces j)
  pub first : whole.shows.first ≡ first_of came
  pub last : whole.shows.last ≡ whole.fragment.at
  pub first_from : (sent_at f j 0 +ℤ b.fast) ≤ℤ whole.shows.first
  pub first_to : whole.shows.first ≤ℤ (sent_at f j 0 +ℤ b.slow)
  pub last_from : (e : ℕ) → e + 1 ≡ f.pieces j → (sent_at f j e +ℤ b.fast) ≤ℤ whole.shows.last
  pub last_to : (e : ℕ) → e + 1 ≡ f.pieces j → whole.shows.last ≤ℤ (sent_at f j e +ℤ b.slow)

abbrev pub EachIsWholeOnce : Type 0
EachIsWholeOnce = (b : Bounds) (flow : ℕ → Flow) → ((ep : ℕ) → IsSound b (flow ep)) → (all : List Fragment) → IsDelivered b flow all → (ep j : ℕ) → j < (flow ep).count
    → IsOnceWhole b (flow ep) j (of_message (numbers_of b flow) ep j all) (answers b.hold (numbers_of b flow) ep j all)

-- what a copy is where these of its message were received, which has n fragments
abbrev pub told : ℕ → Fragment → List Fragment → Verdict
told n a held = if stands held a.sub then Repeat else if all_stand (a ∷ held) n then Whole else Stored

-- Each arrival is a repeat, or makes its message whole, or is stored: none contradicts another, and none is too much.
abbrev pub EachIsTold : Type 0
EachIsTold = (b : Bounds) (flow : ℕ → Flow) → ((ep : ℕ) → IsSound b (flow ep)) → (all : List Fragment) → IsDelivered b flow all
    → (later earlier : List Fragment) (a : Fragment) → all ≡ later ++ a ∷ earlier
    → verdict_on b.hold a earlier ≡ told ((flow a.ep).pieces (number_of (numbers_of b flow) a)) a (of_message (numbers_of b flow) a.ep (number_of (numbers_of b flow) a) earlier)

-- a message that became whole, and the fragment that made it so
pub record Completed : Type 0 where
  pub by : Fragment
  pub message : Message

abbrev pub with_whole : Fragment → Option Message → List Completed → List Completed
with_whole a None ms = ms
with_whole a (Some m) ms = record { by = a; message = m } ∷ ms

-- all messages that became whole, the newest first
abbrev pub wholes : ℤ → List Fragment → List Completed
wholes hold [] = []
wholes hold (a ∷ earlier) = with_whole a (whole_now hold a earlier) (wholes hold earlier)

abbrev pub numbered : Numbers → ℕ → ℕ → List Completed → List Completed
numbered num ep j [] = []
numbered num ep j (m ∷ ms) = if (m.by.ep == ep) && (number_of num m.by == j) then m ∷ numbered num ep j ms else numbered num ep j ms

-- What becomes whole was sent, and of each message that was sent there is one, with its pieces.
pub record AreTheSent (b : Bounds) (flow : ℕ → Flow) (all : List Fragment) : Type 0 where
  pub sent : (c : Completed) → IsIn c (wholes b.hold all) → number_of (numbers_of b flow) c.by < (flow c.by.ep).count
  pub once : (ep j : ℕ) → j < (flow ep).count → (c : Completed) × (numbered (numbers_of b flow) ep j (wholes b.hold all) ≡ c ∷ []) × (c.message.pieces ≡ texts ((flow ep).text j) ((flow ep).pieces j))

abbrev pub WholesAreTheSent : Type 0
WholesAreTheSent = (b : Bounds) (flow : ℕ → Flow) → ((ep : ℕ) → IsSound b (flow ep)) → (all : List Fragment) → IsDelivered b flow all → AreTheSent b flow all
