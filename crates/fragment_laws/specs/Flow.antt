-- The data messages of one endpoint and direction, as functions of their numbers; times in ticks.
use Rattle.std.specs.Prelude.{◌≡◌, ◌==◌, ◌&&◌, ◌⊎◌, ℕ, zero, suc, ℤ, pos, ◌+ℤ◌, ◌-ℤ◌, ◌≤ℤ◌, ◌<ℤ◌, ◌+◌, ◌*◌, ◌%◌, ◌<◌, ◌≤◌, min, int_le, if◌then◌else◌, List, length}
use Rattle.ecpri_fragments.specs.Generations.{Fragment}
use Rattle.fragment_laws.specs.Apart.{Numbers, number_of, IsFalling, AreApart}
use Rattle.ecpri_fragments.specs.declared.place.TheConstants.{MESSAGE_BYTES}
use Rattle.fh_base.specs.Members.{IsIn}

pub record Flow : Type 0 where
  -- how many messages there are, and how many fragments each has
  pub count : ℕ
  pub pieces : ℕ → ℕ
  -- from when on the frames of a message's symbol leave, and how many of that symbol leave before its own
  pub low : ℕ → ℤ
  pub before : ℕ → ℕ
  pub gap : ℕ
  pub spread : ℕ
  -- the bytes of each fragment
  pub text : ℕ → ℕ → List ℕ

-- the bytes of the fragments below n
abbrev pub size_to : (ℕ → List ℕ) → ℕ → ℕ
size_to text zero = 0
size_to text (suc n) = size_to text n + length (text n)

-- when fragment `sub` of message j leaves
abbrev pub sent_at : Flow → ℕ → ℕ → ℤ
sent_at f j sub = f.low j +ℤ pos (min ((f.before j + sub) * f.gap) f.spread)

-- how long a frame is on its way, and how long a generation holds
pub record Bounds : Type 0 where
  pub fast : ℤ
  pub slow : ℤ
  pub hold : ℤ

-- the first frames of two messages leave more than this apart, whichever is the earlier
abbrev pub IsDistant : Bounds → Flow → ℕ → ℕ → Type 0
IsDistant b f j k = ((sent_at f j 0 +ℤ (b.hold +ℤ (b.slow -ℤ b.fast))) <ℤ sent_at f k 0) ⊎ ((sent_at f k 0 +ℤ (b.hold +ℤ (b.slow -ℤ b.fast))) <ℤ sent_at f j 0)

pub record IsSound (b : Bounds) (f : Flow) : Type 0 where
  pub delays : b.fast ≤ℤ b.slow
  pub hold : (pos f.spread +ℤ (b.slow -ℤ b.fast)) ≤ℤ b.hold
  pub rising : (j k : ℕ) → j ≤ k → k < f.count → f.low j ≤ℤ f.low k
  pub not_dense : (j : ℕ) → j + 256 < f.count → IsDistant b f j (j + 256)
  pub some : (j : ℕ) → j < f.count → 0 < f.pieces j
  pub short : (j : ℕ) → j < f.count → size_to (f.text j) (f.pieces j) ≤ MESSAGE_BYTES

-- of n messages from number `from` on, the first of this id whose fragments may still be received at this time
unfoldable pub search_from : Bounds → Flow → ℕ → ℤ → ℕ → ℕ → ℕ
search_from b f id at from zero = 0
search_from b f id at from (suc n) =
    if (from % 256 == id) && int_le at (sent_at f from 0 +ℤ b.fast +ℤ b.hold) then from else search_from b f id at (from + 1) n

abbrev pub numbers_of : Bounds → (ℕ → Flow) → Numbers
numbers_of b flow ep id at = search_from b (flow ep) id at 0 (flow ep).count

-- a copy of fragment `sub` of message j of an endpoint
pub record IsCopyOf (b : Bounds) (f : Flow) (j : ℕ) (a : Fragment) : Type 0 where
  pub below : j < f.count
  pub sub : a.sub < f.pieces j
  pub id : a.seq ≡ j % 256
  pub last : a.last ≡ (a.sub + 1 == f.pieces j)
  pub bytes : a.bytes ≡ f.text j a.sub
  pub from : (sent_at f j a.sub +ℤ b.fast) ≤ℤ a.at
  pub to : a.at ≤ℤ (sent_at f j a.sub +ℤ b.slow)

-- what was received: each fragment is a copy of one that was sent, and of each that was sent a copy was received
pub record IsDelivered (b : Bounds) (flow : ℕ → Flow) (all : List Fragment) : Type 0 where
  pub falling : IsFalling all
  pub came : (a : Fragment) → IsIn a all → (j : ℕ) × IsCopyOf b (flow a.ep) j a
  pub every : (ep j sub : ℕ) → j < (flow ep).count → sub < (flow ep).pieces j → (a : Fragment) × IsIn a all × (a.ep ≡ ep) × (a.sub ≡ sub) × IsCopyOf b (flow ep) j a

-- the number is told by id and time
abbrev pub NumbersAreTold : Type 0
NumbersAreTold = (b : Bounds) (flow : ℕ → Flow) → ((ep : ℕ) → IsSound b (flow ep)) → (a : Fragment) (j : ℕ) → IsCopyOf b (flow a.ep) j a → number_of (numbers_of b flow) a ≡ j

abbrev pub DeliveredAreApart : Type 0
DeliveredAreApart = (b : Bounds) (flow : ℕ → Flow) → ((ep : ℕ) → IsSound b (flow ep)) → (all : List Fragment) → IsDelivered b flow all
    → AreApart b.hold b.fast b.slow (λ ep j. sent_at (flow ep) j 0) (numbers_of b flow) all
