-- What the bytes of one eCPRI PDU say, by a recursion on all of them (eCPRI 2.0, section 3.1).
use Rattle.std.specs.Prelude.{ℕ, zero, suc, ◌+◌, ◌-◌, ◌%◌, ◌==◌, if◌then◌else◌, List, [], ◌∷◌, length, take, nat_lt, Bool, Option, Some, None}
use Rattle.ecpri_frames.specs.declared.heads.Head.{Head}
use Rattle.ecpri_frames.specs.declared.heads.TheConstants.{ONE_WAY_DELAY}
use Rattle.ecpri_frames.specs.declared.refusals.PduRefusal.{PduRefusal}
use Rattle.ecpri_frames.specs.declared.refusals.PduWhy.{PduWhy}
use Rattle.ecpri_frames.specs.declared.refusals.PduWhy.TheVariants.{Revision, Truncated, NoPadding}
use Rattle.ecpri_frames.specs.Headers.{revision, head_of}

-- a message: where its header begins in the frame, the header, and as much of its payload as is there
pub record Message : Type 0 where
  pub place : ℕ
  pub head : Head
  pub payload : List ℕ

-- a message of one-way delay measurement (eCPRI 2.0, section 3.2.4.6)
abbrev pub is_delay : Message → Bool
is_delay m = m.head.kind == ONE_WAY_DELAY

-- the messages up to the first fault, and that fault; a fault in a payload leaves its message with the bytes that are there
pub record Reading : Type 0 where
  pub messages : List Message
  pub refusal : Option PduRefusal

abbrev pub over : Reading
over = record { messages = []; refusal = None }

abbrev pub fault : ℕ → PduWhy → Reading
fault place why = record { messages = []; refusal = Some (record { place = place; why = why }) }

abbrev pub before : ℕ → Head → List ℕ → Reading → Reading
before place head payload r = record { messages = record { place = place; head = head; payload = payload } ∷ r.messages; refusal = r.refusal }

-- how many bytes are between a payload of this size and the next multiple of 4 from the header's start
abbrev pub padding : ℕ → ℕ
padding size = (4 - size % 4) % 4

-- `rest` is all from the place `at` on, after the complete header that begins at `place`, and `next n` is what is read n bytes later.
abbrev pub behind_head : ℕ → ℕ → Head → List ℕ → (ℕ → Reading) → Reading
behind_head place at head rest next =
    if nat_lt (length rest) head.size then before place head rest (fault (at + length rest) Truncated)
    else before place head (take head.size rest)
    (if head.more
    then (if nat_lt (length rest) (head.size + padding head.size) then fault (at + length rest) NoPadding else next (head.size + padding head.size))
    else over)

-- `rest` is all from the place `at` on, after the first byte `a` of the header that begins at `place`
abbrev pub behind_first : ℕ → ℕ → ℕ → List ℕ → (ℕ → Reading) → Reading
behind_first place at a (b ∷ c ∷ d ∷ rest) next = behind_head place (at + 3) (head_of (a ∷ b ∷ c ∷ d ∷ [])) rest (λ n. next (suc (suc (suc n))))
behind_first place at a short next = fault (at + length short) Truncated

-- What is read from the place `at` on, where the first `skip` bytes belong to a message that was read.
abbrev pub read_from : ℕ → ℕ → List ℕ → Reading
read_from at skip [] = fault at Truncated
read_from at (suc skip) (b ∷ bytes) = read_from (at + 1) skip bytes
read_from at zero (b ∷ bytes) =
    if revision (b ∷ []) == 1 then behind_first at (at + 1) b bytes (λ n. read_from (at + 1) n bytes) else fault at Revision

-- what all the bytes of a frame say
abbrev pub pdu : List ℕ → Reading
pdu bytes = read_from 0 0 bytes
