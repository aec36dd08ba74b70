-- The bytes of a PDU in the standard's terms (eCPRI 2.0, sections 3.1.2 and 3.1.3), apart from how they are read.
use Rattle.std.specs.Prelude.{◌≡◌, ℕ, ◌+◌, ◌%◌, ◌≤◌, List, [], ◌∷◌, ◌++◌, length, true, false}
use Rattle.ecpri_frames.specs.Headers.{revision, head_of}
use Rattle.ecpri_frames.specs.Messages.{Message}

-- this header of four bytes, at this place of the frame, and this whole payload are the message
pub record IsMessage (place : ℕ) (header : List ℕ) (m : Message) : Type 0 where
  pub at : m.place ≡ place
  pub four : length header ≡ 4
  pub revision : revision header ≡ 1
  pub head : head_of header ≡ m.head
  pub payload : length m.payload ≡ m.head.size

-- from the place on, the bytes begin with the message, and it is the last one: C is 0
pub record IsLast (place : ℕ) (bytes : List ℕ) (m : Message) : Type 0 where
  pub header : List ℕ
  pub beyond : List ℕ
  pub bytes_are : bytes ≡ header ++ (m.payload ++ beyond)
  pub message : IsMessage place header m
  pub last : m.head.more ≡ false

-- They begin with the message, C is 1, and 0 to 3 padding bytes lead to a multiple of 4 from the message's own start;
-- `Next` says what the bytes from there on are.
pub record GoesOn (place : ℕ) (bytes : List ℕ) (m : Message) (Next : ℕ → List ℕ → Type 0) : Type 0 where
  pub header : List ℕ
  pub pad : List ℕ
  pub beyond : List ℕ
  pub bytes_are : bytes ≡ header ++ (m.payload ++ (pad ++ beyond))
  pub message : IsMessage place header m
  pub more : m.head.more ≡ true
  pub short : length pad ≤ 3
  pub aligned : (4 + m.head.size + length pad) % 4 ≡ 0
  pub next : Next (place + (4 + m.head.size + length pad)) beyond

-- from the place on, the bytes begin with these messages, and the last of them is the last of the PDU
abbrev pub Spells : ℕ → List ℕ → List Message → Type 0
Spells place bytes [] = ⊥
Spells place bytes (m ∷ []) = IsLast place bytes m
Spells place bytes (m ∷ n ∷ ms) = GoesOn place bytes m (λ at rest. Spells at rest (n ∷ ms))
