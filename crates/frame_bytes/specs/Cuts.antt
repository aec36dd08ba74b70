-- Messages of type 0 that are sent in pieces (O-RAN.WG4.CUS, eCPRI application layer fragmentation).
use Rattle.std.specs.Prelude.{ℕ, zero, suc, ◌+◌, ◌*◌, List, [], ◌++◌, length, take, drop, min}
use Rattle.ecpri_fragments.specs.declared.sequence.SeqField.{SeqField}
use Rattle.frame_bytes.specs.Transport.{frame_of}
use Rattle.ecpri_fragments.specs.Pieces.{piece_count}

-- the bytes from one place to another
abbrev pub cut : ℕ → ℕ → List ℕ → List ℕ
cut from to bytes = drop from (take to bytes)

-- the frame of a piece of a message: eCPRI type 0
abbrev pub piece_frame : ℕ → SeqField → ℕ → ℕ → List ℕ → List ℕ
piece_frame id seq from to message = frame_of 0 id seq (cut from to message)

-- piece number k
abbrev pub piece_at : ℕ → List ℕ → ℕ → List ℕ
piece_at fragment message k = cut (k * fragment) (min (k * fragment + fragment) (length message)) message

-- n pieces from number k on, joined
abbrev pub joined_from : ℕ → List ℕ → ℕ → ℕ → List ℕ
joined_from fragment message k zero = []
joined_from fragment message k (suc n) = piece_at fragment message k ++ joined_from fragment message (k + 1) n

-- all pieces of the message, joined
abbrev pub pieces_joined : ℕ → List ℕ → List ℕ
pieces_joined fragment message = joined_from fragment message 0 (piece_count fragment (length message))
