-- The bytes of a message that is in pieces.
use Rattle.std.specs.Prelude.{ℕ, ◌+◌, List, [], ◌++◌, drop, slice_index_or}
use Rattle.ecpri_fragments.specs.declared.assembly.Lease.{Lease}
use Rattle.ecpri_fragments.specs.Assemblies.{message_of}
use Rattle.ecpri_fragments.specs.Pieces.{joined}

abbrev pub pieces_of : Lease → List (List ℕ)
pieces_of lease = (message_of lease).pieces

-- all bytes of the message that a lease shows
abbrev pub message_bytes : Lease → List ℕ
message_bytes lease = joined (pieces_of lease)

-- the piece with this number, empty where there is none
abbrev pub piece_of : List (List ℕ) → ℕ → List ℕ
piece_of pieces k = slice_index_or pieces k []

-- the bytes from the place `at` of piece k on, up to the end of the last piece
abbrev pub bytes_from : List (List ℕ) → ℕ → ℕ → List ℕ
bytes_from pieces k at = drop at (piece_of pieces k) ++ joined (drop (k + 1) pieces)
