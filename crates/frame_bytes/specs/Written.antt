-- What of a message is in the room of a piece while it is written.
use Rattle.std.specs.Prelude.{◌≡◌, ℕ, List, length, take}
use Rattle.frame_bytes.specs.declared.parts.Part.{Part}
use Rattle.frame_bytes.specs.declared.pieces.Span.{Span}
use Rattle.frame_bytes.specs.Cuts.{cut}

-- after these first bytes of the message, the room begins with what the span holds of them
abbrev pub Stands : Span → List ℕ → List ℕ → Type 0
Stands span before room = take (length (cut span.from span.to before)) room ≡ cut span.from span.to before

-- the bytes of a part
abbrev pub bytes_of : Part → List ℕ
bytes_of part = take part.len part.bytes
