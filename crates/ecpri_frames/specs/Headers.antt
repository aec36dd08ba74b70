-- The common header of a message, as bit fields (eCPRI 2.0, section 3.1.3).
use Rattle.std.specs.Prelude.{◌≡◌, ℕ, ◌==◌, List, length}
use Rattle.bfp_codec.specs.Field.{field}
use Rattle.ecpri_frames.specs.declared.heads.Head.{Head}

-- revision 4 bits, reserved 3, C 1, message type 8, payload size 16
abbrev pub revision : List ℕ → ℕ
revision bytes = field bytes 0 4

abbrev pub head_of : List ℕ → Head
head_of bytes = record { more = field bytes 7 1 == 1; kind = field bytes 8 8; size = field bytes 16 16 }

-- these four bytes read as the header, of revision 1, and each reserved bit is 0
pub record WritesHead (head : Head) (bytes : List ℕ) : Type 0 where
  pub len : length bytes ≡ 4
  pub revision : revision bytes ≡ 1
  pub reserved : field bytes 4 3 ≡ 0
  pub reads : head_of bytes ≡ head
