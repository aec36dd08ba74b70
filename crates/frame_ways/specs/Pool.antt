-- The memory of frames that landed: this project's profile of a replay.
use Rattle.std.specs.Prelude.{ℕ, ◌-◌, List, [], ◌∷◌, ◌++◌, length, take, if◌then◌else◌, nat_lt}

-- the frames whose memory is kept, the next one to be used last; and for how many there is room
pub record Pool : Type 0 where
  pub room : ℕ
  pub spare : List (List ℕ)

-- none, and room for none
abbrev pub no_spare : Pool
no_spare = record { room = 0; spare = [] }

-- with a frame more, where there is room for it
abbrev pub with_spare : List ℕ → Pool → Pool
with_spare frame p = if nat_lt (length p.spare) p.room then record { room = p.room; spare = p.spare ++ frame ∷ [] } else p

-- without the next one, and with room for 32
abbrev pub without_spare : Pool → Pool
without_spare p = record { room = 32; spare = take (length p.spare - 1) p.spare }
