-- The eCPRI frame in an Ethernet frame: IEEE 802.3 with the tags of 802.1Q, two at most (this project's profile).
use Rattle.std.specs.Prelude.{ℕ, ◌+◌, nat_eq, if◌then◌else◌, Bool, ◌||◌, List, [], ◌∷◌, drop, Option, Some, None}
use Rattle.std.specs.List.{starts_with}

-- whether some bytes are at a place; where fewer are left they are not
abbrev pub stands_at : List ℕ → ℕ → List ℕ → Bool
stands_at packet place some = starts_with nat_eq (drop place packet) some

-- whether a customer tag or a service tag begins at a place
abbrev pub is_tag : List ℕ → ℕ → Bool
is_tag packet place = stands_at packet place (0x81 ∷ 0x00 ∷ []) || stands_at packet place (0x88 ∷ 0xa8 ∷ [])

-- where the EtherType is: after the 12 bytes of addresses and at most two tags of four bytes
abbrev pub type_place : List ℕ → ℕ
type_place packet = if is_tag packet 12 then (if is_tag packet 16 then 20 else 16) else 12

-- the bytes after the EtherType of eCPRI; none where the EtherType is another or is not complete
abbrev pub ecpri_in : List ℕ → Option (List ℕ)
ecpri_in packet = if stands_at packet (type_place packet) (0xae ∷ 0xfe ∷ []) then Some (drop (type_place packet + 2) packet) else None
