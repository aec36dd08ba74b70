-- Messages of several parts: how the sections of a symbol are cut into U-plane messages, how these are numbered, and how many
-- frames leave before a message's own (O-RAN.WG4.CUS, U-plane messages and sequence identifiers; the cut is this project's
-- profile). A part is anything that has a slot, a symbol, a filterIndex and a length.
use Rattle.std.specs.Prelude.{ℕ, ◌+◌, Bool, ◌&&◌, ◌==◌, nat_lt, nat_le, if◌then◌else◌, List, [], ◌∷◌, ◌++◌, length, map, sum}
use Rattle.fh_base.specs.declared.values.Slot.{Slot}
use Rattle.unit_model.specs.Claims.{same_slot}
use Rattle.unit_model.specs.Terms.{MESSAGE_BYTES}

-- what is asked of a part: its slot, symbol and filterIndex, and the bytes of its section with its headers
pub record PartFields (P : Type 0) : Type 0 where
  pub slot : P → Slot
  pub symbol : P → ℕ
  pub filter : P → ℕ
  pub size : P → ℕ

-- a message: its parts in their order, of which there is one at least
pub record Message (P : Type 0) : Type 0 where
  pub first : P
  pub more : List P

abbrev pub alone : {P : Type 0} → P → Message P
alone p = record { first = p; more = [] }

abbrev pub parts_of : {P : Type 0} → Message P → List P
parts_of m = m.first ∷ m.more

abbrev pub with_part : {P : Type 0} → Message P → P → Message P
with_part m p = record { first = m.first; more = m.more ++ p ∷ [] }

-- the application bytes of a U-plane message: its header has 4
abbrev pub size_of : {P : Type 0} → PartFields P → Message P → ℕ
size_of f m = 4 + sum (map f.size (parts_of m))

-- two parts are of one slot and symbol
abbrev pub same_symbol : {P : Type 0} → PartFields P → P → P → Bool
same_symbol f p q = same_slot (f.slot p) (f.slot q) && (f.symbol p == f.symbol q)

-- a message takes one part more: of its slot, symbol and filterIndex, which are in its one header, where it has fewer than so many,
-- and at most 16,384 bytes with it
abbrev pub takes : {P : Type 0} → PartFields P → ℕ → Message P → P → Bool
takes f most m p =
    same_symbol f m.first p && ((f.filter m.first == f.filter p)
    && (nat_lt (length (parts_of m)) most && nat_le (size_of f m + f.size p) MESSAGE_BYTES))

-- the messages that these parts make after one that may take more
unfoldable pub packs_behind : {P : Type 0} → PartFields P → ℕ → Message P → List P → List (Message P)
packs_behind f most m [] = m ∷ []
packs_behind f most m (p ∷ ps) =
    if takes f most m p then packs_behind f most (with_part m p) ps else m ∷ packs_behind f most (alone p) ps

-- the messages of these parts, cut from the front
abbrev pub packs : {P : Type 0} → PartFields P → ℕ → List P → List (Message P)
packs f most [] = []
packs f most (p ∷ ps) = packs_behind f most (alone p) ps

-- ---- numbers

-- a message, its number, and how many frames of its slot and symbol leave before its own
pub record Numbered (P : Type 0) : Type 0 where
  pub message : Message P
  pub number : ℕ
  pub before : ℕ

-- the frames of the messages right before one, the newest first, that are of its slot and symbol
unfoldable pub frames_before : {P : Type 0} → PartFields P → (Message P → ℕ) → Message P → List (Message P) → ℕ
frames_before f frames m [] = 0
frames_before f frames m (n ∷ earlier) = if same_symbol f m.first n.first then frames n + frames_before f frames m earlier else 0

-- each message's number is how many precede it
unfoldable pub numbered_behind : {P : Type 0} → PartFields P → (Message P → ℕ) → List (Message P) → List (Message P) → List (Numbered P)
numbered_behind f frames earlier [] = []
numbered_behind f frames earlier (m ∷ ms) =
    record { message = m; number = length earlier; before = frames_before f frames m earlier } ∷ numbered_behind f frames (m ∷ earlier) ms

-- messages in their order, where so many frames carry each
abbrev pub numbered : {P : Type 0} → PartFields P → (Message P → ℕ) → List (Message P) → List (Numbered P)
numbered f frames ms = numbered_behind f frames [] ms
