-- A set of the numbers of frames, a bit for each, beside a list of deliveries.
use Rattle.std.specs.Prelude.{ℕ, ◌≡◌, ◌==◌, ◌/◌, ◌%◌, Bool, List, slice_index_or}
use Rattle.std.specs.Int.{bit_at}
use Rattle.std.specs.List.{list_any}
use Rattle.fh_document.specs.declared.delivered.Delivery.{Delivery}
use Rattle.fh_document.specs.Delivered.{frame_number}

-- the bit of q is set: words of 64 bits, the first number in the lowest bit of the first
unfoldable pub is_marked : List ℕ → ℕ → Bool
is_marked words q = bit_at (slice_index_or words (q / 64) 0) (q % 64) == 1

-- the set has exactly the numbers of the frames that the list speaks of
abbrev pub AreNumbers : List ℕ → List Delivery → Type 0
AreNumbers words ds = (q : ℕ) → is_marked words q ≡ list_any (λ d. q == frame_number d) ds
