-- The bytes of a picture.
use Rattle.std.specs.Prelude.{◌≡◌, ℕ, List, Bool, true, ◌&&◌, ◌||◌, ◌==◌, nat_le}
use Rattle.std.specs.List.{list_all}

-- a line feed, or printable ASCII
abbrev pub is_plain_byte : ℕ → Bool
is_plain_byte b = (b == 10) || (nat_le 32 b && nat_le b 126)

-- all of them are
pub record IsPlain (text : List ℕ) : Type 0 where
  pub is : list_all is_plain_byte text ≡ true
