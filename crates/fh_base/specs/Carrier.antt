-- The PRBs that a section names on a carrier of so many (O-RAN.WG4.CUS, startPrb and numPrb); numPrb 0 means all, whatever startPrb.
use Rattle.std.specs.Prelude.{ℕ, ◌+◌, Bool, not, ◌&&◌, Option, Some, None, ◌==◌, nat_lt, if◌then◌else◌}

-- whether they go past the carrier
abbrev pub is_outside : ℕ → ℕ → ℕ → Bool
is_outside prbs start num = not (num == 0) && nat_lt prbs (start + num)

-- the first of them
abbrev pub first_of : ℕ → ℕ → ℕ
first_of start num = if num == 0 then 0 else start

-- their number
abbrev pub count_of : ℕ → ℕ → ℕ
count_of prbs num = if num == 0 then prbs else num

-- the first of them and their number, where they do not go past the carrier
abbrev pub prbs_of : ℕ → ℕ → ℕ → Option (ℕ × ℕ)
prbs_of start num prbs = if is_outside prbs start num then None else Some (first_of start num, count_of prbs num)
