-- The samples of a PRB: 12 pairs I, Q, and their 24 numbers.
use Rattle.std.specs.Prelude.{ℕ, ℤ, pos, ◌+◌, ◌*◌, ◌/◌, ◌%◌, List, map, slice_index_or, ◌==◌, if◌then◌else◌}
use Rattle.std.specs.List.{range_with_len}
use Rattle.bfp_codec.specs.declared.samples.Iq.{Iq}
use Rattle.bfp_codec.specs.declared.samples.Wide.{Wide}

abbrev pub no_iq : Iq
no_iq = record { i = pos 0; q = pos 0 }

abbrev pub no_wide : Wide
no_wide = record { i = pos 0; q = pos 0 }

-- number k of a block, from 0: I of each pair and then its Q
abbrev pub component : List Iq → ℕ → ℤ
component block k = if k % 2 == 0 then (slice_index_or block (k / 2) no_iq).i else (slice_index_or block (k / 2) no_iq).q

-- pair k of the numbers that f gives
abbrev pub pair_of : (ℕ → ℤ) → ℕ → Wide
pair_of f k = record { i = f (2 * k); q = f (2 * k + 1) }

-- the block of the 24 numbers that f gives
unfoldable pub wide_block : (ℕ → ℤ) → List Wide
wide_block f = map (pair_of f) (range_with_len 0 12)

-- wide samples that fit 16 bits, as samples to be packed
abbrev pub iq_of : Wide → Iq
iq_of s = record { i = s.i; q = s.q }

unfoldable pub samples_of : List Wide → List Iq
samples_of block = map iq_of block
