-- Lengths of symbols, in ticks. A tick is 1/1536 ns, one Ts (1/30.72 MHz) is 50,000 ticks.
use Rattle.std.specs.Prelude.{ℕ, ◌+◌, ◌*◌, ◌/◌, ◌^◌, nat_lt, if◌then◌else◌}
use Rattle.fh_base.specs.declared.spacing.Spacing.{Spacing}
use Rattle.fh_base.specs.Spacing.{exponent_of, useful_of}

abbrev pub ticks_of_ts : ℕ → ℕ
ticks_of_ts n = n * 50000

-- the 16 Ts that a symbol is longer by, where it is before the symbol i
abbrev pub longer_before : ℕ → ℕ → ℕ
longer_before symbol i = if nat_lt symbol i then ticks_of_ts 16 else 0

-- the start of the symbol i of a subframe with the normal cyclic prefix, after the subframe's: 2048 and 144 Ts over 2^u for each
-- symbol before it, and 16 Ts more for each of the symbols 0 and 7 * 2^u (3GPP TS 38.211, 5.3.1)
abbrev pub normal_start : ℕ → ℕ → ℕ
normal_start u i = ticks_of_ts (i * 2192) / 2 ^ u + longer_before 0 i + longer_before (7 * 2 ^ u) i

-- a symbol of an offset endpoint; its cpLength is counted in Ts over 2^u
abbrev pub prefixed : Spacing → ℕ → ℕ
prefixed spacing cp_length = ticks_of_ts (useful_of spacing) + ticks_of_ts cp_length / 2 ^ exponent_of spacing
