-- When a packet was seen (pcapng). All times count from 2^63 s before the time 0 of the file, so that an offset of either sign gives
-- none below 0; only their differences are used.
use Rattle.std.specs.Prelude.{ℕ, ◌+◌, ◌-◌, ◌*◌, ◌/◌, ◌^◌, ◌%◌, nat_lt, if◌then◌else◌}
use Rattle.pcap_frames.specs.declared.pcapng_values.Interface.{Interface}

-- how many units of time a second has
abbrev pub units_of : ℕ → ℕ
units_of resolution = if nat_lt resolution 128 then 10 ^ resolution else 2 ^ (resolution - 128)

-- a time of so many units of an interface, in nanoseconds, rounded down
abbrev pub time_of : Interface → ℕ → ℕ
time_of i count = count * 10 ^ 9 / units_of i.resolution + i.offset * 10 ^ 9

-- the offset of an interface whose 64 bits, with sign, are these
abbrev pub shifted : ℕ → ℕ
shifted bits = (bits + 2 ^ 63) % 2 ^ 64
