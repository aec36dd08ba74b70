-- Subcarrier spacings and their codes: the low four bits of frameStructure (O-RAN.WG4.CUS, C-plane section header).
use Rattle.std.specs.Prelude.{ℕ, Bool, Option, Some, None, nat_le, ◌==◌, ◌||◌, if◌then◌else◌}
use Rattle.fh_base.specs.declared.spacing.Spacing.{Spacing}
use Rattle.fh_base.specs.declared.spacing.Spacing.TheVariants.{Khz15, Khz30, Khz60, Khz120, Khz240, Khz1x25, Khz5}

-- 15, 30, 60, 120 and 240 kHz
abbrev pub is_normal_code : ℕ → Bool
is_normal_code code = nat_le code 4

-- these, 1.25 kHz and 5 kHz
abbrev pub is_spacing_code : ℕ → Bool
is_spacing_code code = is_normal_code code || code == 12 || code == 14

abbrev pub code_of_spacing : Spacing → ℕ
code_of_spacing Khz15 = 0
code_of_spacing Khz30 = 1
code_of_spacing Khz60 = 2
code_of_spacing Khz120 = 3
code_of_spacing Khz240 = 4
code_of_spacing Khz1x25 = 12
code_of_spacing Khz5 = 14

abbrev pub spacing_of : ℕ → Option Spacing
spacing_of code =
    if code == 0 then Some Khz15 else (if code == 1 then Some Khz30 else (if code == 2 then Some Khz60 else (
    if code == 3 then Some Khz120 else (if code == 4 then Some Khz240 else (
    if code == 12 then Some Khz1x25 else (if code == 14 then Some Khz5 else None))))))

-- the u of 3GPP TS 38.211, table 4.2-1, where the spacing is 15 * 2^u kHz; the lower spacings have the slots of 15 kHz
abbrev pub exponent_of : Spacing → ℕ
exponent_of Khz15 = 0
exponent_of Khz30 = 1
exponent_of Khz60 = 2
exponent_of Khz120 = 3
exponent_of Khz240 = 4
exponent_of Khz1x25 = 0
exponent_of Khz5 = 0

-- the length of a symbol without its cyclic prefix, in Ts (3GPP TS 38.211, 5.3.1 and 5.3.2)
abbrev pub useful_of : Spacing → ℕ
useful_of Khz15 = 2048
useful_of Khz30 = 1024
useful_of Khz60 = 512
useful_of Khz120 = 256
useful_of Khz240 = 128
useful_of Khz1x25 = 24576
useful_of Khz5 = 6144
