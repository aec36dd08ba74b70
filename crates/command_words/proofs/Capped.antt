-- A number that is read digit by digit, and no further than past its bounds.
use Rattle.std.proofs.Common.{◌≡◌, ℕ, ◌+◌, ◌*◌, ◌<◌, List, length, min, take, get_or, refl, ap, ◌∙◌, arith}
use Rattle.std.specs.Char.{digit_value}
use Rattle.std.specs.Str.Parse.{digits_value}
use Rattle.fh_base.proofs.DigitSteps.{value_more}

-- one digit more, capped before and after
capped : (v d h : ℕ) → min (min v h * 10 + d) h ≡ min (v * 10 + d) h
capped v d h = omega arith

pub capped_more : (xs : List ℕ) (i n d h : ℕ) → i < length xs → n ≡ min (digits_value 10 (take i xs)) h → digit_value (get_or xs i 0) ≡ d
    → min (n * 10 + d) h ≡ min (digits_value 10 (take (i + 1) xs)) h
capped_more xs i n d h lt is digit =
    ap (λ (k : ℕ). min (k * 10 + d) h) is ∙ capped (digits_value 10 (take i xs)) d h
    ∙ ap (λ (k : ℕ). min k h) (value_more 10 xs i (digits_value 10 (take i xs)) d lt refl digit)
