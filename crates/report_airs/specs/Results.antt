-- The line of the delays that a unit measured (this project's profile).
use Rattle.std.specs.Prelude.{ℤ, List, [], ◌∷◌, ◌++◌, codes, length, ℕ}
use Rattle.std.specs.List.{fold}
use Rattle.std.specs.Int.{int_min, int_max}
use Rattle.std.specs.Fmt.{signed_decimal}
use Rattle.air_source.specs.declared.events.Side.{Side}
use Rattle.air_source.specs.UnitLines.{side_text}
use Rattle.fh_base.specs.Words.{spaced_text}

-- the least of a number and others, and the greatest
abbrev pub least_of : ℤ → List ℤ → ℤ
least_of z zs = fold int_min z zs

abbrev pub greatest_of : ℤ → List ℤ → ℤ
greatest_of z zs = fold int_max z zs

-- the line of so many results, by the least and the greatest
unfoldable pub range_line : Side → ℕ → ℤ → ℤ → List ℕ
range_line side n least greatest =
    codes "delays " ++ side_text side ++ spaced_text n ++ codes " " ++ signed_decimal least ++ codes " " ++ signed_decimal greatest ++ codes "\n"

-- the line of results, where there are any
abbrev pub delays_text : Side → List ℤ → List ℕ
delays_text side [] = []
delays_text side (z ∷ zs) = range_line side (length (z ∷ zs)) (least_of z zs) (greatest_of z zs)
