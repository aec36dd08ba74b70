-- What is beside a row.
use Rattle.std.specs.Prelude.{ℕ, ℤ, List, [], ◌++◌, length, ◌==◌, Option, Some, None, if◌then◌else◌, codes, decimal, true, false}
use Rattle.std.specs.Fmt.{signed_decimal}
use Rattle.pictures.specs.declared.tallies.Counts.{Counts}
use Rattle.pictures.specs.Elements.{text_text}
use Rattle.pictures.specs.declared.texts.Anchor.TheVariants.{End}

-- a number that is not 0, after a comma where something is before it
abbrev pub count_part : List ℕ → ℕ → List ℕ → List ℕ
count_part before n name = if n == 0 then before else ((if length before == 0 then before else before ++ codes ", ") ++ decimal n ++ name)

abbrev pub or_nothing : List ℕ → List ℕ
or_nothing t = if length t == 0 then codes "nothing arrived" else t

-- how many sections are of each kind, where any are
unfoldable pub counts_text : Counts → List ℕ
counts_text c = or_nothing (count_part (count_part (count_part [] c.on_time (codes " on time")) c.late (codes " late")) c.early (codes " early"))

unfoldable pub sections_text : ℕ → Counts → List ℕ
sections_text y c = text_text 204 y false End (counts_text c)

-- a least margin, where there is one
abbrev pub least_text : ℕ → Option ℤ → List ℕ → List ℕ
least_text y None what = []
least_text y (Some ns) what = text_text 204 y true End (codes "least " ++ signed_decimal ns ++ what)

abbrev pub since_text : ℕ → Option ℤ → List ℕ
since_text y since = least_text y since (codes " ns after opening")

abbrev pub until_text : ℕ → Option ℤ → List ℕ
until_text y until = least_text y until (codes " ns before closing")
