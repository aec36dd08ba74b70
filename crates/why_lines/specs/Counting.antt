-- A line more, and the lines of the numbers that are kept.
use Rattle.std.specs.Prelude.{ℕ, ◌+◌, ◌^◌, ◌==◌, nat_lt, Bool, not, ◌&&◌, ◌||◌, if◌then◌else◌, List, [], replicate, slice_index, slice_set}
use Rattle.std.specs.List.{flat_map}
use Rattle.air_source.specs.Units.{same_side}
use Rattle.air_source.specs.declared.events.Side.{Side}
use Rattle.window_config.specs.declared.endpoints.EndpointConfig.{EndpointConfig}
use Rattle.explain_model.specs.declared.values.ExplainLine.{ExplainLine}
use Rattle.explain_model.specs.Text.{shown_by}
use Rattle.explain_model.specs.Sums.{missing_sum, silent_sum}
use Rattle.why_lines.specs.Words.{place_in_sums, told_words}
use Rattle.why_lines.specs.declared.line_sums.LineSum.{LineSum}
use Rattle.why_lines.specs.declared.unit_sums.UnitSums.{UnitSums}
use Rattle.why_lines.specs.declared.words.SumWord.{SumWord}
use Rattle.why_lines.specs.declared.words.SumWord.TheVariants.{Shown, Missing, Silent}

-- ---- a line more

abbrev pub no_sums : Side → ℕ → UnitSums
no_sums side id = record { side = side; id = id; numbers = replicate 33 0 }

abbrev pub none_of : Side → EndpointConfig → UnitSums
none_of side e = no_sums side e.id

abbrev pub number_of : UnitSums → SumWord → ℕ
number_of m word = slice_index m.numbers (place_in_sums word)

-- what a line tells is of this unit and endpoint
abbrev pub is_of : UnitSums → LineSum → Bool
is_of m s = same_side s.side m.side && (s.id == m.id)

-- the number stays one of 64 bits
abbrev pub has_room : LineSum → UnitSums → Bool
has_room s m = not (is_of m s) || nat_lt (number_of m s.word + s.number) (2 ^ 64)

abbrev pub added : LineSum → UnitSums → UnitSums
added s m = if is_of m s then record m { numbers = slice_set m.numbers (place_in_sums s.word) (number_of m s.word + s.number) } else m

-- ---- their lines

abbrev pub line_by : Side → ℕ → SumWord → ℕ → List ExplainLine
line_by side id Shown n = shown_by side id n
line_by side id (Missing word) n = missing_sum side id word n
line_by side id (Silent word) n = silent_sum side id word n

abbrev pub word_lines : UnitSums → SumWord → List ExplainLine
word_lines m word = line_by m.side m.id word (number_of m word)

unfoldable pub unit_lines : UnitSums → List ExplainLine
unit_lines m = flat_map (word_lines m) told_words

-- those of a unit
abbrev pub lines_at : Side → UnitSums → List ExplainLine
lines_at side m = if same_side m.side side then unit_lines m else []
