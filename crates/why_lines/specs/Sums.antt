-- Of how many cells and PRBs lines tell, and the lines that say so (this project's profile).
use Rattle.std.specs.Prelude.{◌≡◌, ℕ, ◌+◌, ◌^◌, ◌≤◌, ◌⊎◌, ◌==◌, ◌&&◌, if◌then◌else◌, List, [], ◌∷◌, ◌++◌, map, Option, Some, None}
use Rattle.std.specs.List.{flat_map}
use Rattle.air_source.specs.Units.{same_side}
use Rattle.air_source.specs.declared.events.Side.{Side}
use Rattle.air_source.specs.declared.events.Side.TheVariants.{Ru, Du}
use Rattle.window_config.specs.declared.endpoints.EndpointConfig.{EndpointConfig}
use Rattle.explain_model.specs.Reasons.{word_of}
use Rattle.explain_model.specs.declared.places.PrbRun.{PrbRun}
use Rattle.explain_model.specs.declared.reasons.ReasonWord.{ReasonWord}
use Rattle.explain_model.specs.declared.values.CellWord.{CellWord}
use Rattle.explain_model.specs.declared.values.CellWord.TheVariants as cell
use Rattle.explain_model.specs.declared.values.ExplainLine.{ExplainLine}
use Rattle.explain_model.specs.declared.values.ExplainLine.TheVariants as line
use Rattle.explain_model.specs.Text.{shown_by}
use Rattle.explain_model.specs.Sums.{missing_sum, missing_words, silent_sum, silent_words}
use Rattle.why_lines.specs.Words.{all_words, same_sum}
use Rattle.why_lines.specs.declared.line_sums.LineSum.{LineSum}
use Rattle.why_lines.specs.declared.sums.ReasonSums.{ReasonSums}
use Rattle.why_lines.specs.declared.unit_sums.UnitSums.{UnitSums}
use Rattle.why_lines.specs.declared.words.SumWord.{SumWord}
use Rattle.why_lines.specs.declared.words.SumWord.TheVariants.{Shown, Missing, Silent}

-- ---- what a line tells of

-- the cells or PRBs of a run
abbrev pub sum_with : PrbRun → SumWord → LineSum
sum_with run word = record { side = run.side; id = run.place.id; word = word; number = run.num }

-- why cells are missing is told by lines of their own
abbrev pub sum_of_run : PrbRun → CellWord → Option LineSum
sum_of_run run (cell.Shown from) = Some (sum_with run Shown)
sum_of_run run cell.Missing = None

abbrev pub sum_of_line : ExplainLine → Option LineSum
sum_of_line (line.Cells run mask word) = sum_of_run run word
sum_of_line (line.WhyMissing run mask reason) = Some (sum_with run (Missing (word_of reason)))
sum_of_line (line.WhySilent run mask number reason) = Some (sum_with run (Silent (word_of reason)))
sum_of_line _ = None

-- of these the ones of a unit, of the endpoint with this id and of a word
abbrev pub number_by : Side → ℕ → SumWord → Option LineSum → ℕ
number_by side id word None = 0
number_by side id word (Some s) = if same_side s.side side && ((s.id == id) && same_sum s.word word) then s.number else 0

-- ---- what lines tell of together

unfoldable pub sum_in : Side → ℕ → SumWord → List ExplainLine → ℕ
sum_in side id word [] = 0
sum_in side id word (l ∷ ls) = number_by side id word (sum_of_line l) + sum_in side id word ls

-- how many cells are shown
abbrev pub shown_in : Side → ℕ → List ExplainLine → ℕ
shown_in side id ls = sum_in side id Shown ls

-- how many cells are missing with this word
abbrev pub missing_in : Side → ℕ → ReasonWord → List ExplainLine → ℕ
missing_in side id word ls = sum_in side id (Missing word) ls

-- how many PRBs are silent with this word
abbrev pub silent_in : Side → ℕ → ReasonWord → List ExplainLine → ℕ
silent_in side id word ls = sum_in side id (Silent word) ls

-- ---- what is kept of lines

-- the sums of these lines for a unit and an endpoint
abbrev pub sums_by : Side → List ExplainLine → EndpointConfig → UnitSums
sums_by side ls e = record { side = side; id = e.id; numbers = map (λ word. sum_in side e.id word ls) all_words }

-- for each endpoint of the one unit, then of the other
unfoldable pub sums_after : List EndpointConfig → List ExplainLine → List UnitSums
sums_after es ls = map (sums_by Ru ls) es ++ map (sums_by Du ls) es

-- they are the sums of these lines, for both units and these endpoints
unfoldable pub AreSums : List EndpointConfig → List ExplainLine → ReasonSums → Type 0
AreSums es ls s = s.all.items ≡ sums_after es ls

-- of some endpoint the number for this word does not fit 64 bits
abbrev pub IsOver : Side → SumWord → List ExplainLine → List EndpointConfig → Type 0
IsOver side word ls [] = ⊥
IsOver side word ls (e ∷ es) = (2 ^ 64 ≤ sum_in side e.id word ls) ⊎ IsOver side word ls es

-- a number of these lines does not fit 64 bits
pub record DoNotFit (es : List EndpointConfig) (ls : List ExplainLine) : Type 0 where
  pub side : Side
  pub word : SumWord
  pub over : IsOver side word ls es

-- ---- the lines that say so

abbrev pub missing_text : Side → ℕ → List ExplainLine → List ExplainLine
missing_text side id ls = flat_map (λ word. missing_sum side id word (missing_in side id word ls)) missing_words

abbrev pub silent_text : Side → ℕ → List ExplainLine → List ExplainLine
silent_text side id ls = flat_map (λ word. silent_sum side id word (silent_in side id word ls)) silent_words

abbrev pub endpoint_text : Side → List ExplainLine → EndpointConfig → List ExplainLine
endpoint_text side ls e = shown_by side e.id (shown_in side e.id ls) ++ (missing_text side e.id ls ++ silent_text side e.id ls)

-- those of a unit, endpoint by endpoint
unfoldable pub sum_text : List EndpointConfig → Side → List ExplainLine → List ExplainLine
sum_text es side ls = flat_map (endpoint_text side ls) es
