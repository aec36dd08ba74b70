-- How many cells are missing, and how many PRBs silent, for each reason; and all that the reasons add to a text (this project's profile).
use Rattle.std.specs.Prelude.{ℕ, ◌==◌, Bool, ◌&&◌, if◌then◌else◌, List, [], ◌∷◌, ◌++◌, filter, length}
use Rattle.std.specs.List.{flat_map}
use Rattle.air_source.specs.Units.{same_side}
use Rattle.air_source.specs.declared.events.Event.{Event}
use Rattle.air_source.specs.declared.events.Side.{Side}
use Rattle.air_source.specs.declared.events.Side.TheVariants.{Ru, Du}
use Rattle.window_config.specs.declared.config.Config.{Config}
use Rattle.window_config.specs.declared.endpoints.EndpointConfig.{EndpointConfig}
use Rattle.window_config.specs.declared.plan.PlanLine.{PlanLine}
use Rattle.explain_model.specs.Reasons.{word_of}
use Rattle.explain_model.specs.declared.reasons.ReasonWord.{ReasonWord}
use Rattle.explain_model.specs.declared.reasons.ReasonWord.TheVariants.{Other, Late, Early, Refused, WrongWay, Repeated, Unfinished, CommandMismatch, CommandLate, CommandEarly, CommandRange, CommandRepeat, CommandOverlap, CommandFull, NoData, NoCommand}
use Rattle.explain_model.specs.declared.values.ExplainLine.{ExplainLine}
use Rattle.explain_model.specs.declared.values.ExplainLine.TheVariants as line
use Rattle.explain_model.specs.Text.{Reasoned}
use Rattle.explain_model.specs.Missing.{MissingCell, missing_of, why_lines}
use Rattle.explain_model.specs.Same.{same_word}
use Rattle.explain_model.specs.Silent.{SilentPrb, SilentSymbol, silent_in, silent_lines}
use Rattle.explain_model.specs.Unused.{unused_lines}

-- the words of an element for which no command was accepted
abbrev pub silent_words : List ReasonWord
silent_words = CommandMismatch ∷ CommandLate ∷ CommandEarly ∷ CommandRange ∷ CommandRepeat ∷ CommandOverlap ∷ CommandFull ∷ NoCommand ∷ []

-- all words, in their order
abbrev pub missing_words : List ReasonWord
missing_words = Other ∷ Late ∷ Early ∷ Refused ∷ WrongWay ∷ Repeated ∷ Unfinished
    ∷ CommandMismatch ∷ CommandLate ∷ CommandEarly ∷ CommandRange ∷ CommandRepeat ∷ CommandOverlap ∷ CommandFull ∷ NoData ∷ NoCommand ∷ []

-- a missing cell of a unit and of the endpoint with this id, with this word
abbrev pub is_missing_by : Side → ℕ → ReasonWord → MissingCell → Bool
is_missing_by side id word x = same_side x.cell.side side && ((x.cell.id == id) && same_word (word_of x.reason) word)

unfoldable pub missing_count : List MissingCell → Side → ℕ → ReasonWord → ℕ
missing_count xs side id word = length (filter (is_missing_by side id word) xs)

-- those of an endpoint, over all lines and symbols
abbrev pub silent_at : ℕ → SilentSymbol → List SilentPrb
silent_at id s = if s.planned.endpoint.id == id then s.prbs else []

unfoldable pub silent_count : List SilentSymbol → ℕ → ReasonWord → ℕ
silent_count ss id word = length (filter (λ x. same_word (word_of x.reason) word) (flat_map (silent_at id) ss))

-- a number that is not 0
abbrev pub missing_sum : Side → ℕ → ReasonWord → ℕ → List ExplainLine
missing_sum side id word n = if n == 0 then [] else line.MissingCells side id word n ∷ []

abbrev pub silent_sum : Side → ℕ → ReasonWord → ℕ → List ExplainLine
silent_sum side id word n = if n == 0 then [] else line.SilentPrbs side id word n ∷ []

unfoldable pub missing_sums : List MissingCell → Side → ℕ → List ExplainLine
missing_sums xs side id = flat_map (λ word. missing_sum side id word (missing_count xs side id word)) missing_words

-- what is silent is silent at the radio unit
unfoldable pub silent_sums : List SilentSymbol → Side → ℕ → List ExplainLine
silent_sums xs Ru id = flat_map (λ word. silent_sum Ru id word (silent_count xs id word)) silent_words
silent_sums xs Du id = []

-- those of an endpoint after its number of shown cells
abbrev pub sums_of : List MissingCell → List SilentSymbol → Side → EndpointConfig → List ExplainLine
sums_of missing silent side e = missing_sums missing side e.id ++ silent_sums silent side e.id

-- all that the reasons add, where the lines of the plan have these numbers in the document
abbrev pub reasoned : Config → List PlanLine → List ℕ → List Event → Reasoned
reasoned c plan numbers events = record {
  whys = why_lines c events ++ (silent_lines c plan numbers events ++ unused_lines c events);
  sums = sums_of (missing_of c events) (silent_in c plan numbers events);
}
