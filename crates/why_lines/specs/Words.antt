-- Of what a sum is (this project's profile).
use Rattle.std.specs.Prelude.{ℕ, ◌+◌, Bool, true, false, List, ◌∷◌, ◌++◌, map}
use Rattle.explain_model.specs.Same.{place_of, same_word}
use Rattle.explain_model.specs.Sums.{missing_words, silent_words}
use Rattle.why_lines.specs.declared.words.SumWord.{SumWord}
use Rattle.why_lines.specs.declared.words.SumWord.TheVariants.{Shown, Missing, Silent}

-- its place among all
abbrev pub place_in_sums : SumWord → ℕ
place_in_sums Shown = 0
place_in_sums (Missing word) = 1 + place_of word
place_in_sums (Silent word) = 17 + place_of word

abbrev pub same_sum : SumWord → SumWord → Bool
same_sum Shown Shown = true
same_sum (Missing a) (Missing b) = same_word a b
same_sum (Silent a) (Silent b) = same_word a b
same_sum _ _ = false

-- all, at their places
abbrev pub all_words : List SumWord
all_words = Shown ∷ (map Missing missing_words ++ map Silent missing_words)

-- those that have a line, in the order of their lines
abbrev pub told_words : List SumWord
told_words = Shown ∷ (map Missing missing_words ++ map Silent silent_words)
