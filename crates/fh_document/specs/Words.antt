-- Lines, words and decimal numbers of a text.
use Rattle.std.specs.Prelude.{ℕ, List, Option}
use Rattle.fh_document.specs.declared.words.TheConstants.{MOST_DIGITS}
use Rattle.fh_base.specs.Numbers.{number_in as number_within}
pub use Rattle.line_words.specs.Words.{without_last_feed, words_of, is_text}

-- a number of 1 to MOST_DIGITS decimal digits, from low to high
abbrev pub number_in : ℕ → ℕ → List ℕ → Option ℕ
number_in low high w = number_within MOST_DIGITS low high w
