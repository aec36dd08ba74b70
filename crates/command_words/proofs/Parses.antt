-- What a parse gives back: the flags, and up to five words.
use Rattle.std.proofs.Common.{◌≡◌, ℕ, ◌≤◌, ◌∙◌, List, [], ◌∷◌, refl, false, true, Bool, ap, length, arith}
use Rattle.std.specs.Prelude.{Some, Option, codes, if◌then◌else◌, slice_get}
use Rattle.clap.specs.Words.{Text, Row, first_of, one_of, is_simple, matches_of, takes}
use Rattle.clap.proofs.OnLiterals.{clap_on_literals}
use Rattle.command_words.specs.Parsed.{Flags, Given, program}
use Rattle.command_words.proofs.Walks.{ArePlain, plainly, rows_at_end, rows_are, taken_plain}

pub program_is_simple : is_simple program ≡ true
unfolding clap_on_literals
program_is_simple = refl

-- the text of a flag that was found, or was not
abbrev pub flag_text : Bool → List ℕ
flag_text flag = if flag then codes "true" else codes "false"

-- words that the parse takes, and what it finds among them
pub record Gives (ws : List Text) (flags : Flags) (given : Given) : Type 0 where
  pub taken : takes program ws ≡ true
  pub json_is : one_of (codes "json") (matches_of program ws) ≡ Some (flag_text flags.json)
  pub faults_is : one_of (codes "faults") (matches_of program ws) ≡ Some (flag_text flags.faults)
  pub word_is : first_of (codes "word") (matches_of program ws) ≡ given.word
  pub first_is : first_of (codes "first") (matches_of program ws) ≡ given.first
  pub second_is : first_of (codes "second") (matches_of program ws) ≡ given.second
  pub third_is : first_of (codes "third") (matches_of program ws) ≡ given.third
  pub fourth_is : first_of (codes "fourth") (matches_of program ws) ≡ given.fourth

abbrev pub flags_of : Bool → Bool → Flags
flags_of json faults = record { json = json; faults = faults }

abbrev pub no_flags : Flags
no_flags = flags_of false false

abbrev pub words_of : Option Text → Option Text → Option Text → Option Text → Option Text → Given
words_of word first second third fourth = record { word = word; first = first; second = second; third = third; fourth = fourth }

-- up to five words in order
abbrev pub given_of : List Text → Given
given_of ws = words_of (slice_get ws 0) (slice_get ws 1) (slice_get ws 2) (slice_get ws 3) (slice_get ws 4)

-- what is found of the flags, and of the words
pub record Found (rows : List Row) (ws : List Text) : Type 0 where
  pub json : one_of (codes "json") rows ≡ Some (codes "false")
  pub faults : one_of (codes "faults") rows ≡ Some (codes "false")
  pub word : first_of (codes "word") rows ≡ slice_get ws 0
  pub first : first_of (codes "first") rows ≡ slice_get ws 1
  pub second : first_of (codes "second") rows ≡ slice_get ws 2
  pub third : first_of (codes "third") rows ≡ slice_get ws 3
  pub fourth : first_of (codes "fourth") rows ≡ slice_get ws 4

found_plainly : (ws : List Text) → length ws ≤ 5 → Found (rows_at_end (plainly ws)) ws
found_plainly [] few = record { json = refl; faults = refl; word = refl; first = refl; second = refl; third = refl; fourth = refl }
found_plainly (a ∷ []) few = record { json = refl; faults = refl; word = refl; first = refl; second = refl; third = refl; fourth = refl }
found_plainly (a ∷ b ∷ []) few = record { json = refl; faults = refl; word = refl; first = refl; second = refl; third = refl; fourth = refl }
found_plainly (a ∷ b ∷ c ∷ []) few = record { json = refl; faults = refl; word = refl; first = refl; second = refl; third = refl; fourth = refl }
found_plainly (a ∷ b ∷ c ∷ d ∷ []) few = record { json = refl; faults = refl; word = refl; first = refl; second = refl; third = refl; fourth = refl }
found_plainly (a ∷ b ∷ c ∷ d ∷ e ∷ []) few = record { json = refl; faults = refl; word = refl; first = refl; second = refl; third = refl; fourth = refl }
found_plainly (a ∷ b ∷ c ∷ d ∷ e ∷ f ∷ ws) few = absurd (omega arith)

-- words that begin with no hyphen are given back in order
pub plain_gives : (ws : List Text) → ArePlain ws → length ws ≤ 5 → Gives ws no_flags (given_of ws)
plain_gives ws p few =
    let found = found_plainly ws few in
    let rows = rows_are ws p few in
    record {
      taken = taken_plain ws p few;
      json_is = ap (one_of (codes "json")) rows ∙ found.json;
      faults_is = ap (one_of (codes "faults")) rows ∙ found.faults;
      word_is = ap (first_of (codes "word")) rows ∙ found.word;
      first_is = ap (first_of (codes "first")) rows ∙ found.first;
      second_is = ap (first_of (codes "second")) rows ∙ found.second;
      third_is = ap (first_of (codes "third")) rows ∙ found.third;
      fourth_is = ap (first_of (codes "fourth")) rows ∙ found.fourth;
    }

-- a flag after the one word that may have it
pub json_gives : Gives (codes "show" ∷ codes "--json" ∷ []) (flags_of true false) (given_of (codes "show" ∷ []))
unfolding clap_on_literals
json_gives = record { taken = refl; json_is = refl; faults_is = refl; word_is = refl; first_is = refl; second_is = refl; third_is = refl; fourth_is = refl }

pub faults_gives : Gives (codes "explain" ∷ codes "--faults" ∷ []) (flags_of false true) (given_of (codes "explain" ∷ []))
unfolding clap_on_literals
faults_gives = record { taken = refl; json_is = refl; faults_is = refl; word_is = refl; first_is = refl; second_is = refl; third_is = refl; fourth_is = refl }
