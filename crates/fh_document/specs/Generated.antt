-- The document that is generated from a seed and a number of slots: four endpoints, a line of a plan for each slot and endpoint, and
-- two copies of some frames of data.
use Rattle.std.specs.Prelude.{ℕ, ◌+◌, ◌*◌, ◌/◌, ◌%◌, List, ◌++◌, ◌==◌, if◌then◌else◌, codes}
use Rattle.fh_base.specs.Words.{spaced_text, hex4_text}
use Rattle.line_words.specs.Each.{each}

-- `KEYWORD SEED 1000`
abbrev pub tone_text : List ℕ → ℕ → List ℕ
tone_text keyword seed = keyword ++ spaced_text seed ++ codes " 1000\n"

-- line 1, and the tones of both ends
abbrev pub opening_text : ℕ → List ℕ
opening_text seed = codes "fronthaul 1\n" ++ tone_text (codes "source") seed ++ tone_text (codes "antenna") seed

-- the endpoint with the id e: 30 kHz, 106 PRBs, block floating point with mantissas of 9 bits
abbrev pub endpoint_text : ℕ → List ℕ
endpoint_text e = codes "endpoint " ++ hex4_text e ++ codes " ordinary 30 106 static bfp9\n"

-- one slot of four is of the uplink
abbrev pub kind_text : ℕ → List ℕ
kind_text n = if n % 4 == 3 then codes "ul " else codes "dl "

-- the keyword, the kind and the endpoint's id
unfoldable pub kind_words : ℕ → ℕ → List ℕ
kind_words n e = codes "plan " ++ kind_text n ++ hex4_text e

-- the slot n, counted from the start of frame 1: a frame has ten subframes of two slots
unfoldable pub slot_text : ℕ → List ℕ
slot_text n = spaced_text (1 + n / 20) ++ spaced_text (n / 2 % 10) ++ spaced_text (n % 2)

-- all symbols and PRBs of the slot n at the endpoint e
abbrev pub plan_text : ℕ → ℕ → List ℕ
plan_text n e = kind_words n e ++ slot_text n ++ codes " 0 14 0 106 fff" ++ spaced_text (1 + n % 4000) ++ codes " 0\n"

-- four lines for each slot
abbrev pub plans_text : ℕ → List ℕ
plans_text n = each (plan_text n) 4

-- one frame of data in ten, which is received twice
abbrev pub deliver_text : ℕ → ℕ → List ℕ
deliver_text seed j = codes "deliver dl u" ++ spaced_text (1 + 10 * j + seed % 10) ++ codes " 50000 60000\n"

abbrev pub generated : ℕ → ℕ → List ℕ
generated seed slots = opening_text seed ++ each endpoint_text 4 ++ each plans_text slots ++ each (deliver_text seed) slots
