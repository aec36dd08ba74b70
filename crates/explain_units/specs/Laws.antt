-- What is kept of sections of data says of each PRB what the judgements on them say.
use Rattle.std.specs.Prelude.{◌≡◌, ℕ, ◌<◌, ◌==◌, true, false, if◌then◌else◌, List, [], ◌∷◌, ◌++◌}
use Rattle.std.specs.List.{flat_map}
use Rattle.air_source.specs.Units.{same_side}
use Rattle.air_source.specs.declared.events.Side.{Side}
use Rattle.explain_units.specs.Blocks.{fresh_count, giver_or}
use Rattle.explain_units.specs.declared.blocks.Given.{Given as Kept}
use Rattle.explain_model.specs.Judged.{first_given, given_count, has_block, is_timely}
use Rattle.explain_model.specs.Judged as judged
use Rattle.explain_model.specs.Stories.{Story}
use Rattle.explain_model.specs.Timings.{heading_slot}
use Rattle.fh_base.specs.declared.values.Slot.{Slot}
use Rattle.unit_model.specs.declared.heading.DataHeading.{DataHeading}
use Rattle.unit_model.specs.Judgements.{Judgement, Met, Commanded, Fragmented, Unread, Turned, Given}

-- a section of data of the arrival of this number
abbrev pub kept_of : ℕ → DataHeading → Kept
kept_of number h = record { id = h.endpoint.id; slot = heading_slot h; symbol = h.section.symbol; first = first_given h; count = given_count h; number = number }

-- what is kept of a judgement: a section of data that was on time
abbrev pub kept_by : ℕ → Judgement → List Kept
kept_by number (Met m) = []
kept_by number (Commanded s v) = []
kept_by number (Fragmented e f v) = []
kept_by number (Unread ep e m why) = []
kept_by number (Turned ep e m) = []
kept_by number (Given h v) = if is_timely v then kept_of number h ∷ [] else []

-- what is kept gives the PRBs that these judgements, the newest first, give
pub record AreKept (gs : List Kept) (js : List Judgement) : Type 0 where
  pub absent : (none id : ℕ) (slot : Slot) (symbol prb : ℕ) → has_block js id slot symbol prb ≡ false → giver_or none gs id slot symbol prb ≡ none
  pub present : (none id : ℕ) (slot : Slot) (symbol prb : ℕ) → has_block js id slot symbol prb ≡ true → (giver_or none gs id slot symbol prb == 0) ≡ false

pub record BlocksAreKept : Type 0 where
  pub none : AreKept [] []
  pub more : (gs : List Kept) (js : List Judgement) (number : ℕ) (j : Judgement) → 0 < number → AreKept gs js → AreKept (gs ++ kept_by number j) (j ∷ js)
  -- so as many PRBs of a section have no block by the one as by the other
  pub fresh : (gs : List Kept) (js : List Judgement) (number : ℕ) (h : DataHeading) → AreKept gs js → fresh_count gs (kept_of number h) ≡ judged.fresh_count js h

-- ---- the arrivals of a unit

-- what is kept of the judgements on an arrival, with its number, where it is one at this unit
abbrev pub kept_in : Side → Story → List Kept
kept_in side s = if same_side s.side side then flat_map (kept_by s.number) s.judged else []

-- of all of these arrivals, in their order
abbrev pub kept_from : Side → List Story → List Kept
kept_from side ss = flat_map (kept_in side) ss
