-- The counters are the numbers of lines with their words (this project's profile).
use Rattle.std.specs.Prelude.{◌≡◌, ℕ, ◌+◌, ◌*◌, Bool, false, if◌then◌else◌, List, [], ◌∷◌, ◌++◌, replicate}
use Rattle.std.specs.List.{flat_map}
use Rattle.fault_counters.specs.Counts.{capped, once, times}
use Rattle.fault_counters.specs.declared.kinds.Counter.{Counter}
use Rattle.fault_counters.specs.declared.kinds.Counter.TheVariants as counter
use Rattle.air_source.specs.Units.{same_side}
use Rattle.air_source.specs.declared.events.Event.{Event}
use Rattle.air_source.specs.declared.events.Event.TheVariants as event
use Rattle.air_source.specs.declared.events.Side.{Side}
use Rattle.window_config.specs.declared.config.Config.{Config}
use Rattle.unit_model.specs.Counts.{cells_counted, command_counter, data_counter, fragment_counter, refusal_counted}
use Rattle.unit_model.specs.Reports.{arrivals_counted}
use Rattle.replay_laws.specs.Events.{events, is_measured, number_of}
use Rattle.unit_model.specs.Heard.{arrivals_heard, cells_heard}
use Rattle.replay_laws.specs.Traffic.{Traffic}
use Rattle.explain_model.specs.declared.values.CellWord.{CellWord}
use Rattle.explain_model.specs.declared.values.CellWord.TheVariants.{Shown, Missing}
use Rattle.explain_model.specs.declared.values.CommandAnswer.{CommandAnswer}
use Rattle.explain_model.specs.declared.values.CommandAnswer.TheVariants as answer
use Rattle.explain_model.specs.declared.values.ExplainLine.{ExplainLine}
use Rattle.explain_model.specs.declared.values.ExplainLine.TheVariants as line
use Rattle.explain_model.specs.declared.values.WholeAnswer.{WholeAnswer}
use Rattle.explain_model.specs.declared.values.WholeAnswer.TheVariants as whole
use Rattle.explain_model.specs.Cells.{event_lines}

-- ---- of which counters a line has the word

abbrev pub answer_words : CommandAnswer → List Counter
answer_words answer.Read = []
answer_words answer.Fragmented = counter.CRefused ∷ []
answer_words (answer.Refused r) = counter.CRefused ∷ []
answer_words answer.WrongWay = counter.WrongWay ∷ []

abbrev pub whole_word : WholeAnswer → Counter
whole_word (whole.Refused r) = counter.URefused
whole_word whole.WrongWay = counter.WrongWay

abbrev pub cell_counter : CellWord → Counter
cell_counter (Shown from) = counter.Cells
cell_counter Missing = counter.Missing

-- a run has its word once for each cell; a message of any kind is one
abbrev pub words : ExplainLine → List Counter
words (line.Frame number side at bytes refusal) = refusal_counted refusal ++ counter.Frames ∷ []
words (line.Measure number place size) = counter.Delay ∷ counter.Messages ∷ []
words (line.Other number place kind size) = counter.OtherType ∷ counter.Messages ∷ []
words (line.Short number place kind size) = counter.Short ∷ counter.Messages ∷ []
words (line.Unknown message kind) = counter.UnknownEndpoint ∷ counter.Messages ∷ []
words (line.Command message said) = answer_words said ++ counter.Messages ∷ []
words (line.Control s) = command_counter s.verdict ∷ []
words (line.Fragment message bytes v) = fragment_counter v ∷ counter.Messages ∷ []
words (line.Whole w) = whole_word w.answer ∷ []
words (line.Data s) = data_counter s.verdict ∷ []
words (line.Cells run mask word) = replicate run.num (cell_counter word)
words (line.Delay at side id value) = counter.DelayResult ∷ []
words _ = []

-- ---- the lines of a unit

-- a line is of the unit: by the way of a frame, of a run or of a delay; the lines after a frame are of the frame's unit
abbrev pub is_of_unit : Side → Bool → ExplainLine → Bool
is_of_unit side here (line.Frame number at_side at bytes refusal) = same_side at_side side
is_of_unit side here (line.Cells run mask word) = same_side run.side side
is_of_unit side here (line.Delay at at_side id value) = same_side at_side side
is_of_unit side here _ = here

-- whether the last frame is the unit's
abbrev pub here_after : Side → Bool → ExplainLine → Bool
here_after side here (line.Frame number at_side at bytes refusal) = same_side at_side side
here_after side here _ = here

unfoldable pub of_unit : Side → Bool → List ExplainLine → List ExplainLine
of_unit side here [] = []
of_unit side here (l ∷ ls) = (if is_of_unit side here l then l ∷ [] else []) ++ of_unit side (here_after side here l) ls

-- how many lines of the unit have the counter's word
abbrev pub word_count : Side → Counter → List ExplainLine → ℕ
word_count side k lines = times (flat_map words (of_unit side false lines)) k

-- ---- laws

-- how many delays of the unit are told
unfoldable pub delay_count : Side → List Event → ℕ
delay_count side [] = 0
delay_count side (event.Delay at at_side id value ∷ rest) = (if same_side at_side side then 1 else 0) + delay_count side rest
delay_count side (event.Arrival at_side at frame ∷ rest) = delay_count side rest
delay_count side (event.Cell a ∷ rest) = delay_count side rest
delay_count side (event.Count at_side k value ∷ rest) = delay_count side rest

-- of any events: what is counted of the arrivals, the cells and the delays of a unit
abbrev pub WordsAreCounted : Type 0
WordsAreCounted =
    (c : Config) (es : List Event) (side : Side) (k : Counter)
    → word_count side k (event_lines c es)
    ≡ times (arrivals_counted side c (arrivals_heard side [] es)) k + (times (cells_counted (cells_heard side es)) k + delay_count side es * once counter.DelayResult k)

-- of the events of a replay: each counter that a unit counts itself is the number of lines with its word
abbrev pub LinesAreCounters : Config → Traffic → Type 0
LinesAreCounters c t = (side : Side) (k : Counter) → is_measured k ≡ false → number_of side c t k ≡ capped (word_count side k (event_lines c (events c t)))

pub record CountersAreLines : Type 0 where
  pub any : WordsAreCounted
  pub replayed : (c : Config) (t : Traffic) → LinesAreCounters c t
