-- The lines of what was judged (this project's profile).
use Rattle.std.specs.Prelude.{ℕ, not, Option, Some, None}
use Rattle.ecpri_fragments.specs.declared.sequence.SeqField.{SeqField}
use Rattle.explain_heard.specs.declared.heard.FragmentHeard.{FragmentHeard}
use Rattle.explain_heard.specs.declared.heard.MessageHeard.{MessageHeard}
use Rattle.explain_heard.specs.declared.heard.MessageWord.{MessageWord}
use Rattle.explain_heard.specs.declared.heard.MessageWord.TheVariants as word
use Rattle.explain_heard.specs.declared.judged.CommandJudged.{CommandJudged}
use Rattle.explain_heard.specs.declared.judged.DataJudged.{DataJudged}
use Rattle.explain_heard.specs.declared.judged.WholeJudged.{WholeJudged}
use Rattle.explain_model.specs.declared.places.Clash.{Clash}
use Rattle.explain_model.specs.declared.places.MessagePlace.{MessagePlace}
use Rattle.explain_model.specs.declared.values.ControlLine.{ControlLine}
use Rattle.explain_model.specs.declared.values.DataLine.{DataLine}
use Rattle.explain_model.specs.declared.values.ExplainLine.{ExplainLine}
use Rattle.explain_model.specs.declared.values.ExplainLine.TheVariants as line
use Rattle.explain_model.specs.declared.values.WholeLine.{WholeLine}

abbrev pub placed : ℕ → ℕ → ℕ → SeqField → MessagePlace
placed number id place seq = record { number = number; id = id; place = place; seq = seq }

-- a message of data to an endpoint has none: its fragment has
abbrev pub line_by : ℕ → ℕ → ℕ → ℕ → MessageWord → Option ExplainLine
line_by number place kind size word.Measure = Some (line.Measure number place size)
line_by number place kind size word.Other = Some (line.Other number place kind size)
line_by number place kind size word.Short = Some (line.Short number place kind size)
line_by number place kind size (word.Unknown id seq) = Some (line.Unknown (placed number id place seq) kind)
line_by number place kind size (word.Command id seq said) = Some (line.Command (placed number id place seq) said)
line_by number place kind size word.Data = None

abbrev pub line_of_message : ℕ → MessageHeard → Option ExplainLine
line_of_message number m = line_by number m.place m.kind m.size m.word

abbrev pub fragment_line : ℕ → ℕ → FragmentHeard → ExplainLine
fragment_line number place f = line.Fragment (placed number f.endpoint.id place f.seq) f.bytes f.verdict

abbrev pub whole_line : ℕ → WholeJudged → WholeLine
whole_line number w = record { number = number; id = w.id; named = w.named; pieces = w.pieces; bytes = w.bytes; answer = w.answer }

-- a section of a command with what it overlaps
abbrev pub control_with : ℕ → CommandJudged → Option Clash → ControlLine
control_with number c clash = record {
  number = number;
  place = record { id = c.allocation.endpoint.id; slot = c.allocation.slot; symbol = c.allocation.symbol };
  section = c.allocation.section;
  prb = c.allocation.start_prb;
  num = c.allocation.num_prb;
  symbols = c.allocation.num_symbol;
  mask = c.allocation.mask;
  uplink = not c.allocation.down;
  idle = c.allocation.idle;
  verdict = c.verdict;
  timing = c.timing;
  clash = clash;
}

-- a section of data with how many of its cells had no block
abbrev pub data_with : ℕ → DataJudged → Option ℕ → DataLine
data_with number d fresh = record {
  number = number;
  place = record { id = d.id; slot = d.slot; symbol = d.symbol };
  section = d.section;
  prb = d.prbs.first;
  num = d.prbs.count;
  verdict = d.verdict;
  timing = d.timing;
  fresh = fresh;
}
