-- The records of what was judged (this project's profile).
use Rattle.std.specs.Prelude.{◌==◌, ◌||◌, ℕ, List, [], ◌∷◌, if◌then◌else◌, Option, Some, None}
use Rattle.fh_base.specs.declared.values.Slot.{Slot}
use Rattle.air_source.specs.declared.events.Side.{Side}
use Rattle.explain_heard.specs.declared.judged.CommandJudged.{CommandJudged}
use Rattle.explain_heard.specs.declared.judged.DataJudged.{DataJudged}
use Rattle.explain_heard.specs.declared.judged.WholeJudged.{WholeJudged}
use Rattle.explain_model.specs.declared.values.WholeAnswer.{WholeAnswer}
use Rattle.explain_model.specs.declared.values.WholeAnswer.TheVariants as answer
use Rattle.explain_model.specs.Margins.{control_class, data_class_of}
use Rattle.explain_model.specs.Records.{distance_by, distance_in}
use Rattle.explain_model.specs.declared.data.DataRecord.{DataRecord}
use Rattle.explain_model.specs.declared.headers.HeaderRecord.{HeaderRecord}
use Rattle.explain_model.specs.declared.headers.HeaderWhy.{HeaderWhy}
use Rattle.explain_model.specs.declared.headers.HeaderWhy.TheVariants.{Refused, WrongWay}
use Rattle.explain_model.specs.declared.sections.CommandRecord.{CommandRecord}

abbrev pub data_of : Side → ℕ → DataJudged → DataRecord
data_of side number d = record {
  side = side;
  ep = d.ep;
  slot = d.slot;
  symbol = d.symbol;
  first_prb = d.prbs.first;
  prbs = d.prbs.count;
  section = d.section;
  number = number;
  class = data_class_of d.verdict;
  distance = distance_in (data_class_of d.verdict) d.timing;
}

abbrev pub command_with : ℕ → CommandJudged → CommandRecord
command_with number c = record {
  ep = c.allocation.ep;
  down = c.allocation.down;
  slot = c.allocation.slot;
  symbol = c.allocation.symbol;
  num_symbol = c.allocation.num_symbol;
  start_prb = c.allocation.start_prb;
  num_prb = c.allocation.num_prb;
  mask = c.allocation.mask;
  number = number;
  verdict = c.verdict;
  distance = distance_by (control_class c.verdict) c.timing;
}

-- one of type 0, or whose reMask is 0, has none
abbrev pub command_of : ℕ → CommandJudged → Option CommandRecord
command_of number c = if c.allocation.idle || (c.allocation.mask == 0) then None else Some (command_with number c)

abbrev pub why_of : WholeAnswer → HeaderWhy
why_of (answer.Refused r) = Refused
why_of answer.WrongWay = WrongWay

abbrev pub header_named : Side → ℕ → ℕ → WholeAnswer → Option (Slot × ℕ) → Option HeaderRecord
header_named side number ep said None = None
header_named side number ep said (Some (slot, symbol)) =
    Some (record { side = side; ep = ep; slot = slot; symbol = symbol; number = number; why = why_of said })

abbrev pub header_of : Side → ℕ → WholeJudged → Option HeaderRecord
header_of side number w = header_named side number w.ep w.answer w.named

abbrev pub listed : {A : Type 0} → Option A → List A
listed None = []
listed (Some x) = x ∷ []
