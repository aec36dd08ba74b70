-- What lines, margins and reasons need of what was heard (this project's profile).
use Rattle.std.specs.Prelude.{List, map}
use Rattle.air_source.specs.declared.events.Side.{Side}
use Rattle.explain_heard.specs.Named.{whole_named}
use Rattle.explain_heard.specs.declared.heard.Heard.{Heard}
use Rattle.explain_heard.specs.declared.heard.Heard.TheVariants as kept
use Rattle.explain_heard.specs.declared.heard.WholeHeard.{WholeHeard}
use Rattle.explain_heard.specs.declared.judged.CommandJudged.{CommandJudged}
use Rattle.explain_heard.specs.declared.judged.DataJudged.{DataJudged}
use Rattle.explain_heard.specs.declared.judged.Judged.{Judged}
use Rattle.explain_heard.specs.declared.judged.Judged.TheVariants as judged
use Rattle.explain_heard.specs.declared.judged.WholeJudged.{WholeJudged}
use Rattle.explain_model.specs.Judged.{first_given, given_count}
use Rattle.explain_model.specs.Timings.{control_timing, data_timing, heading_slot}
use Rattle.unit_model.specs.Commands.{allocation_of}
use Rattle.unit_model.specs.declared.decoded.ControlSection.{ControlSection}
use Rattle.unit_model.specs.declared.heading.DataHeading.{DataHeading}
use Rattle.unit_model.specs.declared.verdicts.CommandVerdict.{CommandVerdict}
use Rattle.unit_model.specs.declared.verdicts.DataVerdict.{DataVerdict}
use Rattle.window_config.specs.declared.delays.Delays.{Delays}

abbrev pub command_judged : Delays → ControlSection → CommandVerdict → CommandJudged
command_judged d s v = record { allocation = allocation_of s; verdict = v; timing = control_timing d s }

abbrev pub whole_judged : WholeHeard → WholeJudged
whole_judged w = record { ep = w.ep; id = w.endpoint.id; named = whole_named w; pieces = w.pieces; bytes = w.bytes; answer = w.answer }

abbrev pub data_judged : Side → Delays → DataHeading → DataVerdict → DataJudged
data_judged side d h v = record {
  ep = h.ep;
  id = h.endpoint.id;
  slot = heading_slot h;
  symbol = h.section.symbol;
  section = h.section.id;
  prbs = record { first = first_given h; count = given_count h };
  verdict = v;
  timing = data_timing side d h;
}

abbrev pub judged_of : Side → Delays → Heard → Judged
judged_of side d (kept.Message m) = judged.Message m
judged_of side d (kept.Command s v) = judged.Command (command_judged d s v)
judged_of side d (kept.Fragment f) = judged.Fragment f
judged_of side d (kept.Whole w) = judged.Whole (whole_judged w)
judged_of side d (kept.Data h v) = judged.Data (data_judged side d h v)

abbrev pub all_judged : Side → Delays → List Heard → List Judged
all_judged side d heard = map (judged_of side d) heard
