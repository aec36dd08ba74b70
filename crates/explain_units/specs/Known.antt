-- What lines say of earlier judgements of a unit, as they are given.
use Rattle.std.specs.Prelude.{◌≡◌, ℕ, List, [], ◌∷◌, ◌++◌, map, if◌then◌else◌, Option, Some, None}
use Rattle.explain_units.specs.Blocks.{fresh_count}
use Rattle.explain_units.specs.Laws.{AreKept}
use Rattle.explain_units.specs.declared.blocks.Given.{Given as Kept}
use Rattle.explain_heard.specs.declared.judged.CommandJudged.{CommandJudged}
use Rattle.explain_heard.specs.declared.judged.DataJudged.{DataJudged}
use Rattle.explain_heard.specs.declared.judged.Judged.{Judged}
use Rattle.explain_heard.specs.declared.judged.Judged.TheVariants as judged
use Rattle.explain_units.specs.Margins.{added_at, margins_after, no_margins}
use Rattle.explain_units.specs.declared.kept_margins.EndpointMargins.{EndpointMargins}
use Rattle.explain_model.specs.declared.places.Clash.{Clash}
use Rattle.explain_model.specs.declared.values.ExplainLine.{ExplainLine}
use Rattle.explain_model.specs.declared.values.ExplainLine.TheVariants as line
use Rattle.explain_model.specs.declared.values.MarginClass.TheVariants.{Data}
use Rattle.explain_model.specs.Judged.{accepted_in, clash_in, is_timely, last_place}
use Rattle.explain_model.specs.Margins.{Dated, control_class, data_class_of, dated_by, way_of}
use Rattle.explain_model.specs.Sections.{some_of}
use Rattle.explain_heard.specs.Built.{control_with, data_with, fragment_line, line_of_message, whole_line}
use Rattle.unit_model.specs.Judgements.{Judgement}
use Rattle.unit_model.specs.Commands.{with_accepted}
use Rattle.unit_model.specs.declared.allocations.Allocation.{Allocation}
use Rattle.unit_model.specs.declared.verdicts.CommandVerdict.{CommandVerdict}
use Rattle.unit_model.specs.declared.verdicts.CommandVerdict.TheVariants as control
use Rattle.unit_model.specs.declared.verdicts.DataVerdict.{DataVerdict}
use Rattle.unit_model.specs.declared.verdicts.DataVerdict.TheVariants as user
use Rattle.window_config.specs.declared.config.Config.{Config}

-- the place of the last message in its frame; the sections of data on time, in order; the accepted sections of commands, the newest
-- first; the margins of the unit's endpoints
pub record Known : Type 0 where
  pub place : ℕ
  pub blocks : List Kept
  pub claims : List Allocation
  pub margins : List EndpointMargins

abbrev pub nothing_known : Config → Known
nothing_known c = record { place = 0; blocks = []; claims = []; margins = map no_margins c.endpoints }

-- ---- the line of one more judgement

-- what a section of a command overlaps
abbrev pub clash_with : CommandVerdict → List Allocation → Allocation → Option Clash
clash_with control.Mismatch claims a = None
clash_with control.Late claims a = None
clash_with control.Early claims a = None
clash_with control.Range claims a = None
clash_with control.Repeat claims a = None
clash_with control.Overlap claims a = clash_in claims a
clash_with control.Full claims a = None
clash_with control.Accepted claims a = None

-- a section of data of the arrival with this number, as far as it gives blocks
abbrev pub given_of : ℕ → DataJudged → Kept
given_of number d = record { id = d.id; slot = d.slot; symbol = d.symbol; first = d.prbs.first; count = d.prbs.count; number = number }

-- how many PRBs of a section of data had no block
abbrev pub fresh_with : DataVerdict → List Kept → Kept → Option ℕ
fresh_with user.Late blocks g = None
fresh_with user.Early blocks g = None
fresh_with user.Repeat blocks g = None
fresh_with user.Taken blocks g = some_of (fresh_count blocks g) g.count

-- of the arrival with this number
abbrev pub said : ℕ → Known → Judged → Option ExplainLine
said number k (judged.Message m) = line_of_message number m
said number k (judged.Command c) = Some (line.Control (control_with number c (clash_with c.verdict k.claims c.allocation)))
said number k (judged.Fragment f) = Some (fragment_line number k.place f)
said number k (judged.Whole w) = Some (line.Whole (whole_line number w))
said number k (judged.Data d) = Some (line.Data (data_with number d (fresh_with d.verdict k.blocks (given_of number d))))

abbrev pub as_lines : Option ExplainLine → List ExplainLine
as_lines None = []
as_lines (Some l) = l ∷ []

-- ---- what is known with one more

-- margins with these sections more of the endpoint with this index
abbrev pub add_all : ℕ → List Dated → List EndpointMargins → List EndpointMargins
add_all ep [] ms = ms
add_all ep (d ∷ ds) ms = add_all ep ds (added_at ep d.of d.class d.timing ms)

abbrev pub with_command : CommandJudged → Known → Known
with_command c k = record {
  place = k.place;
  blocks = k.blocks;
  claims = with_accepted c.verdict c.allocation k.claims;
  margins = add_all c.allocation.ep (dated_by (way_of c.allocation.down) c.allocation.endpoint.id (control_class c.verdict) c.timing) k.margins;
}

-- what is kept of a section of data: one that was on time
abbrev pub given_by : ℕ → DataJudged → List Kept
given_by number d = if is_timely d.verdict then given_of number d ∷ [] else []

abbrev pub with_data : ℕ → DataJudged → Known → Known
with_data number d k = record {
  place = k.place;
  blocks = k.blocks ++ given_by number d;
  claims = k.claims;
  margins = add_all d.ep (dated_by Data d.id (Some (data_class_of d.verdict)) d.timing) k.margins;
}

abbrev pub with_judged : ℕ → Judged → Known → Known
with_judged number (judged.Message m) k = record { place = m.place; blocks = k.blocks; claims = k.claims; margins = k.margins }
with_judged number (judged.Command c) k = with_command c k
with_judged number (judged.Fragment f) k = k
with_judged number (judged.Whole w) k = k
with_judged number (judged.Data d) k = with_data number d k

-- ---- all that was judged of an arrival

unfoldable pub after_all : ℕ → List Judged → Known → Known
after_all number [] k = k
after_all number (j ∷ js) k = after_all number js (with_judged number j k)

unfoldable pub all_said : ℕ → List Judged → Known → List ExplainLine
all_said number [] k = []
all_said number (j ∷ js) k = as_lines (said number k j) ++ all_said number js (with_judged number j k)

-- ---- judgements

-- this is known of these judgements, the newest first, of which these sections of data and these with a class were kept
pub record IsKnown (c : Config) (gs : List Kept) (js : List Judgement) (ds : List Dated) (k : Known) : Type 0 where
  pub place : k.place ≡ last_place js
  pub blocks : k.blocks ≡ gs
  pub kept : AreKept gs js
  pub claims : k.claims ≡ accepted_in js
  pub margins : k.margins ≡ margins_after c.endpoints ds
