-- What is told after the last event is what the definitions say.
use Rattle.std.proofs.Common.{◌≡◌, ℕ, List, [], ◌++◌, refl, sym, ap, ap₂, subst, ◌∙◌, append-nil}
use Rattle.air_source.specs.declared.events.Event.{Event}
use Rattle.air_source.specs.declared.events.Side.TheVariants.{Ru, Du}
use Rattle.explain_air.proofs.CellLemmas.{cells_are_runs}
use Rattle.explain_air.specs.Closing.{AreOf, IsEnding, IsLast, rest_of}
use Rattle.explain_air.specs.Notes.{HasNoted}
use Rattle.explain_air.specs.declared.notes.Notes.{Notes}
use Rattle.explain_air.specs.Plans.{NumberedLines}
use Rattle.explain_model.specs.Subjects.{Subject, reason_lines, reasons_of}
use Rattle.explain_model.specs.declared.values.ExplainLine.{ExplainLine}
use Rattle.explain_model.specs.Cells.{event_lines}
use Rattle.explain_model.specs.Stories.{Story, stories}
use Rattle.explain_model.specs.Text.{sum_lines}
use Rattle.explain_model.specs.Margins.{dated, margin_lines, margins_at}
use Rattle.explain_model.specs.Missing.{why_lines}
use Rattle.explain_model.specs.SilentReasons.{Kept as Records, kept, kept_of}
use Rattle.explain_model.specs.Seen.{cell_runs}
use Rattle.explain_model.specs.Silent.{silent_lines}
use Rattle.explain_model.specs.Unused.{unused_lines}
use Rattle.explain_records.specs.Stored.{SameBySymbol}
use Rattle.explain_units.specs.declared.units.UnitLines.{UnitLines}
use Rattle.explain_records.specs.Records.{HaveHeard}
use Rattle.explain_records.specs.declared.heard_records.HeardRecords.{HeardRecords}
use Rattle.plan_model.specs.declared.lines.PlannedLine.{PlannedLine}
use Rattle.explain_records.proofs.MissingLemmas.{same_runs, text_is}
use Rattle.explain_heard.specs.Runs.{run_lines}
use Rattle.explain_records.specs.Missing.{missing_line_of, missing_related, missing_text}
use Rattle.explain_model.specs.Keys.{run_key}
use Rattle.explain_model.specs.declared.keys.SymbolKey.{SymbolKey}
use Rattle.explain_model.specs.declared.runs.CellRun.{CellRun}
use Rattle.why_lines.proofs.SumLemmas.{sums_are}
use Rattle.why_lines.specs.Laws.{HaveLines}
use Rattle.why_lines.specs.Sums.{AreSums, sum_text}
use Rattle.why_lines.proofs.SilentTexts.{silent_told}
use Rattle.why_lines.specs.Silent.{silent_text}
use Rattle.explain_records.specs.Keys.{of_symbol}
use Rattle.why_lines.proofs.TextLemmas.{unused_told}
use Rattle.why_lines.specs.Unused.{unused_text}
use Rattle.window_config.specs.declared.config.Config.{Config}
use Rattle.window_config.specs.declared.endpoints.EndpointConfig.{EndpointConfig}

pub margins_are : (c : Config) (events : List Event) → margins_at Ru c.endpoints (dated Ru c events) ++ margins_at Du c.endpoints (dated Du c events) ≡ margin_lines c events
unfolding margin_lines
margins_are c events = refl

module _ (s : Subject) (events : List Event) (es : List EndpointConfig) (ordered : Records) (cells sorted : List CellRun) (plan : NumberedLines)
    (of : AreOf s events es ordered cells plan) (same : (key : SymbolKey) → of_symbol run_key key sorted ≡ of_symbol run_key key cells) where
  runs_same : (key : SymbolKey) → of_symbol run_key key sorted ≡ of_symbol run_key key (cell_runs s.config events)
  runs_same key = same key ∙ ap (of_symbol run_key key) of.runs

  pub silent_is : silent_text ordered sorted plan.numbers plan.planned ≡ silent_lines s.config s.plan s.numbers events
  silent_is =
      ap₂ (λ (ns : List ℕ) (ps : List PlannedLine). silent_text ordered sorted ns ps) of.numbers_are of.planned_are
      ∙ silent_told s.config s.plan s.numbers events ordered sorted of.records runs_same

  pub unused_is : unused_text es ordered sorted ≡ unused_lines s.config events
  unused_is =
      ap (λ (xs : List EndpointConfig). unused_text xs ordered sorted) of.endpoints_are
      ∙ unused_told s.config events ordered sorted of.config of.records runs_same

  pub rest_is : silent_text ordered sorted plan.numbers plan.planned ++ unused_text es ordered sorted ≡ rest_of s events
  rest_is = ap₂ (λ (a b : List ExplainLine). a ++ b) silent_is unused_is

module _ (s : Subject) (events : List Event) (es : List EndpointConfig) (ordered : Records) (cells : List CellRun) (plan : NumberedLines) (of : AreOf s events es ordered cells plan) where
  pub missing_is : missing_text ordered cells ≡ why_lines s.config events
  missing_is =
      ap (missing_text ordered) of.runs
      ∙ ap (run_lines missing_related missing_line_of) (same_runs (kept s.config events) ordered of.records (cell_runs s.config events)) ∙ text_is s.config events

  pub whys_are : missing_text ordered cells ++ rest_of s events ≡ (reasons_of s events).whys
  whys_are = ap (λ (a : List ExplainLine). a ++ rest_of s events) missing_is

-- ---- all of them

sums_behind : (s : Subject) (events : List Event) → sum_text s.config.endpoints Ru (event_lines s.config events ++ (reasons_of s events).whys) ++ sum_text s.config.endpoints Du (event_lines s.config events ++ (reasons_of s events).whys)
    ≡ sum_lines s.config (reasons_of s events) events
sums_behind s events =
    let c = s.config in
    let lines = event_lines c events ++ (reasons_of s events).whys in
    let have = sums_are.told c s.plan s.numbers events [] [] (record { cells = refl; missing = refl; silent = refl }) (record { cells = refl; missing = refl; silent = refl }) in
    let same = subst (HaveLines c s.plan s.numbers events) (ap (λ (ls : List ExplainLine). event_lines c events ++ ls) (append-nil (reasons_of s events).whys)) have in
    sums_are.both c s.plan s.numbers events lines same

pub ending_is : (s : Subject) (events : List Event)
    → (reasons_of s events).whys ++ (margin_lines s.config events ++ (sum_text s.config.endpoints Ru (event_lines s.config events ++ (reasons_of s events).whys) ++ sum_text s.config.endpoints Du (event_lines s.config events ++ (reasons_of s events).whys)))
    ≡ reason_lines s events
ending_is s events = ap (λ (ls : List ExplainLine). (reasons_of s events).whys ++ (margin_lines s.config events ++ ls)) (sums_behind s events)

-- the sums after the reasons
pub sums_after : (s : Subject) (events : List Event) (es : List EndpointConfig) (o : Records) (cells : List CellRun) (p : NumberedLines) (u d : UnitLines) (n m : Notes)
    → IsEnding s events es o cells p u d n → HasNoted n (reasons_of s events).whys m → AreSums s.config.endpoints (event_lines s.config events ++ (reasons_of s events).whys) m.sums
sums_after s events es o cells p u d n m is noted = noted.sums s.config.endpoints (event_lines s.config events) is.sums

-- what is kept, once its records are sorted
pub last_is : (s : Subject) (events : List Event) (u d : UnitLines) (n m : Notes) (r : HeardRecords) (plan : NumberedLines) (es : List EndpointConfig) (ordered : Records) (cells : List CellRun) → IsLast s events u d n r plan
    → es ≡ n.endpoints.items → cells ≡ n.cells → m.sums ≡ n.sums → ((c : Config) (ss : List Story) → HaveHeard c ss r → SameBySymbol (kept_of c ss) ordered) → IsEnding s events es ordered cells plan u d m
last_is s events u d n m r plan es ordered cells last copied moved sums order = record {
  of = record {
    config = last.config;
    endpoints_are = copied ∙ last.notes.endpoints;
    records = order s.config (stories s.config events) last.records;
    runs = moved ∙ last.notes.cells ∙ cells_are_runs s.config events;
    planned_are = last.planned_are;
    numbers_are = last.numbers_are;
  };
  ru = last.ru;
  du = last.du;
  sums = subst (AreSums s.config.endpoints (event_lines s.config events)) (sym sums) last.notes.sums;
}
