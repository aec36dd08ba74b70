-- Runs are maximal, and one list of lines makes both texts.
use Rattle.std.proofs.Common.{refl}
use Rattle.air_source.specs.declared.events.Event.{Event}
use Rattle.std.specs.Prelude.{List}
use Rattle.window_config.specs.declared.config.Config.{Config}
use Rattle.explain_model.specs.Cells.{entries, lines_in, runs_on}
use Rattle.explain_model.specs.Text.{Reasoned, explain_of}
use Rattle.explain_model.proofs.PieceLemmas.{are_pieces}
use Rattle.explain_laws.specs.Runs.{FaultsAreOfAll, LinesAreKept, RunsAreMaximal}

maximal : (c : Config) (events : List Event) → RunsAreMaximal c events
unfolding lines_in
maximal c events = record { pieces = are_pieces runs_on (entries c events); lines = refl }

both : (c : Config) (r : Reasoned) (events : List Event) → FaultsAreOfAll c r events
unfolding explain_of
both c r events = record { all = refl; faults = refl }

pub kept : LinesAreKept
kept = record { maximal = maximal; kept = both }
