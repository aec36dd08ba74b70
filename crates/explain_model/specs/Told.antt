-- What the lines of the reasons tell, cell by cell (this project's profile).
use Rattle.std.specs.Prelude.{◌≡◌, ℕ, List, [], ◌∷◌, filter, map}
use Rattle.std.specs.List.{flat_map}
use Rattle.fh_base.specs.Air.{air_of}
use Rattle.fh_base.specs.declared.values.Slot.{Slot}
use Rattle.fh_base.specs.declared.values.Ticks.{Ticks}
use Rattle.air_source.specs.declared.events.Event.{Event}
use Rattle.air_source.specs.declared.events.Side.{Side}
use Rattle.air_source.specs.declared.events.Side.TheVariants.{Ru}
use Rattle.window_config.specs.declared.config.Config.{Config}
use Rattle.window_config.specs.declared.plan.PlanLine.{PlanLine}
use Rattle.fh_base.specs.Lists.{each}
use Rattle.explain_model.specs.declared.places.PrbRun.{PrbRun}
use Rattle.explain_model.specs.declared.reasons.Reason.{Reason}
use Rattle.explain_model.specs.declared.values.ExplainLine.{ExplainLine}
use Rattle.explain_model.specs.declared.values.ExplainLine.TheVariants as line
use Rattle.explain_model.specs.Missing.{MissingCell, is_missing, missing_of, why_lines}
use Rattle.explain_model.specs.Seen.{Seen, seen}
use Rattle.explain_model.specs.Silent.{SilentPrb, SilentSymbol, silent_in, silent_lines}
use Rattle.explain_model.specs.Unused.{UnusedBlock, UnusedSymbol, unused_in, unused_lines}

-- one PRB of a run
pub record ToldPrb : Type 0 where
  pub side : Side
  pub at : Ticks
  pub id : ℕ
  pub slot : Slot
  pub symbol : ℕ
  pub prb : ℕ
  pub section : ℕ

abbrev pub prb_of : PrbRun → ℕ → ToldPrb
prb_of r prb = record { side = r.side; at = r.at; id = r.place.id; slot = r.place.slot; symbol = r.place.symbol; prb = prb; section = r.section }

-- ---- missing cells

pub record ToldMissing : Type 0 where
  pub prb : ToldPrb
  pub mask : ℕ
  pub reason : Reason

abbrev pub prb_of_cell : Seen → ToldPrb
prb_of_cell s = record { side = s.side; at = s.at; id = s.id; slot = s.slot; symbol = s.symbol; prb = s.prb; section = s.section }

abbrev pub missing_as_told : MissingCell → ToldMissing
missing_as_told x = record { prb = prb_of_cell x.cell; mask = x.cell.mask; reason = x.reason }

abbrev pub told_missing_of : PrbRun → ℕ → Reason → List ToldMissing
told_missing_of run mask reason = each run.prb run.num (λ n. record { prb = prb_of run n; mask = mask; reason = reason } ∷ [])

-- what a line says of missing cells
abbrev pub told_missing : ExplainLine → List ToldMissing
told_missing (line.WhyMissing run mask reason) = told_missing_of run mask reason
told_missing _ = []

-- ---- silent PRBs

pub record ToldSilent : Type 0 where
  pub prb : ToldPrb
  pub mask : ℕ
  pub line : ℕ
  pub reason : Reason

abbrev pub prb_of_silent : SilentSymbol → ℕ → ToldPrb
prb_of_silent s prb = record {
  side = Ru;
  at = record { 0 = air_of s.planned.endpoint.numerology s.planned.line.slot s.symbol };
  id = s.planned.endpoint.id;
  slot = s.planned.line.slot;
  symbol = s.symbol;
  prb = prb;
  section = s.planned.line.section;
}

abbrev pub silent_as_told : SilentSymbol → SilentPrb → ToldSilent
silent_as_told s x = record { prb = prb_of_silent s x.prb; mask = x.mask; line = s.number; reason = x.reason }

abbrev pub all_silent : SilentSymbol → List ToldSilent
all_silent s = map (silent_as_told s) s.prbs

abbrev pub told_silent_of : PrbRun → ℕ → ℕ → Reason → List ToldSilent
told_silent_of run mask number reason = each run.prb run.num (λ n. record { prb = prb_of run n; mask = mask; line = number; reason = reason } ∷ [])

abbrev pub told_silent : ExplainLine → List ToldSilent
told_silent (line.WhySilent run mask number reason) = told_silent_of run mask number reason
told_silent _ = []

-- ---- unused blocks

pub record ToldUnused : Type 0 where
  pub prb : ToldPrb
  pub from : ℕ

abbrev pub prb_of_block : UnusedSymbol → UnusedBlock → ToldPrb
prb_of_block u x = record {
  side = u.side;
  at = u.start.start;
  id = u.start.endpoint.id;
  slot = u.start.slot;
  symbol = u.start.symbol;
  prb = x.prb;
  section = x.section;
}

abbrev pub unused_as_told : UnusedSymbol → UnusedBlock → ToldUnused
unused_as_told u x = record { prb = prb_of_block u x; from = x.number }

abbrev pub all_unused : UnusedSymbol → List ToldUnused
all_unused u = map (unused_as_told u) u.blocks

abbrev pub told_unused_of : PrbRun → ℕ → List ToldUnused
told_unused_of run number = each run.prb run.num (λ n. record { prb = prb_of run n; from = number } ∷ [])

abbrev pub told_unused : ExplainLine → List ToldUnused
told_unused (line.Unused run from) = told_unused_of run from
told_unused _ = []

-- ---- laws

-- Cell by cell the lines of why tell the missing cells of the events, each with its reason, in their order.
abbrev pub MissingAreTold : Type 0
MissingAreTold =
    (c : Config) (events : List Event)
    → (flat_map told_missing (why_lines c events) ≡ map missing_as_told (missing_of c events))
    × (map (λ x. x.cell) (missing_of c events) ≡ filter is_missing (seen events))

-- PRB by PRB they tell the silent elements of a plan
abbrev pub SilentAreTold : Type 0
SilentAreTold =
    (c : Config) (plan : List PlanLine) (numbers : List ℕ) (events : List Event)
    → flat_map told_silent (silent_lines c plan numbers events) ≡ flat_map all_silent (silent_in c plan numbers events)

-- block by block they tell what no cell shows
abbrev pub UnusedAreTold : Type 0
UnusedAreTold = (c : Config) (events : List Event) → flat_map told_unused (unused_lines c events) ≡ flat_map all_unused (unused_in c events)
