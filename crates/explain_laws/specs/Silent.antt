-- No accepted section of type 1 or 3 names a silent element of a plan (this project's profile).
use Rattle.std.specs.Prelude.{◌≡◌, ℕ, ◌<◌, true, false, List}
use Rattle.air_source.specs.declared.events.Event.{Event}
use Rattle.air_source.specs.declared.events.Side.TheVariants.{Ru}
use Rattle.fh_document.specs.declared.document.Document.{Document}
use Rattle.window_config.specs.Configs.{IsConfig}
use Rattle.window_config.specs.declared.config.Config.{Config}
use Rattle.window_config.specs.declared.plan.PlanLine.{PlanLine}
use Rattle.unit_model.specs.Claims.{cell_at, in_mask, names}
use Rattle.unit_model.specs.Commands.{allocation_of, is_idle}
use Rattle.unit_model.specs.declared.decoded.ControlSection.{ControlSection}
use Rattle.unit_model.specs.declared.verdicts.CommandVerdict.TheVariants.{Accepted}
use Rattle.unit_model.specs.Judgements.{Commanded}
use Rattle.replay_laws.specs.Events.{events}
use Rattle.replay_laws.specs.Passing.{AreLandings}
use Rattle.replay_laws.specs.Traffic.{Traffic}
use Rattle.document_traffic.specs.Laws.{IsReplayable}
use Rattle.document_traffic.specs.Replayed.{traffic_of}
use Rattle.explain_model.specs.Stories.{Story, stories}
use Rattle.explain_model.specs.Silent.{SilentPrb, SilentSymbol, silent_in}
use Rattle.fh_base.specs.Members.{IsIn}

-- among all that is told of the events the radio unit judged this section, and accepted it
pub record IsAccepted (c : Config) (events : List Event) (k : ControlSection) : Type 0 where
  pub story : Story
  pub told : IsIn story (stories c events)
  pub radio : story.side ≡ Ru
  pub judged : IsIn (Commanded k Accepted) story.judged

-- of each silent PRB of the plan: an accepted section of type 1 or 3 names none of its silent elements
abbrev pub SilentAreUnnamed : Config → List PlanLine → List ℕ → List Event → Type 0
SilentAreUnnamed c plan numbers events =
    (s : SilentSymbol) (x : SilentPrb) (k : ControlSection) (re : ℕ) → IsIn s (silent_in c plan numbers events) → IsIn x s.prbs
    → IsAccepted c events k → is_idle k.head.body ≡ false → re < 12 → in_mask x.mask re ≡ true
    → names (allocation_of k) (cell_at s.planned.ep true s.planned.line.slot s.symbol x.prb) re ≡ false

pub record NoAcceptedNamesSilent : Type 0 where
  -- in any configuration, of any plan, for all frames that may be replayed
  pub replays : (c : Config) (t : Traffic) (plan : List PlanLine) (numbers : List ℕ) → IsConfig c → AreLandings t.at_ru → SilentAreUnnamed c plan numbers (events c t)
  -- so of each document, whatever numbers its lines have
  pub documents : (d : Document) (numbers : List ℕ) → IsReplayable d → SilentAreUnnamed d.config d.plan numbers (events d.config (traffic_of d))
