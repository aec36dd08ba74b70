-- The events of replays whose explanations are drawable.
use Rattle.std.specs.Prelude.{◌<◌, ◌^◌}
use Rattle.std.specs.List.{AllByRecursion}
use Rattle.drawn_laws.specs.Events.{AreDrawnEvents}
use Rattle.drawn_laws.specs.Drawable.{IsShort}
use Rattle.explain_model.specs.Stories.{arrival_count}
use Rattle.replay_laws.specs.Events.{events}
use Rattle.replay_laws.specs.Passing.{AreLandings}
use Rattle.replay_laws.specs.Traffic.{Traffic}
use Rattle.unit_model.specs.declared.allocations.Allocation.{Allocation}
use Rattle.window_config.specs.Configs.{IsConfig}
use Rattle.window_config.specs.declared.config.Config.{Config}

-- Of frames that may be replayed, and of a plan whose section ids have 12 bits; the number of all arrivals has at most 16 digits.
abbrev pub ReplaysAreDrawn : Type 0
ReplaysAreDrawn =
    (c : Config) (t : Traffic) → IsConfig c → AreLandings t.at_ru → AreLandings t.at_du → AllByRecursion (λ (a : Allocation). a.section < 2 ^ 12) t.planned
    → IsShort (arrival_count (events c t)) → AreDrawnEvents c (events c t)
