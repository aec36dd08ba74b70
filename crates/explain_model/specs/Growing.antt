-- What one more arrival adds to what was judged, and one more section to a margin.
use Rattle.std.specs.Prelude.{◌≡◌, ℕ, ◌+◌, ◌==◌, max, if◌then◌else◌, List, [], ◌∷◌, ◌++◌}
use Rattle.std.specs.Int.{int_min}
use Rattle.std.specs.List.{flat_map}
use Rattle.air_source.specs.Units.{same_side}
use Rattle.air_source.specs.declared.events.Event.{Event}
use Rattle.air_source.specs.declared.events.Side.{Side}
use Rattle.window_config.specs.declared.config.Config.{Config}
use Rattle.window_config.specs.declared.verdicts.Class.{Class}
use Rattle.window_config.specs.declared.verdicts.Class.TheVariants.{OnTime, Late, Early}
use Rattle.fh_base.specs.Lists.{onto}
use Rattle.unit_model.specs.Judgements.{Judgement}
use Rattle.explain_model.specs.declared.places.Timing.{Timing}
use Rattle.explain_model.specs.declared.values.Margin.{Margin}
use Rattle.explain_model.specs.Judged.{judged_before}
use Rattle.explain_model.specs.Margins.{Dated, dated, dated_in, early_by, late_by, margin_of}
use Rattle.explain_model.specs.Sections.{judged_lines, judgement_lines}
use Rattle.explain_model.specs.Stories.{Story, Told, Came, stories_in, told_of}

-- ---- what was judged

-- an arrival's judgements are before those of its unit, newest first; any other event adds none
pub record JudgedGoOn : Type 0 where
  pub on_arrival : (side : Side) (ts : List Told) (s : Story) → judged_before side (ts ++ Came s ∷ []) ≡ (if same_side s.side side then onto (judged_before side ts) s.judged else judged_before side ts)
  pub on_lines : (c : Config) (side : Side) (number : ℕ) (before xs : List Judgement) (j : Judgement)
      → judged_lines c side number before (xs ++ j ∷ []) ≡ judged_lines c side number before xs ++ judgement_lines c side number (onto before xs) j
  pub on_dated : (side : Side) (c : Config) (events : List Event) (e : Event)
      → dated side c (events ++ e ∷ []) ≡ dated side c events ++ flat_map (dated_in side c.delays) (stories_in (told_of c events e ∷ []))

-- ---- a margin

-- the lesser of two, where there is one before
abbrev pub lesser : ℕ → Timing → Timing → Timing
lesser number before t = if number == 0 then t else record { since = int_min before.since t.since; until = int_min before.until t.until }

-- a margin with one section more
abbrev pub margin_by : Class → Margin → Timing → Margin
margin_by OnTime m t = record m { ontime = m.ontime + 1; least = lesser m.ontime m.least t }
margin_by Late m t = record m { late = m.late + 1; late_by = max m.late_by (late_by t) }
margin_by Early m t = record m { early = m.early + 1; early_by = max m.early_by (early_by t) }

abbrev pub margin_with : Margin → Dated → Margin
margin_with m d = margin_by d.class m d.timing

abbrev pub MarginsGoOn : Type 0
MarginsGoOn = (ds : List Dated) (d : Dated) → margin_of (ds ++ d ∷ []) ≡ margin_with (margin_of ds) d
