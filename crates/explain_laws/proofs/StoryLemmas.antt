-- The stories of a unit tell all that it judged of the arrivals at it.
use Rattle.std.proofs.Common.{◌≡◌, ℕ, List, [], ◌∷◌, ◌++◌, refl, sym, ap, ◌∙◌, append_assoc, append-nil}
use Rattle.std.specs.List.{flat_map}
use Rattle.fh_base.specs.declared.values.Ticks.{Ticks}
use Rattle.air_source.specs.declared.events.Event.{Event}
use Rattle.air_source.specs.declared.events.Event.TheVariants as event
use Rattle.air_source.specs.declared.events.Side.{Side}
use Rattle.air_source.specs.declared.events.Side.TheVariants.{Ru, Du}
use Rattle.window_config.specs.declared.config.Config.{Config}
use Rattle.unit_model.specs.Meetings.{Arrival}
use Rattle.unit_model.specs.Judgements.{Judgement, judgements}
use Rattle.unit_model.specs.Heard.{arrivals_heard}
use Rattle.explain_model.specs.Stories.{arrival_with, stories_in, told_after}
use Rattle.explain_laws.specs.Decoded.{StoriesAreJudged, judged_of, of_unit}
use Rattle.unit_model.proofs.ArrivalLemmas.{arrivals-append as heard_both}

module _ (side : Side) (c : Config) where
  -- what the unit judged of these events
  abbrev judged_by : List Event → List Judgement
  judged_by events = judged_of side c (arrivals_heard side [] events)

  -- what the stories of more events tell of it
  abbrev told_by : List Event → List Event → List Judgement
  told_by before rest = flat_map (λ s. s.judged) (of_unit side (stories_in (told_after c before rest)))

  -- a further event that is no arrival at it changes nothing
  abbrev one : Event → List Event
  one e = e ∷ []

  -- with one event more, of which this is judged
  step : (before : List Event) (e : Event) (rest : List Event) (js : List Judgement)
      → judged_by (before ++ one e) ≡ judged_by before ++ js → judged_by ((before ++ one e) ++ rest) ≡ judged_by (before ++ one e) ++ told_by (before ++ one e) rest
      → judged_by (before ++ e ∷ rest) ≡ judged_by before ++ (js ++ told_by (before ++ one e) rest)
  step before e rest js now later =
      ap judged_by (sym (append_assoc before (one e) rest))
      ∙ later
      ∙ ap (λ xs. xs ++ told_by (before ++ one e) rest) now
      ∙ append_assoc (judged_by before) js (told_by (before ++ one e) rest)

  -- an event that brings the unit nothing
  calm : (before : List Event) (e : Event) → ((earlier : List Arrival) → arrivals_heard side earlier (one e) ≡ earlier) → judged_by (before ++ one e) ≡ judged_by before ++ []
  calm before e none = ap (judged_of side c) (heard_both side [] before (one e) ∙ none (arrivals_heard side [] before)) ∙ sym (append-nil _)

  own_heard : (before : List Event) (at : Ticks) (frame : List ℕ) → ((earlier : List Arrival) → arrivals_heard side earlier (one (event.Arrival side at frame)) ≡ arrival_with at.0 frame ∷ earlier)
      → judged_by (before ++ one (event.Arrival side at frame)) ≡ judged_by before ++ judgements side c (arrivals_heard side [] before) (arrival_with at.0 frame)
  unfolding judged_of
  own_heard before at frame heard =
      ap (judged_of side c) (heard_both side [] before (one (event.Arrival side at frame)) ∙ heard (arrivals_heard side [] before))

-- an arrival at a unit, and at the other one
arrived : (side s : Side) (c : Config) (before : List Event) (at : Ticks) (frame : List ℕ) (rest : List Event)
    → judged_by side c ((before ++ event.Arrival s at frame ∷ []) ++ rest) ≡ judged_by side c (before ++ event.Arrival s at frame ∷ []) ++ told_by side c (before ++ event.Arrival s at frame ∷ []) rest
    → judged_by side c (before ++ event.Arrival s at frame ∷ rest) ≡ judged_by side c before ++ told_by side c before (event.Arrival s at frame ∷ rest)
unfolding arrivals_heard stories_in told_after
arrived Ru Ru c before at frame rest later =
    step Ru c before (event.Arrival Ru at frame) rest _ (own_heard Ru c before at frame (λ earlier. refl)) later
arrived Ru Du c before at frame rest later = step Ru c before (event.Arrival Du at frame) rest [] (calm Ru c before (event.Arrival Du at frame) (λ earlier. refl)) later
arrived Du Ru c before at frame rest later = step Du c before (event.Arrival Ru at frame) rest [] (calm Du c before (event.Arrival Ru at frame) (λ earlier. refl)) later
arrived Du Du c before at frame rest later =
    step Du c before (event.Arrival Du at frame) rest _ (own_heard Du c before at frame (λ earlier. refl)) later

go_on : (side : Side) (c : Config) (before rest : List Event) → judged_by side c (before ++ rest) ≡ judged_by side c before ++ told_by side c before rest
unfolding arrivals_heard stories_in told_after
go_on side c before [] = ap (judged_by side c) (append-nil before) ∙ sym (append-nil _)
go_on side c before (event.Arrival s at frame ∷ rest) = arrived side s c before at frame rest (go_on side c (before ++ event.Arrival s at frame ∷ []) rest)
go_on side c before (event.Cell a ∷ rest) =
    step side c before (event.Cell a) rest [] (calm side c before (event.Cell a) (λ earlier. refl)) (go_on side c (before ++ event.Cell a ∷ []) rest)
go_on side c before (event.Delay at s id value ∷ rest) =
    step side c before (event.Delay at s id value) rest [] (calm side c before (event.Delay at s id value) (λ earlier. refl)) (go_on side c (before ++ event.Delay at s id value ∷ []) rest)
go_on side c before (event.Count s counter value ∷ rest) =
    step side c before (event.Count s counter value) rest [] (calm side c before (event.Count s counter value) (λ earlier. refl)) (go_on side c (before ++ event.Count s counter value ∷ []) rest)

pub are_judged : StoriesAreJudged
unfolding arrivals_heard judged_of
are_judged side c events = sym (go_on side c [] events)
