-- The arrivals of a unit are those of its stories.
use Rattle.std.proofs.Common.{◌≡◌, suc, Bool, true, false, List, [], ◌∷◌, ◌++◌, filter, if◌then◌else◌, map, refl, ap, ◌∙◌}
use Rattle.air_source.specs.Units.{same_side}
use Rattle.air_source.specs.declared.events.Event.{Event}
use Rattle.air_source.specs.declared.events.Event.TheVariants as event
use Rattle.air_source.specs.declared.events.Side.{Side}
use Rattle.air_source.specs.declared.events.Side.TheVariants.{Ru, Du}
use Rattle.explain_model.specs.Stories.{Story, arrival_count, stories, stories_in, story, told_after}
use Rattle.explain_records.specs.Records.{unit_arrivals}
use Rattle.unit_model.specs.Heard.{arrivals_heard, is_of}
use Rattle.fh_base.specs.Lists.{onto}
use Rattle.unit_model.specs.Meetings.{Arrival}
use Rattle.window_config.specs.declared.config.Config.{Config}

onto_if : (b : Bool) (acc : List Arrival) (s : Story) (xs : List Story)
    → onto acc (map (λ (s : Story). s.arrival) (if b then s ∷ xs else xs)) ≡ onto (if b then s.arrival ∷ acc else acc) (map (λ (s : Story). s.arrival) xs)
unfolding onto
onto_if true acc s xs = refl
onto_if false acc s xs = refl

same_of : (a b : Side) → same_side a b ≡ is_of b a
same_of Ru Ru = refl
same_of Ru Du = refl
same_of Du Ru = refl
same_of Du Du = refl

module _ (side : Side) (c : Config) where
  abbrev of_unit : List Story → List Arrival
  of_unit ss = map (λ (s : Story). s.arrival) (filter (λ (s : Story). same_side s.side side) ss)

  arrivals_after : (acc : List Arrival) (earlier rest : List Event) → onto acc (of_unit (stories_in (told_after c earlier rest))) ≡ arrivals_heard side acc rest
  unfolding onto stories_in told_after arrivals_heard
  arrivals_after acc earlier [] = refl
  arrivals_after acc earlier (event.Arrival at_side at frame ∷ rest) =
      let a : Arrival = record { at = at.0; frame = frame } in
      let later : List Story = stories_in (told_after c (earlier ++ event.Arrival at_side at frame ∷ []) rest) in
      onto_if (same_side at_side side) acc (story c (suc (arrival_count earlier)) at_side (arrivals_heard at_side [] earlier) a) (filter (λ (s : Story). same_side s.side side) later)
      ∙ ap (λ (b : Bool). onto (if b then a ∷ acc else acc) (of_unit later)) (same_of at_side side)
      ∙ arrivals_after (if is_of side at_side then a ∷ acc else acc) (earlier ++ event.Arrival at_side at frame ∷ []) rest
  arrivals_after acc earlier (event.Cell a ∷ rest) = arrivals_after acc (earlier ++ event.Cell a ∷ []) rest
  arrivals_after acc earlier (event.Delay at at_side id value ∷ rest) = arrivals_after acc (earlier ++ event.Delay at at_side id value ∷ []) rest
  arrivals_after acc earlier (event.Count at_side counter value ∷ rest) = arrivals_after acc (earlier ++ event.Count at_side counter value ∷ []) rest

  pub arrivals_are : (events : List Event) → unit_arrivals side (stories c events) ≡ arrivals_heard side [] events
  arrivals_are events = arrivals_after [] [] events
