-- What an air of a unit adds up is the uplink cells that it heard.
use Rattle.std.proofs.Common.{◌≡◌, ℕ, not, cond, List, [], ◌∷◌, refl, ◌∙◌}
use Rattle.std.specs.List.{AllByRecursion}
use Rattle.air_source.specs.declared.events.AirCell.{AirCell}
use Rattle.air_source.specs.declared.events.Event.{Event}
use Rattle.air_source.specs.declared.events.Event.TheVariants as event
use Rattle.air_source.specs.declared.events.Side.{Side}
use Rattle.air_source.specs.declared.events.Side.TheVariants.{Ru, Du}
use Rattle.air_source.specs.Units.{is_down}
use Rattle.unit_model.specs.Heard.{cells_heard, is_of}
use Rattle.shared_cell.specs.Joined.{joined_at, taken}
use Rattle.shared_cell.specs.declared.values.Mixed.{Mixed}
use Rattle.document_texts.specs.UnitText.{all_taken, event_taken}

-- one after the other
unfoldable pub joined_all_at : List AirCell → List Mixed → List Mixed
joined_all_at [] ms = ms
joined_all_at (c ∷ cells) ms = joined_all_at cells (joined_at c ms)

pub taken_heard : (events : List Event) (ms : List Mixed) → all_taken events ms ≡ joined_all_at (cells_heard Du events) ms
unfolding joined_all_at cells_heard
taken_heard [] ms = refl
taken_heard (event.Cell c ∷ events) ms = taken_heard events (taken c ms) ∙ by_side c.side
  where
    by_side : (side : Side) → joined_all_at (cells_heard Du events) (cond (not (is_down side)) (joined_at c ms) ms) ≡ joined_all_at (cond (is_of Du side) (c ∷ cells_heard Du events) (cells_heard Du events)) ms
    by_side Ru = refl
    by_side Du = refl
taken_heard (event.Delay at side id value ∷ events) ms = taken_heard events ms
taken_heard (event.Arrival side at frame ∷ events) ms = taken_heard events ms
taken_heard (event.Count side counter value ∷ events) ms = taken_heard events ms

-- each is the distributed unit's
pub heard_du : (events : List Event) → AllByRecursion (λ c. c.side ≡ Du) (cells_heard Du events)
unfolding cells_heard
heard_du [] = tt
heard_du (event.Cell c ∷ events) = by_side c.side refl (heard_du events)
  where
    by_side : (side : Side) → c.side ≡ side → AllByRecursion (λ x. x.side ≡ Du) (cells_heard Du events) → AllByRecursion (λ x. x.side ≡ Du) (cond (is_of Du side) (c ∷ cells_heard Du events) (cells_heard Du events))
    by_side Ru is rest = rest
    by_side Du is rest = (is, rest)
heard_du (event.Delay at side id value ∷ events) = heard_du events
heard_du (event.Arrival side at frame ∷ events) = heard_du events
heard_du (event.Count side counter value ∷ events) = heard_du events
