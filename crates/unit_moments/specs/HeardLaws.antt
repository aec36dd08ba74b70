-- Laws of events whose hearing does not depend on what was heard before them.
use Rattle.std.specs.Prelude.{◌≡◌, List, [], ◌∷◌, ◌++◌, map, refl}
use Rattle.std.proofs.Common.{ap, sym, subst}
use Rattle.air_source.specs.declared.events.AirCell.{AirCell}
use Rattle.air_source.specs.declared.events.Event.{Event}
use Rattle.air_source.specs.declared.events.Event.TheVariants.{Arrival, Cell, Count, Delay}
use Rattle.window_config.specs.declared.config.Config.{Config}
use Rattle.unit_moments.specs.Heard.{HeardAnyhow, without_frames}

-- frames of a list and then those of another are those of both
without_frames-append : (xs ys : List Event) → without_frames (xs ++ ys) ≡ without_frames xs ++ without_frames ys
without_frames-append [] ys = refl
without_frames-append (Cell a ∷ xs) ys = ap (λ (es : List Event). Cell a ∷ es) (without_frames-append xs ys)
without_frames-append (Arrival side at frame ∷ xs) ys = without_frames-append xs ys
without_frames-append (Delay at side id value ∷ xs) ys = ap (λ (es : List Event). Delay at side id value ∷ es) (without_frames-append xs ys)
without_frames-append (Count side counter value ∷ xs) ys = ap (λ (es : List Event). Count side counter value ∷ es) (without_frames-append xs ys)

-- cells are no frames
pub cells_stay : (cells : List AirCell) → without_frames (map Cell cells) ≡ map Cell cells
cells_stay [] = refl
cells_stay (a ∷ cells) = ap (λ (es : List Event). Cell a ∷ es) (cells_stay cells)

module _ {A : Type 0} (grew : Config → List Event → A → List Event → A → Type 0)
    (more : (k : Config) (earlier : List Event) (a b c : A) (first second : List Event) → grew k earlier a first b → grew k (earlier ++ first) b second c → grew k earlier a (first ++ second) c)
    (a b c : A) (first second : List Event) where
  -- hearing one list and then another, whatever was heard earlier, is hearing both so
  pub anyhow_more : HeardAnyhow grew a first b → HeardAnyhow grew b second c → HeardAnyhow grew a (first ++ second) c
  anyhow_more one two k earlier = more k earlier a b c first second (one k earlier) (two k (earlier ++ first))

  -- so also without the frames
  pub reports_more : ((k : Config) (earlier : List Event) → grew k earlier a (without_frames first) b)
      → ((k : Config) (earlier : List Event) → grew k earlier b (without_frames second) c)
      → (k : Config) (earlier : List Event) → grew k earlier a (without_frames (first ++ second)) c
  reports_more one two k earlier =
      subst (λ (es : List Event). grew k earlier a es c) (sym (without_frames-append first second))
      (more k earlier a b c (without_frames first) (without_frames second) (one k earlier) (two k (earlier ++ without_frames first)))
