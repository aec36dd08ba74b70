-- What is seen of the cells that each unit reported.
use Rattle.std.proofs.Common.{◌≡◌, Bool, true, false, List, [], ◌∷◌, refl, ap, ap₂, subst, inl, inr}
use Rattle.std.specs.Prelude.{All, filter, if◌then◌else◌, is_some, not, ◌||◌}
use Rattle.std.specs.List.{list_any}
use Rattle.std.proofs.lemmas.List.Elements.{All-head, All-tail}
use Rattle.air_source.specs.declared.events.AirCell.{AirCell}
use Rattle.air_source.specs.declared.events.Event.{Event}
use Rattle.air_source.specs.declared.events.Event.TheVariants as event
use Rattle.air_source.specs.declared.events.Side.{Side}
use Rattle.air_source.specs.declared.events.Side.TheVariants.{Ru, Du}
use Rattle.unit_model.specs.Heard.{cells_heard, is_of}
use Rattle.explain_model.specs.Missing.{is_missing}
use Rattle.explain_model.specs.Seen.{Seen, seen, seen_of}
use Rattle.fh_base.specs.Members.{IsIn}

-- ---- what both units reported has samples: then no cell is missing

abbrev pub IsShown : AirCell → Type 0
IsShown a = is_some a.block ≡ true

-- the first of a unit's cells, and the others
first_of : (side : Side) (b : Bool) (a : AirCell) (xs : List AirCell) → b ≡ true → All IsShown (if b then a ∷ xs else xs) → IsShown a
first_of side true a xs is h = All-head IsShown a xs h
first_of side false a xs is h = absurd cc

others_of : (b : Bool) (a : AirCell) (xs : List AirCell) → All IsShown (if b then a ∷ xs else xs) → All IsShown xs
others_of true a xs h = All-tail IsShown a xs h
others_of false a xs h = h

shown_by : (side : Side) (a : AirCell) (rest : List Event) → a.side ≡ side → All IsShown (cells_heard side (event.Cell a ∷ rest)) → IsShown a
unfolding cells_heard
shown_by Ru a rest is h = first_of Ru (is_of Ru a.side) a (cells_heard Ru rest) (ap (is_of Ru) is) h
shown_by Du a rest is h = first_of Du (is_of Du a.side) a (cells_heard Du rest) (ap (is_of Du) is) h

shown_at : (side : Side) (a : AirCell) (rest : List Event) → a.side ≡ side → ((s : Side) → All IsShown (cells_heard s (event.Cell a ∷ rest))) → IsShown a
shown_at side a rest is h = shown_by side a rest is (h side)

keep_on : (a : AirCell) (rest : List Event) → ((s : Side) → All IsShown (cells_heard s (event.Cell a ∷ rest))) → (s : Side) → All IsShown (cells_heard s rest)
unfolding cells_heard
keep_on a rest h s = others_of (is_of s a.side) a (cells_heard s rest) (h s)

pub none_missing : (events : List Event) → ((side : Side) → All IsShown (cells_heard side events)) → filter is_missing (seen events) ≡ []
unfolding seen cells_heard
none_missing [] h = refl
none_missing (event.Cell a ∷ rest) h =
    ap₂ (λ (b : Bool) (xs : List Seen). if not b then seen_of a ∷ xs else xs) (shown_at a.side a rest refl h) (none_missing rest (keep_on a rest h))
none_missing (event.Arrival side at frame ∷ rest) h = none_missing rest h
none_missing (event.Delay at side id value ∷ rest) h = none_missing rest h
none_missing (event.Count side counter value ∷ rest) h = none_missing rest h

-- ---- what a unit reported is seen

module _ (p : Seen → Bool) (a : AirCell) (is : p (seen_of a) ≡ true) where
  or_true : (x y : Bool) → y ≡ true → (x || y) ≡ true
  or_true true y h = refl
  or_true false y h = h

  there_step : (b : AirCell) (d : Bool) (heard : List AirCell) (cells : List Seen) → (IsIn a heard → list_any p cells ≡ true) → IsIn a (if d then b ∷ heard else heard)
      → (p (seen_of b) || list_any p cells) ≡ true
  there_step b true heard cells more (inl here) = ap (λ (x : Bool). x || list_any p cells) (subst (λ (x : AirCell). p (seen_of x) ≡ true) here is)
  there_step b true heard cells more (inr later) = or_true (p (seen_of b)) (list_any p cells) (more later)
  there_step b false heard cells more there = or_true (p (seen_of b)) (list_any p cells) (more there)

  pub heard_is_seen : (side : Side) (events : List Event) → IsIn a (cells_heard side events) → list_any p (seen events) ≡ true
  unfolding seen cells_heard
  heard_is_seen side [] h = absurd h
  heard_is_seen side (event.Cell b ∷ rest) h = there_step b (is_of side b.side) (cells_heard side rest) (seen rest) (heard_is_seen side rest) h
  heard_is_seen side (event.Arrival s at frame ∷ rest) h = heard_is_seen side rest h
  heard_is_seen side (event.Delay at s id value ∷ rest) h = heard_is_seen side rest h
  heard_is_seen side (event.Count s counter value ∷ rest) h = heard_is_seen side rest h
