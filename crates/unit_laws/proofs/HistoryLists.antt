-- Lists of nothing, one of two tests, and what a test keeps of cells.
use Rattle.std.proofs.Common.{◌≡◌, Bool, true, false, not, ◌||◌, cond, if◌then◌else◌, List, [], ◌∷◌, ◌++◌, refl, ap, ap₂, ◌∙◌}
use Rattle.std.specs.Prelude.{filter}
use Rattle.std.proofs.lemmas.List.Elements.{filter-append}
use Rattle.air_source.specs.declared.events.AirCell.{AirCell}
use Rattle.unit_model.proofs.SweepLemmas.{IsKept}

pub both_nothing : {A : Type 0} (xs ys : List A) → xs ++ ys ≡ [] → (xs ≡ []) × (ys ≡ [])
both_nothing [] ys h = (refl, h)
both_nothing (x ∷ xs) ys h = absurd cc

pub front_empty : {A : Type 0} (xs ys : List A) → xs ++ ys ≡ [] → xs ≡ []
front_empty xs ys h = (both_nothing xs ys h).0

pub back_empty : {A : Type 0} (xs ys : List A) → xs ++ ys ≡ [] → ys ≡ []
back_empty xs ys h = (both_nothing xs ys h).1

-- ---- tests

pub one_of_two : {P : Type 0} (a b : Bool) → (a || b) ≡ true → (a ≡ true → P) → (b ≡ true → P) → P
one_of_two true b h k l = k refl
one_of_two false b h k l = l h

-- ---- cells

abbrev pub one_unless : Bool → AirCell → List AirCell
one_unless none a = if none then [] else a ∷ []

pub kept_one : (p : AirCell → Bool) (none done : Bool) (a : AirCell) → p a ≡ not done → filter p (one_unless none a) ≡ (if done then [] else one_unless none a)
kept_one p true true a h = refl
kept_one p true false a h = refl
kept_one p false true a h = ap (λ (b : Bool). cond b (a ∷ []) []) h
kept_one p false false a h = ap (λ (b : Bool). cond b (a ∷ []) []) h

pub filter_kept : (p : AirCell → Bool) → IsKept {A = AirCell} {B = AirCell} (λ xs ys. filter p xs ≡ ys)
filter_kept p = record { none = refl; more = λ xs xs' ys ys' h k. filter-append p xs xs' ∙ ap₂ ◌++◌ h k }
