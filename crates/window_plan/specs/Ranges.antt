-- A range in place of one window of a profile.
use Rattle.std.specs.Prelude.{◌≡◌, ⊤, ◌≤ℤ◌, List, [], ◌∷◌, IsTrue}
use Rattle.window_config.specs.declared.delays.Range.{Range}
use Rattle.window_config.specs.declared.delays.Delays.{Delays}
use Rattle.window_config.specs.declared.relations.Relation.{Relation}
use Rattle.window_config.specs.declared.relations.Relation.TheVariants as relation
use Rattle.window_config.specs.Relations.{holds}
use Rattle.window_plan.specs.declared.refusals.Window.{Window}
use Rattle.window_plan.specs.declared.refusals.Window.TheVariants.{Up, CpUl, Ta4, HoldDl, HoldUl}

-- the profile with this range for a window; a hold is one time, the range's maximum
abbrev pub with_range : Window → Range → Delays → Delays
with_range Up r d = record d { t1a_up = r }
with_range CpUl r d = record d { t1a_cp_ul = r }
with_range Ta4 r d = record d { ta4 = r }
with_range HoldDl r d = record d { hold_dl = r.max }
with_range HoldUl r d = record d { hold_ul = r.max }

-- the window's own relations: those in which it is the side that is configured
abbrev pub own_relations : Window → List Relation
own_relations Up = relation.UpMax ∷ relation.UpMin ∷ []
own_relations CpUl = relation.CpUlMax ∷ relation.CpUlMin ∷ []
own_relations Ta4 = relation.Ta4Min ∷ relation.Ta4Max ∷ []
own_relations HoldDl = relation.HoldDl ∷ []
own_relations HoldUl = relation.HoldUl ∷ []

abbrev pub AllHold : List Relation → Delays → Type 0
AllHold [] d = ⊤
AllHold (q ∷ more) d = IsTrue (holds q d) × AllHold more d

-- the range meets the window's own relations, whatever the profile has for the window
abbrev pub Meets : Window → Delays → Range → Type 0
Meets w d r = AllHold (own_relations w) (with_range w r d)

pub record IsInside (inner outer : Range) : Type 0 where
  pub low : outer.min ≤ℤ inner.min
  pub high : inner.max ≤ℤ outer.max

-- the times that planning leaves as they are: the radio unit's, the network's and the advance
pub record KeepsRest (old new : Delays) : Type 0 where
  pub t2a_up : new.t2a_up ≡ old.t2a_up
  pub t2a_cp_ul : new.t2a_cp_ul ≡ old.t2a_cp_ul
  pub ta3 : new.ta3 ≡ old.ta3
  pub t12 : new.t12 ≡ old.t12
  pub t34 : new.t34 ≡ old.t34
  pub advance : new.advance ≡ old.advance
