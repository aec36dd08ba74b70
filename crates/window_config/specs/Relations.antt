-- The eight relations of a delay profile: six put arrivals inside their windows (O-RAN.WG4.CUS, delay management), two let a
-- generation hold every fragment of a message (this project's profile). Those of downlink commands follow from the first two.
use Rattle.std.specs.Prelude.{◌≡◌, ℕ, ℤ, ◌+ℤ◌, ◌-ℤ◌, ◌≤ℤ◌, ◌<◌, int_le, Bool, List, [], ◌∷◌, Result, Ok, Err, IsTrue, IsFalse, codes, if◌then◌else◌}
use Rattle.window_config.specs.declared.delays.Delays.{Delays}
use Rattle.window_config.specs.declared.relations.Failing.{Failing}
use Rattle.window_config.specs.declared.relations.Relation.{Relation}
use Rattle.window_config.specs.declared.relations.Relation.TheVariants.{UpMax, UpMin, CpUlMax, CpUlMin, Ta4Min, Ta4Max, HoldDl, HoldUl}

-- the relations in their order
abbrev pub relations : List Relation
relations = UpMax ∷ UpMin ∷ CpUlMax ∷ CpUlMin ∷ Ta4Min ∷ Ta4Max ∷ HoldDl ∷ HoldUl ∷ []

-- the place of a relation in that order, and its name
abbrev pub number_of : Relation → ℕ
number_of UpMax = 0
number_of UpMin = 1
number_of CpUlMax = 2
number_of CpUlMin = 3
number_of Ta4Min = 4
number_of Ta4Max = 5
number_of HoldDl = 6
number_of HoldUl = 7

abbrev pub name_of : Relation → List ℕ
name_of UpMax = codes "up-max"
name_of UpMin = codes "up-min"
name_of CpUlMax = codes "cp-ul-max"
name_of CpUlMin = codes "cp-ul-min"
name_of Ta4Min = codes "ta4-min"
name_of Ta4Max = codes "ta4-max"
name_of HoldDl = codes "hold-dl"
name_of HoldUl = codes "hold-ul"

-- the two sides in nanoseconds
abbrev pub left_of : Relation → Delays → ℤ
left_of UpMax d = d.t1a_up.max
left_of UpMin d = d.t1a_up.min
left_of CpUlMax d = d.t1a_cp_ul.max
left_of CpUlMin d = d.t1a_cp_ul.min
left_of Ta4Min d = d.ta4.min
left_of Ta4Max d = d.ta4.max
left_of HoldDl d = d.hold_dl
left_of HoldUl d = d.hold_ul

abbrev pub right_of : Relation → Delays → ℤ
right_of UpMax d = d.t2a_up.max +ℤ d.t12.min
right_of UpMin d = d.t2a_up.min +ℤ d.t12.max
right_of CpUlMax d = d.t2a_cp_ul.max +ℤ d.t12.min
right_of CpUlMin d = d.t2a_cp_ul.min +ℤ d.t12.max
right_of Ta4Min d = d.ta3.min +ℤ d.t34.min
right_of Ta4Max d = d.ta3.max +ℤ d.t34.max
right_of HoldDl d = (d.t1a_up.max -ℤ d.t1a_up.min) +ℤ (d.t12.max -ℤ d.t12.min)
right_of HoldUl d = (d.ta3.max -ℤ d.ta3.min) +ℤ (d.t34.max -ℤ d.t34.min)

-- whether a relation holds of two sides: the left one is at most the right one where it bounds an early arrival, else at least
abbrev pub compares : Relation → ℤ → ℤ → Bool
compares UpMax left right = int_le left right
compares UpMin left right = int_le right left
compares CpUlMax left right = int_le left right
compares CpUlMin left right = int_le right left
compares Ta4Min left right = int_le left right
compares Ta4Max left right = int_le right left
compares HoldDl left right = int_le right left
compares HoldUl left right = int_le right left

abbrev pub holds : Relation → Delays → Bool
holds r d = compares r (left_of r d) (right_of r d)

-- a relation with its sides, as it is told where it fails
abbrev pub failing_of : Relation → Delays → Failing
failing_of r d = record { relation = r; left = left_of r d; right = right_of r d }

-- the first of some relations that fails
abbrev pub first_failing : List Relation → Delays → Result (Unit {0}) Failing
first_failing [] d = Ok tt
first_failing (r ∷ rs) d = if holds r d then first_failing rs d else Err (failing_of r d)

abbrev pub checked : Delays → Result (Unit {0}) Failing
checked d = first_failing relations d

-- the same by what it means: all eight hold
pub record PassesCheck (d : Delays) : Type 0 where
  pub up_max : d.t1a_up.max ≤ℤ (d.t2a_up.max +ℤ d.t12.min)
  pub up_min : (d.t2a_up.min +ℤ d.t12.max) ≤ℤ d.t1a_up.min
  pub cp_ul_max : d.t1a_cp_ul.max ≤ℤ (d.t2a_cp_ul.max +ℤ d.t12.min)
  pub cp_ul_min : (d.t2a_cp_ul.min +ℤ d.t12.max) ≤ℤ d.t1a_cp_ul.min
  pub ta4_min : d.ta4.min ≤ℤ (d.ta3.min +ℤ d.t34.min)
  pub ta4_max : (d.ta3.max +ℤ d.t34.max) ≤ℤ d.ta4.max
  pub hold_dl : ((d.t1a_up.max -ℤ d.t1a_up.min) +ℤ (d.t12.max -ℤ d.t12.min)) ≤ℤ d.hold_dl
  pub hold_ul : ((d.ta3.max -ℤ d.ta3.min) +ℤ (d.t34.max -ℤ d.t34.min)) ≤ℤ d.hold_ul

-- or this one fails, and those before it hold
pub record IsFirstFailing (d : Delays) (f : Failing) : Type 0 where
  pub sides : f ≡ failing_of f.relation d
  pub fails : IsFalse (holds f.relation d)
  pub earlier : (r : Relation) → number_of r < number_of f.relation → IsTrue (holds r d)
