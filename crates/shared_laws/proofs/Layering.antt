-- Layer upon layer.
use Rattle.std.proofs.Common.{◌≡◌, ℕ, suc, ◌+◌, Bool, true, false, if◌then◌else◌, List, [], ◌∷◌, ◌++◌, length, map, Option, Some, None, is_some, refl, ap, ap₂, sym, ◌∙◌, subst, arith, append_assoc, append-nil}
use Rattle.std.specs.List.{AllByRecursion}
use Rattle.bfp_codec.specs.declared.samples.Wide.{Wide}
use Rattle.air_source.specs.declared.events.AirCell.{AirCell}
use Rattle.shared_cell.specs.Combined.{combined}
use Rattle.shared_cell.specs.Joined.{added, joined, joined_block, opened}
use Rattle.shared_cell.specs.Places.{is_mixed_at, is_same, place_in, place_of}
use Rattle.shared_cell.specs.declared.places.CellPlace.{CellPlace}
use Rattle.shared_cell.specs.declared.values.Mixed.{Mixed}
use Rattle.shared_cell.proofs.Lifted.{combined-last}
use Rattle.shared_cell.proofs.Same.{same_itself, same_turned}
use Rattle.shared_laws.specs.Layers.{AreAlike, AreDistinct, AreShown, EachUnitIsCounted, UnitsAreLayers, all_of, first_layer, joined_each, layered}
use Rattle.fh_base.proofs.OrderedLemmas.{cons_first as heads}
use Rattle.shared_cell.proofs.Found.{place_in-joined}

-- ---- cell after cell

unfoldable pub added_all : List AirCell → List Mixed → List Mixed
added_all [] ms = ms
added_all (c ∷ cells) ms = added_all cells (added c ms)

pub combined_more : (before cells : List AirCell) → combined (before ++ cells) ≡ added_all cells (combined before)
unfolding added_all
combined_more before [] = ap combined (append-nil before)
combined_more before (c ∷ cells) =
    ap combined (sym (append_assoc before (c ∷ []) cells))
    ∙ combined_more (before ++ c ∷ []) cells
    ∙ ap (added_all cells) (combined-last before c)

-- ---- one layer

pub still_there : (o : Option (List Wide)) (m : Mixed) → place_in (joined_block o m) ≡ place_in m
still_there None m = refl
still_there (Some b) m = refl

-- none of these cells is at the combined cell's place
abbrev NoneAt : List AirCell → Mixed → Type 0
NoneAt cells m = AllByRecursion (λ c. is_mixed_at (place_of c) m ≡ false) cells

passes : (cells : List AirCell) (m : Mixed) (ms : List Mixed) → NoneAt cells m → added_all cells (m ∷ ms) ≡ m ∷ added_all cells ms
unfolding added_all
passes [] m ms h = refl
passes (c ∷ cells) m ms h =
    ap (added_all cells) (ap (λ (b : Bool). let xs : List Mixed = if b then joined c m ∷ ms else m ∷ added c ms in xs) h.0)
    ∙ passes cells m (added c ms) h.1

-- the combined cells are at these cells' places
abbrev StandAt : List AirCell → List Mixed → Type 0
StandAt cells ms = map place_in ms ≡ map place_of cells

other_place : (c d : AirCell) (m : Mixed) → place_in m ≡ place_of c → is_same (place_of c) (place_of d) ≡ false → is_mixed_at (place_of d) m ≡ false
other_place c d m at other = ap (is_same (place_of d)) at ∙ same_turned (place_of d) (place_of c) ∙ other

own_place : (c : AirCell) (m : Mixed) → place_in m ≡ place_of c → is_mixed_at (place_of c) m ≡ true
own_place c m at = ap (is_same (place_of c)) at ∙ same_itself (place_of c)

all_weaker : (P Q : AirCell → Type 0) → ((x : AirCell) → P x → Q x) → (xs : List AirCell) → AllByRecursion P xs → AllByRecursion Q xs
all_weaker P Q f [] h = tt
all_weaker P Q f (x ∷ xs) h = (f x h.0, all_weaker P Q f xs h.1)

layer : (cells : List AirCell) (ms : List Mixed) → AreDistinct cells → StandAt cells ms → added_all cells ms ≡ joined_each cells ms
unfolding added_all
layer [] ms apart at = refl
layer (c ∷ cells) [] apart at = absurd (cc)
layer (c ∷ cells) (m ∷ ms) apart at =
    let h = heads (place_in m) (place_of c) (map place_in ms) (map place_of cells) at in
    let moved = place_in-joined c m ∙ h.0 in
    ap (added_all cells) (ap (λ (b : Bool). let xs : List Mixed = if b then joined c m ∷ ms else m ∷ added c ms in xs) (own_place c m h.0))
    ∙ passes cells (joined c m) ms (all_weaker (λ d. is_same (place_of c) (place_of d) ≡ false) (λ d. is_mixed_at (place_of d) (joined c m) ≡ false) (λ d o. other_place c d (joined c m) moved o) cells apart.0)
    ∙ ap (λ (xs : List Mixed). joined c m ∷ xs) (layer cells ms apart.1 h.1)

stands_still : (cells : List AirCell) (ms : List Mixed) → StandAt cells ms → map place_in (joined_each cells ms) ≡ map place_in ms
stands_still [] ms at = refl
stands_still (c ∷ cells) [] at = refl
stands_still (c ∷ cells) (m ∷ ms) at =
    let h = heads (place_in m) (place_of c) (map place_in ms) (map place_of cells) at in
    ap₂ (λ (p : CellPlace) (ps : List CellPlace). p ∷ ps) (place_in-joined c m) (stands_still cells ms h.1)

-- the first layer
opens : (cells : List AirCell) → AreDistinct cells → added_all cells [] ≡ first_layer cells
unfolding added_all
opens [] apart = refl
opens (c ∷ cells) apart =
    passes cells (joined c (opened c)) [] (all_weaker (λ d. is_same (place_of c) (place_of d) ≡ false) (λ d. is_mixed_at (place_of d) (joined c (opened c)) ≡ false)
    (λ d o. other_place c d (joined c (opened c)) (place_in-joined c (opened c)) o) cells apart.0)
    ∙ ap (λ (xs : List Mixed). joined c (opened c) ∷ xs) (opens cells apart.1)

first_at : (cells : List AirCell) → StandAt cells (first_layer cells)
first_at [] = refl
first_at (c ∷ cells) = ap₂ (λ (p : CellPlace) (ps : List CellPlace). p ∷ ps) (place_in-joined c (opened c)) (first_at cells)

-- ---- all layers

-- places tell whether cells are distinct
distinct_at : (cells others : List AirCell) → AreAlike cells others → AreDistinct cells → AreDistinct others
distinct_at cells [] same apart = tt
distinct_at [] (d ∷ others) same apart = absurd (cc)
distinct_at (c ∷ cells) (d ∷ others) same apart =
    let h = heads (place_of d) (place_of c) (map place_of others) (map place_of cells) same in
    (far (place_of c) (place_of d) (sym h.0) cells others h.1 apart.0, distinct_at cells others h.1 apart.1)
  where
    far : (p q : CellPlace) → p ≡ q → (cells others : List AirCell) → AreAlike cells others → AllByRecursion (λ x. is_same p (place_of x) ≡ false) cells → AllByRecursion (λ x. is_same q (place_of x) ≡ false) others
    far p q e cells [] same h = tt
    far p q e [] (o ∷ others) same h = absurd (cc)
    far p q e (x ∷ cells) (o ∷ others) same h =
        let w = heads (place_of o) (place_of x) (map place_of others) (map place_of cells) same in
        (ap₂ (λ (a b : CellPlace). is_same a b) (sym e) w.0 ∙ h.0, far p q e cells others w.1 h.1)

layers : (cells : List AirCell) (units : List (List AirCell)) (ms : List Mixed) → AreDistinct cells → AllByRecursion (AreAlike cells) units → StandAt cells ms
    → added_all (all_of units) ms ≡ layered units ms
unfolding added_all
layers cells [] ms apart alike at = refl
layers cells (u ∷ units) ms apart alike at =
    let here : StandAt u ms = at ∙ sym alike.0 in
    both u (all_of units) ms
    ∙ ap (added_all (all_of units)) (layer u ms (distinct_at cells u alike.0 apart) here)
    ∙ layers cells units (joined_each u ms) apart alike.1 (stands_still u ms here ∙ at)
  where
    both : (xs ys : List AirCell) (ms : List Mixed) → added_all (xs ++ ys) ms ≡ added_all ys (added_all xs ms)
    both [] ys ms = refl
    both (x ∷ xs) ys ms = both xs ys (added x ms)

pub are_layers : UnitsAreLayers
unfolding added_all
are_layers cells units apart alike =
    combined_more cells (all_of units)
    ∙ ap (added_all (all_of units)) (combined_more [] cells ∙ opens cells apart)
    ∙ layers cells units (first_layer cells) apart alike (first_at cells)

-- ---- how many units have samples

one_more : (o : Option (List Wide)) (m : Mixed) → is_some o ≡ true → (joined_block o m).units ≡ m.units + 1
one_more None m h = absurd (cc h)
one_more (Some b) m h = refl

abbrev AreOf : ℕ → List Mixed → Type 0
AreOf n ms = AllByRecursion (λ m. m.units ≡ n) ms

layer_counts : (n : ℕ) (cells : List AirCell) (ms : List Mixed) → AreShown cells → StandAt cells ms → AreOf n ms → AreOf (n + 1) (joined_each cells ms)
layer_counts n [] [] shown at of = tt
layer_counts n [] (m ∷ ms) shown at of = absurd (cc)
layer_counts n (c ∷ cells) [] shown at of = tt
layer_counts n (c ∷ cells) (m ∷ ms) shown at of =
    let h = heads (place_in m) (place_of c) (map place_in ms) (map place_of cells) at in
    (one_more c.block m shown.0 ∙ ap (λ k. k + 1) of.0, layer_counts n cells ms shown.1 h.1 of.1)

layers_count : (n : ℕ) (cells : List AirCell) (units : List (List AirCell)) (ms : List Mixed) → AllByRecursion (AreAlike cells) units → AllByRecursion AreShown units → StandAt cells ms → AreOf n ms
    → AreOf (n + length units) (layered units ms)
layers_count n cells [] ms alike shown at of = (let e : n ≡ n + 0 = omega arith in subst (λ (k : ℕ). AreOf k ms) e of)
layers_count n cells (u ∷ units) ms alike shown at of =
    let here : StandAt u ms = at ∙ sym alike.0 in
    let number : n + 1 + length units ≡ n + suc (length units) = omega arith in
    subst (λ (k : ℕ). AreOf k (layered units (joined_each u ms))) number
    (layers_count (n + 1) cells units (joined_each u ms) alike.1 shown.1 (stands_still u ms here ∙ at) (layer_counts n u ms shown.0 here of))

first_counts : (cells : List AirCell) → AreShown cells → AreOf 1 (first_layer cells)
first_counts [] h = tt
first_counts (c ∷ cells) h = (one_more c.block (opened c) h.0, first_counts cells h.1)

pub each_counted : EachUnitIsCounted
each_counted cells units apart alike shown all_shown =
    subst (AreOf (1 + length units)) (sym (are_layers cells units apart alike))
    (layers_count 1 cells units (first_layer cells) alike all_shown (first_at cells) (first_counts cells shown))
