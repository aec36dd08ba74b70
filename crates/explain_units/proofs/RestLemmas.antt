-- Going over numbers, one at a time: what is left to go over, and what was passed.
use Rattle.std.proofs.Common.{rules, ◌≡◌, ℕ, zero, suc, ◌+◌, ◌-◌, ◌<◌, ◌≤◌, arith, Bool, true, false, refl, sym, ap, subst, ◌∙◌}
use Rattle.std.specs.Prelude.{◌==◌, if◌then◌else◌, ◌||◌, Option, Some, None, List}
use Rattle.std.specs.Option.{option_map}
use Rattle.explain_units.specs.Blocks.{fresh_count, giver_of}
use Rattle.explain_units.specs.declared.blocks.Given.{Given}
use Rattle.explain_model.specs.Judged.{clash_at, clash_in, first_at, passing}
use Rattle.unit_model.specs.Claims.{first_prb, prb_count}
use Rattle.fh_base.specs.Lists.{or_else, some}
use Rattle.unit_model.specs.declared.allocations.Allocation.{Allocation}
use Rattle.unit_model.specs.Radiated.{id_from, id_or}
use Rattle.unit_model.specs.declared.cells.Claim.{Claim}

-- ---- how many pass

passing_step : (from n : ℕ) (p : ℕ → Bool) → passing from (suc n) p ≡ (if p from then 1 else 0) + passing (from + 1) n p
unfolding passing
passing_step from n p = refl

-- one more at the end
passing_more : (from n : ℕ) (p : ℕ → Bool) → passing from (suc n) p ≡ passing from n p + (if p (from + n) then 1 else 0)
unfolding passing
passing_more from zero p = omega (arith, ap {B = ℕ} (λ (k : ℕ). if p k then 1 else 0) (zero_more from))
  where
    zero_more : (n : ℕ) → n ≡ n + 0
    zero_more n = omega (arith)
passing_more from (suc n) p =
    omega (arith, passing_step from (suc n) p, passing_step from n p, passing_more (from + 1) n p, ap {B = ℕ} (λ (k : ℕ). if p k then 1 else 0) (one_over from n))
  where
    one_over : (a b : ℕ) → a + 1 + b ≡ a + suc b
    one_over a b = omega (arith)

pub passing_none : (from : ℕ) (p : ℕ → Bool) → 0 ≡ passing from 0 p
unfolding passing
passing_none from p = refl

pub passing_one : (from n old new : ℕ) (p : ℕ → Bool) → old ≡ passing from n p → p (from + n) ≡ true → new ≡ old + 1 → new ≡ passing from (n + 1) p
passing_one from n old new p is passes new_is =
    omega (arith, is, new_is, passing_more from n p, ap {B = ℕ} (λ (b : Bool). if b then 1 else 0) passes, ap (λ (k : ℕ). passing from k p) (next n))
  where
    next : (k : ℕ) → k + 1 ≡ suc k
    next k = omega (arith)

pub passing_not : (from n old : ℕ) (p : ℕ → Bool) → old ≡ passing from n p → p (from + n) ≡ false → old ≡ passing from (n + 1) p
passing_not from n old p is fails =
    omega (arith, is, passing_more from n p, ap {B = ℕ} (λ (b : Bool). if b then 1 else 0) fails, ap (λ (k : ℕ). passing from k p) (next n))
  where
    next : (k : ℕ) → k + 1 ≡ suc k
    next k = omega (arith)

pub passing_most : (from n : ℕ) (p : ℕ → Bool) → passing from n p ≤ n
unfolding passing
passing_most from zero p = omega (arith)
passing_most from (suc n) p = at_most (p from) (passing_most (from + 1) n p)
  where
    at_most : (b : Bool) → passing (from + 1) n p ≤ n → (if b then 1 else 0) + passing (from + 1) n p ≤ suc n
    at_most true rest = omega (arith, rest)
    at_most false rest = omega (arith, rest)

fresh_is : (gs : List Given) (g : Given) (n : ℕ) → n ≡ passing g.first g.count (λ prb. giver_of gs g.id g.slot g.symbol prb == 0) → n ≡ fresh_count gs g
unfolding fresh_count
fresh_is gs g n is = is

pub fresh_at_end : (gs : List Given) (g : Given) (k n : ℕ) → k ≡ g.count → n ≡ passing g.first k (λ prb. giver_of gs g.id g.slot g.symbol prb == 0) → n ≡ fresh_count gs g
fresh_at_end gs g k n over is = fresh_is gs g n (is ∙ ap (λ (m : ℕ). passing g.first m (λ prb. giver_of gs g.id g.slot g.symbol prb == 0)) over)

-- ---- the first that is there

first_step : {A : Type 0} (f : ℕ → Option A) (from n : ℕ) → first_at from (suc n) f ≡ or_else (f from) (first_at (from + 1) n f)
unfolding first_at
first_step f from n = refl

first_none : {A : Type 0} (f : ℕ → Option A) (from : ℕ) → first_at from 0 f ≡ None
unfolding first_at
first_none f from = refl

-- what is left at one
first_left : {A : Type 0} (f : ℕ → Option A) (from count k : ℕ) → k < count
    → first_at (from + k) (count - k) f ≡ or_else (f (from + k)) (first_at (from + (k + 1)) (count - (k + 1)) f)
first_left f from count k below =
    ap (λ (n : ℕ). first_at (from + k) n f) (left count k below) ∙ first_step f (from + k) (count - (k + 1))
    ∙ ap (λ (n : ℕ). or_else (f (from + k)) (first_at n (count - (k + 1)) f)) (over from k)
  where
    left : (m j : ℕ) → j < m → m - j ≡ suc (m - (j + 1))
    left m j b = omega (arith, b)

    over : (a b : ℕ) → a + b + 1 ≡ a + (b + 1)
    over a b = omega (arith)

pub first_begins : {A : Type 0} (f : ℕ → Option A) (from count : ℕ) → first_at from count f ≡ first_at (from + 0) (count - 0) f
first_begins f from count = ap (λ (n : ℕ). first_at n count f) (same from) ∙ ap (λ (n : ℕ). first_at (from + 0) n f) (whole count)
  where
    same : (n : ℕ) → n ≡ n + 0
    same n = omega (arith)

    whole : (n : ℕ) → n ≡ n - 0
    whole n = omega (arith)

pub first_goes : {A : Type 0} (f : ℕ → Option A) (from count k : ℕ) (all : Option A) → k < count → all ≡ first_at (from + k) (count - k) f → f (from + k) ≡ None
    → all ≡ first_at (from + (k + 1)) (count - (k + 1)) f
first_goes {A = A} f from count k all below is not_there =
    is ∙ first_left f from count k below ∙ ap (λ (x : Option A). or_else x (first_at (from + (k + 1)) (count - (k + 1)) f)) not_there

pub first_found : {A : Type 0} (f : ℕ → Option A) (from count k : ℕ) (all : Option A) (x : A) → k < count → all ≡ first_at (from + k) (count - k) f → f (from + k) ≡ Some x
    → Some x ≡ all
first_found {A = A} f from count k all x below is there =
    sym (is ∙ first_left f from count k below ∙ ap (λ (y : Option A). or_else y (first_at (from + (k + 1)) (count - (k + 1)) f)) there)

pub first_ends : {A : Type 0} (f : ℕ → Option A) (from count : ℕ) (all : Option A) → all ≡ first_at (from + count) (count - count) f → None ≡ all
first_ends f from count all is = sym (is ∙ ap (λ (n : ℕ). first_at (from + count) n f) (nothing count) ∙ first_none f (from + count))
  where
    nothing : (n : ℕ) → n - n ≡ 0
    nothing n = omega (arith)

-- where all was gone over
pub first_ends_at : {A : Type 0} (f : ℕ → Option A) (from count k : ℕ) (all : Option A) → k ≡ count → all ≡ first_at (from + k) (count - k) f → None ≡ all
first_ends_at {A = A} f from count k all over is = first_ends f from count all (subst (λ (n : ℕ). all ≡ first_at (from + n) (count - n) f) over is)

pub clash_begins : (accepted : List Allocation) (a : Allocation)
    → clash_in accepted a ≡ first_at (a.symbol + 0) (a.num_symbol - 0) (λ y. first_at (first_prb a) (prb_count a) (λ n. clash_at accepted a y n))
unfolding clash_in
clash_begins accepted a = first_begins (λ y. first_at (first_prb a) (prb_count a) (λ n. clash_at accepted a y n)) a.symbol a.num_symbol

-- ---- one of the twelve elements

some_step : (p : ℕ → Bool) (from n : ℕ) → some from (suc n) p ≡ (p from || some (from + 1) n p)
unfolding some
some_step p from n = refl

some_left : (p : ℕ → Bool) (k : ℕ) → k < 12 → some k (12 - k) p ≡ (p k || some (k + 1) (12 - (k + 1)) p)
some_left p k below = ap (λ (n : ℕ). some k n p) (left k below) ∙ some_step p k (12 - (k + 1))
  where
    left : (j : ℕ) → j < 12 → 12 - j ≡ suc (12 - (j + 1))
    left j b = omega (arith, b)

pub some_goes : (p : ℕ → Bool) (k : ℕ) → k < 12 → some 0 12 p ≡ some k (12 - k) p → p k ≡ false → some 0 12 p ≡ some (k + 1) (12 - (k + 1)) p
some_goes p k below is fails = is ∙ some_left p k below ∙ ap (λ (b : Bool). b || some (k + 1) (12 - (k + 1)) p) fails

pub some_found : (p : ℕ → Bool) (k : ℕ) → k < 12 → some 0 12 p ≡ some k (12 - k) p → p k ≡ true → true ≡ some 0 12 p
some_found p k below is passes = sym (is ∙ some_left p k below ∙ ap (λ (b : Bool). b || some (k + 1) (12 - (k + 1)) p) passes)

pub some_ends : (p : ℕ → Bool) → some 0 12 p ≡ some 12 0 p → false ≡ some 0 12 p
unfolding some
some_ends p is = sym is

pub some_ends_at : (p : ℕ → Bool) (k : ℕ) → k ≡ 12 → some 0 12 p ≡ some k (12 - k) p → false ≡ some 0 12 p
some_ends_at p k over is = some_ends p (subst (λ (n : ℕ). some 0 12 p ≡ some n (12 - n) p) over is)

-- ---- the id under which the first claimed one is claimed

id_step : (claims : ℕ → Option Claim) (from n : ℕ) → id_from claims from (suc n) ≡ id_or (claims from) (id_from claims (from + 1) n)
unfolding id_from
id_step claims from n = refl

id_left : (claims : ℕ → Option Claim) (k : ℕ) → k < 12 → id_from claims k (12 - k) ≡ id_or (claims k) (id_from claims (k + 1) (12 - (k + 1)))
id_left claims k below = ap (λ (n : ℕ). id_from claims k n) (left k below) ∙ id_step claims k (12 - (k + 1))
  where
    left : (j : ℕ) → j < 12 → 12 - j ≡ suc (12 - (j + 1))
    left j b = omega (arith, b)

id_or_none : (c : Option Claim) (rest : ℕ) → option_map (λ (d : Claim). d.id) c ≡ None → id_or c rest ≡ rest
id_or_none None rest is = refl
id_or_none (Some c) rest is = search rules

id_or_some : (c : Option Claim) (rest id : ℕ) → option_map (λ (d : Claim). d.id) c ≡ Some id → id_or c rest ≡ id
id_or_some None rest id is = search rules
id_or_some (Some c) rest id is = search rules

pub id_goes : (claims : ℕ → Option Claim) (k : ℕ) → k < 12 → id_from claims 0 12 ≡ id_from claims k (12 - k) → option_map (λ (d : Claim). d.id) (claims k) ≡ None
    → id_from claims 0 12 ≡ id_from claims (k + 1) (12 - (k + 1))
id_goes claims k below is not_there = is ∙ id_left claims k below ∙ id_or_none (claims k) (id_from claims (k + 1) (12 - (k + 1))) not_there

pub id_found : (claims : ℕ → Option Claim) (k id : ℕ) → k < 12 → id_from claims 0 12 ≡ id_from claims k (12 - k) → option_map (λ (d : Claim). d.id) (claims k) ≡ Some id
    → id ≡ id_from claims 0 12
id_found claims k id below is there = sym (is ∙ id_left claims k below ∙ id_or_some (claims k) (id_from claims (k + 1) (12 - (k + 1))) id there)

pub id_ends : (claims : ℕ → Option Claim) → id_from claims 0 12 ≡ id_from claims 12 0 → 0 ≡ id_from claims 0 12
unfolding id_from
id_ends claims is = sym is

pub id_ends_at : (claims : ℕ → Option Claim) (k : ℕ) → k ≡ 12 → id_from claims 0 12 ≡ id_from claims k (12 - k) → 0 ≡ id_from claims 0 12
id_ends_at claims k over is = id_ends claims (subst (λ (n : ℕ). id_from claims 0 12 ≡ id_from claims n (12 - n)) over is)

-- ---- the PRBs of a section
