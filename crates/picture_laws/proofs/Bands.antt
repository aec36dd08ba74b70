-- Bands are one below the other, above the legend.
use Rattle.std.proofs.Common.{◌≡◌, ℕ, zero, suc, ◌+◌, ◌*◌, ◌<◌, ◌≤◌, List, [], ◌∷◌, length, take, Bool, true, false, max, subst, ap, arith}
use Rattle.std.specs.Prelude.{Some, if◌then◌else◌, slice_get, sum_by}
use Rattle.std.proofs.lemmas.List.{take_all}
use Rattle.std.proofs.lemmas.List.Sums.{sum_by-cons}
use Rattle.pictures.specs.declared.cells.Cell.{Cell}
use Rattle.pictures.specs.declared.endpoints.Endpoint.{Endpoint}
use Rattle.pictures.specs.Areas.{band_of}
use Rattle.pictures.specs.Sizes.{block_of, height_of, legend_of, step_of, top_of}

-- a sum up to an item, and that item, are in the sum of all
sum_before : (f : Endpoint → ℕ) (es : List Endpoint) (ep : ℕ) (e : Endpoint) → slice_get es ep ≡ Some e → sum_by f (take ep es) + f e ≤ sum_by f es
sum_before f [] ep e h = cc
sum_before f (x ∷ xs) zero e h =
    let same : x ≡ e = cc h in
    let all : sum_by f (x ∷ xs) ≡ f x + sum_by f xs = sum_by-cons f x xs in
    subst (λ (y : Endpoint). 0 + f y ≤ sum_by f (x ∷ xs)) same (omega (arith, all))
sum_before f (x ∷ xs) (suc n) e h =
    let all : sum_by f (x ∷ xs) ≡ f x + sum_by f xs = sum_by-cons f x xs in
    let some : sum_by f (x ∷ take n xs) ≡ f x + sum_by f (take n xs) = sum_by-cons f x (take n xs) in
    let rest : sum_by f (take n xs) + f e ≤ sum_by f xs = sum_before f xs n e h in
    omega (arith, all, some, rest)

pub top_first : (es : List Endpoint) (ep : ℕ) → 62 ≤ top_of es ep
unfolding top_of
top_first es ep = omega arith

top_last : (es : List Endpoint) (ep : ℕ) (e : Endpoint) → slice_get es ep ≡ Some e → top_of es ep + block_of e ≤ top_of es (length es)
unfolding top_of
top_last es ep e h =
    let before : sum_by block_of (take ep es) + block_of e ≤ sum_by block_of es = sum_before block_of es ep e h in
    let all : sum_by block_of (take (length es) es) ≡ sum_by block_of es = ap (sum_by block_of) (take_all (length es) es (omega arith)) in
    omega (arith, before, all)

-- of two bands the second ends below the first, and both above the next endpoint's
band_within : (top height step next : ℕ) (up : Bool) → height + 6 ≤ step → top + (2 * step + 12) ≤ next → (if up then top + step else top) + height < next + 6
band_within top height step next true high fits = omega arith
band_within top height step next false high fits = omega arith

pub band_first : (es : List Endpoint) (c : Cell) → 62 ≤ band_of es c
band_first es c = go c.up
  where
    go : (up : Bool) → 62 ≤ (if up then top_of es c.ep + step_of c.endpoint else top_of es c.ep)
    go true = let top : 62 ≤ top_of es c.ep = top_first es c.ep in omega (arith, top)
    go false = top_first es c.ep

step_high : (h : ℕ) → h + 6 ≤ max h 30 + 6
step_high h = omega arith

pub band_last : (es : List Endpoint) (c : Cell) → slice_get es c.ep ≡ Some c.endpoint → band_of es c + height_of c.endpoint < legend_of es
band_last es c is =
    band_within (top_of es c.ep) (height_of c.endpoint) (step_of c.endpoint) (top_of es (length es)) c.up (step_high (height_of c.endpoint)) (top_last es c.ep c.endpoint is)
