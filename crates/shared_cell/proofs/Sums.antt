-- One more cell among those of a place.
use Rattle.std.proofs.Common.{◌≡◌, ℕ, ℤ, pos, ◌+ℤ◌, ◌+◌, ◌<◌, Bool, true, false, cond, List, [], ◌∷◌, ◌++◌, map, get_or, count_by, Option, Some, None, is_some, refl, ap, ap₂, sym, ◌∙◌, arith}
use Rattle.std.specs.List.{range_with_len, fold}
use Rattle.std.proofs.lemmas.Int.{ints}
use Rattle.std.proofs.lemmas.List.{map-append}
use Rattle.std.proofs.lemmas.List.Sums.{fold-append, sum_by-append}
use Rattle.std.proofs.lemmas.List.FromFn.{fill_by_all, length-map-range_with_len, get_or-map-range_with_len}
use Rattle.bfp_codec.specs.declared.samples.Wide.{Wide}
use Rattle.bfp_codec.specs.Samples.{no_wide}
use Rattle.air_source.specs.declared.events.AirCell.{AirCell}
use Rattle.shared_cell.specs.declared.values.Mixed.{Mixed}
use Rattle.shared_cell.specs.declared.values.Sum.{Sum}
use Rattle.shared_cell.specs.Joined.{in_mask, sample_at, no_sum, plus, joined, joined_block, opened}
use Rattle.shared_cell.specs.Combined.{has_samples, sample_in, sum_over, mixed_of}

-- twelve elements, one by one
pub twelve : (f g : ℕ → Sum) → ((k : ℕ) → k < 12 → f k ≡ g k) → map f (range_with_len 0 12) ≡ map g (range_with_len 0 12)
twelve f g h =
    fill_by_all g (map f (range_with_len 0 12)) 12 no_sum (length-map-range_with_len f 0 12)
    (λ k lt. get_or-map-range_with_len f 0 12 k k no_sum lt (omega arith) ∙ h k lt)

fold_last : (xs : List ℤ) (x : ℤ) → fold ◌+ℤ◌ (pos 0) (xs ++ x ∷ []) ≡ fold ◌+ℤ◌ (pos 0) xs +ℤ x
fold_last xs x = fold-append ◌+ℤ◌ (pos 0) xs (x ∷ [])

-- the sums of one cell more
pub sum_over-last : (k : ℕ) (cells : List AirCell) (c : AirCell) → sum_over k (cells ++ c ∷ []) ≡ plus (sum_over k cells) (sample_in c.block k)
sum_over-last k cells c =
    let i : (sum_over k (cells ++ c ∷ [])).i ≡ (sum_over k cells).i +ℤ (sample_in c.block k).i =
    ap (fold ◌+ℤ◌ (pos 0)) (map-append (λ (d : AirCell). (sample_in d.block k).i) cells (c ∷ [])) ∙ fold_last (map (λ (d : AirCell). (sample_in d.block k).i) cells) (sample_in c.block k).i in
    let q : (sum_over k (cells ++ c ∷ [])).q ≡ (sum_over k cells).q +ℤ (sample_in c.block k).q =
    ap (fold ◌+ℤ◌ (pos 0)) (map-append (λ (d : AirCell). (sample_in d.block k).q) cells (c ∷ [])) ∙ fold_last (map (λ (d : AirCell). (sample_in d.block k).q) cells) (sample_in c.block k).q in
    λ t. record { i = i t; q = q t }

-- a missing sample adds nothing
plus-none : (s : Sum) → plus s no_wide ≡ s
plus-none s =
    let i : s.i +ℤ pos 0 ≡ s.i = omega (arith, ints) in
    let q : s.q +ℤ pos 0 ≡ s.q = omega (arith, ints) in
    λ t. record { i = i t; q = q t }

-- the combined cell of some units and sums
abbrev shown : AirCell → ℕ → List Sum → Mixed
shown c units sums = record { at = c.at; id = c.id; slot = c.slot; symbol = c.symbol; prb = c.prb; section = c.section; mask = c.mask; units = units; sums = sums }

abbrev element : AirCell → List AirCell → ℕ → Sum
element first cells k = cond (in_mask first.mask k) (sum_over k cells) no_sum

with_none : (b : Bool) (s t : Sum) (w : Wide) → w ≡ no_wide → t ≡ plus s w → cond b t no_sum ≡ cond b s no_sum
with_none true s t w h e = e ∙ ap (plus s) h ∙ plus-none s
with_none false s t w h e = refl

with_some : (b : Bool) (s t u : Sum) (w : Wide) → t ≡ plus s w → u ≡ cond b s no_sum → cond b t no_sum ≡ cond b (plus u w) u
with_some true s t u w e f = e ∙ ap (λ (v : Sum). plus v w) (sym f)
with_some false s t u w e f = sym f

-- one cell more of the place is joined to its combined cell
pub mixed_of-last : (first c : AirCell) (cells : List AirCell) → mixed_of first (cells ++ c ∷ []) ≡ joined c (mixed_of first cells)
mixed_of-last first c cells = go c.block refl
  where
    counted : count_by has_samples (cells ++ c ∷ []) ≡ count_by has_samples cells + cond (is_some c.block) 1 0
    counted = let more = sum_by-append (λ (d : AirCell). cond (has_samples d) 1 0) cells (c ∷ []) in omega arith

    go : (b : Option (List Wide)) → c.block ≡ b → mixed_of first (cells ++ c ∷ []) ≡ joined_block b (mixed_of first cells)
    go None e =
        ap₂ (shown first) (counted ∙ ap (λ (b : Option (List Wide)). count_by has_samples cells + cond (is_some b) 1 0) e ∙ (omega arith))
        (twelve (element first (cells ++ c ∷ [])) (element first cells) (λ k lt.
        with_none (in_mask first.mask k) (sum_over k cells) (sum_over k (cells ++ c ∷ [])) (sample_in c.block k) (ap (λ (b : Option (List Wide)). sample_in b k) e) (sum_over-last k cells c)))
    go (Some block) e =
        ap₂ (shown first) (counted ∙ ap (λ (b : Option (List Wide)). count_by has_samples cells + cond (is_some b) 1 0) e)
        (twelve (element first (cells ++ c ∷ []))
        (λ k. cond (in_mask first.mask k) (plus (get_or (mixed_of first cells).sums k no_sum) (sample_at block k)) (get_or (mixed_of first cells).sums k no_sum)) (λ k lt.
        with_some (in_mask first.mask k) (sum_over k cells) (sum_over k (cells ++ c ∷ [])) (get_or (mixed_of first cells).sums k no_sum) (sample_at block k)
        (sum_over-last k cells c ∙ ap (λ (b : Option (List Wide)). plus (sum_over k cells) (sample_in b k)) e)
        (get_or-map-range_with_len (element first cells) 0 12 k k no_sum lt (omega arith))))

same_either : (b : Bool) (s : Sum) → cond b s s ≡ s
same_either true s = refl
same_either false s = refl

-- with no cell it is the opened one
pub mixed_of-none : (c : AirCell) → mixed_of c [] ≡ opened c
mixed_of-none c = ap (shown c 0) (twelve (element c []) (λ k. no_sum) (λ k lt. same_either (in_mask c.mask k) no_sum))
