-- The first place that passes among sixteen bytes, by a mask with a bit for each.
use Rattle.std.proofs.Common.{◌≡◌, ℕ, ◌+◌, ◌<◌, ◌≤◌, Bool, true, not, cond, eqb, List, map, length, get_or, sym, ap, ◌∙◌, subst, arith}
use Rattle.std.specs.List.{position_or_len, prefix_len}
use Rattle.std.proofs.lemmas.List.Sums.{position_or_len_is}
use Rattle.std.proofs.lemmas.Simd.{first_set_mask_l, length-chunk, run_in_chunk_fails, run_in_chunk_stops}
use lib.Count.{count_trailing_zeros}
use lib.Lanes.{chunk, mask_l}

pub found_in_16 : (p : ℕ → Bool) (xs : List ℕ) (r m : ℕ) → 16 ≤ length xs → m ≡ mask_l (map p (chunk 0 16 xs)) → r ≡ cond (eqb m 0) 16 (count_trailing_zeros 64 m) → r < 16 → r ≡ position_or_len p xs
found_in_16 p xs r m long is at low =
    let room : 0 + 16 ≤ length xs = omega arith in
    let counted : r ≡ prefix_len (λ x. not (p x)) (chunk 0 16 xs) =
    at ∙ ap (λ k. cond (eqb k 0) 16 (count_trailing_zeros 64 k)) is ∙ first_set_mask_l p (chunk 0 16 xs) 16 (length-chunk 0 16 xs room) (omega arith) in
    let past : 0 + r ≡ r = omega arith in
    sym (position_or_len_is p xs r 0 (omega arith)
    (λ k lt. run_in_chunk_fails p xs 0 16 r 0 room counted k (omega arith) (omega arith))
    (λ within. subst (λ n. p (get_or xs n 0) ≡ true) past (run_in_chunk_stops p xs 0 16 r 0 room counted low)))
