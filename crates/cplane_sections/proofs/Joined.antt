-- What callers write into one buffer: m bytes of a piece after the first n bytes.
use Rattle.std.proofs.Common.{◌≡◌, ℕ, ◌+◌, ◌≤◌, List, ◌++◌, length, take, drop, sym, ap, ◌∙◌, arith, append_assoc}
use Rattle.std.proofs.lemmas.List.{length-append, length-take-le, take-append-drop, take_at}

pub take_joined : (n m : ℕ) (xs piece rest : List ℕ) → n ≤ length xs → m ≤ length piece → take (n + m) (take n xs ++ (piece ++ rest)) ≡ take n xs ++ take m piece
take_joined n m xs piece rest first second =
    let front = take n xs ++ take m piece in
    let piece_is : piece ++ rest ≡ take m piece ++ (drop m piece ++ rest) = ap (λ p. p ++ rest) (sym (take-append-drop m piece)) ∙ append_assoc (take m piece) (drop m piece) rest in
    let whole : take n xs ++ (piece ++ rest) ≡ front ++ (drop m piece ++ rest) = ap (λ p. take n xs ++ p) piece_is ∙ sym (append_assoc (take n xs) (take m piece) (drop m piece ++ rest)) in
    let size : length front ≡ n + m = omega (arith, length-append (take n xs) (take m piece), length-take-le n xs first, length-take-le m piece second) in
    ap (take (n + m)) whole ∙ take_at front (drop m piece ++ rest) (n + m) size
