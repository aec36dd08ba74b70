-- What is told of bytes that are appended one after another.
use Rattle.std.proofs.Common.{◌≡◌, ℕ, List, [], ◌++◌, Option, None, Some, refl, ap, append_assoc, append-nil}
use Rattle.std.specs.Io.KnownBytes.{append_known}

pub append_twice : (old : Option (List ℕ)) (xs ys : List ℕ) → append_known (append_known old xs) ys ≡ append_known old (xs ++ ys)
append_twice None xs ys = refl
append_twice (Some bs) xs ys = ap Some (append_assoc bs xs ys)

pub append_nothing : (old : Option (List ℕ)) → append_known old [] ≡ old
append_nothing None = refl
append_nothing (Some bs) = ap Some (append-nil bs)
