-- The laws of a list that grows at its end.
use Rattle.std.specs.Prelude.{◌≡◌, List, [], ◌++◌}
use Rattle.std.proofs.Common.{sym, ap, append_assoc, append-nil, ◌∙◌}

pub grown_none : {X : Type 0} (xs : List X) → xs ≡ xs ++ []
grown_none xs = sym (append-nil xs)

pub grown_more : {X : Type 0} (xs ys zs first second : List X) → ys ≡ xs ++ first → zs ≡ ys ++ second → zs ≡ xs ++ (first ++ second)
grown_more xs ys zs first second h k = k ∙ ap (λ l. l ++ second) h ∙ append_assoc xs first second
