use Rattle.std.proofs.Common.{◌≡◌, ◌++◌, ◌∷◌, ◌-◌, drop, take}
use Rattle.std.specs.List.{flat_map}
use Rattle.fh_base.specs.Numbers.{word_at}
use Rattle.pictures.proofs.looks.title_of.Given as goal

abbrev pub invariant-loop-i : goal.invariant-loop-i
invariant-loop-i l = l.title ≡ word_at l.words 1 ++ flat_map (λ w. 32 ∷ w) (take (l.i - 2) (drop 2 l.words))
