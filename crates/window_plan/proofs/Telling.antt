-- Texts that are told in a row: what was written so far.
use Rattle.std.proofs.Common.{◌≡◌, ℕ, List, [], ◌++◌, Option, subst}
use Rattle.fh_base.specs.Told.{WritesPart}
use Rattle.fh_base.specs.Owed.{Carried}
use Rattle.fh_base.proofs.Parts.{part_first, part_behind}

-- a part of the first text was written
pub first_part : (w v : Option (List ℕ)) (o first rest : List ℕ) → o ≡ [] → WritesPart w v (o ++ first) → WritesPart w v (first ++ rest)
first_part w v o first rest none part = part_first w v first rest (subst (λ (t : List ℕ). WritesPart w v (t ++ first)) none part)

-- a part of the next text was written after those that were told
pub next_part : (w v u : Option (List ℕ)) (o told p next : List ℕ) → o ≡ [] → Carried w o told v p → WritesPart v u (p ++ next) → WritesPart w u (told ++ next)
next_part w v u o told p next none h part =
    subst (λ (t : List ℕ). WritesPart w u (t ++ (told ++ next))) none (part_behind w o told v p next u h part)
