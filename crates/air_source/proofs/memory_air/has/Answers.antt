use Rattle.std.proofs.Common.{◌≡◌, ◌==◌, ◌<◌, ◌||◌, ℕ, Bool, List, Option, Some, nat_eq, length, get_or, slice_get, sym, ap, ap₂, ◌∙◌, arith}
use Rattle.std.specs.Option.{option_eq}
use Rattle.std.proofs.lemmas.Option.{slice_get-get_or}
use Rattle.std.proofs.lemmas.List.Folds.{list_any_at, list_any_more}
use Rattle.air_source.proofs.memory_air.has.Goals as goal

-- what the test of item k answers
read_test : (xs : List ℕ) (k n : ℕ) (item : Option ℕ) (answer : Bool) → k < length xs → item ≡ slice_get xs k → answer ≡ option_eq nat_eq item (Some n) → (get_or xs k 0 == n) ≡ answer
read_test xs k n item answer lt is test = sym (test ∙ ap (λ o. option_eq nat_eq o (Some n)) (is ∙ slice_get-get_or xs k 0 lt))

pub returns-then-eq : goal.returns-then-eq
returns-then-eq c =
    let xs = c.args.numbers.now in
    let n = c.args.number in
    let lt : c.loop-k.k < length xs = omega (arith, c.loop-k-test.true, c.len-k-end.ensures) in
    let read = read_test xs c.loop-k.k n c.copied.result c.eq.result lt (c.copied.ensures ∙ c.get.ensures) c.eq.ensures in
    sym (list_any_at (λ y. y == n) xs c.loop-k.k 0 lt (read ∙ c.if-eq.true))

pub loop-k-preserved : goal.loop-k-preserved
loop-k-preserved c =
    let xs = c.args.numbers.now in
    let n = c.args.number in
    let lt : c.loop-k.k < length xs = omega (arith, c.loop-k-test.true, c.len-k-end.ensures) in
    let read = read_test xs c.loop-k.k n c.copied.result c.eq.result lt (c.copied.ensures ∙ c.get.ensures) c.eq.ensures in
    list_any_more (λ y. y == n) xs c.loop-k.k 0 lt ∙ ap₂ (λ (a b : Bool). a || b) c.loop-k.invariant (read ∙ c.if-eq.false)
