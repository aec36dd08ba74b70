-- Counts of cells, one list of them after another.
use Rattle.std.proofs.Common.{◌≡◌, ℕ, ◌+◌, ◌<◌, ◌^◌, List, [], ◌∷◌, ◌++◌, sym, ap, ◌∙◌, arith}
use Rattle.std.proofs.lemmas.List.{map-append}
use Rattle.air_source.specs.declared.events.AirCell.{AirCell}
use Rattle.fault_counters.specs.declared.kinds.Counter.{Counter}
use Rattle.fault_counters.specs.Counts.{capped, count_of, once, times}
use Rattle.unit_model.specs.Counts.{StandAt, block_counter, cells_counted}
use Rattle.unit_symbols.specs.DueSymbols.{CountsTold}
use Rattle.unit_model.proofs.CountLemmas.{times-append as times_more}

cells_more : (first second : List AirCell) (k : Counter) → times (cells_counted (first ++ second)) k ≡ times (cells_counted first) k + times (cells_counted second) k
cells_more first second k =
    ap (λ (xs : List Counter). times xs k) (map-append (λ (c : AirCell). block_counter c.block) first second)
    ∙ times_more (cells_counted first) (cells_counted second) k

-- a sum at most the greatest u64, of one that is, is one of all
capped_none : (x : ℕ) → x < 2 ^ 64 → x ≡ capped (x + 0)
capped_none x small = omega (arith, small)

capped_small : (x n : ℕ) → x ≡ capped n → x < 2 ^ 64
capped_small x n e = omega (arith, e)

capped_then : (x y a m n t : ℕ) → x ≡ capped (a + m) → y ≡ capped (x + n) → t ≡ m + n → y ≡ capped (a + t)
capped_then x y a m n t p q r = omega (arith, p, q, r)

capped_one : (x y o : ℕ) → y ≡ capped (x + o) → y ≡ capped (x + (0 + o))
capped_one x y o e = omega (arith, e)

pub counts_none : (counts : List ℕ) → CountsTold [] counts counts
counts_none counts k small = capped_none (count_of counts k) small

pub counts_one : (cell : AirCell) (old new : List ℕ) → ((k : Counter) → count_of new k ≡ capped (count_of old k + once (block_counter cell.block) k))
    → CountsTold (cell ∷ []) old new
counts_one cell old new each k small = capped_one (count_of old k) (count_of new k) (once (block_counter cell.block) k) (each k)

pub counts_then : (first second : List AirCell) (old middle new : List ℕ) → CountsTold first old middle → CountsTold second middle new → CountsTold (first ++ second) old new
counts_then first second old middle new a b k small =
    let p = a k small in
    capped_then (count_of middle k) (count_of new k) (count_of old k) (times (cells_counted first) k) (times (cells_counted second) k)
    (times (cells_counted (first ++ second)) k) p (b k (capped_small _ _ p)) (cells_more first second k)

-- ---- for a caller

capped_stand : (x y t n s : ℕ) → x ≡ capped n → y ≡ capped (x + t) → s ≡ n + t → y ≡ capped s
capped_stand x y t n s p q r = omega (arith, p, q, r)

sum_told : (all before both reported told : ℕ) → all ≡ before + both → both ≡ reported + told → all ≡ (before + reported) + told
sum_told all before both reported told p q = omega (arith, p, q)

-- counters that hold what was counted, of what was received and of the cells that were reported, hold that and the cells that were told
pub stand_told : (old new : List ℕ) (before : List Counter) (reported told : List AirCell) → StandAt old (before ++ cells_counted reported) → CountsTold told old new
    → StandAt new (before ++ cells_counted (reported ++ told))
stand_told old new before reported told stand counts k =
    let was = times_more before (cells_counted reported) k in
    let all = times_more before (cells_counted (reported ++ told)) k in
    let t = times (cells_counted told) k in
    capped_stand (count_of old k) (count_of new k) t (times (before ++ cells_counted reported) k) (times (before ++ cells_counted (reported ++ told)) k) (stand k)
    (counts k (capped_small _ _ (stand k)))
    (sum_told _ (times before k) _ (times (cells_counted reported) k) t all (cells_more reported told k) ∙ ap (λ (n : ℕ). n + t) (sym was))
