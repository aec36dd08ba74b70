-- The counters' values, as a list in the counters' order.
use Rattle.std.specs.Prelude.{◌≡◌, ℕ, ◌+◌, ◌-◌, ◌^◌, ◌==◌, min, List, [], ◌∷◌, slice_index, slice_set, if◌then◌else◌}
use Rattle.fault_counters.specs.declared.kinds.Counter.{Counter}
use Rattle.fault_counters.specs.Names.{index_of}

-- a number, or the greatest u64 where it is larger
abbrev pub capped : ℕ → ℕ
capped n = min n (2 ^ 64 - 1)

-- the value of a counter
abbrev pub count_of : List ℕ → Counter → ℕ
count_of counts c = slice_index counts (index_of c)

-- 1 where both are one counter, and 0 else
abbrev pub once : Counter → Counter → ℕ
once c d = if index_of c == index_of d then 1 else 0

-- one more at a counter
abbrev pub bumped : List ℕ → Counter → List ℕ
bumped counts c = slice_set counts (index_of c) (capped (count_of counts c + 1))

-- how often a counter is in a list of additions
abbrev pub times : List Counter → Counter → ℕ
times [] d = 0
times (c ∷ earlier) d = times earlier d + once c d

-- each counter has counted its additions, the newest of them first
abbrev pub HasCounted : List ℕ → List Counter → Type 0
HasCounted counts additions = (d : Counter) → count_of counts d ≡ capped (times additions d)
