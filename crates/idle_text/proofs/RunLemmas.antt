-- The runs that begin at numbers, as a list.
use Rattle.std.proofs.Common.{◌≡◌, ℕ, zero, suc, ◌+◌, ◌-◌, ◌<◌, ◌≤◌, Bool, true, false, not, ◌&&◌, if◌then◌else◌, inl, inr, List, [], ◌∷◌, ◌++◌, refl, sym, ap, ap₂, subst, ◌∙◌, arith, append-nil, true≢false}
use Rattle.std.specs.Prelude.{nat_le}
use Rattle.std.proofs.lemmas.Bool.{and_parts, cases_order, both_ways, le-leb, leb-true}
use Rattle.fh_base.specs.Lists.{each}
use Rattle.idle_spans.specs.Runs.{IsRun, IsLongRun}
use Rattle.idle_text.specs.Listed.{Run, begins, passing_from, run_at}
use Rattle.fh_base.proofs.EachLemmas.{each_more, each_split}
use Rattle.fh_base.proofs.CommonLemmas.{each_nothing as each_empty}

-- ---- numbers that pass one after the other

record IsPassing (test : ℕ → Bool) (k left len : ℕ) : Type 0 where
  within : len ≤ left
  all : (j : ℕ) → k ≤ j → j < k + len → test j ≡ true
  ends : len < left → test (k + len) ≡ false

passing_is : (test : ℕ → Bool) (left k : ℕ) → IsPassing test k left (passing_from test k left)
unfolding passing_from
passing_is test zero k = record {
  within = omega arith;
  all = λ j low below. absurd (omega arith);
  ends = λ less. absurd (omega arith);
}
passing_is test (suc left) k = step (test k) refl (passing_is test left (k + 1))
  where
    step : (b : Bool) → test k ≡ b → IsPassing test (k + 1) left (passing_from test (k + 1) left)
        → IsPassing test k (suc left) (if b then suc (passing_from test (k + 1) left) else 0)
    step true now rest = record {
      within = let w = rest.within in omega arith;
      all = λ j low below. elim (cases_order k j) [
        | inl same ↦ ap test (sym same) ∙ now
        | inr other ↦ elim other [
          | inl later ↦ rest.all j (omega arith) (omega arith)
          | inr before ↦ absurd (omega arith)
        ]
      ];
      ends = λ less.
          let place : k + suc (passing_from test (k + 1) left) ≡ k + 1 + passing_from test (k + 1) left = omega arith in
          ap test place ∙ rest.ends (omega arith);
    }
    step false now rest = record {
      within = omega arith;
      all = λ j low below. absurd (omega arith);
      ends = λ less. let place : k + 0 ≡ k = omega arith in ap test place ∙ now;
    }

-- ---- where a run begins

begins_true : (test : ℕ → Bool) (k : ℕ) → test k ≡ true → ((j : ℕ) → j + 1 ≡ k → test j ≡ false) → begins test k ≡ true
begins_true test zero now before = now
begins_true test (suc k) now before = ap₂ (λ (a b : Bool). a && not b) now (before k (omega arith))

begins_is : (test : ℕ → Bool) (k : ℕ) → begins test k ≡ true → (test k ≡ true) × ((j : ℕ) → j + 1 ≡ k → test j ≡ false)
begins_is test zero e = (e, λ j is. absurd (omega arith))
begins_is test (suc k) e =
    let both = and_parts (test (suc k)) (not (test k)) e in
    (both.0, λ j is. let same : k ≡ j = omega arith in subst (λ (x : ℕ). test x ≡ false) same (unset (test k) both.1))
  where
    unset : (b : Bool) → not b ≡ true → b ≡ false
    unset true e = absurd (true≢false (sym e))
    unset false e = refl

module _ (silent : ℕ → Bool) (total min : ℕ) where
  passed : (k : ℕ) → IsPassing silent k (total - k) (passing_from silent k (total - k))
  passed k = passing_is silent (total - k) k

  -- a run's length is known
  length_is : (k m len : ℕ) → IsPassing silent k (total - k) len → IsRun silent total k m → len ≡ m
  length_is k m len is run = elim (cases_order len m) [
    | inl same ↦ same
    | inr other ↦ elim other [
      | inl less ↦
          let within = run.within in
          let some = run.some in
          absurd (both_ways (silent (k + len)) (is.ends (omega arith)) (run.all (k + len) (omega arith) (omega arith)))
      | inr more ↦
          let within = is.within in
          let some = run.some in
          absurd (both_ways (silent (k + m)) (run.behind (omega arith)) (is.all (k + m) (omega arith) (omega arith)))
    ]
  ]

  abbrev run_from : ℕ → ℕ → Run
  run_from k len = record { first = k; len = len }

  -- where a run of the least length begins, it is listed
  pub run_is : (k m : ℕ) → IsLongRun silent total min k m → run_at silent total min k ≡ run_from k m ∷ []
  run_is k m run =
      let some = run.run.some in
      let now = begins_true silent k (run.run.all k (omega arith) (omega arith)) run.run.before in
      let size = length_is k m (passing_from silent k (total - k)) (passed k) run.run in
      ap₂ (λ (b : Bool) (n : ℕ). let rs : List Run = if b && nat_le min n then run_from k n ∷ [] else [] in rs) now size
      ∙ ap (λ (b : Bool). let rs : List Run = if b then run_from k m ∷ [] else [] in rs) (le-leb min m run.long)

  long_run : (k len : ℕ) → k < total → IsPassing silent k (total - k) len → begins silent k ≡ true → min ≤ len → IsLongRun silent total min k len
  long_run k len inside is now long =
      let first = begins_is silent k now in
      let within = is.within in
      record {
        run = record {
          some = some len is first.0;
          within = omega arith;
          all = is.all;
          before = first.1;
          behind = λ less. is.ends (omega arith);
        };
        long = long;
      }
    where
      some : (len : ℕ) → IsPassing silent k (total - k) len → silent k ≡ true → 1 ≤ len
      some zero is now = let place : k + 0 ≡ k = omega arith in absurd (both_ways (silent k) (ap silent (sym place) ∙ is.ends (omega arith)) now)
      some (suc len) is now = omega arith

  -- what is listed is a run of the least length
  pub listed_is : (k : ℕ) (b : Bool) → k < total → (begins silent k && nat_le min (passing_from silent k (total - k))) ≡ b
      → b ≡ true → IsLongRun silent total min k (passing_from silent k (total - k))
  listed_is k b inside is told =
      let both = and_parts (begins silent k) (nat_le min (passing_from silent k (total - k))) (is ∙ told) in
      long_run k (passing_from silent k (total - k)) inside (passed k) both.0 (leb-true min _ both.1)

  -- where none begins, none is listed
  pub no_run : (k : ℕ) → k < total → ((m : ℕ) → IsLongRun silent total min k m → ⊥) → run_at silent total min k ≡ []
  no_run k inside none = go (begins silent k && nat_le min (passing_from silent k (total - k))) refl
    where
      go : (b : Bool) → (begins silent k && nat_le min (passing_from silent k (total - k))) ≡ b
          → (if b then run_from k (passing_from silent k (total - k)) ∷ [] else []) ≡ []
      go true is = absurd (none _ (listed_is k true inside is refl))
      go false is = refl

-- ---- over numbers

-- numbers that give nothing add nothing
pub each_to : {A : Type 0} (from to : ℕ) (f : ℕ → List A) → from ≤ to → ((k : ℕ) → from ≤ k → k < to → f k ≡ []) → each 0 to f ≡ each 0 from f
each_to from to f order none =
    let size : to ≡ from + (to - from) = omega arith in
    let place : 0 + from ≡ from = omega arith in
    ap (λ (n : ℕ). each 0 n f) size ∙ each_split 0 from (to - from) f
    ∙ ap (λ xs. each 0 from f ++ xs) (ap (λ (k : ℕ). each k (to - from) f) place ∙ each_empty from (to - from) f (λ k low below. none k low (omega arith)))
    ∙ append-nil (each 0 from f)

-- up to the next number that gives something
pub each_next : {A : Type 0} (from k : ℕ) (f : ℕ → List A) (x : A) → from ≤ k → ((j : ℕ) → from ≤ j → j < k → f j ≡ []) → f k ≡ x ∷ []
    → each 0 (k + 1) f ≡ each 0 from f ++ x ∷ []
each_next from k f x order none is = each_more k f ∙ ap₂ (λ xs ys. xs ++ ys) (each_to from k f order none) is

-- and what follows
pub each_parted : {A : Type 0} (k total : ℕ) (f : ℕ → List A) → k ≤ total → each 0 total f ≡ each 0 k f ++ each k (total - k) f
each_parted k total f order =
    let size : total ≡ k + (total - k) = omega arith in
    let place : 0 + k ≡ k = omega arith in
    ap (λ (n : ℕ). each 0 n f) size ∙ each_split 0 k (total - k) f ∙ ap (λ (j : ℕ). each 0 k f ++ each j (total - k) f) place
