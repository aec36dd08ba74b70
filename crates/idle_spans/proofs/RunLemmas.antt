-- Runs of silent symbols.
use Rattle.std.proofs.Common.{◌≡◌, ℕ, zero, suc, ◌+◌, ◌<◌, ◌≤◌, Bool, if◌then◌else◌, refl, sym, ap₂, ◌∙◌, arith}
use Rattle.idle_spans.specs.Runs.{IsRun, IsLongRun, count_from}
use Rattle.idle_spans.specs.Scans.{Begins}

module _ (silent : ℕ → Bool) (total : ℕ) where
  begins_of : (k m : ℕ) → IsRun silent total k m → Begins silent k
  begins_of k m run = record { is = run.all k (omega arith) (let some = run.some in omega arith); before = run.before }

  -- where no run begins there is none
  pub none_left : (min start from : ℕ) → ((k m : ℕ) → IsLongRun silent total min k m → start ≤ k → from ≤ k)
      → ((k : ℕ) → from ≤ k → k < total → Begins silent k → ⊥) → (k m : ℕ) → IsLongRun silent total min k m → start ≤ k → ⊥
  none_left min start from none nowhere k m run low =
      nowhere k (none k m run low) (let some = run.run.some in let within = run.run.within in omega arith) (begins_of k m run.run)

-- ---- two tests that agree

module _ (p q : ℕ → Bool) (total : ℕ) (same : (k : ℕ) → k < total → p k ≡ q k) where
  pub run_same : (min k m : ℕ) → IsLongRun p total min k m → IsLongRun q total min k m
  run_same min k m run =
      let within = run.run.within in
      let some = run.run.some in
      record {
        run = record {
          some = some;
          within = within;
          all = λ j low below. sym (same j (omega arith)) ∙ run.run.all j low below;
          before = λ j is. sym (same j (omega arith)) ∙ run.run.before j is;
          behind = λ less. sym (same (k + m) less) ∙ run.run.behind less;
        };
        long = run.long;
      }

  pub count_same : (k m : ℕ) → k + m ≤ total → count_from p k m ≡ count_from q k m
  unfolding count_from
  count_same k zero within = refl
  count_same k (suc m) within =
      let inside : k + m < total = omega arith in
      ap₂ (λ (x : ℕ) (b : Bool). x + (if b then 1 else 0)) (count_same k m (omega arith)) (same (k + m) inside)

-- one more number is counted
pub count_more : (p : ℕ → Bool) (first len : ℕ) → count_from p first (len + 1) ≡ count_from p first len + (if p (first + len) then 1 else 0)
unfolding count_from
count_more p first len = let e : len + 1 ≡ suc len = omega arith in rw e refl

pub count_none : (p : ℕ → Bool) (first : ℕ) → count_from p first 0 ≡ 0
unfolding count_from
count_none p first = refl
