use Rattle.std.proofs.Common.{◌≡◌, ℕ, suc, ◌+◌, ◌-◌, ◌<◌, ◌≤◌, List, Result, Ok, Err, refl, sym, ap, ◌∙◌, arith}
use Rattle.std.proofs.lemmas.Result.{err_from_is_err_and}
use Rattle.cplane_sections.specs.declared.values.CRefusal.{CRefusal}
use Rattle.cplane_sections.specs.Tests.{◌>>=◌, symbol_checked, walked}
use Rattle.cplane_sections.proofs.checking.walk.Goals as goal

-- a section passed
goes_on : (count k size symbols : ℕ) (bytes : List ℕ) (place before next : ℕ) (total : Result ℕ CRefusal) → k < count → symbol_checked size symbols bytes place before ≡ Ok next
    → walked (count - k) size symbols bytes place before ≡ total → walked (count - (k + 1)) size symbols bytes (place + size) next ≡ total
unfolding walked
goes_on count k size symbols bytes place before next total lt step so_far =
    let left : count - k ≡ suc (count - (k + 1)) = omega arith in
    let one : walked (count - k) size symbols bytes place before ≡ walked (count - (k + 1)) size symbols bytes (place + size) next = rw left (ap (λ r. r >>= λ n. walked (count - (k + 1)) size symbols bytes (place + size) n) step) in
    sym one ∙ so_far

-- a section was refused
ends : (count k size symbols : ℕ) (bytes : List ℕ) (place before : ℕ) (why : CRefusal) (total : Result ℕ CRefusal) → k < count → symbol_checked size symbols bytes place before ≡ Err why
    → walked (count - k) size symbols bytes place before ≡ total → Err why ≡ total
unfolding walked
ends count k size symbols bytes place before why total lt step so_far =
    let left : count - k ≡ suc (count - (k + 1)) = omega arith in
    let one : walked (count - k) size symbols bytes place before ≡ Err why = rw left (ap (λ r. r >>= λ n. walked (count - (k + 1)) size symbols bytes (place + size) n) step) in
    sym one ∙ so_far

-- no section is left
is_done : (count k size symbols : ℕ) (bytes : List ℕ) (place before : ℕ) (total : Result ℕ CRefusal) → count ≤ k → walked (count - k) size symbols bytes place before ≡ total → Ok place ≡ total
unfolding walked
is_done count k size symbols bytes place before total ge so_far =
    let left : count - k ≡ 0 = omega arith in
    let one : walked (count - k) size symbols bytes place before ≡ Ok place = rw left refl in
    sym one ∙ so_far

pub returns-in_err-symbol-clause-value : goal.returns-in_err-symbol-clause-value
returns-in_err-symbol-clause-value c =
    let e : (y : CRefusal) × (c.from_residual.result ≡ Err y) × (y ≡ _) = err_from_is_err_and c.from_residual.result c.from_residual.ensures.1 in
    e.1 ∙ ap Err e.2 ∙ ends c.args.head.now.count c.loop-k.k c.section_size-size.result c.args.shape.symbols c.args.bytes.now c.loop-k.place c.loop-k.symbol _ _ c.loop-k-test.true (sym c.in_err-symbol.ensures.value) c.loop-k.invariant.rest

pub loop-k-preserved : goal.loop-k-preserved
loop-k-preserved c = record {
  rest = goes_on c.args.head.now.count c.loop-k.k c.section_size-size.result c.args.shape.symbols c.args.bytes.now c.loop-k.place c.loop-k.symbol c.in_ok-symbol.symbol _ c.loop-k-test.true (sym c.in_ok-symbol.ensures.value) c.loop-k.invariant.rest;
  place = c.in_ok-symbol.ensures.room;
  symbol = c.in_ok-symbol.ensures.below;
}

pub returns-clause-value : goal.returns-clause-value
returns-clause-value c =
    is_done c.args.head.now.count c.loop-k.k c.section_size-size.result c.args.shape.symbols c.args.bytes.now c.loop-k.place c.loop-k.symbol _ (omega arith) c.loop-k.invariant.rest
