-- What a list of accepted allocations claims, one allocation after the other, and the tests that go over its cells.
use Rattle.std.proofs.Common.{◌≡◌, ℕ, ◌+◌, ◌-◌, ◌<◌, ◌≤◌, Bool, true, false, not, ◌&&◌, ◌||◌, List, length, get_or, drop, ap, ◌∙◌}
use Rattle.std.specs.Prelude.{Option, Some, None, if◌then◌else◌, is_some}
use Rattle.std.proofs.lemmas.List.{at_drop_more, at_drop_all}
use Rattle.unit_model.specs.Claims.{names, claim_of, claim_at, cell_of, in_mask, is_under, is_other, is_claimed, is_overlapped, first_prb, prb_count, repeats, overlaps, every_cell, some_cell}
use Rattle.fh_base.specs.Lists.{every, some}
use Rattle.unit_model.specs.declared.allocations.Allocation.{Allocation}
use Rattle.unit_model.specs.declared.cells.Cell.{Cell}
use Rattle.unit_model.specs.declared.cells.Claim.{Claim}
use Rattle.plain_units.proofs.TestLemmas.{every_begins, some_begins}

-- what is left of the list begins with an allocation that names the element
pub claim_here : (xs : List Allocation) (i : ℕ) (d : Allocation) (cell : Cell) (re : ℕ) → i < length xs → names (get_or xs i d) cell re ≡ true
    → claim_at (drop i xs) cell re ≡ Some (claim_of (get_or xs i d))
unfolding claim_at
claim_here xs i d cell re inside named =
    at_drop_more (λ ys. claim_at ys cell re) xs i d inside
    ∙ ap (λ b. if b then Some (claim_of (get_or xs i d)) else claim_at (drop (i + 1) xs) cell re) named

-- it begins with one that does not
pub claim_further : (xs : List Allocation) (i : ℕ) (d : Allocation) (cell : Cell) (re : ℕ) → i < length xs → names (get_or xs i d) cell re ≡ false
    → claim_at (drop i xs) cell re ≡ claim_at (drop (i + 1) xs) cell re
unfolding claim_at
claim_further xs i d cell re inside named =
    at_drop_more (λ ys. claim_at ys cell re) xs i d inside
    ∙ ap (λ b. if b then Some (claim_of (get_or xs i d)) else claim_at (drop (i + 1) xs) cell re) named

-- nothing is left
pub claim_end : (xs : List Allocation) (i : ℕ) (cell : Cell) (re : ℕ) → length xs ≤ i → claim_at (drop i xs) cell re ≡ None
unfolding claim_at
claim_end xs i cell re past = at_drop_all (λ ys. claim_at ys cell re) xs i past

-- the tests of an element and of a cell
abbrev pub element_claimed : ℕ → ℕ → (ℕ → Option Claim) → ℕ → Bool
element_claimed id mask claims re = not (in_mask mask re) || is_under id (claims re)

abbrev pub element_overlapped : ℕ → ℕ → (ℕ → Option Claim) → ℕ → Bool
element_overlapped id mask claims re = (in_mask mask re && is_some (claims re)) || is_other id (claims re)

abbrev pub cell_claimed : List Allocation → Allocation → ℕ → ℕ → Bool
cell_claimed accepted a y n = is_claimed a.section a.mask (claim_at accepted (cell_of a y n))

abbrev pub cell_overlapped : List Allocation → Allocation → ℕ → ℕ → Bool
cell_overlapped accepted a y n = is_overlapped a.section a.mask (claim_at accepted (cell_of a y n))

-- those of a symbol
abbrev pub symbol_claimed : List Allocation → Allocation → ℕ → Bool
symbol_claimed accepted a y = every (first_prb a) (prb_count a) (cell_claimed accepted a y)

abbrev pub symbol_overlapped : List Allocation → Allocation → ℕ → Bool
symbol_overlapped accepted a y = some (first_prb a) (prb_count a) (cell_overlapped accepted a y)

pub repeats_begins : (accepted : List Allocation) (a : Allocation)
    → repeats accepted a ≡ every a.symbol (a.symbol + a.num_symbol - a.symbol) (symbol_claimed accepted a)
unfolding repeats every_cell
repeats_begins accepted a = every_begins a.symbol a.num_symbol (symbol_claimed accepted a)

pub overlaps_begins : (accepted : List Allocation) (a : Allocation)
    → overlaps accepted a ≡ some a.symbol (a.symbol + a.num_symbol - a.symbol) (symbol_overlapped accepted a)
unfolding overlaps some_cell
overlaps_begins accepted a = some_begins a.symbol a.num_symbol (symbol_overlapped accepted a)
