-- The cells and elements that a section names.
use Rattle.std.proofs.Common.{◌≡◌, ℕ, zero, suc, ◌+◌, ◌<◌, ◌≤◌, Bool, true, false, ◌&&◌, ◌||◌, List, refl, sym, ap, ◌∙◌, arith, inl, inr}
use Rattle.std.specs.Prelude.{◌==◌, is_some}
use Rattle.std.proofs.lemmas.Bool.{and_parts, or_parts, eqb-true, cases_eq}
use Rattle.fh_base.specs.declared.values.Slot.{Slot}
use Rattle.unit_model.specs.Blocks.{data_covers, data_slot, first_data_prb, data_prb_count}
use Rattle.unit_model.specs.Claims.{same_slot, same_way, is_from, first_prb, prb_count, covers, in_mask, names, cell_at, cell_of, is_other, is_overlapped, overlaps, some_cell, claim_at}
use Rattle.fh_base.specs.Lists.{some}
use Rattle.unit_model.specs.declared.allocations.Allocation.{Allocation}
use Rattle.unit_model.specs.declared.cells.Cell.{Cell}
use Rattle.unit_model.specs.declared.decoded.UserSection.{UserSection}
use Rattle.unit_model.proofs.ClaimLemmas.{same_way_is as ways_equal, same_slot_is as slots_equal, starts_before as from_first, from_within, Covers, covers_is}

pub record DataCovers (d : UserSection) (cell : Cell) : Type 0 where
  pub ep : d.ep ≡ cell.ep
  pub down : d.head.down ≡ cell.down
  pub slot : data_slot d ≡ cell.slot
  pub symbol : d.section.symbol ≡ cell.symbol
  pub prb : is_from (first_data_prb d) (data_prb_count d) cell.prb ≡ true

pub data_covers_is : (d : UserSection) (cell : Cell) → data_covers d cell ≡ true → DataCovers d cell
data_covers_is d cell h =
    let one = and_parts (d.ep == cell.ep) _ h in
    let two = and_parts (same_way d.head.down cell.down) _ one.1 in
    let three = and_parts (same_slot (data_slot d) cell.slot) _ two.1 in
    let four = and_parts (d.section.symbol == cell.symbol) (is_from (first_data_prb d) (data_prb_count d) cell.prb) three.1 in
    record {
      ep = eqb-true d.ep cell.ep one.0;
      down = ways_equal d.head.down cell.down two.0;
      slot = slots_equal (data_slot d) cell.slot three.0;
      symbol = eqb-true d.section.symbol cell.symbol four.0;
      prb = four.1;
    }

-- a covered cell is one of those that the tests go over
pub covered_cell : (a : Allocation) (cell : Cell) → Covers a cell → cell_of a cell.symbol cell.prb ≡ cell
covered_cell a cell is =
    ap (λ (x : ℕ). cell_at x a.down a.slot cell.symbol cell.prb) is.ep
    ∙ ap (λ (x : Bool). cell_at cell.ep x a.slot cell.symbol cell.prb) is.down
    ∙ ap (λ (x : Slot). cell_at cell.ep cell.down x cell.symbol cell.prb) is.slot

-- none of some numbers passes
pub some_false : (from n : ℕ) (p : ℕ → Bool) → some from n p ≡ false → (k : ℕ) → from ≤ k → k < from + n → p k ≡ false
unfolding some
some_false from zero p h k above below = absurd (omega arith)
some_false from (suc n) p h k above below =
    let parts = or_parts (p from) (some (from + 1) n p) h in
    elim (cases_eq from k) [
      | inl e ↦ ap p (sym e) ∙ parts.0
      | inr ne ↦ some_false (from + 1) n p parts.1 k (omega (arith, ne)) (omega arith)
    ]

free : (named there other : Bool) → ((named && there) || other) ≡ false → named ≡ true → there ≡ false
free true true other h e = absurd cc
free true false other h e = refl
free false there other h e = absurd cc

-- where an allocation overlaps nothing, no element that it names is claimed
pub unclaimed : (earlier : List Allocation) (a : Allocation) (cell : Cell) (re : ℕ) → overlaps earlier a ≡ false → names a cell re ≡ true → re < 12
    → is_some (claim_at earlier cell re) ≡ false
unfolding overlaps some_cell
unclaimed earlier a cell re apart named below =
    let parts = and_parts (covers a cell) (in_mask a.mask re) named in
    let is = covers_is a cell parts.0 in
    let symbol =
    some_false a.symbol a.num_symbol (λ y. some (first_prb a) (prb_count a) (λ n. is_overlapped a.section a.mask (claim_at earlier (cell_of a y n)))) apart cell.symbol
    (from_first a.symbol a.num_symbol cell.symbol is.symbol) (from_within a.symbol a.num_symbol cell.symbol is.symbol) in
    let prb =
    some_false (first_prb a) (prb_count a) (λ n. is_overlapped a.section a.mask (claim_at earlier (cell_of a cell.symbol n))) symbol cell.prb
    (from_first (first_prb a) (prb_count a) cell.prb is.prb) (from_within (first_prb a) (prb_count a) cell.prb is.prb) in
    let element =
    some_false 0 12 (λ r. (in_mask a.mask r && is_some (claim_at earlier (cell_of a cell.symbol cell.prb) r)) || is_other a.section (claim_at earlier (cell_of a cell.symbol cell.prb) r)) prb re
    (omega arith) (omega arith) in
    let none : is_some (claim_at earlier (cell_of a cell.symbol cell.prb) re) ≡ false =
    free (in_mask a.mask re) (is_some (claim_at earlier (cell_of a cell.symbol cell.prb) re)) (is_other a.section (claim_at earlier (cell_of a cell.symbol cell.prb) re)) element parts.1 in
    ap (λ (x : Cell). is_some (claim_at earlier x re)) (sym (covered_cell a cell is)) ∙ none
