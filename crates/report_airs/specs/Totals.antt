-- What is added up of the cells of a line (this project's profile).
use Rattle.std.specs.Prelude.{ℕ, zero, suc, pos, neg_ℤ, ◌+◌, ◌*◌, ◌^◌, ◌≤◌, ◌+ℤ◌, ◌≤ℤ◌, ◌==◌, if◌then◌else◌, List, Option, Some, None}
use Rattle.std.specs.List.{slice_index_or, fold}
use Rattle.air_source.specs.declared.events.AirCell.{AirCell}
use Rattle.bfp_codec.specs.Samples.{no_wide}
use Rattle.bfp_codec.specs.declared.samples.Wide.{Wide}
use Rattle.air_source.specs.CellLines.{in_mask}
use Rattle.report_airs.specs.declared.totals.Totals.{Totals}

abbrev pub no_totals : Totals
no_totals = record { elements = 0; i = pos 0; q = pos 0; missing = 0 }

-- with one more element
abbrev pub with_sample : Wide → Totals → Totals
with_sample w t = record { elements = t.elements + 1; i = t.i +ℤ w.i; q = t.q +ℤ w.q; missing = t.missing }

-- with element k, where it is in the mask
abbrev pub with_element : ℕ → Wide → ℕ → Totals → Totals
with_element mask w k t = if in_mask mask k == 1 then with_sample w t else t

-- of the first n elements of a block, those in the mask
unfoldable pub samples_totals : ℕ → List Wide → ℕ → Totals
samples_totals mask block zero = no_totals
samples_totals mask block (suc n) = with_element mask (slice_index_or block n no_wide) n (samples_totals mask block n)

-- of a cell: its elements in the mask, or one missing cell
abbrev pub block_totals : ℕ → Option (List Wide) → Totals
block_totals mask None = record { elements = 0; i = pos 0; q = pos 0; missing = 1 }
block_totals mask (Some block) = samples_totals mask block 12

abbrev pub cell_totals : AirCell → Totals
cell_totals c = block_totals c.mask c.block

-- those of both
abbrev pub plus : Totals → Totals → Totals
plus s t = record { elements = s.elements + t.elements; i = s.i +ℤ t.i; q = s.q +ℤ t.q; missing = s.missing + t.missing }

-- of some cells
abbrev pub run_totals : List AirCell → Totals
run_totals cells = fold (λ t c. plus t (cell_totals c)) no_totals cells

-- sums of at most n elements of 32 bits, and at most as many missing cells
pub record IsWithin (n : ℕ) (t : Totals) : Type 0 where
  pub elements : t.elements ≤ n
  pub missing : t.missing ≤ n
  pub i_low : neg_ℤ (pos (n * 2 ^ 31)) ≤ℤ t.i
  pub i_high : t.i ≤ℤ pos (n * 2 ^ 31)
  pub q_low : neg_ℤ (pos (n * 2 ^ 31)) ≤ℤ t.q
  pub q_high : t.q ≤ℤ pos (n * 2 ^ 31)
