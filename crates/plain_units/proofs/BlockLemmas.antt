-- The blocks that sections of data give a cell, one section after the other.
use Rattle.std.proofs.Common.{◌≡◌, ℕ, ◌+◌, ◌-◌, ◌<◌, ◌≤◌, Bool, true, false, ◌&&◌, List, [], length, get_or, drop, refl, ap, ◌∙◌, arith}
use Rattle.std.specs.Prelude.{◌==◌, Option, Some, None, slice_get, is_some}
use Rattle.std.proofs.lemmas.List.{at_drop_more, at_drop_all}
use Rattle.std.proofs.lemmas.Option.{slice_get-get_or}
use Rattle.unit_model.specs.Blocks.{timely, has_all, every_data_cell, data_slot, first_data_prb, data_prb_count, data_covers, block_in, block_at}
use Rattle.unit_model.specs.Claims.{cell_at, is_from, same_way, same_slot}
use Rattle.fh_base.specs.Lists.{every, or_else}
use Rattle.unit_model.specs.Sound.{IsSoundData}
use Rattle.unit_model.specs.declared.cells.Block.{Block}
use Rattle.unit_model.specs.declared.cells.Cell.{Cell}
use Rattle.unit_model.specs.declared.decoded.UserSection.{UserSection}
use Rattle.plain_units.proofs.TestLemmas.{every_begins}
use Rattle.unit_model.proofs.ClaimLemmas.{within}

last_holds : (a b c e f : Bool) → (a && (b && (c && (e && f)))) ≡ true → f ≡ true
last_holds true true true true f h = h
last_holds true true true false f h = absurd cc
last_holds true true false e f h = absurd cc
last_holds true false c e f h = absurd cc
last_holds false b c e f h = absurd cc

prbs_cover : (d : UserSection) (cell : Cell) → data_covers d cell ≡ true → is_from (first_data_prb d) (data_prb_count d) cell.prb ≡ true
prbs_cover d cell h =
    last_holds (d.ep == cell.ep) (same_way d.head.down cell.down) (same_slot (data_slot d) cell.slot) (d.section.symbol == cell.symbol)
    (is_from (first_data_prb d) (data_prb_count d) cell.prb) h

covered_below : (d : UserSection) (cell : Cell) → data_covers d cell ≡ true → cell.prb - first_data_prb d < data_prb_count d
covered_below d cell h = within (first_data_prb d) (data_prb_count d) cell.prb (prbs_cover d cell h)

pub block_there : (d : UserSection) (cell : Cell) (first k : ℕ) → IsSoundData d → data_covers d cell ≡ true → first ≡ first_data_prb d → k ≡ cell.prb - first
    → None ≡ slice_get d.blocks k → ⊥
block_there d cell first k sound covered place is none =
    let inside : k < length d.blocks = omega (arith, covered_below d cell covered, sound.blocks) in
    let e = slice_get-get_or d.blocks k [] inside in
    cc

-- what is left of the list, and then what was found before it
or_else_assoc : {A : Type 0} (x y z : Option A) → or_else (or_else x y) z ≡ or_else x (or_else y z)
or_else_assoc None y z = refl
or_else_assoc (Some x) y z = refl

pub block_further : (ds : List UserSection) (i : ℕ) (e : UserSection) (cell : Cell) (found : Option Block) → i < length ds
    → or_else (block_at (drop i ds) cell) found ≡ or_else (block_at (drop (i + 1) ds) cell) (or_else (block_in (get_or ds i e) cell) found)
unfolding block_at
block_further ds i e cell found inside =
    ap (λ b. or_else b found) (at_drop_more (λ ys. block_at ys cell) ds i e inside)
    ∙ or_else_assoc (block_at (drop (i + 1) ds) cell) (block_in (get_or ds i e) cell) found

pub block_end : (ds : List UserSection) (i : ℕ) (cell : Cell) (found : Option Block) → length ds ≤ i → or_else (block_at (drop i ds) cell) found ≡ found
unfolding block_at
block_end ds i cell found past = ap (λ b. or_else b found) (at_drop_all (λ ys. block_at ys cell) ds i past)

-- ---- whether a section has all its blocks

-- the test of one cell
abbrev pub cell_has : List UserSection → UserSection → ℕ → Bool
cell_has timely d n = is_some (block_at timely (cell_at d.ep d.head.down (data_slot d) d.section.symbol n))

pub has_all_begins : (timely : List UserSection) (d : UserSection)
    → has_all timely d ≡ every (first_data_prb d) (first_data_prb d + data_prb_count d - first_data_prb d) (cell_has timely d)
unfolding has_all every_data_cell
has_all_begins timely d = every_begins (first_data_prb d) (data_prb_count d) (cell_has timely d)
