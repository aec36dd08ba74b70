-- The blocks of sections that are told in part.
use Rattle.std.proofs.Common.{◌≡◌, ℕ, ◌+◌, ◌-◌, ◌<◌, ◌≤◌, Bool, true, false, ◌&&◌, List, [], ◌∷◌, ◌++◌, length, get_or, refl, sym, ap, ap₂, ◌∙◌, arith, inl, inr, Option, Some, None, length-append}
use Rattle.std.specs.Prelude.{All, if◌then◌else◌}
use Rattle.std.proofs.lemmas.Bool.{cases_lt, lt-ltb, le-ltb, cases_Bool}
use Rattle.std.proofs.Math.ListN.{get_or-append}
use Rattle.std.proofs.lemmas.List.{get_or-append-add}
use Rattle.std.proofs.lemmas.Bool.Decides.{nat_tests}
use Rattle.unit_model.specs.Claims.{is_from}
use Rattle.slot_rings.specs.Runs.{packed_block}
use Rattle.std.proofs.lemmas.List.Elements.{All-head, All-tail}
use Rattle.bfp_codec.specs.declared.samples.Wide.{Wide}
use Rattle.unit_model.specs.Blocks.{block_at, block_of, data_covers, data_prb_count, first_data_prb}
use Rattle.fh_base.specs.Lists.{or_else}
use Rattle.unit_model.specs.declared.cells.Block.{Block}
use Rattle.unit_model.specs.declared.cells.Cell.{Cell}
use Rattle.unit_model.specs.declared.decoded.UserSection.{UserSection}
use Rattle.unit_laws.proofs.CellLemmas.{data_covers_is}
use Rattle.unit_model.specs.Headings.{data_under}
use Rattle.unit_cells.specs.Told.{IsTold, reaches, told_block_at, told_block_in}
use Rattle.unit_model.specs.declared.heading.DataHeading.{DataHeading}
use Rattle.unit_model.proofs.ClaimLemmas.{starts_before as from_first, from_within}
use Rattle.unit_laws.proofs.ChangeLemmas.{or_else_none as or_none}

pub told-cons : (d : UserSection) (earlier : List UserSection) (cell : Cell) → told_block_at (d ∷ earlier) cell ≡ or_else (told_block_at earlier cell) (told_block_in d cell)
unfolding told_block_at
told-cons d earlier cell = refl

-- ---- sections that are told whole

within_blocks : (first count n many : ℕ) → first ≤ n → n < first + count → count ≤ many → n - first < many
within_blocks first count n many a b c = omega arith

told_in : (d : UserSection) (cell : Cell) → IsTold d → told_block_in d cell ≡ (if data_covers d cell then Some (block_of d cell) else None)
told_in d cell told = elim (cases_Bool (data_covers d cell)) [
  | inl covers ↦
      let is = (data_covers_is d cell covers).prb in
      let first = first_data_prb d in
      let count = data_prb_count d in
      let here : reaches d cell ≡ true =
      lt-ltb (cell.prb - first) (length d.blocks) (within_blocks first count cell.prb (length d.blocks) (from_first first count cell.prb is) (from_within first count cell.prb is) told) in
      rw (covers, here) refl
  | inr other ↦ rw other refl
]

-- where all sections are told whole, the blocks that are told are those that they give
pub told_whole : (ds : List UserSection) (cell : Cell) → All IsTold ds → told_block_at ds cell ≡ block_at ds cell
unfolding told_block_at block_at
told_whole [] cell all = refl
told_whole (d ∷ earlier) cell all =
    ap₂ or_else (told_whole earlier cell (All-tail IsTold d earlier all)) (told_in d cell (All-head IsTold d earlier all))

-- ---- a section of which nothing is told, or one more block

none_in : (b : Bool) (block : Block) → (if b && false then Some block else None) ≡ None
none_in true block = refl
none_in false block = refl

pub told_nothing : (h : DataHeading) (earlier : List UserSection) (cell : Cell) → told_block_at (data_under h [] ∷ earlier) cell ≡ told_block_at earlier cell
told_nothing h earlier cell =
    let d = data_under h [] in
    let past : reaches d cell ≡ false = le-ltb (cell.prb - first_data_prb d) 0 (omega arith) in
    let none : told_block_in d cell ≡ None = rw past (none_in (data_covers d cell) (block_of d cell)) in
    told-cons d earlier cell ∙ ap (λ (o : Option Block). or_else (told_block_at earlier cell) o) none ∙ or_none (told_block_at earlier cell)

pub told_same : (x y : UserSection) (earlier : List UserSection) (cell : Cell) → told_block_in x cell ≡ told_block_in y cell
    → told_block_at (x ∷ earlier) cell ≡ told_block_at (y ∷ earlier) cell
told_same x y earlier cell e =
    told-cons x earlier cell ∙ ap (λ (o : Option Block). or_else (told_block_at earlier cell) o) e ∙ sym (told-cons y earlier cell)

module _ (h : DataHeading) (blocks run : List (List Wide)) (cell : Cell) where
  more : length (blocks ++ run) ≡ length blocks + length run
  more = length-append blocks run

  reach : ℕ
  reach = cell.prb - first_data_prb (data_under h blocks)

  told_before : length blocks ≤ reach → told_block_in (data_under h blocks) cell ≡ None
  unfolding reach
  told_before e =
      let past : reaches (data_under h blocks) cell ≡ false = le-ltb reach (length blocks) e in
      rw past (none_in (data_covers (data_under h blocks) cell) (block_of (data_under h blocks) cell))

  told_now : (k : ℕ) → data_covers (data_under h blocks) cell ≡ true → reach ≡ length blocks + k → k < length run
      → told_block_in (data_under h (blocks ++ run)) cell ≡ Some (packed_block h.section.id run k)
  unfolding reach
  told_now k covers e below =
      let here : reaches (data_under h (blocks ++ run)) cell ≡ true = lt-ltb reach (length (blocks ++ run)) (omega (arith, more, e)) in
      let at : get_or (blocks ++ run) reach [] ≡ get_or run k [] = ap (λ (n : ℕ). get_or (blocks ++ run) n []) e ∙ get_or-append-add blocks run k [] in
      rw (covers, here) (ap (λ (s : List Wide). Some (record { id = h.section.id; samples = s })) at)

  -- the cells at the PRBs that are next
  pub told_next : (k : ℕ) (earlier : List UserSection) → data_covers (data_under h blocks) cell ≡ true → cell.prb - first_data_prb (data_under h blocks) ≡ length blocks + k → k < length run
      → told_block_at (data_under h (blocks ++ run) ∷ earlier) cell
      ≡ or_else (told_block_at (data_under h blocks ∷ earlier) cell) (Some (packed_block h.section.id run k))
  unfolding reach
  told_next k earlier covers e below =
      let was : told_block_at (data_under h blocks ∷ earlier) cell ≡ told_block_at earlier cell =
      told-cons (data_under h blocks) earlier cell ∙ ap (λ (o : Option Block). or_else (told_block_at earlier cell) o) (told_before (omega (arith, e))) ∙ or_none (told_block_at earlier cell) in
      told-cons (data_under h (blocks ++ run)) earlier cell
      ∙ ap (λ (o : Option Block). or_else (told_block_at earlier cell) o) (told_now k covers e below)
      ∙ ap (λ (o : Option Block). or_else o (Some (packed_block h.section.id run k))) (sym was)

  told_below : reach < length blocks → told_block_in (data_under h (blocks ++ run)) cell ≡ told_block_in (data_under h blocks) cell
  unfolding reach
  told_below below =
      let now : reaches (data_under h (blocks ++ run)) cell ≡ true = lt-ltb reach (length (blocks ++ run)) (omega (arith, more)) in
      let was : reaches (data_under h blocks) cell ≡ true = lt-ltb reach (length blocks) below in
      let same : get_or (blocks ++ run) reach [] ≡ get_or blocks reach [] = get_or-append blocks run [] reach below in
      rw (now, was) (ap (λ (s : List Wide). if data_covers (data_under h blocks) cell && true then Some (record { id = h.section.id; samples = s }) else None) same)

  told_past : length blocks + length run ≤ reach → told_block_in (data_under h (blocks ++ run)) cell ≡ told_block_in (data_under h blocks) cell
  unfolding reach
  told_past above =
      let now : reaches (data_under h (blocks ++ run)) cell ≡ false = le-ltb reach (length (blocks ++ run)) (omega (arith, more)) in
      let was : reaches (data_under h blocks) cell ≡ false = le-ltb reach (length blocks) (omega arith) in
      rw (now, was) (none_in (data_covers (data_under h blocks) cell) (block_of (data_under h (blocks ++ run)) cell)
      ∙ sym (none_in (data_covers (data_under h blocks) cell) (block_of (data_under h blocks) cell)))

  beyond : (n b c : ℕ) → is_from b c n ≡ false → b ≤ n → b + c ≤ n
  beyond n b c h le = grind (arith, nat_tests)

  -- all other cells
  pub told_other : (earlier : List UserSection) → (data_covers (data_under h blocks) cell ≡ true → is_from (length blocks) (length run) (cell.prb - first_data_prb (data_under h blocks)) ≡ false)
      → told_block_at (data_under h (blocks ++ run) ∷ earlier) cell ≡ told_block_at (data_under h blocks ∷ earlier) cell
  unfolding reach
  told_other earlier ne = told_same (data_under h (blocks ++ run)) (data_under h blocks) earlier cell (elim (cases_Bool (data_covers (data_under h blocks) cell)) [
    | inr other ↦ rw other refl
    | inl covers ↦ elim (cases_lt reach (length blocks)) [
      | inl below ↦ told_below below
      | inr above ↦ told_past (beyond reach (length blocks) (length run) (ne covers) above)
    ]
  ])
