-- The lines tell each missing cell, each silent PRB and each unused block.
use Rattle.std.proofs.Common.{◌≡◌, ℕ, ℤ, ◌+◌, ◌==◌, true, List, [], ◌∷◌, ◌++◌, map, refl, sym, ap, ap₂, ◌∙◌, append-nil}
use Rattle.std.specs.Prelude.{filter}
use Rattle.std.specs.List.{flat_map}
use Rattle.std.specs.Ordering.{int_eq}
use Rattle.std.proofs.lemmas.Bool.{and_parts, eqb-true}
use Rattle.std.proofs.lemmas.Bool.Decides.{Decides-int_eq}
use Rattle.std.proofs.lemmas.Grind.{flat_map-append}
use Rattle.fh_base.specs.declared.values.Slot.{Slot}
use Rattle.air_source.specs.Units.{same_side}
use Rattle.air_source.specs.declared.events.Side.{Side}
use Rattle.window_config.specs.declared.config.Config.{Config}
use Rattle.unit_model.specs.Claims.{same_slot}
use Rattle.unit_model.proofs.ClaimLemmas.{same_slot_is}
use Rattle.explain_model.specs.declared.reasons.Reason.{Reason}
use Rattle.explain_model.proofs.PieceLemmas.{are_pieces}
use Rattle.explain_model.specs.Missing.{MissingCell, alike, goes_on_missing, is_missing, missing_cell, missing_cells, missing_line, missing_lines}
use Rattle.explain_model.specs.SilentReasons.{Kept}
use Rattle.explain_model.specs.Same.{same_reason}
use Rattle.explain_model.specs.Seen.{Seen, seen}
use Rattle.explain_model.specs.Silent.{SilentPrb, SilentSymbol, goes_on_silent, silent_line, silent_lines_of, silent_symbol_lines}
use Rattle.explain_model.specs.Told.{MissingAreTold, SilentAreTold, ToldMissing, ToldSilent, ToldUnused, UnusedAreTold, all_silent, all_unused, missing_as_told, prb_of_block, prb_of_silent, silent_as_told, told_missing, told_silent, told_unused, unused_as_told}
use Rattle.explain_model.specs.Unused.{UnusedBlock, UnusedSymbol, goes_on_unused, unused_line, unused_lines_of, unused_symbol_lines}
use Rattle.explain_model.proofs.RunLemmas.{lines_tell}
use Rattle.explain_model.proofs.SameLemmas.{same_reason_is}
use Rattle.air_source.proofs.Sides.{side_same}

-- ---- missing cells

abbrev missing_at : ToldMissing → ℕ → ToldMissing
missing_at k n = record { prb = record k.prb { prb = n }; mask = k.mask; reason = k.reason }

-- all but the PRB
abbrev missing_key : MissingCell → ToldMissing
missing_key x = missing_at (missing_as_told x) 0

told_with : Side → ℤ → ℕ → Slot → ℕ → ℕ → ℕ → Reason → ToldMissing
told_with side at id slot symbol section mask reason = record {
  prb = record { side = side; at = record { 0 = at }; id = id; slot = slot; symbol = symbol; prb = 0; section = section };
  mask = mask;
  reason = reason;
}

key_is : (x : MissingCell) → missing_key x ≡ told_with x.cell.side x.cell.at.0 x.cell.id x.cell.slot x.cell.symbol x.cell.section x.cell.mask x.reason
unfolding told_with
key_is x = refl

keys_equal : (a b : Side) (s t : ℤ) (i j : ℕ) (x y : Slot) (u v m n p q : ℕ) (r w : Reason) → a ≡ b → s ≡ t → i ≡ j → x ≡ y → u ≡ v → m ≡ n → p ≡ q → r ≡ w
    → told_with b t j y v n q w ≡ told_with a s i x u m p r
keys_equal a b s t i j x y u v m n p q r w e1 e2 e3 e4 e5 e6 e7 e8 = cc

missing_goes : (x y : MissingCell) → goes_on_missing x y ≡ true → (missing_key y ≡ missing_key x) × (y.cell.prb ≡ x.cell.prb + 1)
missing_goes x y h =
    let p = and_parts (alike x.cell y.cell) _ h in
    let q = and_parts (same_reason x.reason y.reason) (x.cell.prb + 1 == y.cell.prb) p.1 in
    let a = and_parts (same_side x.cell.side y.cell.side) _ p.0 in
    let b = and_parts (int_eq x.cell.at.0 y.cell.at.0) _ a.1 in
    let d = and_parts (x.cell.id == y.cell.id) _ b.1 in
    let e = and_parts (same_slot x.cell.slot y.cell.slot) _ d.1 in
    let f = and_parts (x.cell.symbol == y.cell.symbol) _ e.1 in
    let g = and_parts (x.cell.section == y.cell.section) (x.cell.mask == y.cell.mask) f.1 in (
      key_is y
          ∙ keys_equal x.cell.side y.cell.side x.cell.at.0 y.cell.at.0 x.cell.id y.cell.id x.cell.slot y.cell.slot x.cell.symbol y.cell.symbol
          x.cell.section y.cell.section x.cell.mask y.cell.mask x.reason y.reason
          (side_same x.cell.side y.cell.side a.0) ((Decides-int_eq x.cell.at.0 y.cell.at.0).0 b.0) (eqb-true _ _ d.0) (same_slot_is x.cell.slot y.cell.slot e.0)
          (eqb-true _ _ f.0) (eqb-true _ _ g.0) (eqb-true _ _ g.1) (same_reason_is x.reason y.reason q.0)
          ∙ sym (key_is x),
      sym (eqb-true _ _ q.1),
    )

missing_told : (xs : List MissingCell) → flat_map told_missing (missing_lines xs) ≡ map missing_as_told xs
unfolding missing_lines
missing_told xs =
    lines_tell goes_on_missing missing_key (λ x. x.cell.prb) missing_at missing_as_told (λ x. refl) missing_goes missing_line told_missing refl
    (λ x rest. append-nil _) xs (are_pieces goes_on_missing xs)

cells_alone : (c : Config) (all : Kept) (xs : List Seen) → map (λ x. x.cell) (map (missing_cell c all) xs) ≡ xs
cells_alone c all [] = refl
cells_alone c all (x ∷ xs) = ap (λ r. x ∷ r) (cells_alone c all xs)

pub missing_are_told : MissingAreTold
unfolding missing_cells
missing_are_told c events = (missing_told _, cells_alone c _ (filter is_missing (seen events)))

-- ---- silent PRBs

silent_pair : (m n : ℕ) (r w : Reason) → m ≡ n → r ≡ w → (let x : ℕ × Reason = (n, w) in x) ≡ (m, r)
silent_pair m n r w e f = cc

silent_goes : (x y : SilentPrb) → goes_on_silent x y ≡ true → ((let k : ℕ × Reason = (y.mask, y.reason) in k) ≡ (x.mask, x.reason)) × (y.prb ≡ x.prb + 1)
silent_goes x y h =
    let p = and_parts (x.mask == y.mask) _ h in
    let q = and_parts (same_reason x.reason y.reason) (x.prb + 1 == y.prb) p.1 in
    (silent_pair x.mask y.mask x.reason y.reason (eqb-true _ _ p.0) (same_reason_is x.reason y.reason q.0), sym (eqb-true _ _ q.1))

module _ (s : SilentSymbol) where
  abbrev silent_at : ℕ × Reason → ℕ → ToldSilent
  silent_at k n = record { prb = prb_of_silent s n; mask = k.0; line = s.number; reason = k.1 }

  silent_told : flat_map told_silent (silent_symbol_lines s) ≡ all_silent s
  unfolding silent_symbol_lines
  silent_told =
      lines_tell goes_on_silent (λ x. (x.mask, x.reason)) (λ x. x.prb) silent_at (silent_as_told s) (λ x. refl) silent_goes (silent_line s) told_silent refl
      (λ x rest. append-nil _) s.prbs (are_pieces goes_on_silent s.prbs)

all_silent_told : (ss : List SilentSymbol) → flat_map told_silent (flat_map silent_symbol_lines ss) ≡ flat_map all_silent ss
all_silent_told [] = refl
all_silent_told (s ∷ ss) =
    flat_map-append told_silent (silent_symbol_lines s) (flat_map silent_symbol_lines ss) ∙ ap₂ ◌++◌ (silent_told s) (all_silent_told ss)

pub silent_are_told : SilentAreTold
unfolding silent_lines_of
silent_are_told c plan numbers events = all_silent_told _

-- ---- unused blocks

unused_pair : (m n a b : ℕ) → m ≡ n → a ≡ b → (let x : ℕ × ℕ = (n, b) in x) ≡ (m, a)
unused_pair m n a b e f = cc

unused_goes : (x y : UnusedBlock) → goes_on_unused x y ≡ true → ((let k : ℕ × ℕ = (y.section, y.number) in k) ≡ (x.section, x.number)) × (y.prb ≡ x.prb + 1)
unused_goes x y h =
    let p = and_parts (x.section == y.section) _ h in
    let q = and_parts (x.number == y.number) (x.prb + 1 == y.prb) p.1 in
    (unused_pair x.section y.section x.number y.number (eqb-true _ _ p.0) (eqb-true _ _ q.0), sym (eqb-true _ _ q.1))

module _ (u : UnusedSymbol) where
  abbrev unused_at : ℕ × ℕ → ℕ → ToldUnused
  unused_at k n = record { prb = prb_of_block u (record { prb = n; section = k.0; number = k.1 }); from = k.1 }

  unused_told : flat_map told_unused (unused_symbol_lines u) ≡ all_unused u
  unfolding unused_symbol_lines
  unused_told =
      lines_tell goes_on_unused (λ x. (x.section, x.number)) (λ x. x.prb) unused_at (unused_as_told u) (λ x. refl) unused_goes (unused_line u) told_unused refl
      (λ x rest. append-nil _) u.blocks (are_pieces goes_on_unused u.blocks)

all_unused_told : (us : List UnusedSymbol) → flat_map told_unused (flat_map unused_symbol_lines us) ≡ flat_map all_unused us
all_unused_told [] = refl
all_unused_told (u ∷ us) =
    flat_map-append told_unused (unused_symbol_lines u) (flat_map unused_symbol_lines us) ∙ ap₂ ◌++◌ (unused_told u) (all_unused_told us)

pub unused_are_told : UnusedAreTold
unfolding unused_lines_of
unused_are_told c events = all_unused_told _
