use Rattle.std.proofs.Common.{◌≡◌, ℕ, ◌-◌, ◌<◌, ◌≤◌, false, length}
use Rattle.unit_model.specs.Claims.{is_from}
use Rattle.slot_rings.specs.Rows.{Grows, row_at}
use Rattle.slot_rings.proofs.rows.note.Given as goal
use Rattle.fh_base.specs.declared.symbols.TheConstants.{SLOT_SYMBOLS}

abbrev pub invariant-loop-symbol : goal.invariant-loop-symbol
invariant-loop-symbol l = record {
  len : length l.rows ≡ SLOT_SYMBOLS;
  grown : (s : ℕ) → l.a.symbol ≤ s → s < l.symbol → Grows l.more (row_at l.fn.rows s) (row_at l.rows s);
  others : (s : ℕ) → is_from l.a.symbol (l.symbol - l.a.symbol) s ≡ false → row_at l.rows s ≡ row_at l.fn.rows s;
}
