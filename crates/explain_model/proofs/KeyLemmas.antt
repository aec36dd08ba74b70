-- Symbols by their parts, and the starts of one symbol.
use Rattle.std.proofs.Common.{◌≡◌, ℕ, ◌==◌, true, refl, sym, ◌∙◌}
use Rattle.std.proofs.lemmas.Bool.{and_parts, eqb-true}
use Rattle.fh_base.specs.declared.values.Slot.{Slot}
use Rattle.air_source.specs.declared.events.Side.{Side}
use Rattle.unit_model.specs.Claims.{same_slot}
use Rattle.unit_model.specs.declared.symbol_start.SymbolStart.{SymbolStart}
use Rattle.unit_model.proofs.ClaimLemmas.{same_slot_is}
use Rattle.explain_model.specs.Unused.{key_at, same_start}
use Rattle.explain_model.specs.declared.keys.SymbolKey.{SymbolKey}

pub symbol_with : Side → ℕ → Slot → ℕ → SymbolKey
symbol_with side ep slot symbol = record { side = side; ep = ep; slot = slot; symbol = symbol }

pub symbols_equal : (a b : Side) (m n : ℕ) (s t : Slot) (x y : ℕ) → a ≡ b → m ≡ n → s ≡ t → x ≡ y → symbol_with a m s x ≡ symbol_with b n t y
symbols_equal a b m n s t x y e f g h = cc

pub symbol_eta : (k : SymbolKey) → k ≡ symbol_with k.side k.ep k.slot k.symbol
unfolding symbol_with
symbol_eta k = refl

-- the tests of starts and of their symbols agree
pub same_start_key : (side : Side) (s t : SymbolStart) → same_start s t ≡ true → key_at side s ≡ key_at side t
same_start_key side s t h =
    let p = and_parts (s.ep == t.ep) _ h in
    let q = and_parts (same_slot s.slot t.slot) (s.symbol == t.symbol) p.1 in
    symbol_eta (key_at side s)
    ∙ symbols_equal side side s.ep t.ep s.slot t.slot s.symbol t.symbol refl (eqb-true _ _ p.0) (same_slot_is s.slot t.slot q.0) (eqb-true _ _ q.1)
    ∙ sym (symbol_eta (key_at side t))
