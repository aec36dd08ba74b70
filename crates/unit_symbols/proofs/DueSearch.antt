-- Symbols of which nothing is to be reported after a time.
use Rattle.std.proofs.Common.{◌≡◌, ℕ, ℤ, ◌-◌, ◌<◌, ◌≤ℤ◌, true, false, int_le, refl, sym, ap, ◌∙◌, subst, arith, Option, Some, None}
use Rattle.fh_base.specs.declared.values.Ticks.{Ticks}
use Rattle.std.specs.Prelude.{int_lt}
use Rattle.std.proofs.lemmas.Int.{ints}
use Rattle.fh_base.specs.declared.values.Slot.{Slot}
use Rattle.fh_base.specs.Air.{air_of}
use Rattle.fh_base.specs.Numbering.{symbols_of}
use Rattle.fh_base.proofs.Order.{symbols_in_order}
use Rattle.window_config.specs.declared.endpoints.EndpointConfig.{EndpointConfig}
use Rattle.unit_model.specs.Proper.{IsAt}
use Rattle.unit_model.specs.declared.symbol_start.SymbolStart.{SymbolStart}
use Rattle.fh_base.specs.Lists.{some}
use Rattle.slot_rings.specs.Places.{is_due}
use Rattle.slot_rings.specs.Rings.{RingValue, ring_claim, ring_reported}
use Rattle.slot_rings.specs.Starts.{IsDueFrom, ring_due}
use Rattle.unit_cells.specs.Cells.{CellsValue, claim_from, endpoints_of, reported_from, ring_of}
use Rattle.unit_cells.proofs.KeepLemmas.{ring_endpoint}
use Rattle.unit_symbols.specs.Symbols.{FitsFrom, HasNone, InSlot, IsSymbol}
use Rattle.unit_symbols.proofs.SymbolLemmas.{endpoint_one, symbol_one}
use Rattle.unit_symbols.specs.DueSymbols.{cell_in, is_left, is_left_after}
use Rattle.fh_base.proofs.Orders.{and_false_2 as second_false}
use Rattle.std.proofs.lemmas.Bool.{and_left, and_parts}

-- what is left of a symbol is what is due of it in its ring
pub left_is : (v : CellsValue) (r : RingValue) (m : SymbolStart) → ring_of v m.ep ≡ Some r → is_left v m ≡ some 0 m.endpoint.prbs (λ prb. is_due (ring_claim r (cell_in m prb)) (ring_reported r (cell_in m prb)))
left_is v r m there = ap (λ (o : Option RingValue). some 0 m.endpoint.prbs (λ prb. is_due (λ re. claim_from o (cell_in m prb) re) (reported_from o (cell_in m prb)))) there

-- of these slots of an endpoint, what is due starts at a tick or later, or nothing is due
pub due_fits : (v : CellsValue) (t : ℤ) (ep : ℕ) (r : RingValue) (P : Slot → Type 0) (Over : SymbolStart → Type 0) (o : Option Ticks) → ring_of v ep ≡ Some r
    → ((m : SymbolStart) → Over m → (m.ep ≡ ep) × P m.slot) → IsDueFrom r P o → FitsFrom v (is_left_after v t) Over o
due_fits v t ep r P Over o there of from = by o from
  where
    own : (m : SymbolStart) → IsSymbol v m → Over m → m.endpoint ≡ r.endpoint
    own m is over = sym (ring_endpoint v ep m.endpoint r (subst (λ (k : ℕ). IsAt (endpoints_of v) k m.endpoint) (of m over).0 is.at) there)

    due : (m : SymbolStart) → IsSymbol v m → Over m → is_left v m ≡ ring_due r m.ep m.slot m.symbol
    due m is over =
        left_is v r m (ap (ring_of v) (of m over).0 ∙ there)
        ∙ ap (λ (e : EndpointConfig). some 0 e.prbs (λ prb. is_due (ring_claim r (cell_in m prb)) (ring_reported r (cell_in m prb)))) (own m is over)

    few : (m : SymbolStart) → IsSymbol v m → Over m → m.symbol < symbols_of r.endpoint.numerology
    few m is over = subst (λ (e : EndpointConfig). m.symbol < symbols_of e.numerology) (own m is over) is.symbol_is

    by : (o : Option Ticks) → IsDueFrom r P o → FitsFrom v (is_left_after v t) Over o
    by None none = λ m is over.
        second_false (int_lt t m.start.0) (is_left v m) (due m is over ∙ none m.slot m.symbol m.ep (of m over).1 (few m is over))
    by (Some first) from = λ m w over.
        subst (λ (x : ℤ). first.0 ≤ℤ x)
        (ap (λ (e : EndpointConfig). air_of e.numerology m.slot m.symbol) (sym (own m w.is over)) ∙ sym w.is.starts)
        (from m.slot m.symbol m.ep (of m over).1 (few m w.is over) (sym (due m w.is over) ∙ (and_parts (int_lt t m.start.0) (is_left v m) w.fit).1))

pub not_used : (v : CellsValue) (t : ℤ) (m : SymbolStart) → is_left v m ≡ false → is_left_after v t m ≡ false
not_used v t m none = second_false (int_lt t m.start.0) (is_left v m) none

not_after_last : (t s a b : ℤ) → s ≡ a → a ≤ℤ b → int_le b t ≡ true → int_lt t s ≡ false
not_after_last t s a b p q r = grind (arith, ints)

-- where the last symbol of a slot does not start after a time, none of its symbols does
pub none_past : (v : CellsValue) (t : ℤ) (ep : ℕ) (e : EndpointConfig) (slot : Slot) → IsAt (endpoints_of v) ep e
    → int_le (air_of e.numerology slot (symbols_of e.numerology - 1)) t ≡ true → HasNone v (is_left_after v t) (InSlot ep slot)
none_past v t ep e slot at past m is o =
    let below : m.symbol < symbols_of e.numerology = subst (λ (x : EndpointConfig). m.symbol < symbols_of x.numerology) (endpoint_one v ep e m at is o.0) is.symbol_is in
    and_left (int_lt t m.start.0) (is_left v m)
    (not_after_last t m.start.0 (air_of e.numerology slot m.symbol) (air_of e.numerology slot (symbols_of e.numerology - 1))
    (ap (λ (x : SymbolStart). x.start.0) (symbol_one v ep e slot m.symbol m at is o.0 o.1 refl))
    (symbols_in_order e.numerology slot m.symbol (symbols_of e.numerology - 1) (omega (arith, below))) past)
