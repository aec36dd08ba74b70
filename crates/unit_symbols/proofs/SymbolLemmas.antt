-- Symbols go by their endpoint, their slot and their number.
use Rattle.std.proofs.Common.{◌≡◌, ℕ, ℤ, List, sym, ap, ◌∙◌, subst}
use Rattle.fh_base.specs.declared.values.Slot.{Slot}
use Rattle.window_config.specs.declared.endpoints.EndpointConfig.{EndpointConfig}
use Rattle.unit_model.specs.Proper.{IsAt}
use Rattle.unit_model.specs.Starts.{start_at}
use Rattle.unit_model.specs.declared.symbol_start.SymbolStart.{SymbolStart}
use Rattle.unit_cells.specs.Cells.{CellsValue, endpoints_of}
use Rattle.unit_symbols.specs.Symbols.{IsSymbol}
use Rattle.fh_base.proofs.Options.{some_is as some_equal}

is_at_one : (es : List EndpointConfig) (k : ℕ) (a b : EndpointConfig) → IsAt es k a → IsAt es k b → a ≡ b
is_at_one es k a b p q = some_equal a b (sym p ∙ q)

-- a symbol starts when its slot and number say
pub at_its_start : (v : CellsValue) (m : SymbolStart) → IsSymbol v m → m ≡ start_at m.ep m.endpoint m.slot m.symbol
at_its_start v m is =
    ap (λ (x : ℤ). let s : SymbolStart = record { ep = m.ep; endpoint = m.endpoint; start = record { 0 = x }; slot = m.slot; symbol = m.symbol } in s) is.starts

-- it is of the endpoint with its index
pub endpoint_one : (v : CellsValue) (ep : ℕ) (e : EndpointConfig) (m : SymbolStart) → IsAt (endpoints_of v) ep e → IsSymbol v m → m.ep ≡ ep → m.endpoint ≡ e
endpoint_one v ep e m at is p = is_at_one (endpoints_of v) ep m.endpoint e (subst (λ (k : ℕ). IsAt (endpoints_of v) k m.endpoint) p is.at) at

pub symbol_one : (v : CellsValue) (ep : ℕ) (e : EndpointConfig) (slot : Slot) (symbol : ℕ) (m : SymbolStart) → IsAt (endpoints_of v) ep e → IsSymbol v m
    → m.ep ≡ ep → m.slot ≡ slot → m.symbol ≡ symbol → m ≡ start_at ep e slot symbol
symbol_one v ep e slot symbol m at is p q r =
    at_its_start v m is
    ∙ ap (λ (x : ℕ). start_at x m.endpoint m.slot m.symbol) p
    ∙ ap (λ (x : EndpointConfig). start_at ep x m.slot m.symbol) (endpoint_one v ep e m at is p)
    ∙ ap (λ (x : Slot). start_at ep e x m.symbol) q
    ∙ ap (λ (x : ℕ). start_at ep e slot x) r
