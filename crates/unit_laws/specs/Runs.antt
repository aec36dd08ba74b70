-- Each symbol is gone over at the tick at which it starts.
use Rattle.std.specs.Prelude.{ℕ, ◌^◌, ◌<◌, List, IfSome}
use Rattle.fh_base.specs.Air.{air_of}
use Rattle.fh_base.specs.Numbering.{IsSlotOf, offsets_of, symbols_of}
use Rattle.fh_base.specs.declared.numerology.Numerology.{Numerology}
use Rattle.fh_base.specs.declared.values.Slot.{Slot}
use Rattle.window_config.specs.declared.endpoints.EndpointConfig.{EndpointConfig}
use Rattle.unit_model.specs.Proper.{IsAt}
use Rattle.unit_model.specs.Swept.{IsSwept}

-- an offset endpoint's timeOffset and cpLength have 16 bits
abbrev pub OffsetsFit : Numerology → Type 0
OffsetsFit n = IfSome (offsets_of n) (λ p. (p.0 < 2 ^ 16) × (p.1 < 2 ^ 16))

-- each symbol is gone over at the tick at which it starts
abbrev pub SymbolsAreSwept : Type 0
SymbolsAreSwept =
    (es : List EndpointConfig) (ep : ℕ) (e : EndpointConfig) (slot : Slot) (symbol : ℕ) → IsAt es ep e → OffsetsFit e.numerology → IsSlotOf e.numerology slot
    → symbol < symbols_of e.numerology → IsSwept es ep e slot symbol (air_of e.numerology slot symbol)
