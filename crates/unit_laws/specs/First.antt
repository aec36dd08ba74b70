-- What is first in a sweep over symbols (this project's profile).
use Rattle.std.specs.Prelude.{◌≡◌, ℤ, true, ◌<ℤ◌, ◌≤ℤ◌, List, [], ◌++◌}
use Rattle.window_config.specs.declared.endpoints.EndpointConfig.{EndpointConfig}
use Rattle.unit_model.specs.Order.{comes_before}
use Rattle.unit_model.specs.Sweeps.{OfSymbol, sweep}
use Rattle.unit_model.specs.declared.symbol_start.SymbolStart.{SymbolStart}
use Rattle.unit_model.specs.Swept.{IsSwept}

-- what is told of a symbol
abbrev pub told_of : {A : Type 0} → OfSymbol A → SymbolStart → List A
told_of g m = g m.ep m.endpoint m.slot m.symbol

-- it is gone over when it starts, from one tick on and before another
pub record IsSweptIn (es : List EndpointConfig) (from end : ℤ) (m : SymbolStart) : Type 0 where
  pub swept : IsSwept es m.ep m.endpoint m.slot m.symbol m.start.0
  pub low : from ≤ℤ m.start.0
  pub high : m.start.0 <ℤ end

-- nothing is told of the symbols that precede one
abbrev pub IsQuietBefore : {A : Type 0} → OfSymbol A → List EndpointConfig → ℤ → ℤ → SymbolStart → Type 0
IsQuietBefore g es from end first = (m : SymbolStart) → IsSweptIn es from end m → comes_before m first ≡ true → told_of g m ≡ []

-- the same is told of the symbols that follow one
abbrev pub IsSameAfter : {A : Type 0} → OfSymbol A → OfSymbol A → List EndpointConfig → ℤ → ℤ → SymbolStart → Type 0
IsSameAfter g h es from end first = (m : SymbolStart) → IsSweptIn es from end m → comes_before first m ≡ true → told_of h m ≡ told_of g m

-- two sweeps begin with what each tells of one symbol, and go on alike
pub record BeginWith {A : Type 0} (es : List EndpointConfig) (from end : ℤ) (first : SymbolStart) (g h : OfSymbol A) : Type 0 where
  pub rest : List A
  pub one : sweep g es from end ≡ told_of g first ++ rest
  pub other : sweep h es from end ≡ told_of h first ++ rest

-- where nothing is told of the symbols before one, it is told first; and what tells the same of all others goes on alike
abbrev pub FirstIsFirst : Type 0 → Type 0
FirstIsFirst A =
    (g h : OfSymbol A) (es : List EndpointConfig) (from end : ℤ) (first : SymbolStart) → IsSweptIn es from end first
    → IsQuietBefore g es from end first → IsQuietBefore h es from end first → IsSameAfter g h es from end first
    → BeginWith es from end first g h

-- where nothing is told of any symbol, nothing is told
abbrev pub NothingIsNothing : Type 0 → Type 0
NothingIsNothing A =
    (g : OfSymbol A) (es : List EndpointConfig) (from end : ℤ) → ((m : SymbolStart) → IsSweptIn es from end m → told_of g m ≡ [])
    → sweep g es from end ≡ []
