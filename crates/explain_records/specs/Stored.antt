-- The records that are kept.
use Rattle.std.specs.Prelude.{◌≡◌, []}
use Rattle.explain_model.specs.SilentReasons.{Kept, of_symbol}
use Rattle.explain_model.specs.declared.keys.SymbolKey.{SymbolKey}

abbrev pub nothing_kept : Kept
nothing_kept = record { given = []; commanded = []; headers = []; repeated = []; begun = [] }

-- of each symbol these are the same records, in the same order
abbrev pub SameBySymbol : Kept → Kept → Type 0
SameBySymbol all ordered = (key : SymbolKey) → of_symbol key ordered ≡ of_symbol key all
