-- The records of a symbol.
use Rattle.std.specs.Prelude.{List, filter}
use Rattle.air_source.specs.declared.events.Side.TheVariants.{Ru}
use Rattle.explain_model.specs.Keys.{command_key, same_symbol}
use Rattle.explain_model.specs.declared.keys.SlotKey.{SlotKey}
use Rattle.explain_model.specs.declared.sections.CommandRecord.{CommandRecord}
use Rattle.explain_model.specs.declared.keys.SymbolKey.{SymbolKey}

-- the records with a key, in their order
abbrev pub of_symbol : {R : Type 0} → (R → SymbolKey) → SymbolKey → List R → List R
of_symbol key_of key records = filter (λ r. same_symbol (key_of r) key) records

-- the key of what is looked up by a slot of the radio unit
abbrev pub in_slot : SlotKey → SymbolKey
in_slot k = record { side = Ru; ep = k.ep; slot = k.slot; symbol = 0 }

abbrev pub command_symbol : CommandRecord → SymbolKey
command_symbol r = in_slot (command_key r)
