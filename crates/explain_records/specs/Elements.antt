-- What the code's structs represent in the definitions.
use Rattle.explain_model.specs.Commanded.{Elements}
use Rattle.explain_model.specs.SilentReasons.{Kept}
use Rattle.explain_records.specs.declared.commands.Asked.{Asked}
use Rattle.explain_records.specs.declared.reasons.AtSymbol.{AtSymbol}

abbrev pub elements : Asked → Elements
elements a = record { key = a.key; down = a.down; symbol = a.symbol; prb = a.prb; mask = a.mask }

abbrev pub at_symbol : AtSymbol → Kept
at_symbol a = record {
  given = a.given.now;
  commanded = a.commanded.now;
  headers = a.headers.now;
  repeated = a.repeated.now;
  begun = a.begun.now;
}
