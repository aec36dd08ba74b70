-- A reason looks at the records of its own symbol alone, and at the commands of its own slot (this project's profile).
use Rattle.std.specs.Prelude.{◌≡◌, ℕ, List, filter}
use Rattle.explain_model.specs.Keys.{command_key, data_key, same_slot_key, same_symbol}
use Rattle.explain_model.specs.declared.data.DataRecord.{DataRecord}
use Rattle.explain_model.specs.declared.keys.SymbolKey.{SymbolKey}
use Rattle.explain_model.specs.declared.sections.CommandRecord.{CommandRecord}
use Rattle.explain_model.specs.Commanded.{Elements, command_reason}
use Rattle.explain_model.specs.SilentReasons.{Kept, giver_of, missing_reason, of_symbol}

pub record OthersNeverMatter : Type 0 where
  pub missing : (all : Kept) (k : SymbolKey) (prb : ℕ) → missing_reason (of_symbol k all) k prb ≡ missing_reason all k prb
  pub commands : (rs : List CommandRecord) (x : Elements) → command_reason (filter (λ r. same_slot_key (command_key r) x.key) rs) x ≡ command_reason rs x
  pub giver : (rs : List DataRecord) (k : SymbolKey) (prb : ℕ) → giver_of (filter (λ r. same_symbol (data_key r) k) rs) k prb ≡ giver_of rs k prb
