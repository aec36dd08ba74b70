-- Records that are sorted are those of each symbol.
use Rattle.std.proofs.Common.{◌≡◌, Bool, true, false, ◌&&◌, ◌==◌, List, filter, refl, sym, ◌∙◌}
use Rattle.std.proofs.lemmas.List.Elements.{filter_agree}
use Rattle.unit_model.specs.Claims.{same_slot}
use Rattle.explain_model.specs.SilentReasons.{Kept, of_symbol as kept_at, slot_of}
use Rattle.explain_model.specs.Keys.{beginning_key, command_key, data_key, header_key, repeated_key, same_slot_key, same_symbol}
use Rattle.explain_model.specs.declared.data.DataRecord.{DataRecord}
use Rattle.explain_model.specs.declared.headers.BeginningRecord.{BeginningRecord}
use Rattle.explain_model.specs.declared.headers.HeaderRecord.{HeaderRecord}
use Rattle.explain_model.specs.declared.headers.RepeatedRecord.{RepeatedRecord}
use Rattle.explain_model.specs.declared.keys.SlotKey.{SlotKey}
use Rattle.explain_model.specs.declared.keys.SymbolKey.{SymbolKey}
use Rattle.explain_model.specs.declared.sections.CommandRecord.{CommandRecord}
use Rattle.explain_records.specs.Keys.{command_symbol, in_slot, of_symbol}

and_end : (a b : Bool) → (a && (b && true)) ≡ (a && b)
and_end true true = refl
and_end true false = refl
and_end false b = refl

same_slots : (a b : SlotKey) → same_symbol (in_slot a) (in_slot b) ≡ same_slot_key a b
same_slots a b = and_end (a.ep == b.ep) (same_slot a.slot b.slot)

in_slots : (rs : List CommandRecord) (k : SlotKey) → of_symbol command_symbol (in_slot k) rs ≡ filter (λ r. same_slot_key (command_key r) k) rs
in_slots rs k = filter_agree (λ r. same_symbol (command_symbol r) (in_slot k)) (λ r. same_slot_key (command_key r) k) (λ r. same_slots (command_key r) k) rs

abbrev pub kept_with : List DataRecord → List CommandRecord → List HeaderRecord → List RepeatedRecord → List BeginningRecord → Kept
kept_with g c h r b = record { given = g; commanded = c; headers = h; repeated = r; begun = b }

pub same_kept : (g1 g2 : List DataRecord) (c1 c2 : List CommandRecord) (h1 h2 : List HeaderRecord) (r1 r2 : List RepeatedRecord) (b1 b2 : List BeginningRecord)
    → ((key : SymbolKey) → of_symbol data_key key g1 ≡ of_symbol data_key key g2)
    → ((key : SymbolKey) → of_symbol command_symbol key c1 ≡ of_symbol command_symbol key c2)
    → ((key : SymbolKey) → of_symbol header_key key h1 ≡ of_symbol header_key key h2)
    → ((key : SymbolKey) → of_symbol repeated_key key r1 ≡ of_symbol repeated_key key r2)
    → ((key : SymbolKey) → of_symbol beginning_key key b1 ≡ of_symbol beginning_key key b2)
    → (key : SymbolKey) → kept_at key (kept_with g1 c1 h1 r1 b1) ≡ kept_at key (kept_with g2 c2 h2 r2 b2)
same_kept g1 g2 c1 c2 h1 h2 r1 r2 b1 b2 hg hc hh hr hb key =
    let slots : filter (λ r. same_slot_key (command_key r) (slot_of key)) c1 ≡ filter (λ r. same_slot_key (command_key r) (slot_of key)) c2 =
    sym (in_slots c1 (slot_of key)) ∙ hc (in_slot (slot_of key)) ∙ in_slots c2 (slot_of key) in
    λ i. kept_with (hg key i) (slots i) (hh key i) (hr key i) (hb key i)
