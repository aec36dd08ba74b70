-- Sections that pass the test are proper.
use Rattle.std.proofs.Common.{◌≡◌, ◌<◌, pos, true, List, [], ◌∷◌, Option, Some, sym, ap, ◌∙◌}
use Rattle.std.specs.Prelude.{neg_ℤ, int_le, nat_lt}
use Rattle.std.specs.List.{AllByRecursion, list_all}
use Rattle.std.proofs.lemmas.Bool.{and_parts, ltb-true}
use Rattle.fh_base.proofs.Orders.{le_true}
use Rattle.fh_base.specs.Numbering.{slots_of, symbols_of}
use Rattle.explain_model.specs.declared.data.DataRecord.{DataRecord}
use Rattle.unit_model.specs.Proper.{IsSlot}
use Rattle.why_lines.specs.Starts.{IsGivenRecord, is_proper, is_proper_at}
use Rattle.window_config.specs.declared.endpoints.EndpointConfig.{EndpointConfig}

proper_at : (e : EndpointConfig) (r : DataRecord) → is_proper_at (Some e) r ≡ true → IsSlot e.numerology r.slot × (r.symbol < symbols_of e.numerology)
proper_at e r h =
    let low = and_parts (int_le (neg_ℤ (pos 1000000)) r.slot.frame) _ h in
    let high = and_parts (int_le r.slot.frame (pos 1000000)) _ low.1 in
    let subframe = and_parts (nat_lt r.slot.subframe 10) _ high.1 in
    let slot = and_parts (nat_lt r.slot.slot (slots_of e.numerology)) _ subframe.1 in (
      record {
        low = le_true (neg_ℤ (pos 1000000)) r.slot.frame low.0;
        high = le_true r.slot.frame (pos 1000000) high.0;
        subframe = ltb-true r.slot.subframe 10 subframe.0;
        slot_is = ltb-true r.slot.slot (slots_of e.numerology) slot.0;
      },
      ltb-true r.symbol (symbols_of e.numerology) slot.1,
    )

one_proper : (es : List EndpointConfig) (r : DataRecord) → is_proper es r ≡ true → IsGivenRecord es r
one_proper es r h e is = proper_at e r (sym (ap (λ (o : Option EndpointConfig). is_proper_at o r) is) ∙ h)

pub all_proper : (es : List EndpointConfig) (rs : List DataRecord) → list_all (is_proper es) rs ≡ true → AllByRecursion (IsGivenRecord es) rs
all_proper es [] h = tt
all_proper es (r ∷ rs) h =
    let parts = and_parts (is_proper es r) (list_all (is_proper es) rs) h in
    (one_proper es r parts.0, all_proper es rs parts.1)
