-- The symbols of sections of data, each once where those of one symbol are together, and what they are sorted by.
use Rattle.std.specs.Prelude.{◌<◌, ◌-◌, ◌&&◌, pos, neg_ℤ, int_le, nat_lt, Bool, true, false, if◌then◌else◌, List, [], ◌∷◌, ◌++◌, length, Option, Some, None, slice_get}
use Rattle.std.specs.List.{flat_map}
use Rattle.std.specs.Ordering.{int_cmp, nat_cmp, on, then_cmp}
use Rattle.std.specs.declared.cmp.Ordering.{Ordering}
use Rattle.fh_base.specs.Numbering.{slots_of, symbols_of}
use Rattle.air_source.specs.declared.events.Side.{Side}
use Rattle.window_config.specs.declared.endpoints.EndpointConfig.{EndpointConfig}
use Rattle.unit_model.specs.Proper.{IsAt, IsSlot}
use Rattle.unit_model.specs.declared.symbol_start.SymbolStart.{SymbolStart}
use Rattle.explain_model.specs.Unused.{is_giver, same_start, start_of}
use Rattle.explain_model.specs.declared.data.DataRecord.{DataRecord}
use Rattle.why_lines.specs.declared.starts.StartKey.{StartKey}

-- ---- what a record owes

-- it names a slot and a symbol of its endpoint, in a frame whose symbols' times can be told
abbrev pub IsGivenRecord : List EndpointConfig → DataRecord → Type 0
IsGivenRecord es r = (e : EndpointConfig) → IsAt es r.ep e → IsSlot e.numerology r.slot × (r.symbol < symbols_of e.numerology)

-- the same as a test; there may be no such endpoint
abbrev pub is_proper_at : Option EndpointConfig → DataRecord → Bool
is_proper_at None r = true
is_proper_at (Some e) r =
    int_le (neg_ℤ (pos 1000000)) r.slot.frame && (int_le r.slot.frame (pos 1000000)
    && (nat_lt r.slot.subframe 10 && (nat_lt r.slot.slot (slots_of e.numerology) && nat_lt r.symbol (symbols_of e.numerology))))

abbrev pub is_proper : List EndpointConfig → DataRecord → Bool
is_proper es r = is_proper_at (slice_get es r.ep) r

-- ---- symbols, one after the other

abbrev pub listed : {A : Type 0} → Option A → List A
listed None = []
listed (Some x) = x ∷ []

-- the symbol of a section on time of a unit
abbrev pub start_in : List EndpointConfig → Side → DataRecord → List SymbolStart
start_in es side r = if is_giver side r then start_of es r else []

abbrev pub last_start : List SymbolStart → Option SymbolStart
last_start ss = slice_get ss (length ss - 1)

-- it is the symbol before it, if there is one
abbrev pub same_as : Option SymbolStart → SymbolStart → Bool
same_as None t = false
same_as (Some s) t = same_start s t

-- some symbols more, but none that is the one before it
abbrev pub with_starts : List SymbolStart → List SymbolStart → List SymbolStart
with_starts ss [] = ss
with_starts ss (t ∷ ts) = with_starts (if same_as (last_start ss) t then ss else ss ++ t ∷ []) ts

-- symbols, but none that is the one before it
abbrev pub fresh : Option SymbolStart → List SymbolStart → List SymbolStart
fresh last [] = []
fresh last (s ∷ ss) = if same_as last s then fresh last ss else s ∷ fresh (Some s) ss

abbrev pub fresh_starts : List EndpointConfig → Side → List DataRecord → List SymbolStart
fresh_starts es side rs = fresh None (flat_map (start_in es side) rs)

-- ---- what they are sorted by

abbrev pub start_key : SymbolStart → StartKey
start_key s = record {
  start = s.start.0;
  ep = s.ep;
  frame = s.slot.frame;
  subframe = s.slot.subframe;
  slot = s.slot.slot;
  symbol = s.symbol;
}

abbrev pub start_cmp : StartKey → StartKey → Ordering
start_cmp =
    then_cmp (on (λ k. k.start) int_cmp)
    (then_cmp (on (λ k. k.ep) nat_cmp)
    (then_cmp (on (λ k. k.frame) int_cmp)
    (then_cmp (on (λ k. k.subframe) nat_cmp) (then_cmp (on (λ k. k.slot) nat_cmp) (on (λ k. k.symbol) nat_cmp)))))
