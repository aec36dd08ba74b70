-- Each block that no cell shows is told exactly once.
use Rattle.std.proofs.Common.{◌≡◌, ℕ, zero, suc, ◌+◌, ◌<◌, ◌≤◌, ◌==◌, Bool, true, false, List, [], ◌∷◌, ◌++◌, map, refl, sym, ap, ap₂, ◌∙◌, subst, arith, append-nil}
use Rattle.std.specs.Prelude.{filter, if◌then◌else◌, not, ◌&&◌, ◌||◌, Option, Some, None, slice_get}
use Rattle.std.specs.List.{AllByRecursion, find, flat_map, list_any}
use Rattle.std.proofs.lemmas.Bool.{and_from, and_parts, eq-eqb, eqb-true}
use Rattle.std.proofs.lemmas.Grind.{flat_map-append}
use Rattle.std.proofs.lemmas.List.{map-append}
use Rattle.std.proofs.lemmas.List.Elements.{filter-append}
use Rattle.fh_base.specs.Air.{air_of}
use Rattle.fh_base.specs.declared.values.Slot.{Slot}
use Rattle.air_source.specs.Units.{same_side}
use Rattle.air_source.specs.declared.events.Side.{Side}
use Rattle.air_source.specs.declared.events.Side.TheVariants.{Ru, Du}
use Rattle.window_config.specs.declared.endpoints.EndpointConfig.{EndpointConfig}
use Rattle.unit_model.specs.Claims.{same_slot}
use Rattle.fh_base.specs.Lists.{each}
use Rattle.unit_model.specs.Order.{comes_before}
use Rattle.unit_model.specs.declared.symbol_start.SymbolStart.{SymbolStart}
use Rattle.unit_model.proofs.ClaimLemmas.{same_slot_is, slot_self}
use Rattle.explain_model.specs.Keys.{data_key, same_symbol}
use Rattle.explain_model.specs.declared.data.DataRecord.{DataRecord}
use Rattle.explain_model.specs.declared.keys.SymbolKey.{SymbolKey}
use Rattle.explain_model.specs.SilentReasons.{covers_prb, gives_prb, giver_of, is_on_time, kept}
use Rattle.explain_model.specs.Seen.{Seen, is_shown_at, seen}
use Rattle.explain_model.specs.Unused.{UnusedBlock, UnusedSymbol, each_once, in_order_of_time, is_giver, key_at, same_start, start_of, start_with, symbols_given, unused_blocks, unused_of_unit, unused_prb, unused_symbol, unused_symbols, unused_with}
use Rattle.explain_laws.specs.Blocks.{BlocksAreTold, LoneBlock, is_block, lone, lone_blocks, lone_by}
use Rattle.explain_laws.proofs.CountingLemmas.{all_both, all_filter, all_in_order, any_both, copies, flat_copies, no_copies, passing, passing_in_order, passing_kept, passing_lost}
use Rattle.air_source.proofs.Sides.{side_same, side_self}
use Rattle.fh_base.proofs.Orders.{or_second, not_true}
use Rattle.explain_model.proofs.KeyLemmas.{symbols_equal, symbol_eta, same_start_key}

-- ---- symbols

pub symbol_is : (a b : SymbolKey) → same_symbol a b ≡ true → a ≡ b
symbol_is a b h =
    let p = and_parts (same_side a.side b.side) _ h in
    let q = and_parts (a.ep == b.ep) _ p.1 in
    let r = and_parts (same_slot a.slot b.slot) (a.symbol == b.symbol) q.1 in
    symbol_eta a
    ∙ symbols_equal a.side b.side a.ep b.ep a.slot b.slot a.symbol b.symbol (side_same a.side b.side p.0) (eqb-true _ _ q.0) (same_slot_is a.slot b.slot r.0) (eqb-true _ _ r.1)
    ∙ sym (symbol_eta b)

pub symbol_self : (k : SymbolKey) → same_symbol k k ≡ true
symbol_self k =
    and_from (same_side k.side k.side) _ (side_self k.side)
    (and_from (k.ep == k.ep) _ (eq-eqb k.ep k.ep refl)
    (and_from (same_slot k.slot k.slot) (k.symbol == k.symbol) (slot_self k.slot) (eq-eqb k.symbol k.symbol refl)))

start_same : (side : Side) (s t : SymbolStart) → key_at side s ≡ key_at side t → same_start s t ≡ true
start_same side s t h =
    let e : s.ep ≡ t.ep = ap (λ (k : SymbolKey). k.ep) h in
    let f : s.slot ≡ t.slot = ap (λ (k : SymbolKey). k.slot) h in
    let g : s.symbol ≡ t.symbol = ap (λ (k : SymbolKey). k.symbol) h in
    and_from (s.ep == t.ep) _ (eq-eqb s.ep t.ep e)
    (and_from (same_slot s.slot t.slot) (s.symbol == t.symbol) (subst (λ (x : Slot). same_slot s.slot x ≡ true) f (slot_self s.slot)) (eq-eqb s.symbol t.symbol g))

-- ---- the symbols of a unit: each once

module _ (side : Side) (k : SymbolKey) where
  abbrev is_its : SymbolStart → Bool
  is_its s = same_symbol (key_at side s) k

  -- the number of a test
  abbrev one_if : Bool → ℕ
  one_if b = if b then 1 else 0

  own_lost : (s t : SymbolStart) → is_its s ≡ true → is_its t ≡ true → not (same_start s t) ≡ false
  own_lost s t h g = ap not (start_same side s t (symbol_is (key_at side s) k h ∙ sym (symbol_is (key_at side t) k g)))

  other_kept : (s t : SymbolStart) → is_its s ≡ false → is_its t ≡ true → not (same_start s t) ≡ true
  other_kept s t h g =
      ap not (not_true (same_start s t) (λ is.
      let here : is_its s ≡ true = subst (λ (x : SymbolKey). same_symbol x k ≡ true) (sym (same_start_key side s t is)) g in cc))

  once_step : (s : SymbolStart) (ss : List SymbolStart) (b : Bool) → is_its s ≡ b → passing is_its (each_once ss) ≡ one_if (list_any is_its ss)
      → (if b then suc (passing is_its (filter (λ t. not (same_start s t)) (each_once ss))) else passing is_its (filter (λ t. not (same_start s t)) (each_once ss)))
      ≡ one_if (b || list_any is_its ss)
  once_step s ss true is more = ap suc (passing_lost is_its (λ t. not (same_start s t)) (λ t h. own_lost s t is h) (each_once ss))
  once_step s ss false is more = passing_kept is_its (λ t. not (same_start s t)) (λ t h. other_kept s t is h) (each_once ss) ∙ more

  once : (ss : List SymbolStart) → passing is_its (each_once ss) ≡ one_if (list_any is_its ss)
  unfolding each_once
  once [] = refl
  once (s ∷ ss) = once_step s ss (is_its s) refl (once ss)

  pub once_in_order : (ss : List SymbolStart) → passing is_its (in_order_of_time ss) ≡ one_if (list_any is_its ss)
  unfolding in_order_of_time
  once_in_order ss = passing_in_order is_its comes_before (each_once ss) ∙ once ss

after : (m n : ℕ) → m ≤ n → (m ≡ n → ⊥) → m + 1 ≤ n
after m n h apart = omega arith

-- ---- the blocks of a symbol

module _ (rs : List DataRecord) (cells : List Seen) (side : Side) (k : SymbolKey) (prb : ℕ) (s : SymbolStart) where
  abbrev u : UnusedSymbol
  u = unused_symbol rs cells side s

  abbrev of_prb : ℕ → List LoneBlock
  of_prb p = map (lone u) (unused_prb rs cells side s p)

  -- those of another symbol
  others : same_symbol (key_at side s) k ≡ false → (xs : List UnusedBlock) → filter (is_block k prb) (map (lone u) xs) ≡ []
  others other [] = refl
  others other (x ∷ xs) =
      ap₂ (λ (b : Bool) (r : List LoneBlock). if b && (x.prb == prb) then lone u x ∷ r else r) other (others other xs)

  -- those of a PRB of this symbol
  module _ (own : same_symbol (key_at side s) k ≡ true) where
    given : (p : ℕ) (b : Bool) → (p == prb) ≡ b → (o : Option DataRecord) → filter (is_block k prb) (map (lone u) (unused_with p o)) ≡ (if b then map (lone u) (unused_with p o) else [])
    given p true is None = refl
    given p false is None = refl
    given p true is (Some r) = ap₂ (λ (b d : Bool). let x : LoneBlock = record { key = key_at side s; prb = p; section = r.section; number = r.number } in if b && d then x ∷ [] else []) own is
    given p false is (Some r) = ap₂ (λ (b d : Bool). let x : LoneBlock = record { key = key_at side s; prb = p; section = r.section; number = r.number } in if b && d then x ∷ [] else []) own is

    by_shown : (p : ℕ) (b shown : Bool) → (p == prb) ≡ b → (o : Option DataRecord)
        → filter (is_block k prb) (map (lone u) (if shown then [] else unused_with p o)) ≡ (if b then map (lone u) (if shown then [] else unused_with p o) else [])
    by_shown p true true is o = refl
    by_shown p false true is o = refl
    by_shown p true false is o = given p true is o
    by_shown p false false is o = given p false is o

    at_prb : (p : ℕ) (b : Bool) → (p == prb) ≡ b → filter (is_block k prb) (of_prb p) ≡ (if b then of_prb p else [])
    at_prb p b is = by_shown p b (is_shown_at cells side s.endpoint.id s.slot s.symbol p) is (giver_of rs (key_at side s) p)

    none_before : (p : ℕ) → prb < p → filter (is_block k prb) (of_prb p) ≡ []
    none_before p h = at_prb p false (not_true (p == prb) (λ is. let e = eqb-true p prb is in omega arith))

    -- over the PRBs from one on
    all_before : (from count : ℕ) → prb < from → filter (is_block k prb) (map (lone u) (each from count (unused_prb rs cells side s))) ≡ []
    unfolding each
    all_before from zero h = refl
    all_before from (suc count) h =
        ap (filter (is_block k prb)) (map-append (lone u) (unused_prb rs cells side s from) (each (from + 1) count (unused_prb rs cells side s)))
        ∙ filter-append (is_block k prb) (of_prb from) (map (lone u) (each (from + 1) count (unused_prb rs cells side s)))
        ∙ ap₂ ◌++◌ (none_before from h) (all_before (from + 1) count (omega arith))

    all_step : (from count : ℕ) (b : Bool) → (from == prb) ≡ b → from ≤ prb → prb < from + suc count
        → ((from + 1) ≤ prb → prb < (from + 1) + count → filter (is_block k prb) (map (lone u) (each (from + 1) count (unused_prb rs cells side s))) ≡ of_prb prb)
        → filter (is_block k prb) (of_prb from) ++ filter (is_block k prb) (map (lone u) (each (from + 1) count (unused_prb rs cells side s))) ≡ of_prb prb
    all_step from count true is low high more =
        let e = eqb-true from prb is in
        ap₂ ◌++◌ (at_prb from true is) (all_before (from + 1) count (omega arith)) ∙ append-nil (of_prb from) ∙ ap of_prb e
    all_step from count false is low high more =
        let apart : from ≡ prb → ⊥ = (λ e. let t : true ≡ false = sym (eq-eqb from prb e) ∙ is in cc) in
        let next : from + 1 ≤ prb = after from prb low apart in
        ap (λ (xs : List LoneBlock). xs ++ filter (is_block k prb) (map (lone u) (each (from + 1) count (unused_prb rs cells side s)))) (at_prb from false is)
        ∙ more next (omega arith)

    pub all_prbs : (from count : ℕ) → from ≤ prb → prb < from + count → filter (is_block k prb) (map (lone u) (each from count (unused_prb rs cells side s))) ≡ of_prb prb
    unfolding each
    all_prbs from zero low high = absurd (let h : prb < prb = omega arith in omega arith)
    all_prbs from (suc count) low high =
        ap (filter (is_block k prb)) (map-append (lone u) (unused_prb rs cells side s from) (each (from + 1) count (unused_prb rs cells side s)))
        ∙ filter-append (is_block k prb) (of_prb from) (map (lone u) (each (from + 1) count (unused_prb rs cells side s)))
        ∙ all_step from count (from == prb) refl low high (all_prbs (from + 1) count)

-- ---- the starts have their endpoints

module _ (es : List EndpointConfig) where
  abbrev HasEndpoint : SymbolStart → Type 0
  HasEndpoint s = slice_get es s.ep ≡ Some s.endpoint

  start_has : (r : DataRecord) (o : Option EndpointConfig) → slice_get es r.ep ≡ o → AllByRecursion HasEndpoint (start_with r o)
  start_has r None is = tt
  start_has r (Some e) is = (is, tt)

  starts_have : (rs : List DataRecord) → AllByRecursion HasEndpoint (flat_map (start_of es) rs)
  starts_have [] = tt
  starts_have (r ∷ rs) = all_both HasEndpoint (start_of es r) (flat_map (start_of es) rs) (start_has r (slice_get es r.ep) refl) (starts_have rs)

  once_have : (ss : List SymbolStart) → AllByRecursion HasEndpoint ss → AllByRecursion HasEndpoint (each_once ss)
  unfolding each_once
  once_have [] h = tt
  once_have (s ∷ ss) h = (h.0, all_filter HasEndpoint (λ t. not (same_start s t)) (each_once ss) (once_have ss h.1))

  symbols_have : (side : Side) (rs : List DataRecord) → AllByRecursion HasEndpoint (symbols_given es side rs)
  unfolding symbols_given in_order_of_time
  symbols_have side rs =
      let starts = flat_map (start_of es) (filter (is_giver side) rs) in
      all_in_order HasEndpoint comes_before (each_once starts) (once_have starts (starts_have (filter (is_giver side) rs)))

-- ---- all blocks

module _ (es : List EndpointConfig) (rs : List DataRecord) (cells : List Seen) (k : SymbolKey) (prb : ℕ) (e : EndpointConfig) (at : slice_get es k.ep ≡ Some e) (inside : prb < e.prbs) where
  -- what is told of the PRB, where this is its symbol and its endpoint
  abbrev said : SymbolKey → EndpointConfig → List LoneBlock
  said q x = lone_by q prb (is_shown_at cells q.side x.id q.slot q.symbol prb) (giver_of rs q prb)

  as_lone : (side : Side) (s : SymbolStart) (shown : Bool) (o : Option DataRecord)
      → map (lone (unused_symbol rs cells side s)) (if shown then [] else unused_with prb o) ≡ lone_by (key_at side s) prb shown o
  as_lone side s true o = refl
  as_lone side s false None = refl
  as_lone side s false (Some r) = refl

  same_endpoint : (x : EndpointConfig) (ep : ℕ) → ep ≡ k.ep → slice_get es ep ≡ Some x → x ≡ e
  same_endpoint x ep is has =
      let h : slice_get es ep ≡ Some e = ap (slice_get es) is ∙ at in cc

  of_symbol_by : (side : Side) (s : SymbolStart) (b : Bool) → same_symbol (key_at side s) k ≡ b → slice_get es s.ep ≡ Some s.endpoint
      → filter (is_block k prb) (lone_blocks (unused_symbol rs cells side s)) ≡ (if b then said k e else [])
  unfolding unused_blocks
  of_symbol_by side s true is has =
      let key = symbol_is (key_at side s) k is in
      let x = same_endpoint s.endpoint s.ep (ap (λ (q : SymbolKey). q.ep) key) has in
      let within : prb < 0 + s.endpoint.prbs = subst (λ (y : EndpointConfig). prb < 0 + y.prbs) (sym x) (let h : prb < 0 + e.prbs = omega arith in h) in
      all_prbs rs cells side k prb s is 0 s.endpoint.prbs (omega arith) within
      ∙ as_lone side s (is_shown_at cells side s.endpoint.id s.slot s.symbol prb) (giver_of rs (key_at side s) prb)
      ∙ ap₂ said key x
  of_symbol_by side s false is has = others rs cells side k prb s is (unused_blocks rs cells side s)

  of_symbols : (side : Side) (ss : List SymbolStart) → AllByRecursion (λ s. slice_get es s.ep ≡ Some s.endpoint) ss
      → filter (is_block k prb) (flat_map lone_blocks (map (unused_symbol rs cells side) ss)) ≡ flat_map (λ s. if same_symbol (key_at side s) k then said k e else []) ss
  of_symbols side [] h = refl
  of_symbols side (s ∷ ss) h =
      filter-append (is_block k prb) (lone_blocks (unused_symbol rs cells side s)) (flat_map lone_blocks (map (unused_symbol rs cells side) ss))
      ∙ ap₂ ◌++◌ (of_symbol_by side s (same_symbol (key_at side s) k) refl h.0) (of_symbols side ss h.1)

  -- the symbols that have blocks of a unit
  abbrev starts : Side → List SymbolStart
  starts side = flat_map (start_of es) (filter (is_giver side) rs)

  of_unit : (side : Side) → filter (is_block k prb) (flat_map lone_blocks (unused_of_unit es rs cells side)) ≡ copies (said k e) (if list_any (is_its side k) (starts side) then 1 else 0)
  unfolding unused_of_unit symbols_given
  of_unit side =
      of_symbols side (in_order_of_time (starts side)) (symbols_have es side rs)
      ∙ flat_copies (is_its side k) (said k e) (in_order_of_time (starts side))
      ∙ ap (copies (said k e)) (once_in_order side k (starts side))

  -- ---- where a section gave the PRB its block, its symbol is there

  giver_parts : (r : DataRecord) → gives_prb k prb r ≡ true → (same_symbol (data_key r) k ≡ true) × (is_on_time r.class ≡ true)
  unfolding covers_prb
  giver_parts r h =
      let p = and_parts (covers_prb k prb r) (is_on_time r.class) h in
      ((and_parts (same_symbol (data_key r) k) _ p.0).0, p.1)

  start_there : (r : DataRecord) (o : Option EndpointConfig) → slice_get es r.ep ≡ o → data_key r ≡ k → list_any (is_its k.side k) (start_with r o) ≡ true
  start_there r None is key = absurd (let h : slice_get es r.ep ≡ Some e = ap (λ (q : SymbolKey). slice_get es q.ep) key ∙ at in cc)
  start_there r (Some x) is key =
      let s : SymbolStart = record { ep = r.ep; endpoint = x; start = record { 0 = air_of x.numerology r.slot r.symbol }; slot = r.slot; symbol = r.symbol } in
      let same : key_at k.side s ≡ k =
      symbol_eta (key_at k.side s)
      ∙ symbols_equal k.side k.side r.ep k.ep r.slot k.slot r.symbol k.symbol refl (ap (λ (q : SymbolKey). q.ep) key) (ap (λ (q : SymbolKey). q.slot) key) (ap (λ (q : SymbolKey). q.symbol) key)
      ∙ sym (symbol_eta k) in
      ap (λ (b : Bool). b || false) (subst (λ (q : SymbolKey). same_symbol q k ≡ true) (sym same) (symbol_self k))

  there_step : (x : DataRecord) (xs : List DataRecord) (b d : Bool) → gives_prb k prb x ≡ b → is_giver k.side x ≡ d
      → ((r : DataRecord) → find (gives_prb k prb) xs ≡ Some r → list_any (is_its k.side k) (flat_map (start_of es) (filter (is_giver k.side) xs)) ≡ true)
      → (r : DataRecord) → (if b then Some x else find (gives_prb k prb) xs) ≡ Some r
      → list_any (is_its k.side k) (flat_map (start_of es) (if d then x ∷ filter (is_giver k.side) xs else filter (is_giver k.side) xs)) ≡ true
  there_step x xs true true gives given more r is =
      let parts = giver_parts x gives in
      any_both (is_its k.side k) (start_of es x) (flat_map (start_of es) (filter (is_giver k.side) xs))
      ∙ ap (λ (t : Bool). t || list_any (is_its k.side k) (flat_map (start_of es) (filter (is_giver k.side) xs)))
      (start_there x (slice_get es x.ep) refl (symbol_is (data_key x) k parts.0))
  there_step x xs true false gives given more r is =
      let parts = giver_parts x gives in
      let there : is_giver k.side x ≡ true = and_from (same_side x.side k.side) (is_on_time x.class) (and_parts (same_side x.side k.side) _ parts.0).0 parts.1 in
      absurd cc
  there_step x xs false true gives given more r is =
      any_both (is_its k.side k) (start_of es x) (flat_map (start_of es) (filter (is_giver k.side) xs))
      ∙ or_second (list_any (is_its k.side k) (start_of es x)) _ (more r is)
  there_step x xs false false gives given more r is = more r is

  there : (xs : List DataRecord) (r : DataRecord) → find (gives_prb k prb) xs ≡ Some r → list_any (is_its k.side k) (flat_map (start_of es) (filter (is_giver k.side) xs)) ≡ true
  there [] r is = absurd cc
  there (x ∷ xs) r is = there_step x xs (gives_prb k prb x) (is_giver k.side x) refl refl (there xs) r is

  -- ---- at the key's own unit it is told so, and at the other not

  abbrev by_giver : Option DataRecord → List LoneBlock
  by_giver o = lone_by k prb (is_shown_at cells k.side e.id k.slot k.symbol prb) o

  none_given : (b : Bool) → lone_by k prb b None ≡ []
  none_given true = refl
  none_given false = refl

  own_by : (o : Option DataRecord) → giver_of rs k prb ≡ o → copies (by_giver o) (if list_any (is_its k.side k) (starts k.side) then 1 else 0) ≡ by_giver o
  unfolding giver_of
  own_by None is =
      ap (λ (xs : List LoneBlock). copies xs (if list_any (is_its k.side k) (starts k.side) then 1 else 0)) (none_given (is_shown_at cells k.side e.id k.slot k.symbol prb))
      ∙ no_copies (if list_any (is_its k.side k) (starts k.side) then 1 else 0)
      ∙ sym (none_given (is_shown_at cells k.side e.id k.slot k.symbol prb))
  own_by (Some r) is =
      ap (λ (b : Bool). copies (by_giver (Some r)) (if b then 1 else 0)) (there rs r is) ∙ append-nil (by_giver (Some r))

  own_unit : filter (is_block k prb) (flat_map lone_blocks (unused_of_unit es rs cells k.side)) ≡ said k e
  own_unit =
      of_unit k.side
      ∙ ap (λ (o : Option DataRecord). copies (by_giver o) (if list_any (is_its k.side k) (starts k.side) then 1 else 0)) refl
      ∙ own_by (giver_of rs k prb) refl

  none_its : (side : Side) → same_side side k.side ≡ false → (ss : List SymbolStart) → list_any (is_its side k) ss ≡ false
  none_its side other [] = refl
  none_its side other (s ∷ ss) = ap₂ ◌||◌ (ap (λ (b : Bool). b && ((s.ep == k.ep) && (same_slot s.slot k.slot && (s.symbol == k.symbol)))) other) (none_its side other ss)

  other_unit : (side : Side) → same_side side k.side ≡ false → filter (is_block k prb) (flat_map lone_blocks (unused_of_unit es rs cells side)) ≡ []
  other_unit side other = of_unit side ∙ ap (λ (b : Bool). copies (said k e) (if b then 1 else 0)) (none_its side other (starts side))

  both_units : (side : Side) → k.side ≡ side
      → filter (is_block k prb) (flat_map lone_blocks (unused_of_unit es rs cells Ru)) ++ filter (is_block k prb) (flat_map lone_blocks (unused_of_unit es rs cells Du)) ≡ said k e
  both_units Ru is =
      ap₂ ◌++◌
      (subst (λ (t : Side). filter (is_block k prb) (flat_map lone_blocks (unused_of_unit es rs cells t)) ≡ said k e) is own_unit)
      (other_unit Du (ap (same_side Du) is))
      ∙ append-nil (said k e)
  both_units Du is =
      ap₂ ◌++◌ (other_unit Ru (ap (same_side Ru) is))
      (subst (λ (t : Side). filter (is_block k prb) (flat_map lone_blocks (unused_of_unit es rs cells t)) ≡ said k e) is own_unit)

  pub of_all : filter (is_block k prb) (flat_map lone_blocks (unused_symbols es rs cells)) ≡ said k e
  unfolding unused_symbols
  of_all =
      ap (filter (is_block k prb)) (flat_map-append lone_blocks (unused_of_unit es rs cells Ru) (unused_of_unit es rs cells Du))
      ∙ filter-append (is_block k prb) (flat_map lone_blocks (unused_of_unit es rs cells Ru)) (flat_map lone_blocks (unused_of_unit es rs cells Du))
      ∙ both_units k.side refl

pub are_told : BlocksAreTold
are_told c events k prb e at inside = of_all c.endpoints (kept c events).given (seen events) k prb e at inside
