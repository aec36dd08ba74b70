-- The symbols of records that are sorted by their symbols, each once.
use Rattle.std.proofs.Common.{◌≡◌, ℕ, zero, suc, ◌+◌, ◌-◌, ◌<◌, ◌≤◌, inl, inr, Bool, true, false, not, ◌&&◌, ◌==◌, List, [], ◌∷◌, ◌++◌, length, filter, get_or, drop, Option, Some, None, refl, sym, ap, ap₂, subst, ◌∙◌, arith, append_assoc, append-nil, length-append, true≢false, Bor}
use Rattle.std.specs.Prelude.{if◌then◌else◌, slice_get}
use Rattle.std.specs.List.{AllByRecursion, flat_map}
use Rattle.std.specs.List.Sorted.{ties}
use Rattle.std.specs.Ordering.{is_lt}
use Rattle.std.specs.Slice.{IsGetResult}
use Rattle.std.proofs.Math.Seq.{get_or-append_seam}
use Rattle.std.proofs.lemmas.Bool.{and_from, and_parts, cases_Bool, eq-eqb, eqb-true, ltb-false, ltb-true}
use Rattle.std.proofs.lemmas.List.{drop_more}
use Rattle.std.proofs.lemmas.List.Elements.{filter-append}
use Rattle.std.proofs.lemmas.Option.{slice_get_past, slice_get_read}
use Rattle.fh_base.specs.declared.values.Slot.{Slot}
use Rattle.air_source.specs.Units.{same_side}
use Rattle.air_source.specs.declared.events.Side.{Side}
use Rattle.window_config.specs.declared.endpoints.EndpointConfig.{EndpointConfig}
use Rattle.unit_model.specs.Claims.{same_slot}
use Rattle.fh_base.specs.Lists.{in_order}
use Rattle.unit_model.specs.Order.{comes_before}
use Rattle.unit_model.specs.declared.symbol_start.SymbolStart.{SymbolStart}
use Rattle.unit_model.proofs.ClaimLemmas.{same_slot_is, slot_self}
use Rattle.fh_base.specs.Ordered.{AreOrderedBy}
use Rattle.fh_base.proofs.OrderedLemmas.{ordered_from}
use Rattle.explain_model.specs.Keys.{data_key, same_symbol}
use Rattle.explain_model.specs.declared.data.DataRecord.{DataRecord}
use Rattle.explain_model.specs.declared.keys.SymbolKey.{SymbolKey}
use Rattle.explain_records.specs.Order.{AreInOrder, comes_first, order_cmp, order_of}
use Rattle.explain_records.proofs.RecordLemmas.{order_ranks, tied}
use Rattle.explain_model.specs.Unused.{each_once, in_order_of_time, is_giver, key_at, same_start, start_of, start_with, symbols_given}
use Rattle.explain_model.proofs.AloneLemmas.{filter_alone}
use Rattle.why_lines.specs.Starts.{fresh, fresh_starts, last_start, same_as, start_in, with_starts}
use Rattle.why_lines.proofs.OrderLemmas.{same_in_order, tie_same}
use Rattle.fh_base.proofs.MemberLemmas.{all_join, all_map, filter_all, filter_has, filter_same, kept_first}
use Rattle.air_source.proofs.Sides.{side_same}
use Rattle.explain_model.proofs.KeyLemmas.{same_start_key}

-- ---- lists

pub lost_first : {X : Type 0} (t : X → Bool) (x : X) (xs : List X) → t x ≡ false → filter t (x ∷ xs) ≡ filter t xs
lost_first {X = X} t x xs e = ap (λ (b : Bool). let us : List X = if b then x ∷ filter t xs else filter t xs in us) e

clash_step : {X : Type 0} (q o : X → Bool) (x : X) (xs : List X) (b d : Bool) → q x ≡ b → o x ≡ d → (b ≡ true → d ≡ false) → filter q (filter o xs) ≡ []
    → filter q (if d then x ∷ filter o xs else filter o xs) ≡ []
clash_step q o x xs true true e f h none = absurd (true≢false (h refl))
clash_step q o x xs true false e f h none = none
clash_step q o x xs false true e f h none = lost_first q x (filter o xs) e ∙ none
clash_step q o x xs false false e f h none = none

-- none passes both tests
filter_clash : {X : Type 0} (q o : X → Bool) → ((x : X) → q x ≡ true → o x ≡ false) → (xs : List X) → filter q (filter o xs) ≡ []
filter_clash q o h [] = refl
filter_clash q o h (x ∷ xs) = clash_step q o x xs (q x) (o x) refl refl (h x) (filter_clash q o h xs)

-- the first alone
abbrev first_only : {X : Type 0} → List X → List X
first_only [] = []
first_only (x ∷ xs) = x ∷ []

-- ---- the same symbol

same_parts : (s t : SymbolStart) → same_start s t ≡ true → (s.ep ≡ t.ep) × ((s.slot ≡ t.slot) × (s.symbol ≡ t.symbol))
same_parts s t h =
    let p = and_parts (s.ep == t.ep) _ h in
    let q = and_parts (same_slot s.slot t.slot) (s.symbol == t.symbol) p.1 in
    (eqb-true s.ep t.ep p.0, (same_slot_is s.slot t.slot q.0, eqb-true s.symbol t.symbol q.1))

same_by : (s t : SymbolStart) → s.ep ≡ t.ep → s.slot ≡ t.slot → s.symbol ≡ t.symbol → same_start s t ≡ true
same_by s t e f g =
    and_from (s.ep == t.ep) _ (eq-eqb s.ep t.ep e)
    (and_from (same_slot s.slot t.slot) (s.symbol == t.symbol) (subst (λ (x : Slot). same_slot s.slot x ≡ true) f (slot_self s.slot)) (eq-eqb s.symbol t.symbol g))

same_turned : (s t : SymbolStart) → same_start s t ≡ true → same_start t s ≡ true
same_turned s t h = let p = same_parts s t h in same_by t s (sym p.0) (sym p.1.0) (sym p.1.1)

test : ℕ → Slot → ℕ → SymbolStart → Bool
test ep slot symbol u = (ep == u.ep) && (same_slot slot u.slot && (symbol == u.symbol))

same_left : (s t u : SymbolStart) → same_start s t ≡ true → same_start s u ≡ same_start t u
unfolding test
same_left s t u h =
    let p = same_parts s t h in
    ap (λ (n : ℕ). test n s.slot s.symbol u) p.0 ∙ ap (λ (x : Slot). test t.ep x s.symbol u) p.1.0 ∙ ap (λ (y : ℕ). test t.ep t.slot y u) p.1.1

told : SymbolStart → ℕ → Slot → ℕ → Bool
told u ep slot symbol = (u.ep == ep) && (same_slot u.slot slot && (u.symbol == symbol))

same_right : (s t u : SymbolStart) → same_start s t ≡ true → same_start u s ≡ same_start u t
unfolding told
same_right s t u h =
    let p = same_parts s t h in
    ap (λ (n : ℕ). told u n s.slot s.symbol) p.0 ∙ ap (λ (x : Slot). told u t.ep x s.symbol) p.1.0 ∙ ap (λ (y : ℕ). told u t.ep t.slot y) p.1.1

-- ---- each once

abbrev others : SymbolStart → SymbolStart → Bool
others s t = not (same_start s t)

abbrev is_same : SymbolStart → SymbolStart → Bool
is_same x t = same_start t x

once_of : (x : SymbolStart) (ss : List SymbolStart) → filter (is_same x) (each_once ss) ≡ first_only (filter (is_same x) ss)
unfolding each_once
once_of x [] = refl
once_of x (s ∷ ss) = elim (cases_Bool (same_start s x)) [
  | inl t ↦
      kept_first (is_same x) s (filter (others s) (each_once ss)) t
      ∙ ap (λ (l : List SymbolStart). s ∷ l) (filter_clash (is_same x) (others s) (λ u h. ap not (same_right u x s h ∙ t)) (each_once ss))
      ∙ sym (ap first_only (kept_first (is_same x) s ss t))
  | inr f ↦
      lost_first (is_same x) s (filter (others s) (each_once ss)) f
      ∙ filter_alone (is_same x) (others s) (λ u h. ap not (same_right u x s h ∙ f)) (each_once ss)
      ∙ once_of x ss
      ∙ sym (ap first_only (lost_first (is_same x) s ss f))
]

same_once : (xs ys : List SymbolStart) → ((x : SymbolStart) → filter (is_same x) xs ≡ filter (is_same x) ys)
    → in_order comes_before (each_once xs) ≡ in_order comes_before (each_once ys)
same_once xs ys same =
    same_in_order (each_once xs) (each_once ys)
    (λ x. sym (filter_alone (ties comes_before x) (is_same x) (tie_same x) (each_once xs))
    ∙ ap (filter (ties comes_before x)) (once_of x xs ∙ ap first_only (same x) ∙ sym (once_of x ys))
    ∙ filter_alone (ties comes_before x) (is_same x) (tie_same x) (each_once ys))

once_all : (P : SymbolStart → Type 0) (ss : List SymbolStart) → AllByRecursion P ss → AllByRecursion P (each_once ss)
unfolding each_once
once_all P [] h = tt
once_all P (s ∷ ss) h = (h.0, filter_has P P (others s) (λ x p e. p) (each_once ss) (once_all P ss h.1))

-- ---- symbols in the order of their keys, each once

module _ (side : Side) where
  abbrev first_key : SymbolStart → SymbolStart → Bool
  first_key = comes_first (key_at side)

  off : (p s u : SymbolStart) → same_start p s ≡ false → first_key s p ≡ false → first_key u s ≡ false → same_start p u ≡ false
  off p s u other after later = elim (cases_Bool (same_start p u)) [
    | inl t ↦
        let before : first_key p s ≡ false = ap (λ (k : SymbolKey). is_lt (order_cmp (order_of k) (order_of (key_at side s)))) (same_start_key side p u t) ∙ later in
        let tie : ties first_key p s ≡ true = and_from (not (first_key p s)) (not (first_key s p)) (ap not before) (ap not after) in
        let same : same_symbol (key_at side s) (key_at side p) ≡ true = sym (tied (key_at side) p s) ∙ tie in
        absurd (true≢false (sym (same_turned s p (and_parts (same_side side side) (same_start s p) same).1) ∙ other))
    | inr f ↦ f
  ]

  once_fresh : (p : SymbolStart) (ss : List SymbolStart) → AreOrderedBy first_key (p ∷ ss) → filter (others p) (each_once ss) ≡ fresh (Some p) ss
  unfolding each_once
  once_fresh p [] h = refl
  once_fresh p (s ∷ ss) h = elim (cases_Bool (same_start p s)) [
    | inl t ↦
        lost_first (others p) s (filter (others s) (each_once ss)) (ap not t)
        ∙ ap (filter (others p)) (filter_same (others s) (others p) (λ u. ap not (sym (same_left p s u t))) (each_once ss))
        ∙ filter_alone (others p) (others p) (λ u e. e) (each_once ss)
        ∙ once_fresh p ss (h.0.1, h.1.1)
        ∙ sym (ap (λ (b : Bool). let l : List SymbolStart = if b then fresh (Some p) ss else s ∷ fresh (Some s) ss in l) t)
    | inr f ↦
        kept_first (others p) s (filter (others s) (each_once ss)) (ap not f)
        ∙ ap (λ (l : List SymbolStart). s ∷ l) (filter_all (others p) (filter (others s) (each_once ss))
        (filter_has (λ u. same_start p u ≡ false) (λ u. others p u ≡ true) (others s) (λ u e k. ap not e) (each_once ss)
        (once_all (λ u. same_start p u ≡ false) ss (all_map (λ u. first_key u s ≡ false) (λ u. same_start p u ≡ false) (λ u later. off p s u f h.0.0 later) ss h.1.0)))
        ∙ once_fresh s ss h.1)
        ∙ sym (ap (λ (b : Bool). let l : List SymbolStart = if b then fresh (Some p) ss else s ∷ fresh (Some s) ss in l) f)
  ]

  fresh_once : (ss : List SymbolStart) → AreOrderedBy first_key ss → fresh None ss ≡ each_once ss
  unfolding each_once
  fresh_once [] h = refl
  fresh_once (s ∷ ss) h = ap (λ (l : List SymbolStart). s ∷ l) (sym (once_fresh s ss h))

-- ---- the symbols of records

module _ (es : List EndpointConfig) (side : Side) where
  starts_are : (rs : List DataRecord) → flat_map (start_of es) (filter (is_giver side) rs) ≡ flat_map (start_in es side) rs
  starts_are [] = refl
  starts_are (r ∷ rs) = elim (cases_Bool (is_giver side r)) [
    | inl t ↦
        ap (flat_map (start_of es)) (kept_first (is_giver side) r rs t)
        ∙ ap (λ (l : List SymbolStart). start_of es r ++ l) (starts_are rs)
        ∙ sym (ap (λ (b : Bool). let l : List SymbolStart = if b then start_of es r else [] in l ++ flat_map (start_in es side) rs) t)
    | inr f ↦
        ap (flat_map (start_of es)) (lost_first (is_giver side) r rs f)
        ∙ starts_are rs
        ∙ sym (ap (λ (b : Bool). let l : List SymbolStart = if b then start_of es r else [] in l ++ flat_map (start_in es side) rs) f)
  ]

  and_rest : (a b : Bool) → a ≡ true → (a && b) ≡ false → b ≡ false
  and_rest true b h k = k
  and_rest false b h k = absurd (true≢false (sym h))

  -- of one symbol
  one_by : (x : SymbolStart) (r : DataRecord) (b : Bool) (o : Option EndpointConfig) (m : Bool) → is_giver side r ≡ b → same_symbol (data_key r) (key_at side x) ≡ m
      → filter (is_same x) (let l : List SymbolStart = if b then start_with r o else [] in l)
      ≡ (let k : List SymbolStart = if m then (let l : List SymbolStart = if b then start_with r o else [] in l) else [] in k)
  one_by x r false o true g h = refl
  one_by x r false o false g h = refl
  one_by x r true None true g h = refl
  one_by x r true None false g h = refl
  one_by x r true (Some e) true g h = kept_first (is_same x) _ [] (and_parts (same_side r.side side) _ h).1
  one_by x r true (Some e) false g h = lost_first (is_same x) _ [] (and_rest (same_side r.side side) _ (and_parts (same_side r.side side) _ g).0 h)

  abbrev of_key : SymbolStart → DataRecord → Bool
  of_key x r = same_symbol (data_key r) (key_at side x)

  starts_at : (x : SymbolStart) (rs : List DataRecord) → filter (is_same x) (flat_map (start_in es side) rs) ≡ flat_map (start_in es side) (filter (of_key x) rs)
  starts_at x [] = refl
  starts_at x (r ∷ rs) = elim (cases_Bool (of_key x r)) [
    | inl t ↦
        filter-append (is_same x) (start_in es side r) (flat_map (start_in es side) rs)
        ∙ ap₂ (λ (k l : List SymbolStart). k ++ l) (one_by x r (is_giver side r) (slice_get es r.ep) true refl t) (starts_at x rs)
        ∙ sym (ap (flat_map (start_in es side)) (kept_first (of_key x) r rs t))
    | inr f ↦
        filter-append (is_same x) (start_in es side r) (flat_map (start_in es side) rs)
        ∙ ap₂ (λ (k l : List SymbolStart). k ++ l) (one_by x r (is_giver side r) (slice_get es r.ep) false refl f) (starts_at x rs)
        ∙ sym (ap (flat_map (start_in es side)) (lost_first (of_key x) r rs f))
  ]

  -- ---- they are in the order of their keys

  abbrev not_before : SymbolKey → SymbolKey → Type 0
  not_before k l = is_lt (order_cmp (order_of l) (order_of k)) ≡ false

  keyed_by : (r : DataRecord) (b : Bool) (o : Option EndpointConfig) → is_giver side r ≡ b
      → AllByRecursion (λ u. key_at side u ≡ data_key r) (let l : List SymbolStart = if b then start_with r o else [] in l)
  keyed_by r false o g = tt
  keyed_by r true None g = tt
  keyed_by r true (Some e) g = (
    ap (λ (a : Side). let k : SymbolKey = record { side = a; ep = r.ep; slot = r.slot; symbol = r.symbol } in k) (sym (side_same r.side side (and_parts (same_side r.side side) _ g).0)),
    tt,
  )

  all_starts : (k : SymbolKey) (rs : List DataRecord) → AllByRecursion (λ q. not_before k (data_key q)) rs
      → AllByRecursion (λ u. not_before k (key_at side u)) (flat_map (start_in es side) rs)
  all_starts k [] h = tt
  all_starts k (r ∷ rs) h =
      all_join (λ u. not_before k (key_at side u)) (start_in es side r) (flat_map (start_in es side) rs)
      (all_map (λ u. key_at side u ≡ data_key r) (λ u. not_before k (key_at side u)) (λ u e. ap (λ (l : SymbolKey). is_lt (order_cmp (order_of l) (order_of k))) e ∙ h.0)
      (start_in es side r) (keyed_by r (is_giver side r) (slice_get es r.ep) refl))
      (all_starts k rs h.1)

  ordered_by : (r : DataRecord) (b : Bool) (o : Option EndpointConfig) (ss : List SymbolStart) → is_giver side r ≡ b
      → AllByRecursion (λ u. not_before (data_key r) (key_at side u)) ss → AreOrderedBy (first_key side) ss
      → AreOrderedBy (first_key side) (let l : List SymbolStart = if b then start_with r o else [] in l ++ ss)
  ordered_by r false o ss g all h = h
  ordered_by r true None ss g all h = h
  ordered_by r true (Some e) ss g all h =
      (subst (λ (k : SymbolKey). AllByRecursion (λ u. not_before k (key_at side u)) ss) (sym (keyed_by r true (Some e) g).0) all, h)

  starts_ordered : (rs : List DataRecord) → AreOrderedBy (comes_first data_key) rs → AreOrderedBy (first_key side) (flat_map (start_in es side) rs)
  starts_ordered [] h = tt
  starts_ordered (r ∷ rs) h =
      ordered_by r (is_giver side r) (slice_get es r.ep) (flat_map (start_in es side) rs) refl (all_starts (data_key r) rs h.0) (starts_ordered rs h.1)

  -- ---- what others cite

  pub given_once : (rs : List DataRecord) → AreInOrder data_key rs → in_order comes_before (fresh_starts es side rs) ≡ symbols_given es side rs
  unfolding symbols_given in_order_of_time
  given_once rs sorted =
      ap (in_order comes_before) (fresh_once side (flat_map (start_in es side) rs) (starts_ordered rs (ordered_from (comes_first data_key) (order_ranks data_key) rs sorted))
      ∙ ap each_once (sym (starts_are rs)))

  pub same_symbols : (xs ys : List DataRecord) → ((key : SymbolKey) → filter (λ r. same_symbol (data_key r) key) xs ≡ filter (λ r. same_symbol (data_key r) key) ys)
      → symbols_given es side xs ≡ symbols_given es side ys
  unfolding symbols_given in_order_of_time
  same_symbols xs ys same =
      same_once (flat_map (start_of es) (filter (is_giver side) xs)) (flat_map (start_of es) (filter (is_giver side) ys))
      (λ x. ap (filter (is_same x)) (starts_are xs) ∙ starts_at x xs ∙ ap (flat_map (start_in es side)) (same (key_at side x))
      ∙ sym (starts_at x ys) ∙ sym (ap (filter (is_same x)) (starts_are ys)))

-- ---- an element, if there is one

pub get_some : {X : Type 0} (xs : List X) (i : ℕ) (b : Bor X) → IsGetResult xs i i (Some b) → slice_get xs i ≡ Some b.now
get_some xs i b h = slice_get_read xs (length xs) i b.now refl (ltb-true i (length xs) (sym h.0)) h.1

pub get_none : {X : Type 0} (xs : List X) (i : ℕ) → IsGetResult {X = X} xs i i None → slice_get xs i ≡ None
get_none xs i h = slice_get_past xs i (ltb-false i (length xs) (sym h.0))

-- ---- one by one

last_more : (ss : List SymbolStart) (t : SymbolStart) → last_start (ss ++ t ∷ []) ≡ Some t
last_more ss t =
    let long : length (ss ++ t ∷ []) ≡ length ss + 1 = length-append ss (t ∷ []) in
    let at : length (ss ++ t ∷ []) - 1 ≡ length ss = omega (arith, long) in
    ap (slice_get (ss ++ t ∷ [])) at
    ∙ slice_get_read (ss ++ t ∷ []) (length (ss ++ t ∷ [])) (length ss) t refl (omega (arith, long)) (sym (get_or-append_seam ss t [] t))

with_one : (found : List SymbolStart) (t : SymbolStart) (ys : List SymbolStart) (b : Bool)
    → (let w : List SymbolStart = if b then found else found ++ t ∷ [] in w ++ fresh (last_start w) ys)
    ≡ found ++ (let l : List SymbolStart = if b then fresh (last_start found) ys else t ∷ fresh (Some t) ys in l)
with_one found t ys true = refl
with_one found t ys false =
    ap (λ (o : Option SymbolStart). (found ++ t ∷ []) ++ fresh o ys) (last_more found t) ∙ append_assoc found (t ∷ []) (fresh (Some t) ys)

with_more : (found xs ys : List SymbolStart) → with_starts found xs ++ fresh (last_start (with_starts found xs)) ys ≡ found ++ fresh (last_start found) (xs ++ ys)
with_more found [] ys = refl
with_more found (t ∷ ts) ys =
    with_more (if same_as (last_start found) t then found else found ++ t ∷ []) ts ys
    ∙ with_one found t (ts ++ ys) (same_as (last_start found) t)

-- what was found so far, and what the rest adds
abbrev pub Finds : List EndpointConfig → Side → List DataRecord → ℕ → List SymbolStart → Type 0
Finds es side given i found = found ++ fresh (last_start found) (flat_map (start_in es side) (drop i given)) ≡ fresh_starts es side given

pub none_found : (es : List EndpointConfig) (side : Side) (given : List DataRecord) (found : List SymbolStart) → found ≡ [] → Finds es side given 0 found
none_found es side given found none = ap (λ (ss : List SymbolStart). ss ++ fresh (last_start ss) (flat_map (start_in es side) given)) none

-- what holds of all holds of each
pub holds_at : {X : Type 0} (P : X → Type 0) (xs : List X) (i : ℕ) (d : X) → i < length xs → AllByRecursion P xs → P (get_or xs i d)
holds_at P [] i d lt h = absurd (omega (arith, lt))
holds_at P (x ∷ xs) zero d lt h = h.0
holds_at P (x ∷ xs) (suc i) d lt h = holds_at P xs i d (omega (arith, lt)) h.1

pub one_more : (es : List EndpointConfig) (side : Side) (given : List DataRecord) (i : ℕ) (d : DataRecord) (found new : List SymbolStart) → i < length given
    → new ≡ with_starts found (start_in es side (get_or given i d)) → Finds es side given i found → Finds es side given (i + 1) new
one_more es side given i d found new lt is h =
    ap (λ (ss : List SymbolStart). ss ++ fresh (last_start ss) (flat_map (start_in es side) (drop (i + 1) given))) is
    ∙ with_more found (start_in es side (get_or given i d)) (flat_map (start_in es side) (drop (i + 1) given))
    ∙ sym (ap (λ (rs : List DataRecord). found ++ fresh (last_start found) (flat_map (start_in es side) rs)) (drop_more given i d lt)) ∙ h

drop_all : {X : Type 0} (xs : List X) (i : ℕ) → length xs ≤ i → drop i xs ≡ []
drop_all [] zero le = refl
drop_all [] (suc i) le = refl
drop_all (x ∷ xs) zero le = absurd (omega (arith, le))
drop_all (x ∷ xs) (suc i) le = drop_all xs i (omega (arith, le))

pub all_found : (es : List EndpointConfig) (side : Side) (given : List DataRecord) (i : ℕ) (found : List SymbolStart) → length given ≤ i → Finds es side given i found
    → found ≡ fresh_starts es side given
all_found es side given i found le h =
    sym (ap (λ (rs : List DataRecord). found ++ fresh (last_start found) (flat_map (start_in es side) rs)) (drop_all given i le) ∙ append-nil found) ∙ h
