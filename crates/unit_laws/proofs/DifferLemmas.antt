-- No cell is told twice where the symbols are gone over in the order of time.
use Rattle.std.proofs.Common.{◌≡◌, ℕ, ℤ, pos, zero, suc, ◌+◌, ◌<◌, ◌≤◌, ◌+ℤ◌, ◌≤ℤ◌, ◌<ℤ◌, Bool, true, false, List, [], ◌∷◌, ◌++◌, length, refl, sym, ap, ap₂, ◌∙◌, subst, arith}
use Rattle.std.specs.Prelude.{All, ◌==◌, if◌then◌else◌, filter, cond, slice_index}
use Rattle.std.specs.Int.{int_gap}
use Rattle.std.specs.Ordering.{int_eq}
use Rattle.std.proofs.lemmas.Bool.{and_parts, and_from, eqb-true, eq-eqb, false_from_ne_true}
use Rattle.std.proofs.lemmas.Int.{ints}
use Rattle.std.proofs.lemmas.List.Elements.{All-nil, All-cons, All-head, All-tail, All-append, All-weaker, All-filter}
use Rattle.fh_base.specs.Air.{air_of}
use Rattle.fh_base.specs.Numbering.{slots_of, symbols_of}
use Rattle.fh_base.specs.declared.values.Slot.{Slot}
use Rattle.unit_model.specs.Terms.{AirCell, is_down}
use Rattle.eaxc_map.specs.Endpoints.{AppearOnce}
use Rattle.window_config.specs.Endpoints.{ids_of}
use Rattle.window_config.specs.declared.endpoints.EndpointConfig.{EndpointConfig}
use Rattle.unit_model.specs.Claims.{same_slot, same_way}
use Rattle.fh_base.specs.Lists.{each, each_tick}
use Rattle.unit_model.specs.Proper.{IsAt}
use Rattle.unit_model.specs.Standing.{same_cell}
use Rattle.unit_model.specs.Sweeps.{OfSymbol, at_tick, first_swept, of_endpoint, of_endpoints, of_frame, of_slot, of_subframe, of_symbol, slot_at, sweep}
use Rattle.unit_laws.specs.Due.{AreDifferent}
use Rattle.unit_laws.proofs.FarLemmas.{endpoints_equal}
use Rattle.unit_model.proofs.SweepLemmas.{IsKept, each_related, of_symbol_related, of_slot_related, of_subframe_related, of_frame_related, of_endpoint_related, of_endpoints_related, at_tick_related, each_tick_related}
use Rattle.unit_model.proofs.ClaimLemmas.{same_way_is as ways_equal, same_slot_is as slots_equal, way_self, slot_self}
use Rattle.fh_base.proofs.Orders.{both_ways, beyond_next, not_later}

-- ---- two reports of one cell

pub record IsSame (a b : AirCell) : Type 0 where
  pub way : is_down a.side ≡ is_down b.side
  pub id : a.id ≡ b.id
  pub slot : a.slot ≡ b.slot
  pub symbol : a.symbol ≡ b.symbol
  pub prb : a.prb ≡ b.prb

pub same_is : (a b : AirCell) → same_cell a b ≡ true → IsSame a b
same_is a b h =
    let way = and_parts (same_way (is_down a.side) (is_down b.side)) _ h in
    let one = and_parts (a.id == b.id) _ way.1 in
    let two = and_parts (same_slot a.slot b.slot) _ one.1 in
    let three = and_parts (a.symbol == b.symbol) (a.prb == b.prb) two.1 in
    record {
      way = ways_equal (is_down a.side) (is_down b.side) way.0;
      id = eqb-true a.id b.id one.0;
      slot = slots_equal a.slot b.slot two.0;
      symbol = eqb-true a.symbol b.symbol three.0;
      prb = eqb-true a.prb b.prb three.1;
    }

pub same_from : (a b : AirCell) → IsSame a b → same_cell a b ≡ true
same_from a b is =
    and_from (same_way (is_down a.side) (is_down b.side)) _ (subst (λ (w : Bool). same_way (is_down a.side) w ≡ true) is.way (way_self (is_down a.side)))
    (and_from (a.id == b.id) _ (eq-eqb a.id b.id is.id)
    (and_from (same_slot a.slot b.slot) _ (subst (λ (s : Slot). same_slot a.slot s ≡ true) is.slot (slot_self a.slot))
    (and_from (a.symbol == b.symbol) (a.prb == b.prb) (eq-eqb a.symbol b.symbol is.symbol) (eq-eqb a.prb b.prb is.prb))))

pub same_self : (a : AirCell) → same_cell a a ≡ true
same_self a = same_from a a (record { way = refl; id = refl; slot = refl; symbol = refl; prb = refl })

abbrev pub IsOther : AirCell → AirCell → Type 0
IsOther a b = same_cell a b ≡ false

other_from : (a b : AirCell) → (IsSame a b → ⊥) → IsOther a b
other_from a b never = false_from_ne_true (same_cell a b) (λ t. never (same_is a b t))

pub other_swap : (a b : AirCell) → IsOther a b → IsOther b a
other_swap a b h = other_from b a (λ is. both_ways (same_cell a b) (same_from a b (record { way = sym is.way; id = sym is.id; slot = sym is.slot; symbol = sym is.symbol; prb = sym is.prb })) h)

-- ---- one list and then another

pub differ-append : (xs ys : List AirCell) → AreDifferent xs → AreDifferent ys → All (λ a. All (IsOther a) ys) xs → AreDifferent (xs ++ ys)
differ-append [] ys h k cross = k
differ-append (x ∷ xs) ys h k cross =
    let P : AirCell → Type 0 = λ a. All (IsOther a) ys in
    (All-append (IsOther x) xs ys h.0 (All-head P x xs cross), differ-append xs ys h.1 k (All-tail P x xs cross))

pub differ-parts : (xs ys : List AirCell) → AreDifferent (xs ++ ys) → All (λ a. All (IsOther a) ys) xs
differ-parts [] ys h = All-nil (λ a. All (IsOther a) ys)
differ-parts (x ∷ xs) ys h = All-cons (λ a. All (IsOther a) ys) x xs (behind xs h.0) (differ-parts xs ys h.1)
  where
    behind : (zs : List AirCell) → All (IsOther x) (zs ++ ys) → All (IsOther x) ys
    behind [] all = all
    behind (z ∷ zs) all = behind zs (All-tail (IsOther x) z (zs ++ ys) all)

pub differ-filter : (p : AirCell → Bool) (xs : List AirCell) → AreDifferent xs → AreDifferent (filter p xs)
differ-filter p [] h = tt
differ-filter p (x ∷ xs) h = go (p x) (differ-filter p xs h.1)
  where
    go : (b : Bool) → AreDifferent (filter p xs) → AreDifferent (cond b (x ∷ filter p xs) (filter p xs))
    go true rest = (All-filter p (IsOther x) xs h.0, rest)
    go false rest = rest

pub all_kept : {A : Type 0} (P : A → Type 0) → IsKept {A = A} {B = A} (λ xs ys. All P xs)
all_kept P = record { none = All-nil P; more = λ xs xs' ys ys' p q. All-append P xs xs' p q }

-- what holds of one of the later numbers
pub record Later (Q : ℕ → AirCell → Type 0) (from : ℕ) (b : AirCell) : Type 0 where
  pub at : ℕ
  pub after : from ≤ at
  pub is : Q at b

pub each_differ : (Q : ℕ → AirCell → Type 0) → ((j k : ℕ) (a b : AirCell) → j < k → Q j a → Q k b → IsSame a b → ⊥) → (from n : ℕ) (f : ℕ → List AirCell)
    → ((k : ℕ) → from ≤ k → k < from + n → All (Q k) (f k)) → ((k : ℕ) → from ≤ k → k < from + n → AreDifferent (f k)) → AreDifferent (each from n f)
unfolding each
each_differ Q apart from zero f own differ = tt
each_differ Q apart from (suc n) f own differ =
    let L = Later Q (from + 1) in
    let rest = each (from + 1) n f in
    let later : All L rest =
    each_related (λ xs ys. All L xs) (all_kept L) (from + 1) n f f (λ k above below.
    All-weaker (Q k) L (λ b q. record { at = k; after = above; is = q }) (f k) (own k (omega arith) (omega arith))) in
    differ-append (f from) rest (differ from (omega arith) (omega arith))
    (each_differ Q apart (from + 1) n f (λ k above below. own k (omega arith) (omega arith)) (λ k above below. differ k (omega arith) (omega arith)))
    (All-weaker (Q from) (λ a. All (IsOther a) rest)
    (λ a q. All-weaker L (IsOther a) (λ b l. other_from a b (apart from l.at a b (after_is from l.at l.after) q l.is)) rest later) (f from) (own from (omega arith) (omega arith)))
  where
    after_is : (i j : ℕ) → i + 1 ≤ j → i < j
    after_is i j h = omega arith

pub record LaterTick (Q : ℤ → AirCell → Type 0) (from : ℤ) (b : AirCell) : Type 0 where
  pub at : ℤ
  pub after : from ≤ℤ at
  pub is : Q at b

ticks_differ : (Q : ℤ → AirCell → Type 0) → ((s t : ℤ) (a b : AirCell) → s <ℤ t → Q s a → Q t b → IsSame a b → ⊥) → (from : ℤ) (n : ℕ) (f : ℤ → List AirCell)
    → ((s : ℤ) → All (Q s) (f s)) → ((s : ℤ) → AreDifferent (f s)) → AreDifferent (each_tick from n f)
unfolding each_tick
ticks_differ Q apart from zero f own differ = tt
ticks_differ Q apart from (suc n) f own differ =
    let L = LaterTick Q (from +ℤ pos 1) in
    let rest = each_tick (from +ℤ pos 1) n f in
    let later : All L rest =
    each_tick_related (λ xs ys. All L xs) (all_kept L) (from +ℤ pos 1) n f f (λ s above below.
    All-weaker (Q s) L (λ b q. record { at = s; after = above; is = q }) (f s) (own s)) in
    differ-append (f from) rest (differ from) (ticks_differ Q apart (from +ℤ pos 1) n f own differ)
    (All-weaker (Q from) (λ a. All (IsOther a) rest)
    (λ a q. All-weaker L (IsOther a) (λ b l. other_from a b (apart from l.at a b (beyond_next from l.at l.after) q l.is)) rest later) (f from) (own from))

-- ---- the cells of one symbol, and of more

pub record IsOwn (e : EndpointConfig) (slot : Slot) (symbol : ℕ) (a : AirCell) : Type 0 where
  pub id : a.id ≡ e.id
  pub slot_is : a.slot ≡ slot
  pub symbol_is : a.symbol ≡ symbol

-- it tells each symbol's own cells, and none of them twice
pub record TellsOwn (g : OfSymbol AirCell) : Type 0 where
  pub own : (ep : ℕ) (e : EndpointConfig) (slot : Slot) (symbol : ℕ) → All (IsOwn e slot symbol) (g ep e slot symbol)
  pub differ : (ep : ℕ) (e : EndpointConfig) (slot : Slot) (symbol : ℕ) → AreDifferent (g ep e slot symbol)

pub not_less : (j k : ℕ) → j < k → j ≡ k → ⊥
not_less j k h e = omega arith

module _ (g : OfSymbol AirCell) (tells : TellsOwn g) (ep : ℕ) (e : EndpointConfig) (s : ℤ) where
  abbrev told : Slot → ℕ → List AirCell
  told = g ep e

  weaker : (P : AirCell → Type 0) (slot : Slot) (symbol : ℕ) → ((a : AirCell) → IsOwn e slot symbol a → P a) → All P (told slot symbol)
  weaker P slot symbol h = All-weaker (IsOwn e slot symbol) P h (told slot symbol) (tells.own ep e slot symbol)

  choice : (b : Bool) (xs : List AirCell) → AreDifferent xs → AreDifferent (if b then xs else [])
  choice true xs h = h
  choice false xs h = tt

  slot_differ : (slot : Slot) → AreDifferent (of_slot told e s slot)
  unfolding of_slot
  slot_differ slot =
      each_differ (λ y a. a.symbol ≡ y) (λ j k a b less p q is. not_less j k less (sym p ∙ is.symbol ∙ q)) 0 (symbols_of e.numerology) (of_symbol told e s slot)
      (λ y above below.
      of_symbol_related (λ xs ys. All (λ (a : AirCell). a.symbol ≡ y) xs) (all_kept (λ (a : AirCell). a.symbol ≡ y)) told told e s slot y (λ starts.
      weaker (λ a. a.symbol ≡ y) slot y (λ a is. is.symbol_is)))
      (λ y above below. choice (int_eq (air_of e.numerology slot y) s) (told slot y) (tells.differ ep e slot y))

  subframe_differ : (frame : ℤ) (subframe : ℕ) → AreDifferent (of_subframe told e s frame subframe)
  unfolding of_subframe
  subframe_differ frame subframe =
      each_differ (λ k a. a.slot ≡ slot_at frame subframe k)
      (λ j k a b less p q is. not_less j k less (ap (λ (x : Slot). x.slot) (sym p ∙ is.slot ∙ q))) 0 (slots_of e.numerology)
      (λ slot. of_slot told e s (slot_at frame subframe slot))
      (λ k above below.
      let P : AirCell → Type 0 = λ a. a.slot ≡ slot_at frame subframe k in
      of_slot_related (λ xs ys. All P xs) (all_kept P) told told e s (slot_at frame subframe k) (λ symbol small starts.
      weaker P (slot_at frame subframe k) symbol (λ a is. is.slot_is)))
      (λ k above below. slot_differ (slot_at frame subframe k))

  frame_differ : (frame : ℤ) → AreDifferent (of_frame told e s frame)
  unfolding of_frame
  frame_differ frame =
      each_differ (λ k a. a.slot.subframe ≡ k) (λ j k a b less p q is. not_less j k less (sym p ∙ ap (λ (x : Slot). x.subframe) is.slot ∙ q)) 0 10
      (of_subframe told e s frame)
      (λ k above below.
      let P : AirCell → Type 0 = λ a. a.slot.subframe ≡ k in
      of_subframe_related (λ xs ys. All P xs) (all_kept P) told told e s frame k (λ slot symbol small few starts.
      weaker P (slot_at frame k slot) symbol (λ a is. ap (λ (x : Slot). x.subframe) is.slot_is)))
      (λ k above below. subframe_differ frame k)

  other_frames : (first : ℤ) (j k : ℕ) → j < k → first +ℤ pos j ≡ first +ℤ pos k → ⊥
  other_frames first j k less same = omega (arith, ints)

  endpoint_differ : AreDifferent (of_endpoint told e s)
  unfolding of_endpoint
  endpoint_differ =
      let first = first_swept s in
      each_differ (λ k a. a.slot.frame ≡ first +ℤ pos k)
      (λ j k a b less p q is. other_frames first j k less (sym p ∙ ap (λ (x : Slot). x.frame) is.slot ∙ q)) 0 6 (λ k. of_frame told e s (first +ℤ pos k))
      (λ k above below.
      let P : AirCell → Type 0 = λ a. a.slot.frame ≡ first +ℤ pos k in
      of_frame_related (λ xs ys. All P xs) (all_kept P) told told e s (first +ℤ pos k) (λ slot symbol frame is_slot small starts.
      weaker P slot symbol (λ a is. ap (λ (x : Slot). x.frame) is.slot_is ∙ frame)))
      (λ k above below. frame_differ (first +ℤ pos k))

  endpoint_own : All (λ (a : AirCell). a.id ≡ e.id) (of_endpoint told e s)
  endpoint_own =
      let P : AirCell → Type 0 = λ a. a.id ≡ e.id in
      of_endpoint_related (λ xs ys. All P xs) (all_kept P) told told e s (λ slot symbol low high is_slot small starts. weaker P slot symbol (λ a is. is.id))

-- ---- the endpoints

pub id_is : (es : List EndpointConfig) (i : ℕ) (e : EndpointConfig) → IsAt es i e → (i < length (ids_of es)) × (slice_index (ids_of es) i ≡ e.id)
id_is [] i e at = absurd cc
id_is (f ∷ es) zero e at =
    let same : f ≡ e = endpoints_equal (f ∷ es) 0 0 f e refl at refl in
    (omega arith, ap (λ (x : EndpointConfig). x.id) same)
id_is (f ∷ es) (suc i) e at = let rest = id_is es i e at in (omega (arith, rest.0), rest.1)

once_rest : (id : ℕ) (ids : List ℕ) → AppearOnce (id ∷ ids) → AppearOnce ids
once_rest id ids once j k below also same =
    let up : suc j ≡ suc k = once (suc j) (suc k) (omega arith) (omega arith) same in
    omega (arith, up)

-- a cell of one of these endpoints
pub record IsOneOf (es : List EndpointConfig) (a : AirCell) : Type 0 where
  pub ep : ℕ
  pub e : EndpointConfig
  pub endpoint : IsAt es ep e
  pub id : a.id ≡ e.id

first_and_later : (e : EndpointConfig) (es : List EndpointConfig) (a b : AirCell) → AppearOnce (ids_of (e ∷ es)) → a.id ≡ e.id → IsOneOf es b → IsSame a b → ⊥
first_and_later e es a b once own one is =
    let place = id_is es one.ep one.e one.endpoint in
    let same : e.id ≡ slice_index (ids_of es) one.ep = sym own ∙ is.id ∙ one.id ∙ sym place.1 in
    let no : 0 ≡ suc one.ep = once 0 (suc one.ep) (omega arith) (omega (arith, place.0)) same in
    omega (arith, no)

endpoints_differ : (g : OfSymbol AirCell) → TellsOwn g → (start : ℕ) (es : List EndpointConfig) (s : ℤ) → AppearOnce (ids_of es) → AreDifferent (of_endpoints g start es s)
unfolding of_endpoints
endpoints_differ g tells start [] s once = tt
endpoints_differ g tells start (e ∷ es) s once =
    let rest = of_endpoints g (start + 1) es s in
    let here = of_endpoint (g start e) e s in
    let later : All (IsOneOf es) rest =
    of_endpoints_related (λ xs ys. All (IsOneOf es) xs) (all_kept (IsOneOf es)) g g (start + 1) es s (λ ep i f place at slot symbol low high is_slot small starts.
    All-weaker (IsOwn f slot symbol) (IsOneOf es) (λ a is. record { ep = i; e = f; endpoint = at; id = is.id }) (g ep f slot symbol) (tells.own ep f slot symbol)) in
    differ-append here rest (endpoint_differ g tells start e s) (endpoints_differ g tells (start + 1) es s (once_rest e.id (ids_of es) once))
    (All-weaker (λ (a : AirCell). a.id ≡ e.id) (λ a. All (IsOther a) rest)
    (λ a own. All-weaker (IsOneOf es) (IsOther a) (λ b one. other_from a b (first_and_later e es a b once own one)) rest later) here (endpoint_own g tells start e s))

-- ---- the ticks

pub record IsAtTick (es : List EndpointConfig) (s : ℤ) (a : AirCell) : Type 0 where
  pub ep : ℕ
  pub e : EndpointConfig
  pub endpoint : IsAt es ep e
  pub id : a.id ≡ e.id
  pub starts : air_of e.numerology a.slot a.symbol ≡ s

tick_own : (g : OfSymbol AirCell) → TellsOwn g → (es : List EndpointConfig) (s : ℤ) → All (IsAtTick es s) (at_tick g es s)
tick_own g tells es s =
    at_tick_related (λ xs ys. All (IsAtTick es s) xs) (all_kept (IsAtTick es s)) g g es s (λ ep e slot symbol swept.
    All-weaker (IsOwn e slot symbol) (IsAtTick es s)
    (λ a is. record {
      ep = ep;
      e = e;
      endpoint = swept.endpoint;
      id = is.id;
      starts = ap₂ (λ (x : Slot) (y : ℕ). air_of e.numerology x y) is.slot_is is.symbol_is ∙ swept.starts;
    }) (g ep e slot symbol) (tells.own ep e slot symbol))

ticks_apart : (es : List EndpointConfig) → AppearOnce (ids_of es) → (s t : ℤ) (a b : AirCell) → s <ℤ t → IsAtTick es s a → IsAtTick es t b → IsSame a b → ⊥
ticks_apart es once s t a b less p q is =
    let i = id_is es p.ep p.e p.endpoint in
    let j = id_is es q.ep q.e q.endpoint in
    let eps : p.ep ≡ q.ep = once p.ep q.ep i.0 j.0 (i.1 ∙ sym p.id ∙ is.id ∙ q.id ∙ sym j.1) in
    let same : p.e ≡ q.e = endpoints_equal es p.ep q.ep p.e q.e p.endpoint q.endpoint eps in
    let times : air_of p.e.numerology a.slot a.symbol ≡ air_of q.e.numerology b.slot b.symbol =
    ap (λ (x : EndpointConfig). air_of x.numerology a.slot a.symbol) same ∙ ap₂ (λ (x : Slot) (y : ℕ). air_of q.e.numerology x y) is.slot is.symbol in
    not_later s t less (sym p.starts ∙ times ∙ q.starts)

pub sweep_differ : (g : OfSymbol AirCell) → TellsOwn g → (es : List EndpointConfig) (from end : ℤ) → AppearOnce (ids_of es) → AreDifferent (sweep g es from end)
unfolding sweep
sweep_differ g tells es from end once =
    ticks_differ (IsAtTick es) (ticks_apart es once) from (int_gap from end) (at_tick g es) (tick_own g tells es) (λ s. endpoints_differ g tells 0 es s once)
