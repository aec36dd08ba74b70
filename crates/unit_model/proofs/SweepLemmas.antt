-- Going over the symbols in the order of time.
use Rattle.std.proofs.Common.{◌≡◌, ℕ, ℤ, pos, negsuc, zero, suc, ◌+◌, ◌<◌, ◌≤◌, ◌+ℤ◌, ◌≤ℤ◌, ◌<ℤ◌, Bool, true, false, List, [], ◌∷◌, ◌++◌, refl, sym, ap, ap₂, ◌∙◌, subst, arith}
use Rattle.std.specs.Prelude.{if◌then◌else◌}
use Rattle.std.specs.Int.{int_gap}
use Rattle.std.specs.Ordering.{int_eq}
use Rattle.std.proofs.lemmas.Bool.Decides.{Decides-int_eq}
use Rattle.std.proofs.lemmas.Int.{ints}
use Rattle.fh_base.specs.Air.{air_of}
use Rattle.fh_base.specs.Numbering.{IsSlotOf, slots_of, symbols_of}
use Rattle.fh_base.specs.declared.values.Slot.{Slot}
use Rattle.window_config.specs.declared.endpoints.EndpointConfig.{EndpointConfig}
use Rattle.fh_base.specs.Lists.{each, each_tick}
use Rattle.unit_model.specs.Proper.{IsAt}
use Rattle.unit_model.specs.Sweeps.{OfSymbol, at_tick, first_swept, of_endpoint, of_endpoints, of_frame, of_slot, of_subframe, of_symbol, slot_at, sweep}
use Rattle.unit_model.specs.Swept.{IsSwept}
use Rattle.fh_base.proofs.Orders.{at_most as no_order, same_gap, above_next, frame_low_is}
use Rattle.std.specs.Int.Signed.{≤ℤ_refl}
use Rattle.fh_base.proofs.EachLemmas.{ticks_split as each_tick-add, gap_is as gap_reaches, gap_none}

-- ---- how many ticks there are

gap_below : (from end s : ℤ) → from ≤ℤ s → s <ℤ (from +ℤ pos (int_gap from end)) → s <ℤ end
gap_below (pos a) (pos b) s above below = omega (arith, ints)
gap_below (pos a) (negsuc b) s above below = omega (arith, ints)
gap_below (negsuc a) (pos b) s above below = omega (arith, ints)
gap_below (negsuc a) (negsuc b) s above below = omega (arith, ints)

-- ---- one after the other

pub sweep-append : {A : Type 0} (g : OfSymbol A) (es : List EndpointConfig) (from mid end : ℤ) → from ≤ℤ mid → mid ≤ℤ end
    → sweep g es from end ≡ sweep g es from mid ++ sweep g es mid end
unfolding sweep
sweep-append g es from mid end low high =
    let n = int_gap from mid in
    let m = int_gap mid end in
    let reach : from +ℤ pos n ≡ mid = gap_reaches from mid low in
    let size : int_gap from end ≡ n + m =
    same_gap from mid end n m (int_gap from end) reach (gap_reaches mid end high) (gap_reaches from end (no_order from mid end low high)) in
    ap (λ (k : ℕ). each_tick from k (at_tick g es)) size ∙ each_tick-add from n m (at_tick g es)
    ∙ ap (λ (s : ℤ). each_tick from n (at_tick g es) ++ each_tick s m (at_tick g es)) reach

pub sweep-none : {A : Type 0} (g : OfSymbol A) (es : List EndpointConfig) (from end : ℤ) → end ≤ℤ from → sweep g es from end ≡ []
unfolding sweep each_tick
sweep-none g es from end order = ap (λ (k : ℕ). each_tick from k (at_tick g es)) (gap_none from end order)

below_next : (from s : ℤ) (n : ℕ) → s <ℤ ((from +ℤ pos 1) +ℤ pos n) → s <ℤ (from +ℤ pos (suc n))
below_next from s n h = omega (arith, ints)

pub here_below : (from : ℤ) (n : ℕ) → from <ℤ (from +ℤ pos (suc n))
here_below from n = omega (arith, ints)

frame_high_is : (first : ℤ) (k : ℕ) → k < 0 + 6 → (first +ℤ pos k) <ℤ (first +ℤ pos 6)
frame_high_is first k h = omega (arith, ints)

-- ---- what holds of two lists and their ends holds of them together

pub record IsKept {A B : Type 0} (R : List A → List B → Type 0) : Type 0 where
  pub none : R [] []
  pub more : (xs xs' : List A) (ys ys' : List B) → R xs ys → R xs' ys' → R (xs ++ xs') (ys ++ ys')

module _ {A B : Type 0} (R : List A → List B → Type 0) (kept : IsKept R) where
  pub each_related : (from n : ℕ) (f : ℕ → List A) (g : ℕ → List B) → ((k : ℕ) → from ≤ k → k < from + n → R (f k) (g k)) → R (each from n f) (each from n g)
  unfolding each
  each_related from zero f g h = kept.none
  each_related from (suc n) f g h =
      kept.more (f from) (each (from + 1) n f) (g from) (each (from + 1) n g) (h from (omega arith) (omega arith))
      (each_related (from + 1) n f g (λ k above below. h k (omega arith) (omega arith)))

  pub each_tick_related : (from : ℤ) (n : ℕ) (f : ℤ → List A) (g : ℤ → List B) → ((s : ℤ) → from ≤ℤ s → s <ℤ (from +ℤ pos n) → R (f s) (g s))
      → R (each_tick from n f) (each_tick from n g)
  unfolding each_tick
  each_tick_related from zero f g h = kept.none
  each_tick_related from (suc n) f g h =
      kept.more (f from) (each_tick (from +ℤ pos 1) n f) (g from) (each_tick (from +ℤ pos 1) n g) (h from (≤ℤ_refl from) (here_below from n))
      (each_tick_related (from +ℤ pos 1) n f g (λ s above below. h s (above_next from s above) (below_next from s n below)))

  chosen : (b : Bool) (xs : List A) (ys : List B) → (b ≡ true → R xs ys) → R (if b then xs else []) (if b then ys else [])
  chosen true xs ys h = h refl
  chosen false xs ys h = kept.none

  pub of_symbol_related : (g : Slot → ℕ → List A) (h : Slot → ℕ → List B) (e : EndpointConfig) (s : ℤ) (slot : Slot) (symbol : ℕ)
      → (air_of e.numerology slot symbol ≡ s → R (g slot symbol) (h slot symbol)) → R (of_symbol g e s slot symbol) (of_symbol h e s slot symbol)
  of_symbol_related g h e s slot symbol r =
      chosen (int_eq (air_of e.numerology slot symbol) s) (g slot symbol) (h slot symbol) (λ t. r ((Decides-int_eq (air_of e.numerology slot symbol) s).0 t))

  pub of_slot_related : (g : Slot → ℕ → List A) (h : Slot → ℕ → List B) (e : EndpointConfig) (s : ℤ) (slot : Slot)
      → ((symbol : ℕ) → symbol < symbols_of e.numerology → air_of e.numerology slot symbol ≡ s → R (g slot symbol) (h slot symbol))
      → R (of_slot g e s slot) (of_slot h e s slot)
  unfolding of_slot
  of_slot_related g h e s slot r =
      each_related 0 (symbols_of e.numerology) (of_symbol g e s slot) (of_symbol h e s slot) (λ symbol above below.
      of_symbol_related g h e s slot symbol (r symbol (omega arith)))

  pub of_subframe_related : (g : Slot → ℕ → List A) (h : Slot → ℕ → List B) (e : EndpointConfig) (s frame : ℤ) (subframe : ℕ)
      → ((slot symbol : ℕ) → slot < slots_of e.numerology → symbol < symbols_of e.numerology → air_of e.numerology (slot_at frame subframe slot) symbol ≡ s
      → R (g (slot_at frame subframe slot) symbol) (h (slot_at frame subframe slot) symbol))
      → R (of_subframe g e s frame subframe) (of_subframe h e s frame subframe)
  unfolding of_subframe
  of_subframe_related g h e s frame subframe r =
      each_related 0 (slots_of e.numerology) (λ slot. of_slot g e s (slot_at frame subframe slot)) (λ slot. of_slot h e s (slot_at frame subframe slot)) (λ slot above below.
      of_slot_related g h e s (slot_at frame subframe slot) (λ symbol. r slot symbol (omega arith)))

  pub of_frame_related : (g : Slot → ℕ → List A) (h : Slot → ℕ → List B) (e : EndpointConfig) (s frame : ℤ)
      → ((slot : Slot) (symbol : ℕ) → slot.frame ≡ frame → IsSlotOf e.numerology slot → symbol < symbols_of e.numerology → air_of e.numerology slot symbol ≡ s
      → R (g slot symbol) (h slot symbol))
      → R (of_frame g e s frame) (of_frame h e s frame)
  unfolding of_frame
  of_frame_related g h e s frame r =
      each_related 0 10 (of_subframe g e s frame) (of_subframe h e s frame) (λ subframe above below.
      of_subframe_related g h e s frame subframe (λ slot symbol in_subframe.
      r (slot_at frame subframe slot) symbol refl (record { subframe = omega arith; slot = in_subframe })))

  -- each symbol of an endpoint that is gone over
  abbrev Each : (Slot → ℕ → List A) → (Slot → ℕ → List B) → EndpointConfig → ℤ → Type 0
  Each g h e s =
      (slot : Slot) (symbol : ℕ) → first_swept s ≤ℤ slot.frame → slot.frame <ℤ (first_swept s +ℤ pos 6) → IsSlotOf e.numerology slot
      → symbol < symbols_of e.numerology → air_of e.numerology slot symbol ≡ s → R (g slot symbol) (h slot symbol)

  pub of_endpoint_related : (g : Slot → ℕ → List A) (h : Slot → ℕ → List B) (e : EndpointConfig) (s : ℤ) → Each g h e s → R (of_endpoint g e s) (of_endpoint h e s)
  unfolding of_endpoint
  of_endpoint_related g h e s r =
      let first = first_swept s in
      each_related 0 6 (λ k. of_frame g e s (first +ℤ pos k)) (λ k. of_frame h e s (first +ℤ pos k)) (λ k above below.
      of_frame_related g h e s (first +ℤ pos k) (λ slot symbol frame.
      r slot symbol (subst (λ (z : ℤ). first ≤ℤ z) (sym frame) (frame_low_is first k)) (subst (λ (z : ℤ). z <ℤ (first +ℤ pos 6)) (sym frame) (frame_high_is first k below))))

  pub of_endpoints_related : (g : OfSymbol A) (h : OfSymbol B) (start : ℕ) (es : List EndpointConfig) (s : ℤ)
      → ((ep i : ℕ) (e : EndpointConfig) → ep ≡ start + i → IsAt es i e → Each (g ep e) (h ep e) e s)
      → R (of_endpoints g start es s) (of_endpoints h start es s)
  unfolding of_endpoints
  of_endpoints_related g h start [] s r = kept.none
  of_endpoints_related g h start (e ∷ es) s r =
      kept.more (of_endpoint (g start e) e s) (of_endpoints g (start + 1) es s) (of_endpoint (h start e) e s) (of_endpoints h (start + 1) es s)
      (of_endpoint_related (g start e) (h start e) e s (r start 0 e (omega arith) refl))
      (of_endpoints_related g h (start + 1) es s (λ ep i f place at. r ep (suc i) f (omega arith) at))

  pub at_tick_related : (g : OfSymbol A) (h : OfSymbol B) (es : List EndpointConfig) (s : ℤ)
      → ((ep : ℕ) (e : EndpointConfig) (slot : Slot) (symbol : ℕ) → IsSwept es ep e slot symbol s → R (g ep e slot symbol) (h ep e slot symbol))
      → R (at_tick g es s) (at_tick h es s)
  at_tick_related g h es s r = of_endpoints_related g h 0 es s (λ ep i e place at slot symbol low high is_slot is_symbol starts.
      let same : i ≡ ep = omega arith in
      r ep e slot symbol (record {
        endpoint = subst (λ (k : ℕ). IsAt es k e) same at;
        slot_is = is_slot;
        symbol_is = is_symbol;
        frame_low = low;
        frame_high = high;
        starts = starts;
      }))

  pub sweep_related : (g : OfSymbol A) (h : OfSymbol B) (es : List EndpointConfig) (from end : ℤ)
      → ((ep : ℕ) (e : EndpointConfig) (slot : Slot) (symbol : ℕ) (s : ℤ) → from ≤ℤ s → s <ℤ end → IsSwept es ep e slot symbol s → R (g ep e slot symbol) (h ep e slot symbol))
      → R (sweep g es from end) (sweep h es from end)
  unfolding sweep
  sweep_related g h es from end r =
      each_tick_related from (int_gap from end) (at_tick g es) (at_tick h es) (λ s above below.
      at_tick_related g h es s (λ ep e slot symbol. r ep e slot symbol s above (gap_below from end s above below)))

-- ---- the same, and nothing

same_kept : {A : Type 0} → IsKept {A = A} {B = A} (λ xs ys. xs ≡ ys)
same_kept = record { none = refl; more = λ xs xs' ys ys' p q. ap₂ ◌++◌ p q }

pub none_kept : {A : Type 0} → IsKept {A = A} {B = A} (λ xs ys. xs ≡ [])
none_kept = record { none = refl; more = λ xs xs' ys ys' p q. ap₂ ◌++◌ p q }

pub sweep-same : {A : Type 0} (g h : OfSymbol A) (es : List EndpointConfig) (from end : ℤ)
    → ((ep : ℕ) (e : EndpointConfig) (slot : Slot) (symbol : ℕ) (tick : ℤ) → from ≤ℤ tick → tick <ℤ end → IsSwept es ep e slot symbol tick → g ep e slot symbol ≡ h ep e slot symbol)
    → sweep g es from end ≡ sweep h es from end
sweep-same g h es from end r = sweep_related (λ xs ys. xs ≡ ys) same_kept g h es from end r

pub tick-nothing : {A : Type 0} (g : OfSymbol A) (es : List EndpointConfig) (tick : ℤ)
    → ((ep : ℕ) (e : EndpointConfig) (slot : Slot) (symbol : ℕ) → IsSwept es ep e slot symbol tick → g ep e slot symbol ≡ [])
    → at_tick g es tick ≡ []
tick-nothing g es tick none = at_tick_related (λ xs ys. xs ≡ []) none_kept g g es tick none
