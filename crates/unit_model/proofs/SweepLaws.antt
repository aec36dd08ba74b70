-- Sweeps of which some parts have nothing, and sweeps by what is told of each symbol.
use Rattle.std.proofs.Common.{◌≡◌, ℕ, ℤ, pos, suc, ◌+◌, ◌+ℤ◌, ◌≤ℤ◌, ◌<ℤ◌, List, [], ◌∷◌, ◌++◌, inl, inr, refl, sym, ap, ◌∙◌, arith}
use Rattle.std.specs.Prelude.{Some}
use Rattle.std.specs.Int.{int_gap}
use Rattle.std.specs.List.{flat_map, slice_get}
use Rattle.std.specs.Ordering.{int_eq}
use Rattle.std.proofs.lemmas.List.Concat.{flat_map-append}
use Rattle.fh_base.specs.declared.values.Slot.{Slot}
use Rattle.fh_base.specs.Air.{air_of}
use Rattle.fh_base.specs.Numbering.{slots_of, symbols_of}
use Rattle.window_config.specs.declared.endpoints.EndpointConfig.{EndpointConfig}
use Rattle.fh_base.specs.Lists.{each_tick}
use Rattle.unit_model.specs.Sweeps.{OfSymbol, slot_at, first_swept, frames_swept, of_slot, of_subframe, of_frame, of_endpoint, of_endpoints, at_tick, sweep}
use Rattle.fh_base.proofs.EachLemmas.{each_none, each_flat, either_flat, ticks_flat, either_none, ticks_split, gap_is, gap_none, gap_parts, no_ticks, first_tick, order, quiet_ticks}

-- ---- over numbers

-- ---- by what is told of each item

endpoint_flat : {S A : Type 0} (G : S → List A) (g : Slot → ℕ → List A) (h : Slot → ℕ → List S) (e : EndpointConfig) (s : ℤ)
    → ((slot : Slot) (symbol : ℕ) → g slot symbol ≡ flat_map G (h slot symbol)) → of_endpoint g e s ≡ flat_map G (of_endpoint h e s)
unfolding of_endpoint of_frame of_subframe of_slot
endpoint_flat G g h e s is =
    each_flat G 0 frames_swept _ _ (λ k. each_flat G 0 10 _ _ (λ subframe. each_flat G 0 (slots_of e.numerology) _ _ (λ slot. each_flat G 0 (symbols_of e.numerology) _ _
    (λ symbol. either_flat G (int_eq (air_of e.numerology (slot_at (first_swept s +ℤ pos k) subframe slot) symbol) s) _ _ (is (slot_at (first_swept s +ℤ pos k) subframe slot) symbol)))))

endpoints_flat : {S A : Type 0} (G : S → List A) (g : OfSymbol A) (h : OfSymbol S) (ep : ℕ) (es : List EndpointConfig) (s : ℤ)
    → ((ep : ℕ) (e : EndpointConfig) (slot : Slot) (symbol : ℕ) → g ep e slot symbol ≡ flat_map G (h ep e slot symbol))
    → of_endpoints g ep es s ≡ flat_map G (of_endpoints h ep es s)
unfolding of_endpoints
endpoints_flat G g h ep [] s is = refl
endpoints_flat G g h ep (e ∷ es) s is =
    ap (λ xs. xs ++ of_endpoints g (ep + 1) es s) (endpoint_flat G (g ep e) (h ep e) e s (is ep e))
    ∙ ap (λ xs. flat_map G (of_endpoint (h ep e) e s) ++ xs) (endpoints_flat G g h (ep + 1) es s is)
    ∙ sym (flat_map-append G (of_endpoint (h ep e) e s) (of_endpoints h (ep + 1) es s))

-- a sweep of what is told of each symbol, by a sweep of the symbols of which something is told
pub sweep_flat : {S A : Type 0} (G : S → List A) (g : OfSymbol A) (h : OfSymbol S) (es : List EndpointConfig) (from end : ℤ)
    → ((ep : ℕ) (e : EndpointConfig) (slot : Slot) (symbol : ℕ) → g ep e slot symbol ≡ flat_map G (h ep e slot symbol))
    → sweep g es from end ≡ flat_map G (sweep h es from end)
unfolding sweep
sweep_flat G g h es from end is = ticks_flat G from (int_gap from end) (at_tick g es) (at_tick h es) (λ t. endpoints_flat G g h 0 es t is)

-- ---- ticks at which nothing starts

endpoint_none : {A : Type 0} (g : Slot → ℕ → List A) (e : EndpointConfig) (s : ℤ) → ((slot : Slot) (symbol : ℕ) → air_of e.numerology slot symbol ≡ s → g slot symbol ≡ [])
    → of_endpoint g e s ≡ []
unfolding of_endpoint of_frame of_subframe of_slot
endpoint_none g e s none =
    each_none 0 frames_swept _ (λ k. each_none 0 10 _ (λ subframe. each_none 0 (slots_of e.numerology) _ (λ slot. each_none 0 (symbols_of e.numerology) _
    (λ symbol. either_none (air_of e.numerology (slot_at (first_swept s +ℤ pos k) subframe slot) symbol) s _ _ refl (none (slot_at (first_swept s +ℤ pos k) subframe slot) symbol)))))

pub endpoints_none : {A : Type 0} (g : OfSymbol A) (ep : ℕ) (es : List EndpointConfig) (s : ℤ)
    → ((k : ℕ) (e : EndpointConfig) → slice_get es k ≡ Some e → (slot : Slot) (symbol : ℕ) → air_of e.numerology slot symbol ≡ s → g (ep + k) e slot symbol ≡ [])
    → of_endpoints g ep es s ≡ []
unfolding of_endpoints
endpoints_none g ep [] s none = refl
endpoints_none g ep (e ∷ es) s none =
    let here : ep + 0 ≡ ep = omega arith in
    ap (λ xs. xs ++ of_endpoints g (ep + 1) es s) (endpoint_none (g ep e) e s (λ slot symbol at. ap (λ i. g i e slot symbol) (sym here) ∙ none 0 e refl slot symbol at))
    ∙ endpoints_none g (ep + 1) es s (λ k f is slot symbol at.
    let there : ep + 1 + k ≡ ep + suc k = omega arith in
    ap (λ i. g i f slot symbol) there ∙ none (suc k) f is slot symbol at)

-- ---- ticks

-- a sweep over ticks that have nothing
pub sweep_quiet : {A : Type 0} (g : OfSymbol A) (es : List EndpointConfig) (from end : ℤ) → ((t : ℤ) → from ≤ℤ t → t <ℤ end → at_tick g es t ≡ []) → sweep g es from end ≡ []
unfolding sweep
sweep_quiet g es from end none = elim (order from end) [
  | inl le ↦ quiet_ticks from end (at_tick g es) le none
  | inr ge ↦ ap (λ n. each_tick from n (at_tick g es)) (gap_none from end ge) ∙ no_ticks from (at_tick g es)
]

-- from one tick to the next that has something
pub sweep_next : {A : Type 0} (g : OfSymbol A) (es : List EndpointConfig) (from t end : ℤ) → from ≤ℤ t → t <ℤ end → ((u : ℤ) → from ≤ℤ u → u <ℤ t → at_tick g es u ≡ [])
    → sweep g es from end ≡ at_tick g es t ++ sweep g es (t +ℤ pos 1) end
unfolding sweep
sweep_next g es from t end low high none =
    let f = at_tick g es in
    let rest = int_gap (t +ℤ pos 1) end in
    ap (λ n. each_tick from n f) (gap_parts from t end low high)
    ∙ ticks_split from (int_gap from t) (suc rest) f
    ∙ ap (λ xs. xs ++ each_tick (from +ℤ pos (int_gap from t)) (suc rest) f) (quiet_ticks from t f low none)
    ∙ ap (λ u. each_tick u (suc rest) f) (gap_is from t low)
    ∙ first_tick t rest f
