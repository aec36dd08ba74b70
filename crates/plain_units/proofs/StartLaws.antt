-- Starts of symbols, one after another, and ticks at which nothing that is claimed starts.
use Rattle.std.proofs.Common.{◌≡◌, ℕ, ℤ, pos, ◌+◌, ◌<◌, ◌≤◌, ◌<ℤ◌, ◌≤ℤ◌, ◌+ℤ◌, inl, inr, Bool, true, false, List, [], ◌∷◌, ◌++◌, length, take, drop, get_or, refl, sym, ap, ◌∙◌, subst, arith, append_assoc, append-nil, All}
use Rattle.std.specs.Prelude.{◌&&◌, Option, Some, ◌||◌, ◌==◌, if◌then◌else◌}
use Rattle.std.specs.List.{slice_get}
use Rattle.std.specs.Ordering.{int_eq}
use Rattle.std.proofs.lemmas.Bool.{cases_lt, and_parts, eqb-true, leb-true, ltb-true, false_from_ne_true, or_from, or_parts}
use Rattle.std.proofs.lemmas.Int.{ints}
use Rattle.std.proofs.lemmas.List.{at_drop_more, at_drop_all}
use Rattle.std.proofs.lemmas.List.Elements.{All-more, All-weaker, All-head, All-tail}
use Rattle.fh_base.specs.declared.values.Slot.{Slot}
use Rattle.fh_base.specs.declared.values.Ticks.{Ticks}
use Rattle.fh_base.specs.Air.{air_of}
use Rattle.fh_base.specs.Numbering.{slots_of, symbols_of}
use Rattle.unit_model.specs.Terms.{EndpointConfig}
use Rattle.unit_model.specs.Claims.{same_slot, same_way, is_from}
use Rattle.unit_model.specs.Proper.{IsAt, IsProperAllocation}
use Rattle.plain_units.specs.ClaimedStarts.{IsNotMissed, OfEachSymbol, IsQuiet, is_claimed_way, is_claimed_in, is_of_frame, names_frame, claimed_start}
use Rattle.unit_model.specs.Starts.{start_at}
use Rattle.unit_model.specs.Sweeps.{OfSymbol, slot_at, of_slot, of_subframe, of_frame, of_endpoint, of_endpoints, at_tick, sweep}
use Rattle.unit_model.specs.declared.allocations.Allocation.{Allocation}
use Rattle.unit_model.specs.declared.symbol_start.SymbolStart.{SymbolStart}
use Rattle.unit_model.proofs.SweepLaws.{endpoints_none, sweep_quiet, sweep_next}
use Rattle.unit_model.proofs.ClaimLemmas.{same_way_is, same_slot_is}
use Rattle.fh_base.proofs.EachLemmas.{each_none}

-- ---- the next start

-- what holds of the starts of the symbols before n, and of that of n
pub one_symbol_more : (P : ℤ → Type 0) (start : ℕ → ℤ) (low n : ℕ) (s : ℤ) → ((y : ℕ) → low ≤ y → y < n → P (start y)) → s ≡ start n → P s
    → (y : ℕ) → low ≤ y → y < n + 1 → P (start y)
one_symbol_more P start low n s before is here y l u =
    elim (cases_lt y n) [
      | inl lt ↦ before y l lt
      | inr ge ↦ let e : n ≡ y = omega arith in subst P (is ∙ ap start e) here
    ]

-- the same of the symbols of one allocation more
pub one_allocation_more : (from : ℤ) (down : Bool) (a b : Option Ticks) (xs : List Allocation) (i : ℕ) (d : Allocation) → i < length xs
    → ((t : ℤ) → IsNotMissed from a t → IsNotMissed from b t)
    → All (OfEachSymbol (IsNotMissed from a) down) (take i xs) → OfEachSymbol (IsNotMissed from b) down (get_or xs i d)
    → All (OfEachSymbol (IsNotMissed from b) down) (take (i + 1) xs)
one_allocation_more from down a b xs i d h others before here =
    All-more (OfEachSymbol (IsNotMissed from b) down) xs i d h
    (All-weaker (OfEachSymbol (IsNotMissed from a) down) (OfEachSymbol (IsNotMissed from b) down) (λ x p same y l u. others _ (p same y l u)) (take i xs) before)
    here

-- ---- what is claimed in a symbol

pub claimed_here : (xs : List Allocation) (ep : ℕ) (down : Bool) (slot : Slot) (symbol : ℕ) (i : ℕ) (d : Allocation) (b v : Bool) → i < length xs
    → is_claimed_in (drop i xs) ep down slot symbol ≡ v → b ≡ is_claimed_way ep down slot symbol (get_or xs i d) → b ≡ true → true ≡ v
unfolding is_claimed_in
claimed_here xs ep down slot symbol i d b v h before is here =
    let now : is_claimed_way ep down slot symbol (get_or xs i d) ≡ true = sym is ∙ here in
    sym (at_drop_more (λ ys. is_claimed_in ys ep down slot symbol) xs i d h ∙ ap (λ t. t || is_claimed_in (drop (i + 1) xs) ep down slot symbol) now) ∙ before

pub claimed_later : (xs : List Allocation) (ep : ℕ) (down : Bool) (slot : Slot) (symbol : ℕ) (i : ℕ) (d : Allocation) (b v : Bool) → i < length xs
    → is_claimed_in (drop i xs) ep down slot symbol ≡ v → b ≡ is_claimed_way ep down slot symbol (get_or xs i d) → b ≡ false → is_claimed_in (drop (i + 1) xs) ep down slot symbol ≡ v
unfolding is_claimed_in
claimed_later xs ep down slot symbol i d b v h before is here =
    let now : is_claimed_way ep down slot symbol (get_or xs i d) ≡ false = sym is ∙ here in
    sym (at_drop_more (λ ys. is_claimed_in ys ep down slot symbol) xs i d h ∙ ap (λ t. t || is_claimed_in (drop (i + 1) xs) ep down slot symbol) now) ∙ before

pub claimed_nowhere : (xs : List Allocation) (ep : ℕ) (down : Bool) (slot : Slot) (symbol : ℕ) (i : ℕ) (v : Bool) → length xs ≤ i
    → is_claimed_in (drop i xs) ep down slot symbol ≡ v → false ≡ v
unfolding is_claimed_in
claimed_nowhere xs ep down slot symbol i v h before = sym (at_drop_all (λ ys. is_claimed_in ys ep down slot symbol) xs i h) ∙ before

-- ---- frames of which no allocation is

pub named_here : (xs : List Allocation) (ep : ℕ) (frame : ℤ) (i : ℕ) (d : Allocation) (b v : Bool) → i < length xs
    → names_frame (drop i xs) ep frame ≡ v → b ≡ is_of_frame ep frame (get_or xs i d) → b ≡ true → true ≡ v
unfolding names_frame
named_here xs ep frame i d b v h before is here =
    let now : is_of_frame ep frame (get_or xs i d) ≡ true = sym is ∙ here in
    sym (at_drop_more (λ ys. names_frame ys ep frame) xs i d h ∙ ap (λ t. t || names_frame (drop (i + 1) xs) ep frame) now) ∙ before

pub named_later : (xs : List Allocation) (ep : ℕ) (frame : ℤ) (i : ℕ) (d : Allocation) (b v : Bool) → i < length xs
    → names_frame (drop i xs) ep frame ≡ v → b ≡ is_of_frame ep frame (get_or xs i d) → b ≡ false → names_frame (drop (i + 1) xs) ep frame ≡ v
unfolding names_frame
named_later xs ep frame i d b v h before is here =
    let now : is_of_frame ep frame (get_or xs i d) ≡ false = sym is ∙ here in
    sym (at_drop_more (λ ys. names_frame ys ep frame) xs i d h ∙ ap (λ t. t || names_frame (drop (i + 1) xs) ep frame) now) ∙ before

pub named_nowhere : (xs : List Allocation) (ep : ℕ) (frame : ℤ) (i : ℕ) (v : Bool) → length xs ≤ i → names_frame (drop i xs) ep frame ≡ v → false ≡ v
unfolding names_frame
named_nowhere xs ep frame i v h before = sym (at_drop_all (λ ys. names_frame ys ep frame) xs i h) ∙ before

not_of_frame : (p q f r s : Bool) → (p && f) ≡ false → (p && (q && ((f && r) && s))) ≡ false
not_of_frame false q f r s h = refl
not_of_frame true false f r s h = refl
not_of_frame true true false r s h = refl
not_of_frame true true true r s h = absurd (cc)

not_named : (xs : List Allocation) (ep : ℕ) (down : Bool) (slot : Slot) (symbol : ℕ) → names_frame xs ep slot.frame ≡ false → is_claimed_in xs ep down slot symbol ≡ false
unfolding names_frame is_claimed_in
not_named [] ep down slot symbol h = refl
not_named (a ∷ earlier) ep down slot symbol h =
    let parts = or_parts (is_of_frame ep slot.frame a) (names_frame earlier ep slot.frame) h in
    or_from (is_claimed_way ep down slot symbol a) (is_claimed_in earlier ep down slot symbol)
    (not_of_frame (a.ep == ep) (same_way a.down down) (int_eq a.slot.frame slot.frame) ((a.slot.subframe == slot.subframe) && (a.slot.slot == slot.slot)) (is_from a.symbol a.num_symbol symbol) parts.0)
    (not_named earlier ep down slot symbol parts.1)

either_way : {A : Type 0} (b : Bool) (xs : List A) → xs ≡ [] → (if b then xs else []) ≡ []
either_way true xs e = e
either_way false xs e = refl

pub unnamed_frame : (accepted : List Allocation) (down : Bool) (ep : ℕ) (e : EndpointConfig) (s frame : ℤ) → names_frame accepted ep frame ≡ false
    → of_frame (claimed_start accepted down ep e) e s frame ≡ []
unfolding of_frame of_subframe of_slot
unnamed_frame accepted down ep e s frame h =
    each_none 0 10 _ (λ subframe. each_none 0 (slots_of e.numerology) _ (λ slot. each_none 0 (symbols_of e.numerology) _
    (λ symbol. either_way (int_eq (air_of e.numerology (slot_at frame subframe slot) symbol) s) _
    (ap (λ (b : Bool). let xs : List SymbolStart = if b then start_at ep e (slot_at frame subframe slot) symbol ∷ [] else [] in xs)
    (not_named accepted ep down (slot_at frame subframe slot) symbol h)))))

-- ---- what an allocation is that is in a symbol

-- what an allocation is that is in a symbol
pub record StandsIn (ep : ℕ) (down : Bool) (slot : Slot) (symbol : ℕ) (a : Allocation) : Type 0 where
  pub index : a.ep ≡ ep
  pub way : a.down ≡ down
  pub in_slot : a.slot ≡ slot
  pub first : a.symbol ≤ symbol
  pub last : symbol < a.symbol + a.num_symbol

pub stands_in : (ep : ℕ) (down : Bool) (slot : Slot) (symbol : ℕ) (a : Allocation) → is_claimed_way ep down slot symbol a ≡ true → StandsIn ep down slot symbol a
stands_in ep down slot symbol a h =
    let p = and_parts (a.ep == ep) _ h in
    let q = and_parts (same_way a.down down) _ p.1 in
    let r = and_parts (same_slot a.slot slot) (is_from a.symbol a.num_symbol symbol) q.1 in
    let s = and_parts _ _ r.1 in
    record {
      index = eqb-true a.ep ep p.0;
      way = same_way_is a.down down q.0;
      in_slot = same_slot_is a.slot slot r.0;
      first = leb-true a.symbol symbol s.0;
      last = ltb-true symbol (a.symbol + a.num_symbol) s.1;
    }

-- it is one of its endpoint
same_endpoint : (es : List EndpointConfig) (a : Allocation) (ep : ℕ) (e : EndpointConfig) → IsAt es a.ep a.endpoint → a.ep ≡ ep → IsAt es ep e → a.endpoint ≡ e
same_endpoint es a ep e is same at =
    let here : Some a.endpoint ≡ Some e = sym is ∙ ap (slice_get es) same ∙ at in
    cc

-- none is in a symbol that starts at a tick at which none starts
pub unclaimed : (es : List EndpointConfig) (accepted : List Allocation) (down : Bool) (from end u : ℤ) (ep : ℕ) (e : EndpointConfig) (slot : Slot) (symbol : ℕ)
    → from ≤ℤ u → u <ℤ end → IsAt es ep e → air_of e.numerology slot symbol ≡ u
    → All (IsProperAllocation es) accepted → All (IsQuiet from end down) accepted → is_claimed_in accepted ep down slot symbol ≡ false
unfolding is_claimed_in
unclaimed es [] down from end u ep e slot symbol low high at starts proper quiet = refl
unclaimed es (a ∷ earlier) down from end u ep e slot symbol low high at starts proper quiet =
    or_from (is_claimed_way ep down slot symbol a) (is_claimed_in earlier ep down slot symbol)
    (false_from_ne_true (is_claimed_way ep down slot symbol a) (λ h. not_here (stands_in ep down slot symbol a h) (All-head (IsProperAllocation es) a earlier proper)))
    (unclaimed es earlier down from end u ep e slot symbol low high at starts (All-tail (IsProperAllocation es) a earlier proper) (All-tail (IsQuiet from end down) a earlier quiet))
  where
    not_here : StandsIn ep down slot symbol a → IsProperAllocation es a → ⊥
    not_here is proper =
        let later = All-head (IsQuiet from end down) a earlier quiet is.way symbol is.first is.last in
        let same = same_endpoint es a ep e proper.endpoint is.index at in
        let start : air_of a.endpoint.numerology a.slot symbol ≡ u = ap (λ (f : EndpointConfig). air_of f.numerology a.slot symbol) same ∙ ap (λ (s : Slot). air_of e.numerology s symbol) is.in_slot ∙ starts in
        let not_later : end ≤ℤ u = subst (λ (t : ℤ). end ≤ℤ t) start (later (subst (λ (t : ℤ). from ≤ℤ t) (sym start) low)) in
        omega (arith, ints, not_later, high)

-- such a tick has nothing
pub quiet_tick : (es : List EndpointConfig) (accepted : List Allocation) (down : Bool) (from end u : ℤ) → from ≤ℤ u → u <ℤ end
    → All (IsProperAllocation es) accepted → All (IsQuiet from end down) accepted → at_tick (claimed_start accepted down) es u ≡ []
quiet_tick es accepted down from end u low high proper quiet =
    endpoints_none (claimed_start accepted down) 0 es u (λ k e at slot symbol starts.
    let index : 0 + k ≡ k = omega arith in
    ap (λ i. claimed_start accepted down i e slot symbol) index
    ∙ ap (λ (b : Bool). let xs : List SymbolStart = if b then start_at k e slot symbol ∷ [] else [] in xs)
    (unclaimed es accepted down from end u k e slot symbol low high at starts proper quiet))

-- as far as a loop over the endpoints has gone
pub tick_more : (g : OfSymbol SymbolStart) (es : List EndpointConfig) (i : ℕ) (d : EndpointConfig) (s : ℤ) (xs ys zs : List SymbolStart) → i < length es
    → zs ≡ ys ++ of_endpoint (g i (get_or es i d)) (get_or es i d) s → ys ++ of_endpoints g i (drop i es) s ≡ xs → zs ++ of_endpoints g (i + 1) (drop (i + 1) es) s ≡ xs
unfolding of_endpoints
tick_more g es i d s xs ys zs h is before =
    ap (λ ws. ws ++ of_endpoints g (i + 1) (drop (i + 1) es) s) is
    ∙ append_assoc ys (of_endpoint (g i (get_or es i d)) (get_or es i d) s) (of_endpoints g (i + 1) (drop (i + 1) es) s)
    ∙ ap (λ ws. ys ++ ws) (sym (at_drop_more (λ fs. of_endpoints g i fs s) es i d h)) ∙ before

pub tick_end : (g : OfSymbol SymbolStart) (es : List EndpointConfig) (i : ℕ) (s : ℤ) (xs ys : List SymbolStart) → length es ≤ i → ys ++ of_endpoints g i (drop i es) s ≡ xs → ys ≡ xs
unfolding of_endpoints
tick_end g es i s xs ys h before = sym (ap (λ ws. ys ++ ws) (at_drop_all (λ fs. of_endpoints g i fs s) es i h) ∙ append-nil ys) ∙ before

-- as far as a loop over the starts has gone
pub starts_more : (es : List EndpointConfig) (accepted : List Allocation) (down : Bool) (now t next end : ℤ) (xs ys zs : List SymbolStart)
    → now ≤ℤ t → t <ℤ end → next ≡ t +ℤ pos 1 → All (IsProperAllocation es) accepted → All (IsQuiet now t down) accepted
    → zs ≡ ys ++ at_tick (claimed_start accepted down) es t → ys ++ sweep (claimed_start accepted down) es now end ≡ xs
    → zs ++ sweep (claimed_start accepted down) es next end ≡ xs
starts_more es accepted down now t next end xs ys zs low high next_is proper quiet is before =
    let g = claimed_start accepted down in
    ap (λ u. zs ++ sweep g es u end) next_is
    ∙ ap (λ ws. ws ++ sweep g es (t +ℤ pos 1) end) is
    ∙ append_assoc ys (at_tick g es t) (sweep g es (t +ℤ pos 1) end)
    ∙ ap (λ ws. ys ++ ws) (sym (sweep_next g es now t end low high (λ u l h. quiet_tick es accepted down now t u l h proper quiet))) ∙ before

pub starts_end : (es : List EndpointConfig) (accepted : List Allocation) (down : Bool) (now end : ℤ) (xs ys : List SymbolStart)
    → All (IsProperAllocation es) accepted → All (IsQuiet now end down) accepted → ys ++ sweep (claimed_start accepted down) es now end ≡ xs → ys ≡ xs
starts_end es accepted down now end xs ys proper quiet before =
    let g = claimed_start accepted down in
    sym (ap (λ ws. ys ++ ws) (sweep_quiet g es now end (λ u l h. quiet_tick es accepted down now end u l h proper quiet)) ∙ append-nil ys) ∙ before
