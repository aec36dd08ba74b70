-- A sweep leaves no symbol out: each starts less than five frames after its own frame's start, and a sweep goes over six frames at
-- each tick.
use Rattle.std.proofs.Common.{◌≡◌, ℕ, ℤ, pos, negsuc, zero, suc, ◌+◌, ◌-◌, ◌*◌, ◌^◌, ◌<◌, ◌+ℤ◌, ◌-ℤ◌, ◌*ℤ◌, ◌≤ℤ◌, ◌<ℤ◌, List, [], ◌∷◌, ◌++◌, refl, sym, ap, ◌∙◌, subst, arith, append_assoc, append-nil}
use Rattle.std.specs.Prelude.{if◌then◌else◌, Some}
use Rattle.std.specs.Int.{int_gap}
use Rattle.std.specs.List.{slice_get}
use Rattle.std.proofs.lemmas.Bool.Decides.{Decides-int_eq}
use Rattle.std.proofs.lemmas.Int.{ints}
use Rattle.fh_base.specs.declared.kind.Kind.{Kind}
use Rattle.fh_base.specs.declared.kind.Kind.TheVariants.{Ordinary, Offset, Extended}
use Rattle.fh_base.specs.declared.numerology.Numerology.{Numerology}
use Rattle.fh_base.specs.declared.spacing.Spacing.TheVariants.{Khz15, Khz30, Khz60, Khz120, Khz240, Khz1x25, Khz5}
use Rattle.fh_base.specs.declared.values.Slot.{Slot}
use Rattle.fh_base.specs.Air.{air_of}
use Rattle.fh_base.specs.Frame.{frame_start}
use Rattle.fh_base.specs.Kinds.{kind_start, kind_slots, kind_symbols}
use Rattle.fh_base.specs.Numbering.{slots_of, symbols_of, IsSlotOf}
use Rattle.fh_base.proofs.Euclid.{frame_floor}
use Rattle.fh_base.proofs.Order.{kind_covers, kind_left}
use Rattle.window_config.specs.declared.endpoints.EndpointConfig.{EndpointConfig}
use Rattle.fh_base.specs.Lists.{each, each_tick}
use Rattle.unit_model.specs.Proper.{IsAt}
use Rattle.unit_model.specs.Sweeps.{OfSymbol, slot_at, frame_of_tick, first_swept, frames_swept, of_symbol, of_slot, of_subframe, of_frame, of_endpoint, of_endpoints, at_tick, sweep}
use Rattle.fh_base.specs.declared.frames.TheConstants.{FRAME}
use Rattle.fh_base.specs.declared.symbols.TheConstants.{SUBFRAME}
use Rattle.fh_base.proofs.EachLemmas.{each_split, ticks_split, gap_is, gap_parts}

-- ---- how late a symbol may start

-- timeOffset and cpLength are numbers of 16 bits
abbrev pub IsShort : Kind → Type 0
IsShort (Ordinary spacing) = Unit {0}
IsShort (Offset spacing time_offset cp_length) = (time_offset < 2 ^ 16) × (cp_length < 2 ^ 16)
IsShort Extended = Unit {0}

pub kind_soon : (kind : Kind) (s m : ℕ) → IsShort kind → s < kind_slots kind → m < kind_symbols kind → kind_start kind s m < 62976000000
kind_soon (Ordinary Khz15) s m short h k = omega (arith, kind_covers (Ordinary Khz15) s m k, kind_left (Ordinary Khz15) s h)
kind_soon (Ordinary Khz30) s m short h k = omega (arith, kind_covers (Ordinary Khz30) s m k, kind_left (Ordinary Khz30) s h)
kind_soon (Ordinary Khz60) s m short h k = omega (arith, kind_covers (Ordinary Khz60) s m k, kind_left (Ordinary Khz60) s h)
kind_soon (Ordinary Khz120) s m short h k = omega (arith, kind_covers (Ordinary Khz120) s m k, kind_left (Ordinary Khz120) s h)
kind_soon (Ordinary Khz240) s m short h k = omega (arith, kind_covers (Ordinary Khz240) s m k, kind_left (Ordinary Khz240) s h)
kind_soon (Ordinary Khz1x25) s m short h k = omega (arith, kind_covers (Ordinary Khz1x25) s m k, kind_left (Ordinary Khz1x25) s h)
kind_soon (Ordinary Khz5) s m short h k = omega (arith, kind_covers (Ordinary Khz5) s m k, kind_left (Ordinary Khz5) s h)
kind_soon (Offset Khz15 t c) s m short h k = omega (arith, kind_covers (Offset Khz15 t c) s m k, kind_left (Offset Khz15 t c) s h, short.0, short.1)
kind_soon (Offset Khz30 t c) s m short h k = omega (arith, kind_covers (Offset Khz30 t c) s m k, kind_left (Offset Khz30 t c) s h, short.0, short.1)
kind_soon (Offset Khz60 t c) s m short h k = omega (arith, kind_covers (Offset Khz60 t c) s m k, kind_left (Offset Khz60 t c) s h, short.0, short.1)
kind_soon (Offset Khz120 t c) s m short h k = omega (arith, kind_covers (Offset Khz120 t c) s m k, kind_left (Offset Khz120 t c) s h, short.0, short.1)
kind_soon (Offset Khz240 t c) s m short h k = omega (arith, kind_covers (Offset Khz240 t c) s m k, kind_left (Offset Khz240 t c) s h, short.0, short.1)
kind_soon (Offset Khz1x25 t c) s m short h k = omega (arith, kind_covers (Offset Khz1x25 t c) s m k, kind_left (Offset Khz1x25 t c) s h, short.0, short.1)
kind_soon (Offset Khz5 t c) s m short h k = omega (arith, kind_covers (Offset Khz5 t c) s m k, kind_left (Offset Khz5 t c) s h, short.0, short.1)
kind_soon Extended s m short h k = omega (arith, kind_covers Extended s m k, kind_left Extended s h)

in_air : (f : ℤ) (b x : ℕ) → b < 10 → x < 62976000000
    → ((f *ℤ FRAME) ≤ℤ (f *ℤ FRAME +ℤ pos (b * SUBFRAME + x)))
    × ((f *ℤ FRAME +ℤ pos (b * SUBFRAME + x)) <ℤ (f *ℤ FRAME +ℤ pos 76800000000))
in_air f b x h k = (omega (arith, ints), omega (arith, ints))

-- a symbol starts less than 50 ms after its frame
pub symbol_soon : (n : Numerology) (slot : Slot) (symbol : ℕ) → IsShort n.kind → IsSlotOf n slot → symbol < symbols_of n
    → (frame_start slot.frame ≤ℤ air_of n slot symbol) × (air_of n slot symbol <ℤ (frame_start slot.frame +ℤ pos 76800000000))
symbol_soon n slot symbol short is h = in_air slot.frame slot.subframe _ is.subframe (kind_soon n.kind slot.slot symbol short is.slot h)

-- ---- so its frame is one of those that a sweep goes over at its start

near : (f q s : ℤ) → (f *ℤ FRAME) ≤ℤ s → s <ℤ (f *ℤ FRAME +ℤ pos 76800000000) → (q *ℤ FRAME) ≤ℤ s → s <ℤ (q *ℤ FRAME +ℤ FRAME)
    → (z : ℤ) → z ≡ f -ℤ (q -ℤ pos 5) → (k : ℕ) × (k < frames_swept) × (f ≡ (q -ℤ pos 5) +ℤ pos k)
near f q s low high under over (pos k) is = (k, omega (arith, ints), omega (arith, ints))
near f q s low high under over (negsuc k) is = absurd (omega (arith, ints))

pub frame_swept : (n : Numerology) (slot : Slot) (symbol : ℕ) → IsShort n.kind → IsSlotOf n slot → symbol < symbols_of n
    → (k : ℕ) × (k < frames_swept) × (slot.frame ≡ first_swept (air_of n slot symbol) +ℤ pos k)
frame_swept n slot symbol short is h =
    let s = air_of n slot symbol in
    let soon = symbol_soon n slot symbol short is h in
    let floor = frame_floor s in
    near slot.frame (frame_of_tick s) s soon.0 soon.1 floor.0 floor.1 _ refl

-- ---- what is told of it is a piece of the sweep

pub record IsPiece {A : Type 0} (xs ys : List A) : Type 0 where
  pub before : List A
  pub after : List A
  pub is : ys ≡ before ++ (xs ++ after)

inner : {A : Type 0} {xs ys zs : List A} → IsPiece xs ys → IsPiece ys zs → IsPiece xs zs
inner {A} {xs} {ys} {zs} p q = record {
  before = q.before ++ p.before;
  after = p.after ++ q.after;
  is = q.is
      ∙ ap (λ ws. q.before ++ (ws ++ q.after)) p.is
      ∙ ap (λ ws. q.before ++ ws) (append_assoc p.before (xs ++ p.after) q.after ∙ ap (λ ws. p.before ++ ws) (append_assoc xs p.after q.after))
      ∙ sym (append_assoc q.before p.before (xs ++ (p.after ++ q.after)));
}

same_piece : {A : Type 0} (xs ys : List A) → ys ≡ xs → IsPiece xs ys
same_piece xs ys e = record { before = []; after = []; is = e ∙ sym (append-nil xs) }

each_piece : {A : Type 0} (n k : ℕ) (f : ℕ → List A) → k < n → IsPiece (f k) (each 0 n f)
unfolding each
each_piece n k f h =
    let rest = n - (k + 1) in
    let sum : n ≡ k + suc rest = omega arith in
    let here : 0 + k ≡ k = omega arith in
    record {
      before = each 0 k f;
      after = each (0 + k + 1) rest f;
      is = ap (λ m. each 0 m f) sum ∙ each_split 0 k (suc rest) f ∙ ap (λ i. each 0 k f ++ (f i ++ each (0 + k + 1) rest f)) here;
    }

endpoint_piece : {A : Type 0} (g : Slot → ℕ → List A) (e : EndpointConfig) (slot : Slot) (symbol : ℕ) → IsShort e.numerology.kind → IsSlotOf e.numerology slot → symbol < symbols_of e.numerology
    → IsPiece (g slot symbol) (of_endpoint g e (air_of e.numerology slot symbol))
unfolding of_endpoint of_frame of_subframe of_slot
endpoint_piece g e slot symbol short is h =
    let s = air_of e.numerology slot symbol in
    let n = e.numerology in
    let near = frame_swept n slot symbol short is h in
    let frame = first_swept s +ℤ pos near.0 in
    let here : slot_at frame slot.subframe slot.slot ≡ slot = ap (λ (f : ℤ). let x : Slot = slot_at f slot.subframe slot.slot in x) (sym near.2) in
    inner (same_piece (g slot symbol) (of_symbol g e s (slot_at frame slot.subframe slot.slot) symbol)
    (ap (λ (x : Slot). of_symbol g e s x symbol) here ∙ ap (λ b. if b then g slot symbol else []) ((Decides-int_eq s s).1 refl)))
    (inner (each_piece (symbols_of n) symbol (of_symbol g e s (slot_at frame slot.subframe slot.slot)) h)
    (inner (each_piece (slots_of n) slot.slot (λ l. of_slot g e s (slot_at frame slot.subframe l)) is.slot)
    (inner (each_piece 10 slot.subframe (of_subframe g e s frame) is.subframe) (each_piece frames_swept near.0 (λ k. of_frame g e s (first_swept s +ℤ pos k)) near.1))))

endpoints_piece : {A : Type 0} (g : OfSymbol A) (from k : ℕ) (es : List EndpointConfig) (e : EndpointConfig) (s : ℤ) → slice_get es k ≡ Some e
    → IsPiece (of_endpoint (g (from + k) e) e s) (of_endpoints g from es s)
unfolding of_endpoints
endpoints_piece g from k [] e s at = absurd cc
endpoints_piece g from zero (f ∷ es) e s at =
    let same : f ≡ e = cc in
    let here : from + 0 ≡ from = omega arith in
    record {
      before = [];
      after = of_endpoints g (from + 1) es s;
      is = ap (λ (x : EndpointConfig). of_endpoint (g from x) x s ++ of_endpoints g (from + 1) es s) same
          ∙ ap (λ i. of_endpoint (g i e) e s ++ of_endpoints g (from + 1) es s) (sym here);
    }
endpoints_piece g from (suc k) (f ∷ es) e s at =
    let p = endpoints_piece g (from + 1) k es e s at in
    let there : from + 1 + k ≡ from + suc k = omega arith in
    record {
      before = of_endpoint (g from f) f s ++ p.before;
      after = p.after;
      is = ap (λ xs. of_endpoint (g from f) f s ++ xs) (p.is ∙ ap (λ i. p.before ++ (of_endpoint (g i e) e s ++ p.after)) there)
          ∙ sym (append_assoc (of_endpoint (g from f) f s) p.before (of_endpoint (g (from + suc k) e) e s ++ p.after));
    }

ticks_piece : {A : Type 0} (g : OfSymbol A) (es : List EndpointConfig) (from t end : ℤ) → from ≤ℤ t → t <ℤ end → IsPiece (at_tick g es t) (sweep g es from end)
unfolding sweep each_tick
ticks_piece g es from t end low high =
    let f = at_tick g es in
    let rest = int_gap (t +ℤ pos 1) end in
    record {
      before = each_tick from (int_gap from t) f;
      after = each_tick (t +ℤ pos 1) rest f;
      is = ap (λ n. each_tick from n f) (gap_parts from t end low high) ∙ ticks_split from (int_gap from t) (suc rest) f
          ∙ ap (λ u. each_tick from (int_gap from t) f ++ each_tick u (suc rest) f) (gap_is from t low);
    }

-- what is told of a symbol of an endpoint that starts from one tick on and before another
pub symbol_piece : {A : Type 0} (g : OfSymbol A) (es : List EndpointConfig) (ep : ℕ) (e : EndpointConfig) (slot : Slot) (symbol : ℕ) (from end : ℤ)
    → IsAt es ep e → IsShort e.numerology.kind → IsSlotOf e.numerology slot → symbol < symbols_of e.numerology
    → from ≤ℤ air_of e.numerology slot symbol → air_of e.numerology slot symbol <ℤ end → IsPiece (g ep e slot symbol) (sweep g es from end)
symbol_piece g es ep e slot symbol from end at short is h low high =
    let s = air_of e.numerology slot symbol in
    let index : 0 + ep ≡ ep = omega arith in
    inner (endpoint_piece (g ep e) e slot symbol short is h)
    (inner (subst (λ i. IsPiece (of_endpoint (g i e) e s) (at_tick g es s)) index (endpoints_piece g 0 ep es e s at)) (ticks_piece g es from s end low high))
