-- What is first in a sweep over symbols.
use Rattle.std.proofs.Common.{◌≡◌, ℕ, ℤ, pos, zero, suc, ◌+◌, ◌<◌, ◌≤◌, ◌+ℤ◌, ◌≤ℤ◌, ◌<ℤ◌, Bool, true, false, inl, inr, List, [], ◌∷◌, ◌++◌, Option, Some, refl, sym, ap, ap₂, ◌∙◌, subst, arith, append_assoc, append-nil}
use Rattle.std.specs.Prelude.{if◌then◌else◌, unwrap_or}
use Rattle.std.specs.Int.{int_gap}
use Rattle.std.specs.Ordering.{int_eq}
use Rattle.std.proofs.lemmas.Bool.{cases_lt}
use Rattle.std.proofs.lemmas.Bool.Decides.{Decides-int_eq}
use Rattle.std.proofs.lemmas.Int.{ints}
use Rattle.fh_base.specs.Air.{air_of}
use Rattle.fh_base.specs.Numbering.{IsSlotOf, slots_of, symbols_of}
use Rattle.fh_base.specs.declared.values.Slot.{Slot}
use Rattle.window_config.specs.declared.endpoints.EndpointConfig.{EndpointConfig}
use Rattle.fh_base.specs.Lists.{each}
use Rattle.unit_model.specs.Order.{comes_before, symbol_before}
use Rattle.unit_model.specs.Proper.{IsAt}
use Rattle.unit_model.specs.Sweeps.{OfSymbol, at_tick, first_swept, of_endpoint, of_endpoints, of_frame, of_slot, of_subframe, of_symbol, slot_at, sweep}
use Rattle.unit_model.specs.declared.symbol_start.SymbolStart.{SymbolStart}
use Rattle.unit_model.proofs.SweepLaws.{sweep_next, sweep_quiet as sweep-nothing}
use Rattle.unit_model.specs.Swept.{IsSwept}
use Rattle.unit_model.proofs.SweepLemmas.{IsKept, each_related, of_endpoints_related, of_endpoint_related, of_frame_related, of_slot_related, of_subframe_related, of_symbol_related, sweep-same, tick-nothing}
use Rattle.unit_laws.specs.First.{FirstIsFirst, IsQuietBefore, IsSameAfter, IsSweptIn, NothingIsNothing, told_of}
use Rattle.unit_laws.proofs.BeforeLemmas.{endpoint_before, frame_before, own_before, slot_comes_before, subframe_before, symbol_comes_before}
use Rattle.fh_base.proofs.Orders.{beyond_next as after_next}
use Rattle.unit_model.proofs.ClaimLemmas.{start_before}
use Rattle.fh_base.proofs.EachLemmas.{gap_is}

-- ---- two lists

abbrev AreNone : {A : Type 0} → List A → List A → Type 0
AreNone xs ys = (xs ≡ []) × (ys ≡ [])

abbrev AreSame : {A : Type 0} → List A → List A → Type 0
AreSame xs ys = ys ≡ xs

none_kept : {A : Type 0} → IsKept {A = A} {B = A} (λ xs ys. AreNone xs ys)
none_kept = record { none = (refl, refl); more = λ xs xs' ys ys' p q. (ap₂ ◌++◌ p.0 q.0, ap₂ ◌++◌ p.1 q.1) }

same_kept : {A : Type 0} → IsKept {A = A} {B = A} (λ xs ys. AreSame xs ys)
same_kept = record { none = refl; more = λ xs xs' ys ys' p q. ap₂ ◌++◌ p q }

-- they begin with these and go on alike
record Begin {A : Type 0} (x y xs ys : List A) : Type 0 where
  rest : List A
  one : xs ≡ x ++ rest
  other : ys ≡ y ++ rest

themselves : {A : Type 0} (x y : List A) → Begin x y x y
themselves x y = record { rest = []; one = sym (append-nil x); other = sym (append-nil y) }

behind_none : {A : Type 0} (x y a b xs ys : List A) → AreNone a b → Begin x y xs ys → Begin x y (a ++ xs) (b ++ ys)
behind_none x y a b xs ys none r =
    record { rest = r.rest; one = ap (λ zs. zs ++ xs) none.0 ∙ r.one; other = ap (λ zs. zs ++ ys) none.1 ∙ r.other }

if_told : {A : Type 0} (b : Bool) (x y : List A) → b ≡ true → Begin x y (if b then x else []) (if b then y else [])
if_told true x y is = themselves x y
if_told false x y is = absurd cc

before_same : {A : Type 0} (x y xs ys a b : List A) → Begin x y xs ys → AreSame a b → Begin x y (xs ++ a) (ys ++ b)
before_same x y xs ys a b r same = record {
  rest = r.rest ++ a;
  one = ap (λ zs. zs ++ a) r.one ∙ append_assoc x r.rest a;
  other = ap (λ zs. ys ++ zs) same ∙ ap (λ zs. zs ++ a) r.other ∙ append_assoc y r.rest a;
}

-- ---- over numbers

each_first : {A : Type 0} (from n k : ℕ) (f g : ℕ → List A) (x y : List A) → from ≤ k → k < from + n
    → ((j : ℕ) → j < k → j < from + n → AreNone (f j) (g j)) → ((j : ℕ) → k < j → j < from + n → AreSame (f j) (g j)) → Begin x y (f k) (g k)
    → Begin x y (each from n f) (each from n g)
unfolding each
each_first from zero k f g x y low high before after here = absurd (omega arith)
each_first from (suc n) k f g x y low high before after here = elim (cases_lt from k) [
  | inl earlier ↦
      behind_none x y (f from) (g from) (each (from + 1) n f) (each (from + 1) n g) (before from earlier (omega arith))
      (each_first (from + 1) n k f g x y (omega arith) (omega arith) (λ j less within. before j less (omega arith)) (λ j more within. after j more (omega arith)) here)
  | inr not_earlier ↦
      let is : k ≡ from = omega arith in
      before_same x y (f from) (g from) (each (from + 1) n f) (each (from + 1) n g) (subst (λ (j : ℕ). Begin x y (f j) (g j)) is here)
      (each_related (λ xs ys. AreSame xs ys) same_kept (from + 1) n f g (λ j above below. after j (omega arith) (omega arith)))
]

-- ---- over the symbols of an endpoint

-- a symbol of an endpoint that is gone over at a tick
record IsOver (e : EndpointConfig) (s : ℤ) (slot : Slot) (symbol : ℕ) : Type 0 where
  low : first_swept s ≤ℤ slot.frame
  high : slot.frame <ℤ (first_swept s +ℤ pos 6)
  slot_is : IsSlotOf e.numerology slot
  symbol_is : symbol < symbols_of e.numerology
  starts : air_of e.numerology slot symbol ≡ s

last_frame : (first frame : ℤ) (k : ℕ) → first +ℤ pos k ≡ frame → frame <ℤ (first +ℤ pos 6) → k < 6
last_frame first frame k is high = omega (arith, ints)

frame_low : (first frame : ℤ) (k : ℕ) → frame ≡ first +ℤ pos k → first ≤ℤ frame
frame_low first frame k is = omega (arith, ints)

frame_high : (first frame : ℤ) (k : ℕ) → frame ≡ first +ℤ pos k → k < 6 → frame <ℤ (first +ℤ pos 6)
frame_high first frame k is h = omega (arith, ints)

frames_less : (first a b : ℤ) (j k : ℕ) → a ≡ first +ℤ pos j → first +ℤ pos k ≡ b → j < k → a <ℤ b
frames_less first a b j k p q h = omega (arith, ints)

frames_more : (first a b : ℤ) (j k : ℕ) → a ≡ first +ℤ pos j → first +ℤ pos k ≡ b → k < j → b <ℤ a
frames_more first a b j k p q h = omega (arith, ints)

-- nothing is told of the symbols before one, and the same of those after it
abbrev IsQuiet : {A : Type 0} → (Slot → ℕ → List A) → (Slot → ℕ → List A) → EndpointConfig → ℤ → Slot → ℕ → Type 0
IsQuiet g h e s first y = (slot : Slot) (symbol : ℕ) → IsOver e s slot symbol → symbol_before slot symbol first y ≡ true → AreNone (g slot symbol) (h slot symbol)

abbrev IsSame : {A : Type 0} → (Slot → ℕ → List A) → (Slot → ℕ → List A) → EndpointConfig → ℤ → Slot → ℕ → Type 0
IsSame g h e s first y = (slot : Slot) (symbol : ℕ) → IsOver e s slot symbol → symbol_before first y slot symbol ≡ true → AreSame (g slot symbol) (h slot symbol)

module _ {A : Type 0} (g h : Slot → ℕ → List A) (e : EndpointConfig) (s : ℤ) (first : Slot) (y : ℕ)
    (here : IsOver e s first y) (quiet : IsQuiet g h e s first y) (same : IsSame g h e s first y) where
  abbrev IsFirst : List A → List A → Type 0
  IsFirst xs ys = Begin (g first y) (h first y) xs ys

  slot_first : IsFirst (of_slot g e s first) (of_slot h e s first)
  unfolding of_slot
  slot_first =
      each_first 0 (symbols_of e.numerology) y (of_symbol g e s first) (of_symbol h e s first) (g first y) (h first y) (omega arith) (omega (arith, here.symbol_is))
      (λ x less within. of_symbol_related (λ xs ys. AreNone xs ys) none_kept g h e s first x (λ starts.
      quiet first x (record { low = here.low; high = here.high; slot_is = here.slot_is; symbol_is = omega arith; starts = starts }) (symbol_comes_before first x y less)))
      (λ x more within. of_symbol_related (λ xs ys. AreSame xs ys) same_kept g h e s first x (λ starts.
      same first x (record { low = here.low; high = here.high; slot_is = here.slot_is; symbol_is = omega arith; starts = starts }) (symbol_comes_before first y x more)))
      (if_told (int_eq (air_of e.numerology first y) s) (g first y) (h first y) ((Decides-int_eq (air_of e.numerology first y) s).1 here.starts))

  -- a symbol of any slot in the same frame
  in_frame : (subframe slot symbol : ℕ) → subframe < 10 → slot < slots_of e.numerology → symbol < symbols_of e.numerology
      → air_of e.numerology (slot_at first.frame subframe slot) symbol ≡ s → IsOver e s (slot_at first.frame subframe slot) symbol
  in_frame subframe slot symbol a b c starts =
      record { low = here.low; high = here.high; slot_is = record { subframe = a; slot = b }; symbol_is = c; starts = starts }

  subframe_first : IsFirst (of_subframe g e s first.frame first.subframe) (of_subframe h e s first.frame first.subframe)
  unfolding of_subframe
  subframe_first =
      let at = slot_at first.frame first.subframe in
      each_first 0 (slots_of e.numerology) first.slot (λ slot. of_slot g e s (at slot)) (λ slot. of_slot h e s (at slot)) (g first y) (h first y) (omega arith)
      (omega (arith, here.slot_is.slot))
      (λ j less within. of_slot_related (λ xs ys. AreNone xs ys) none_kept g h e s (at j) (λ symbol below starts.
      quiet (at j) symbol (in_frame first.subframe j symbol here.slot_is.subframe (omega arith) below starts) (slot_comes_before (at j) first symbol y refl refl less)))
      (λ j more within. of_slot_related (λ xs ys. AreSame xs ys) same_kept g h e s (at j) (λ symbol below starts.
      same (at j) symbol (in_frame first.subframe j symbol here.slot_is.subframe (omega arith) below starts) (slot_comes_before first (at j) y symbol refl refl more)))
      slot_first

  frame_first : IsFirst (of_frame g e s first.frame) (of_frame h e s first.frame)
  unfolding of_frame
  frame_first =
      each_first 0 10 first.subframe (of_subframe g e s first.frame) (of_subframe h e s first.frame) (g first y) (h first y) (omega arith) (omega (arith, here.slot_is.subframe))
      (λ j less within. of_subframe_related (λ xs ys. AreNone xs ys) none_kept g h e s first.frame j (λ slot symbol in_subframe below starts.
      let at = slot_at first.frame j slot in
      quiet at symbol (in_frame j slot symbol (omega arith) in_subframe below starts) (subframe_before at first symbol y refl less)))
      (λ j more within. of_subframe_related (λ xs ys. AreSame xs ys) same_kept g h e s first.frame j (λ slot symbol in_subframe below starts.
      let at = slot_at first.frame j slot in
      same at symbol (in_frame j slot symbol (omega arith) in_subframe below starts) (subframe_before first at y symbol refl more)))
      subframe_first

  endpoint_first : IsFirst (of_endpoint g e s) (of_endpoint h e s)
  unfolding of_endpoint
  endpoint_first =
      let start = first_swept s in
      let k = int_gap start first.frame in
      let is : start +ℤ pos k ≡ first.frame = gap_is start first.frame here.low in
      each_first 0 6 k (λ j. of_frame g e s (start +ℤ pos j)) (λ j. of_frame h e s (start +ℤ pos j)) (g first y) (h first y) (omega arith)
      (last_frame start first.frame k is here.high)
      (λ j less within. of_frame_related (λ xs ys. AreNone xs ys) none_kept g h e s (start +ℤ pos j) (λ slot symbol frame slot_is below starts.
      quiet slot symbol
      (record { low = frame_low start slot.frame j frame; high = frame_high start slot.frame j frame within; slot_is = slot_is; symbol_is = below; starts = starts })
      (frame_before slot first symbol y (frames_less start slot.frame first.frame j k frame is less))))
      (λ j more within. of_frame_related (λ xs ys. AreSame xs ys) same_kept g h e s (start +ℤ pos j) (λ slot symbol frame slot_is below starts.
      same slot symbol
      (record { low = frame_low start slot.frame j frame; high = frame_high start slot.frame j frame within; slot_is = slot_is; symbol_is = below; starts = starts })
      (frame_before first slot y symbol (frames_more start slot.frame first.frame j k frame is more))))
      (subst (λ (z : ℤ). IsFirst (of_frame g e s z) (of_frame h e s z)) (sym is) frame_first)

-- ---- over the endpoints

-- two functions are so related in each symbol that is gone over
abbrev InEach : {A : Type 0} → (List A → List A → Type 0) → (Slot → ℕ → List A) → (Slot → ℕ → List A) → EndpointConfig → ℤ → Type 0
InEach R g h e s = (slot : Slot) (symbol : ℕ) → IsOver e s slot symbol → R (g slot symbol) (h slot symbol)

endpoint_all : {A : Type 0} (R : List A → List A → Type 0) (kept : IsKept R) (g h : Slot → ℕ → List A) (e : EndpointConfig) (s : ℤ) → InEach R g h e s
    → R (of_endpoint g e s) (of_endpoint h e s)
endpoint_all R kept g h e s r = of_endpoint_related R kept g h e s (λ slot symbol low high slot_is symbol_is starts.
    r slot symbol (record { low = low; high = high; slot_is = slot_is; symbol_is = symbol_is; starts = starts }))

the_same : (e f : EndpointConfig) → Some f ≡ Some e → f ≡ e
the_same e f h = ap (λ (o : Option EndpointConfig). unwrap_or o f) h

endpoints_first : {A : Type 0} (g h : OfSymbol A) (start i : ℕ) (es : List EndpointConfig) (s : ℤ) (e : EndpointConfig) (x y : List A) → IsAt es i e
    → ((ep j : ℕ) (f : EndpointConfig) → ep ≡ start + j → IsAt es j f → j < i → InEach (λ xs ys. AreNone xs ys) (g ep f) (h ep f) f s)
    → ((ep j : ℕ) (f : EndpointConfig) → ep ≡ start + j → IsAt es j f → i < j → InEach (λ xs ys. AreSame xs ys) (g ep f) (h ep f) f s)
    → ((ep : ℕ) → ep ≡ start + i → Begin x y (of_endpoint (g ep e) e s) (of_endpoint (h ep e) e s))
    → Begin x y (of_endpoints g start es s) (of_endpoints h start es s)
unfolding of_endpoints
endpoints_first g h start i [] s e x y at before after here = absurd cc
endpoints_first g h start zero (f ∷ fs) s e x y at before after here =
    before_same x y (of_endpoint (g start f) f s) (of_endpoint (h start f) f s) (of_endpoints g (start + 1) fs s) (of_endpoints h (start + 1) fs s)
    (subst (λ (d : EndpointConfig). Begin x y (of_endpoint (g start d) d s) (of_endpoint (h start d) d s)) (sym (the_same e f at)) (here start (omega arith)))
    (of_endpoints_related (λ xs ys. AreSame xs ys) same_kept g h (start + 1) fs s (λ ep j d is there slot symbol low high slot_is symbol_is starts.
    after ep (suc j) d (omega arith) there (omega arith) slot symbol
    (record { low = low; high = high; slot_is = slot_is; symbol_is = symbol_is; starts = starts })))
endpoints_first g h start (suc i) (f ∷ fs) s e x y at before after here =
    behind_none x y (of_endpoint (g start f) f s) (of_endpoint (h start f) f s) (of_endpoints g (start + 1) fs s) (of_endpoints h (start + 1) fs s)
    (endpoint_all (λ xs ys. AreNone xs ys) none_kept (g start f) (h start f) f s (before start 0 f (omega arith) refl (omega arith)))
    (endpoints_first g h (start + 1) i fs s e x y at
    (λ ep j d is there less. before ep (suc j) d (omega arith) there (omega arith))
    (λ ep j d is there more. after ep (suc j) d (omega arith) there (omega arith))
    (λ ep is. here ep (omega arith)))

-- ---- over the ticks

abbrev symbol_at : ℕ → EndpointConfig → ℤ → Slot → ℕ → SymbolStart
symbol_at ep e s slot symbol = record { ep = ep; endpoint = e; start = record { 0 = s }; slot = slot; symbol = symbol }

no_earlier : (from s t : ℤ) → from ≤ℤ t → (t +ℤ pos 1) ≤ℤ s → from ≤ℤ s
no_earlier from s t a b = omega (arith, ints)

still_in : (s t end : ℤ) → s <ℤ t → t <ℤ end → s <ℤ end
still_in s t end a b = omega (arith, ints)

swept_at : (es : List EndpointConfig) (from end : ℤ) (ep : ℕ) (e : EndpointConfig) (s : ℤ) (slot : Slot) (symbol : ℕ) → from ≤ℤ s → s <ℤ end
    → IsSwept es ep e slot symbol s → IsSweptIn es from end (symbol_at ep e s slot symbol)
swept_at es from end ep e s slot symbol low high swept = record { swept = swept; low = low; high = high }

over_is : (es : List EndpointConfig) (ep : ℕ) (e : EndpointConfig) (s : ℤ) (slot : Slot) (symbol : ℕ) → IsAt es ep e → IsOver e s slot symbol → IsSwept es ep e slot symbol s
over_is es ep e s slot symbol at is =
    record { endpoint = at; slot_is = is.slot_is; symbol_is = is.symbol_is; frame_low = is.low; frame_high = is.high; starts = is.starts }

module _ {A : Type 0} (g h : OfSymbol A) (es : List EndpointConfig) (from end : ℤ) (first : SymbolStart) (here : IsSweptIn es from end first)
    (quiet_g : IsQuietBefore g es from end first) (quiet_h : IsQuietBefore h es from end first) (same : IsSameAfter g h es from end first) where
  none_before : (ep : ℕ) (e : EndpointConfig) (s : ℤ) (slot : Slot) (symbol : ℕ) → from ≤ℤ s → s <ℤ end → IsSwept es ep e slot symbol s
      → comes_before (symbol_at ep e s slot symbol) first ≡ true → AreNone (g ep e slot symbol) (h ep e slot symbol)
  none_before ep e s slot symbol low high swept before =
      let m = symbol_at ep e s slot symbol in
      let is = swept_at es from end ep e s slot symbol low high swept in
      (quiet_g m is before, quiet_h m is before)

  same_after : (ep : ℕ) (e : EndpointConfig) (s : ℤ) (slot : Slot) (symbol : ℕ) → from ≤ℤ s → s <ℤ end → IsSwept es ep e slot symbol s
      → comes_before first (symbol_at ep e s slot symbol) ≡ true → AreSame (g ep e slot symbol) (h ep e slot symbol)
  same_after ep e s slot symbol low high swept after = same (symbol_at ep e s slot symbol) (swept_at es from end ep e s slot symbol low high swept) after

  tick_first : Begin (told_of g first) (told_of h first) (at_tick g es first.start.0) (at_tick h es first.start.0)
  tick_first =
      let s = first.start.0 in
      let e = first.endpoint in
      let at = here.swept.endpoint in
      let over : IsOver e s first.slot first.symbol = record {
        low = here.swept.frame_low;
        high = here.swept.frame_high;
        slot_is = here.swept.slot_is;
        symbol_is = here.swept.symbol_is;
        starts = here.swept.starts;
      } in
      endpoints_first g h 0 first.ep es s e (told_of g first) (told_of h first) at
      (λ ep j f is there less slot symbol o.
      let index : j ≡ ep = omega arith in
      none_before ep f s slot symbol here.low here.high (over_is es ep f s slot symbol (subst (λ (k : ℕ). IsAt es k f) index there) o)
      (endpoint_before (symbol_at ep f s slot symbol) first refl (omega arith)))
      (λ ep j f is there more slot symbol o.
      let index : j ≡ ep = omega arith in
      same_after ep f s slot symbol here.low here.high (over_is es ep f s slot symbol (subst (λ (k : ℕ). IsAt es k f) index there) o)
      (endpoint_before first (symbol_at ep f s slot symbol) refl (omega arith)))
      (λ ep is.
      let index : first.ep ≡ ep = omega arith in
      subst (λ (k : ℕ). Begin (told_of g first) (told_of h first) (of_endpoint (g k e) e s) (of_endpoint (h k e) e s)) index
      (endpoint_first (g first.ep e) (h first.ep e) e s first.slot first.symbol over
      (λ slot symbol o before. none_before first.ep e s slot symbol here.low here.high (over_is es first.ep e s slot symbol at o)
      (own_before (symbol_at first.ep e s slot symbol) first refl refl before))
      (λ slot symbol o after. same_after first.ep e s slot symbol here.low here.high (over_is es first.ep e s slot symbol at o)
      (own_before first (symbol_at first.ep e s slot symbol) refl refl after))))

  quiet_ticks : (s : ℤ) → from ≤ℤ s → s <ℤ first.start.0 → AreNone (at_tick g es s) (at_tick h es s)
  quiet_ticks s low less =
      let high = still_in s first.start.0 end less here.high in (
        tick-nothing g es s (λ ep e slot symbol swept. (none_before ep e s slot symbol low high swept (start_before (symbol_at ep e s slot symbol) first less)).0),
        tick-nothing h es s (λ ep e slot symbol swept. (none_before ep e s slot symbol low high swept (start_before (symbol_at ep e s slot symbol) first less)).1),
      )

  all_first : Begin (told_of g first) (told_of h first) (sweep g es from end) (sweep h es from end)
  all_first =
      let s = first.start.0 in
      let next = s +ℤ pos 1 in
      let rest : sweep h es next end ≡ sweep g es next end = sweep-same h g es next end (λ ep e slot symbol t low high swept.
      same_after ep e t slot symbol (no_earlier from t s here.low low) high swept (start_before first (symbol_at ep e t slot symbol) (after_next s t low))) in
      let both = before_same (told_of g first) (told_of h first) (at_tick g es s) (at_tick h es s) (sweep g es next end) (sweep h es next end) tick_first rest in
      record {
        rest = both.rest;
        one = sweep_next g es from s end here.low here.high (λ t low less. (quiet_ticks t low less).0) ∙ both.one;
        other = sweep_next h es from s end here.low here.high (λ t low less. (quiet_ticks t low less).1) ∙ both.other;
      }

-- ---- what callers need

pub first_is_first : {A : Type 0} → FirstIsFirst A
first_is_first g h es from end first here quiet_g quiet_h same =
    let both = all_first g h es from end first here quiet_g quiet_h same in
    record { rest = both.rest; one = both.one; other = both.other }

pub nothing_is_nothing : {A : Type 0} → NothingIsNothing A
nothing_is_nothing g es from end none =
    sweep-nothing g es from end (λ s low high. tick-nothing g es s (λ ep e slot symbol swept.
    none (symbol_at ep e s slot symbol) (swept_at es from end ep e s slot symbol low high swept)))
