-- The symbols of a plan's lines, slot by slot, and then by their starts.
use Rattle.std.proofs.Common.{◌≡◌, ℕ, zero, suc, ℤ, pos, ◌+◌, ◌-◌, ◌<◌, ◌≤◌, inl, inr, Bool, true, false, not, ◌&&◌, ◌||◌, ◌==◌, cond, nat_lt, int_lt, if◌then◌else◌, List, [], ◌∷◌, ◌++◌, length, length-drop, length-take-le, filter, get_or, take, drop, Some, refl, ap, sym, ◌∙◌, subst, arith}
use Rattle.std.specs.List.{AllPairs, list_any, slice_get}
use Rattle.std.specs.List.Sorted.{IsSortedBy, ties}
use Rattle.std.specs.Cmp.{IsStrictWeakOrder}
use Rattle.std.specs.Ordering.{int_cmp, int_eq, is_lt}
use Rattle.std.specs.declared.cmp.Ordering.TheVariants.{Less, Equal, Greater}
use Rattle.std.proofs.lemmas.Bool.{cases_Bool, eq-eqb, lt-ltb, or_left}
use Rattle.std.proofs.lemmas.Bool.Decides.{nat_tests}
use Rattle.std.proofs.lemmas.Cmp.{int_cmp_total}
use Rattle.std.proofs.lemmas.Int.{ints}
use Rattle.std.proofs.lemmas.List.Sorted.{ranks_by}
use Rattle.std.proofs.lemmas.Option.{get_or_from_slice_get, slice_get-get_or, slice_get_within}
use Rattle.fh_base.specs.Air.{air_of}
use Rattle.fh_base.specs.Numbering.{symbols_of}
use Rattle.fh_base.specs.declared.values.Slot.{Slot}
use Rattle.window_config.specs.declared.endpoints.EndpointConfig.{EndpointConfig}
use Rattle.unit_model.specs.Claims.{is_from, same_slot}
use Rattle.fh_base.specs.Lists.{each}
use Rattle.unit_model.specs.Order.{comes_before, slot_before}
use Rattle.unit_model.specs.Proper.{IsAt, IsSlot}
use Rattle.unit_laws.proofs.FarLemmas.{endpoints_equal}
use Rattle.du_intake.specs.Lines.{AreLinesInOrder, has_symbol, home_before, is_home, lines_at, same_home}
use Rattle.du_intake.specs.Listing.{AreAscending, AreInTurn, AreSymbols, ComesFirst, IsListedIn, IsSlotEnd, IsStableByStart, IsSymbolOf, PrecedesSymbol, starts_before, symbol_first}
use Rattle.du_intake.specs.Symbols.{AreLines, lines_in, planned_start, symbol_if, symbols_in}
use Rattle.du_intake.specs.declared.lines.UplinkLine.{UplinkLine}
use Rattle.du_intake.specs.declared.symbols.PlannedSymbol.{PlannedSymbol}
use Rattle.du_intake.proofs.HomeLemmas.{apart, home_cases, home_from, home_is}
use Rattle.du_intake.proofs.ListLemmas.{pairs_append, pairs_both, sorted_pairs, stable_pairs, stays_in, was_in, pairs_weaker, some_same}
use Rattle.unit_model.proofs.ClaimLemmas.{slot_self as slot_own}
use Rattle.fh_base.specs.Members.{IsIn}
use Rattle.fh_base.proofs.MemberLemmas.{in_either, in_filter, in_left, in_right, any_in}
use Rattle.fh_base.proofs.MadeLists.{at_in, in_each, of_each}

-- ---- lists

-- a filter that keeps a range
pub filter_range : {X : Type 0} (t : X → Bool) (xs : List X) (a b : ℕ) → a ≤ b → b ≤ length xs → ((k : ℕ) (x : X) → k < a → slice_get xs k ≡ Some x → t x ≡ false)
    → ((k : ℕ) (x : X) → a ≤ k → k < b → slice_get xs k ≡ Some x → t x ≡ true) → ((k : ℕ) (x : X) → b ≤ k → slice_get xs k ≡ Some x → t x ≡ false)
    → filter t xs ≡ take (b - a) (drop a xs)
filter_range t [] zero zero ab bl low mid high = refl
filter_range t [] zero (suc b) ab bl low mid high = absurd (omega arith)
filter_range t [] (suc a) zero ab bl low mid high = absurd (omega arith)
filter_range t [] (suc a) (suc b) ab bl low mid high = absurd (omega arith)
filter_range t (x ∷ xs) zero zero ab bl low mid high =
    let off = high 0 x (omega arith) refl in
    rw off (filter_range t xs 0 0 (omega arith) (omega arith) (λ k y h e. absurd (omega arith)) (λ k y h g e. absurd (omega arith)) (λ k y h e. high (suc k) y (omega arith) e))
filter_range {X = X} t (x ∷ xs) zero (suc b) ab bl low mid high =
    let on = mid 0 x (omega arith) (omega arith) refl in
    let all : suc b - 0 ≡ suc b = omega arith in
    let same : b - 0 ≡ b = omega arith in
    let rest = filter_range t xs 0 b (omega arith) (omega (arith, bl)) (λ k y h e. absurd (omega arith)) (λ k y h g e. mid (suc k) y (omega arith) (omega (arith, g)) e)
    (λ k y h e. high (suc k) y (omega (arith, h)) e) in
    rw (on, all) (ap (λ (ys : List X). x ∷ ys) (rest ∙ ap (λ (n : ℕ). take n xs) same))
filter_range t (x ∷ xs) (suc a) zero ab bl low mid high = absurd (omega (arith, ab))
filter_range t (x ∷ xs) (suc a) (suc b) ab bl low mid high =
    let off = low 0 x (omega arith) refl in
    let same : suc b - suc a ≡ b - a = omega arith in
    rw (off, same)
    (filter_range t xs a b (omega (arith, ab)) (omega (arith, bl)) (λ k y h e. low (suc k) y (omega (arith, h)) e) (λ k y h g e. mid (suc k) y (omega (arith, h)) (omega (arith, g)) e)
    (λ k y h e. high (suc k) y (omega (arith, h)) e))

-- ---- one slot

swap_home : (a b : UplinkLine) → same_home a b ≡ false → same_home b a ≡ false
swap_home a b h = elim (cases_Bool (same_home b a)) [
  | inr f ↦ f
  | inl t ↦ let e = home_is a.ep a.slot b t in let s = home_from b.ep b.slot a (sym e.0) (sym e.1) in absurd cc
]

-- no line before the n-th is of the slot of one from there on
abbrev pub IsBoundary : List UplinkLine → ℕ → Type 0
IsBoundary ls n = (i j : ℕ) (a b : UplinkLine) → i < n → n ≤ j → slice_get ls i ≡ Some a → slice_get ls j ≡ Some b → same_home b a ≡ false

pub boundary_end : (ls : List UplinkLine) (first end : ℕ) (head : UplinkLine) → AreLinesInOrder ls → IsSlotEnd ls first end → slice_get ls first ≡ Some head → IsBoundary ls first → IsBoundary ls end
boundary_end ls first end head order is at before i j a b low high at_i at_j = elim (cases_Bool (nat_lt i first)) [
  | inl e ↦ before i j a b (grind (arith, nat_tests)) (let o = is.order in omega (arith, o, high)) at_i at_j
  | inr e ↦
      let within : j < length ls = slice_get_within ls j b at_j in
      let z = get_or ls end b in
      let at_end : slice_get ls end ≡ Some z = slice_get-get_or ls end b (omega (arith, within, high)) in
      let over : same_home b head ≡ false = apart ls order first first end j head head z b (omega arith) is.order high at at at_end at_j (is.over head z at at_end) in
      let own = home_is head.ep head.slot a (is.same i head a (grind (arith, nat_tests)) low at at_i) in
      ap (λ (n : ℕ). is_home n a.slot b) own.0 ∙ ap (λ (s : Slot). is_home head.ep s b) own.1 ∙ over
]

-- the lines of a slot are those from its first one to its end
pub own_lines : (ls : List UplinkLine) (first end : ℕ) (head : UplinkLine) → AreLinesInOrder ls → IsSlotEnd ls first end → slice_get ls first ≡ Some head → IsBoundary ls first
    → take (end - first) (drop first ls) ≡ lines_at head.ep head.slot ls
own_lines ls first end head order is at before =
    let after = boundary_end ls first end head order is at before in
    let o = is.order in
    sym (filter_range (is_home head.ep head.slot) ls first end (omega (arith, o)) is.within
    (λ k x low e. swap_home head x (before k first x head low (omega arith) e at))
    (λ k x low high e. is.same k head x low high at e)
    (λ k x high e. after first k head x is.order high at e))

-- ---- its symbols

pub record IsOwnSymbol (e : EndpointConfig) (slot : Slot) (own : List UplinkLine) (first last : ℕ) (s : PlannedSymbol) : Type 0 where
  pub starts : s.start.0 ≡ air_of e.numerology slot s.symbol
  pub first_is : s.first ≡ first
  pub last_is : s.last ≡ last
  pub named : list_any (has_symbol s.symbol) own ≡ true

abbrev symbol_record : EndpointConfig → Slot → ℕ → ℕ → ℕ → PlannedSymbol
symbol_record e slot first last y = record { start = record { 0 = air_of e.numerology slot y }; first = first; last = last; symbol = y }

own_symbol : (e : EndpointConfig) (slot : Slot) (own : List UplinkLine) (first last y : ℕ) (s : PlannedSymbol) → IsIn s (symbol_if e slot own first last y)
    → (s.symbol ≡ y) × IsOwnSymbol e slot own first last s
own_symbol e slot own first last y s m = go (list_any (has_symbol y) own) refl m
  where
    go : (b : Bool) → list_any (has_symbol y) own ≡ b → IsIn s (let ss : List PlannedSymbol = if b then symbol_record e slot first last y ∷ [] else [] in ss)
        → (s.symbol ≡ y) × IsOwnSymbol e slot own first last s
    go false is m = absurd m
    go true is (inl here) =
        let symbol : s.symbol ≡ y = ap (λ (x : PlannedSymbol). x.symbol) here in (
          symbol,
          record {
            starts = ap (λ (x : PlannedSymbol). x.start.0) here ∙ ap (λ (n : ℕ). air_of e.numerology slot n) (sym symbol);
            first_is = ap (λ (x : PlannedSymbol). x.first) here;
            last_is = ap (λ (x : PlannedSymbol). x.last) here;
            named = ap (λ (n : ℕ). list_any (has_symbol n) own) symbol ∙ is;
          },
        )
    go true is (inr there) = absurd there

pub of_symbols : (e : EndpointConfig) (slot : Slot) (own : List UplinkLine) (first last : ℕ) (s : PlannedSymbol) → IsIn s (symbols_in e slot own first last)
    → IsOwnSymbol e slot own first last s
of_symbols e slot own first last s m =
    let w = of_each s 0 (symbols_of e.numerology) (symbol_if e slot own first last) m in (own_symbol e slot own first last w.0 s w.3).1

in_symbols : (e : EndpointConfig) (slot : Slot) (own : List UplinkLine) (first last y : ℕ) → y < symbols_of e.numerology → list_any (has_symbol y) own ≡ true
    → IsIn (symbol_record e slot first last y) (symbols_in e slot own first last)
in_symbols e slot own first last y below is =
    in_each (symbol_record e slot first last y) 0 (symbols_of e.numerology) y (symbol_if e slot own first last) (omega arith) (omega (arith, below))
    (subst (λ (b : Bool). IsIn (symbol_record e slot first last y) (let ss : List PlannedSymbol = if b then symbol_record e slot first last y ∷ [] else [] in ss)) (sym is) (inl refl))

-- they are in the order of their numbers
by_number : (e : EndpointConfig) (slot : Slot) (own : List UplinkLine) (first last from n : ℕ) → AllPairs (λ p q. p.symbol < q.symbol) (each from n (symbol_if e slot own first last))
unfolding each
by_number e slot own first last from zero = λ i j d low high. absurd (omega (arith, high))
by_number e slot own first last from (suc n) =
    pairs_append (λ (p q : PlannedSymbol). p.symbol < q.symbol) (symbol_if e slot own first last from) (each (from + 1) n (symbol_if e slot own first last))
    (alone (list_any (has_symbol from) own)) (by_number e slot own first last (from + 1) n) (λ p q m k.
    let w = of_each q (from + 1) n (symbol_if e slot own first last) k in
    let here = (own_symbol e slot own first last from p m).0 in
    let there = (own_symbol e slot own first last w.0 q w.3).0 in
    later p.symbol from w.0 q.symbol here w.1 there)
  where
    alone : (b : Bool) → AllPairs (λ (p q : PlannedSymbol). p.symbol < q.symbol) (let ss : List PlannedSymbol = if b then symbol_record e slot first last from ∷ [] else [] in ss)
    alone true = λ i j d low high. absurd (omega (arith, low, high))
    alone false = λ i j d low high. absurd (omega (arith, high))

    later : (p from k q : ℕ) → p ≡ from → from + 1 ≤ k → q ≡ k → p < q
    later p from k q a b d = omega arith

-- ---- the order of symbols

in_turn : (l e s r : Bool) → (l || (e && s)) ≡ true → (l || (e && (s || r))) ≡ true
in_turn true e s r h = refl
in_turn false true true r h = refl
in_turn false true false r h = cc
in_turn false false s r h = cc

earlier_slot : (a b : UplinkLine) (x y : ℕ) → home_before a b ≡ true → symbol_first a x b y ≡ true
earlier_slot a b x y h = in_turn (nat_lt a.ep b.ep) (a.ep == b.ep) (slot_before a.slot b.slot) (same_slot a.slot b.slot && nat_lt x y) h

or_rest : (l e r : Bool) → e ≡ true → r ≡ true → (l || (e && r)) ≡ true
or_rest true e r p q = refl
or_rest false e r p q = rw (p, q) refl

same_slot_first : (a : UplinkLine) (x y : ℕ) → x < y → symbol_first a x a y ≡ true
same_slot_first a x y lt =
    or_rest (nat_lt a.ep a.ep) (a.ep == a.ep) _ (eq-eqb a.ep a.ep refl) (or_rest (slot_before a.slot a.slot) (same_slot a.slot a.slot) _ (slot_own a.slot) (lt-ltb x y lt))

head_is : (ls : List UplinkLine) (first k : ℕ) (head a : UplinkLine) → slice_get ls first ≡ Some head → k ≡ first → slice_get ls k ≡ Some a → a ≡ head
head_is ls first k head a at same at_k = some_same (slice_get ls first) a head (ap (slice_get ls) (sym same) ∙ at_k) at

-- ---- one slot more

within_slot : (first num n most : ℕ) → is_from first num n ≡ true → first + num ≤ most → n < most
within_slot first num n most h k = grind (arith, nat_tests)

module _ (es : List EndpointConfig) (ls : List UplinkLine) (first end : ℕ) (head : UplinkLine) (e : EndpointConfig) (order : AreLinesInOrder ls) (lines : AreLines es ls)
    (is : IsSlotEnd ls first end) (at : slice_get ls first ≡ Some head) (at_endpoint : IsAt es head.ep e) (before : IsBoundary ls first) where
  abbrev more : List PlannedSymbol
  more = symbols_in e head.slot (take (end - first) (drop first ls)) first end

  own_are : take (end - first) (drop first ls) ≡ lines_at head.ep head.slot ls
  own_are = own_lines ls first end head order is at before

  new_each : (s : PlannedSymbol) → IsIn s more → IsSymbolOf es ls s × (s.last ≤ end)
  new_each s m =
      let o = of_symbols e head.slot (take (end - first) (drop first ls)) first end s m in
      let range : lines_in ls s ≡ take (end - first) (drop first ls) =
      ap (λ (n : ℕ). take (n - s.first) (drop s.first ls)) o.last_is ∙ ap (λ (n : ℕ). take (end - n) (drop n ls)) o.first_is in (
        record {
          head = head;
          at = ap (slice_get ls) o.first_is ∙ at;
          endpoint = e;
          at_endpoint = at_endpoint;
          starts = o.starts;
          order = (let a = o.first_is in let b = o.last_is in let r = is.order in omega (arith, a, b, r));
          within = (let b = o.last_is in let r = is.within in omega (arith, b, r));
          lines = range ∙ own_are;
          named = ap (list_any (has_symbol s.symbol)) range ∙ o.named;
        },
        (let b = o.last_is in omega (arith, b)),
      )

  new_all : (k symbol : ℕ) (l : UplinkLine) → first ≤ k → k < end → slice_get ls k ≡ Some l → has_symbol symbol l ≡ true → IsListedIn more k symbol
  new_all k symbol l low high at_k has =
      let there : IsIn l (take (end - first) (drop first ls)) =
      subst (IsIn l) (sym own_are) (in_filter (is_home head.ep head.slot) l ls (at_in k l ls at_k) (is.same k head l low high at at_k)) in
      let home = home_is head.ep head.slot l (is.same k head l low high at at_k) in
      let line = lines k l at_k in
      let same : line.endpoint ≡ e = endpoints_equal es l.ep head.ep line.endpoint e line.at at_endpoint home.0 in
      record {
        s = symbol_record e head.slot first end symbol;
        there =
            in_symbols e head.slot (take (end - first) (drop first ls)) first end symbol
            (subst (λ (f : EndpointConfig). symbol < symbols_of f.numerology) same (within_slot l.symbol l.num_symbol symbol _ has line.within))
            (any_in (has_symbol symbol) l (take (end - first) (drop first ls)) there has);
        symbol_is = refl;
        low = low;
        high = high;
      }

  new_order : AllPairs (PrecedesSymbol ls) more
  new_order =
      pairs_weaker (λ (p q : PlannedSymbol). p.symbol < q.symbol) (PrecedesSymbol ls) more
      (λ p q m n less a b at_a at_b.
      let op = of_symbols e head.slot (take (end - first) (drop first ls)) first end p m in
      let oq = of_symbols e head.slot (take (end - first) (drop first ls)) first end q n in
      let ea : a ≡ head = head_is ls first p.first head a at op.first_is at_a in
      let eb : b ≡ head = head_is ls first q.first head b at oq.first_is at_b in
      ap (λ (x : UplinkLine). symbol_first x p.symbol b q.symbol) ea ∙ ap (λ (x : UplinkLine). symbol_first head p.symbol x q.symbol) eb ∙ same_slot_first head p.symbol q.symbol less)
      (by_number e head.slot (take (end - first) (drop first ls)) first end 0 (symbols_of e.numerology))

  pub symbols_more : (ss : List PlannedSymbol) → AreSymbols es ls first ss → AreSymbols es ls end (ss ++ more)
  symbols_more ss so_far = record {
    each = λ s m. elim (in_either s ss more m) [
      | inl old ↦ (let w = so_far.each s old in let few = w.1 in let r = is.order in (w.0, omega (arith, few, r)))
      | inr new ↦ new_each s new
    ];
    all = λ k symbol l below at_k has. elim (cases_Bool (nat_lt k first)) [
      | inl t ↦ (let w = so_far.all k symbol l (grind (arith, nat_tests)) at_k has in
          record { s = w.s; there = in_left w.s ss more w.there; symbol_is = w.symbol_is; low = w.low; high = w.high })
      | inr f ↦ (let w = new_all k symbol l (grind (arith, nat_tests)) below at_k has in
          record { s = w.s; there = in_right w.s ss more w.there; symbol_is = w.symbol_is; low = w.low; high = w.high })
    ];
    order = pairs_append (PrecedesSymbol ls) ss more so_far.order new_order (λ p q m n. between p q m n);
  }
    where
      between : (p q : PlannedSymbol) → IsIn p ss → IsIn q more → PrecedesSymbol ls p q
      between p q m n a b at_a at_b =
          let w = so_far.each p m in
          let oq = of_symbols e head.slot (take (end - first) (drop first ls)) first end q n in
          let eb : b ≡ head = head_is ls first q.first head b at oq.first_is at_b in
          let less : p.first < first = (let r = w.0.order in let few = w.1 in omega (arith, r, few)) in
          let ha : home_before head a ≡ false = order p.first first a head less at_a at in
          let other : same_home head a ≡ false = before p.first first a head less (omega arith) at_a at in
          let first_is : home_before a head ≡ true = elim (cases_Bool (home_before a head)) [
            | inl t ↦ t
            | inr f ↦ (let same = home_cases head a ha f in absurd cc)
          ] in
          ap (λ (x : UplinkLine). symbol_first a p.symbol x q.symbol) eb ∙ earlier_slot a head p.symbol q.symbol first_is

-- ---- by their starts

pub start_ranks : IsStrictWeakOrder starts_before
start_ranks = ranks_by int_cmp_total (λ (s : PlannedSymbol). s.start.0)

pub ascending : (ss : List PlannedSymbol) → IsSortedBy starts_before ss → AreAscending ss
ascending ss h = sorted_pairs starts_before start_ranks ss h

pub are_in_turn : (es : List EndpointConfig) (ls : List UplinkLine) (old new : List PlannedSymbol) → AreSymbols es ls (length ls) old → AreAscending new → IsStableByStart old new
    → AreInTurn es ls new
are_in_turn es ls old new all up stable = record {
  each = λ s m. (all.each s (was_in starts_before start_ranks old new stable s m)).0;
  all = λ k symbol l at has.
      (let w = all.all k symbol l (slice_get_within ls k l at) at has in
      record { s = w.s; there = stays_in starts_before start_ranks old new stable w.s w.there; symbol_is = w.symbol_is; low = w.low; high = w.high });
  order = pairs_both (λ (p q : PlannedSymbol). starts_before q p ≡ false) (λ (p q : PlannedSymbol). ties starts_before p q ≡ true → PrecedesSymbol ls p q) new up
      (stable_pairs starts_before start_ranks (PrecedesSymbol ls) old new all.order stable);
}

int_last : (x y : ℤ) → is_lt (int_cmp x y) ≡ int_lt x y
int_last x y = go (int_lt x y) (int_lt y x)
  where
    go : (l g : Bool) → is_lt (cond l Less (cond g Greater Equal)) ≡ l
    go true g = refl
    go false true = refl
    go false false = refl

both_not : (a b : Bool) → a ≡ false → b ≡ false → (not a && not b) ≡ true
both_not a b h k = rw (h, k) refl

is_equal : (x y : ℤ) → int_lt x y ≡ false → int_lt y x ≡ false → int_eq x y ≡ true
is_equal x y e f = grind (arith, ints)

pub comes_first : (ls : List UplinkLine) (p q : PlannedSymbol) (a b : UplinkLine) (e f : EndpointConfig) → ComesFirst ls p q → slice_get ls p.first ≡ Some a → slice_get ls q.first ≡ Some b
    → comes_before (planned_start p a e) (planned_start q b f) ≡ true
comes_first ls p q a b e f h at_a at_b =
    let qp : int_lt q.start.0 p.start.0 ≡ false = sym (int_last q.start.0 p.start.0) ∙ h.0 in
    elim (cases_Bool (int_lt p.start.0 q.start.0)) [
      | inl t ↦ or_left (int_lt p.start.0 q.start.0) _ t
      | inr n ↦
          or_rest (int_lt p.start.0 q.start.0) (int_eq p.start.0 q.start.0) _ (is_equal p.start.0 q.start.0 n qp)
          (h.1 (both_not (starts_before p q) (starts_before q p) (int_last p.start.0 q.start.0 ∙ n) h.0) a b at_a at_b)
    ]

-- ---- the end of a slot's lines, line by line

abbrev pub AreSameTo : List UplinkLine → ℕ → ℕ → Type 0
AreSameTo ls first k = (j : ℕ) (a x : UplinkLine) → first ≤ j → j < k → slice_get ls first ≡ Some a → slice_get ls j ≡ Some x → same_home x a ≡ true

pub same_more : (ls : List UplinkLine) (first k : ℕ) (d : UplinkLine) → AreSameTo ls first k → same_home (get_or ls k d) (get_or ls first d) ≡ true → AreSameTo ls first (k + 1)
same_more ls first k d so_far same j a x low high at_first at_j = elim (cases_Bool (nat_lt j k)) [
  | inl t ↦ so_far j a x low (grind (arith, nat_tests)) at_first at_j
  | inr f ↦
      let here : j ≡ k = last j k high f in
      let ea : get_or ls first d ≡ a = get_or_from_slice_get ls first a d at_first in
      let ex : get_or ls k d ≡ x = ap (λ (n : ℕ). get_or ls n d) (sym here) ∙ get_or_from_slice_get ls j x d at_j in
      subst (λ (z : UplinkLine). same_home x z ≡ true) ea (subst (λ (z : UplinkLine). same_home z (get_or ls first d) ≡ true) ex same)
]
  where
    last : (j k : ℕ) → j < k + 1 → nat_lt j k ≡ false → j ≡ k
    last j k h e = grind (arith, nat_tests)

pub end_is : (ls : List UplinkLine) (first k : ℕ) → first < length ls → first + 1 ≤ k → k ≤ length ls → length ls ≤ k → AreSameTo ls first k → IsSlotEnd ls first (length ls)
end_is ls first k some low high over same = record {
  order = some;
  within = omega arith;
  same = λ j a x above below at_first at_j. same j a x above (omega (arith, over, below)) at_first at_j;
  over = λ a x at_first at_end. (let below = slice_get_within ls (length ls) x at_end in absurd (omega (arith, below)));
}

-- ---- slot after slot

-- a line of nothing
abbrev pub blank : UplinkLine
blank = record { ep = 0; slot = record { frame = pos 0; subframe = 0; slot = 0 }; first_prb = 0; prbs = 0; mask = 0; section = 0; symbol = 0; num_symbol = 0 }

pub endpoint_below : (es : List EndpointConfig) (ls : List UplinkLine) (first : ℕ) (d : UplinkLine) → AreLines es ls → first < length ls → (get_or ls first d).ep < length es
endpoint_below es ls first d lines below =
    let line = lines first (get_or ls first d) (slice_get-get_or ls first d below) in slice_get_within es (get_or ls first d).ep line.endpoint line.at

pub endpoint_at : (es : List EndpointConfig) (ep : ℕ) (e : EndpointConfig) → ep < length es → e ≡ get_or es ep e → IsAt es ep e
endpoint_at es ep e below is = slice_get-get_or es ep e below ∙ ap (λ (x : EndpointConfig). Some x) (sym is)

pub slot_of : (es : List EndpointConfig) (ls : List UplinkLine) (first : ℕ) (d : UplinkLine) (e : EndpointConfig) → AreLines es ls → first < length ls → IsAt es (get_or ls first d).ep e
    → IsSlot e.numerology (get_or ls first d).slot
slot_of es ls first d e lines below at =
    let head = get_or ls first d in
    let line = lines first head (slice_get-get_or ls first d below) in
    subst (λ (f : EndpointConfig). IsSlot f.numerology head.slot) (endpoints_equal es head.ep head.ep line.endpoint e line.at at refl) line.slot_is

own_length : (ls : List UplinkLine) (first end : ℕ) → first < end → end ≤ length ls → first + length (take (end - first) (drop first ls)) ≡ end
own_length ls first end less within =
    let long = length-drop first ls in
    let few = length-take-le (end - first) (drop first ls) (omega (arith, long)) in
    omega (arith, few)

pub listed_more : (es : List EndpointConfig) (ls : List UplinkLine) (first end : ℕ) (d : UplinkLine) (e : EndpointConfig) (old new : List PlannedSymbol) → AreLinesInOrder ls → AreLines es ls
    → IsSlotEnd ls first end → IsAt es (get_or ls first d).ep e → IsBoundary ls first → AreSymbols es ls first old
    → new ≡ old ++ symbols_in e (get_or ls first d).slot (take (end - first) (drop first ls)) first (first + length (take (end - first) (drop first ls)))
    → AreSymbols es ls end new
listed_more es ls first end d e old new order lines is at before so_far same =
    let o = is.order in
    let w = is.within in
    let head = get_or ls first d in
    let own = take (end - first) (drop first ls) in
    let last = own_length ls first end o w in
    let below : first < length ls = omega (arith, o, w) in
    subst (AreSymbols es ls end) (sym (same ∙ ap (λ (n : ℕ). old ++ symbols_in e head.slot own first n) last))
    (symbols_more es ls first end head e order lines is (slice_get-get_or ls first d below) at before old so_far)

pub boundary_more : (ls : List UplinkLine) (first end : ℕ) (d : UplinkLine) → AreLinesInOrder ls → IsSlotEnd ls first end → IsBoundary ls first → IsBoundary ls end
boundary_more ls first end d order is before =
    let o = is.order in
    let w = is.within in
    let below : first < length ls = omega (arith, o, w) in
    boundary_end ls first end (get_or ls first d) order is (slice_get-get_or ls first d below) before
