-- How searches over some symbols go on to one over all.
use Rattle.std.proofs.Common.{◌≡◌, ℕ, ℤ, ◌+◌, ◌<◌, ◌≤◌, ◌≤ℤ◌, ◌<ℤ◌, Bool, true, false, inl, inr, refl, sym, ap, ◌∙◌, subst, arith, length, Option, Some, None}
use Rattle.std.specs.Prelude.{IfSome, ◌&&◌, ◌||◌, ◌==◌, nat_lt, int_lt}
use Rattle.std.specs.Ordering.{int_eq}
use Rattle.std.proofs.lemmas.Int.{ints}
use Rattle.std.proofs.lemmas.Bool.Decides.{nat_tests, Decides-int_eq}
use Rattle.fh_base.specs.declared.values.Ticks.{Ticks}
use Rattle.std.proofs.lemmas.Bool.{cases_eq, cases_lt, false_from_ne_true}
use Rattle.std.proofs.lemmas.Option.{slice_get_within}
use Rattle.fh_base.specs.declared.values.Slot.{Slot}
use Rattle.fh_base.specs.Numbering.{symbols_of}
use Rattle.fh_base.proofs.Order.{symbols_in_order}
use Rattle.unit_model.specs.Order.{comes_before, symbol_before}
use Rattle.unit_model.specs.declared.symbol_start.SymbolStart.{SymbolStart}
use Rattle.unit_model.specs.Proper.{IsAt}
use Rattle.unit_cells.specs.Cells.{CellsValue, endpoints_of}
use Rattle.unit_cells.proofs.RingsLemmas.{ring_at}
use Rattle.unit_symbols.specs.Places.{IsPlace, start_in}
use Rattle.unit_symbols.specs.Searches.{IsLead, IsNotAhead, IsNotBefore, Searched, is_earlier, is_passed}
use Rattle.unit_symbols.specs.Symbols.{FitsFrom, HasNone, InSlot, IsFirst, IsFitting, IsSymbol, OfEndpoint}
use Rattle.unit_symbols.specs.declared.finding.Lead.{Lead}
use Rattle.unit_symbols.specs.declared.places.SlotPlace.{SlotPlace}
use Rattle.unit_symbols.proofs.OrderLemmas.{earlier_symbol, not_before_earlier, not_before_itself, not_before_later}
use Rattle.unit_symbols.proofs.SymbolLemmas.{symbol_one}
use Rattle.fh_base.proofs.Orders.{both_ways as unfit}

-- ---- what was found

later_not_before : (m x : SymbolStart) (found : Option SymbolStart) → comes_before m x ≡ true → IsNotBefore m found → IsNotBefore x found
later_not_before m x None p n = absurd n
later_not_before m x (Some f) p n = not_before_later m x f p n

-- what is before what was found, or is found first
earlier_keeps : (m x : SymbolStart) (found : Option SymbolStart) → is_earlier m found ≡ true → IsNotBefore x found → IsNotBefore x (Some m)
earlier_keeps m x None e n = absurd n
earlier_keeps m x (Some f) e n = not_before_earlier x m f n e

not_earlier : (m : SymbolStart) (found : Option SymbolStart) → is_earlier m found ≡ false → IsNotBefore m found
not_earlier m None e = absurd (cc)
not_earlier m (Some f) e = e

-- nothing that fits of these symbols is before what was found
pub searched_passed : (v : CellsValue) (fits : SymbolStart → Bool) (Over : SymbolStart → Type 0) (found : Option SymbolStart)
    → ((m : SymbolStart) → IsFitting v fits m → Over m → IsNotBefore m found) → Searched v fits Over found found
searched_passed v fits Over found none = record {
  fitting = λ w. w;
  keeps = λ m n. n;
  finds = none;
}

passed_turn : (a b t : ℤ) (p q r : Bool) → t ≤ℤ a → (p ≡ true → q ≡ false) → (p ≡ true → r ≡ false) → (int_lt b t || (int_eq b t && p)) ≡ true
    → (int_lt a b || (int_eq a b && (q || r))) ≡ false
passed_turn a b t true q r le h k e = let x = h refl in let y = k refl in rw (x, y) (grind (arith, ints, Decides-int_eq))
passed_turn a b t false q r le h k e = grind (arith, ints, Decides-int_eq)

-- what starts at a tick that is passed is not before it
not_before_passed : (m : SymbolStart) (found : Option SymbolStart) (ep : ℕ) (t : ℤ) → ep ≤ m.ep → t ≤ℤ m.start.0 → is_passed found ep t ≡ true → IsNotBefore m found
not_before_passed m None ep t own le e = absurd (cc)
not_before_passed m (Some f) ep t own le e =
    passed_turn m.start.0 f.start.0 t (nat_lt f.ep ep) (nat_lt m.ep f.ep) ((m.ep == f.ep) && symbol_before m.slot m.symbol f.slot f.symbol) le
    (λ lt. grind (arith, nat_tests))
    (λ lt. let ne : (m.ep == f.ep) ≡ false = grind (arith, nat_tests) in rw ne refl) e

pub searched_from : (v : CellsValue) (fits : SymbolStart → Bool) (Over : SymbolStart → Type 0) (found : Option SymbolStart) (ep : ℕ) (t : Ticks)
    → ((m : SymbolStart) → Over m → m.ep ≡ ep) → FitsFrom v fits Over (Some t) → is_passed found ep t.0 ≡ true → Searched v fits Over found found
searched_from v fits Over found ep t own from passed =
    searched_passed v fits Over found (λ m w o. let e = own m o in not_before_passed m found ep t.0 (omega (arith, e)) (from m w o) passed)

-- ---- over more symbols

-- by a number that each symbol has: over one number more
pub searched_below_more : (v : CellsValue) (fits : SymbolStart → Bool) (P Q : SymbolStart → Type 0) (number : SymbolStart → ℕ) (n : ℕ) (old middle new : Option SymbolStart)
    → ((m : SymbolStart) → P m → number m ≡ n → Q m) → Searched v fits (λ m. P m × (number m < n)) old middle → Searched v fits Q middle new
    → Searched v fits (λ m. P m × (number m < n + 1)) old new
searched_below_more v fits P Q number n old middle new is a b = record {
  fitting = λ w. b.fitting (a.fitting w);
  keeps = λ m n. b.keeps m (a.keeps m n);
  finds = λ m w r. elim (cases_lt (number m) n) [
    | inl below ↦ b.keeps m (a.finds m w (r.0, below))
    | inr past ↦ let h = r.1 in let e : number m ≡ n = omega (arith, h, past) in b.finds m w (is m r.0 e)
  ];
}

-- ---- the symbols of a slot, in their order

-- none of the slot's symbols below a number fits
abbrev pub NoneBelow : CellsValue → (SymbolStart → Bool) → ℕ → Slot → ℕ → Type 0
NoneBelow v fits ep slot n = HasNone v fits (λ m. InSlot ep slot m × (m.symbol < n))

module _ (v : CellsValue) (fits : SymbolStart → Bool) (p : SlotPlace) (place : IsPlace v p) where
  at : IsAt (endpoints_of v) p.ep p.ring.now.endpoint
  at = ring_at v p.ep p.ring.now place.there

  one : (n : ℕ) (x : SymbolStart) → IsSymbol v x → InSlot p.ep p.slot x → x.symbol ≡ n → x ≡ start_in p n
  one n x is o e = symbol_one v p.ep p.ring.now.endpoint p.slot n x at is o.0 o.1 e

  pub none_below_more : (n : ℕ) → NoneBelow v fits p.ep p.slot n → fits (start_in p n) ≡ false → NoneBelow v fits p.ep p.slot (n + 1)
  none_below_more n none not m is o = elim (cases_lt m.symbol n) [
    | inl below ↦ none m is (o.0, below)
    | inr past ↦
        let lt = o.1 in
        ap fits (one n m is o.0 (omega (arith, lt, past))) ∙ not
  ]

  later : (n : ℕ) (x : SymbolStart) → IsSymbol v x → InSlot p.ep p.slot x → n < x.symbol → comes_before (start_in p n) x ≡ true
  later n x s o lt =
      subst (λ (y : SymbolStart). comes_before (start_in p n) y ≡ true) (sym (one x.symbol x s o refl))
      (earlier_symbol (start_in p n) (start_in p x.symbol) refl refl lt (symbols_in_order p.ring.now.endpoint.numerology p.slot n x.symbol (omega (arith, lt))))

  -- none before a symbol fits, and it is not before what was found: nor is any of the slot's that fits
  from_number : (n : ℕ) (found : Option SymbolStart) → NoneBelow v fits p.ep p.slot n → IsNotBefore (start_in p n) found
      → (x : SymbolStart) → IsFitting v fits x → InSlot p.ep p.slot x → IsNotBefore x found
  from_number n found none not x w o = elim (cases_lt x.symbol n) [
    | inl before ↦ absurd (unfit (fits x) w.fit (none x w.is (o, before)))
    | inr past ↦ elim (cases_lt n x.symbol) [
      | inl after ↦ later_not_before (start_in p n) x found (later n x w.is o after) not
      | inr here ↦ subst (λ (y : SymbolStart). IsNotBefore y found) (sym (one n x w.is o (omega (arith, past, here)))) not
    ]
  ]

  -- a symbol is not before what was found
  pub searched_ended : (n : ℕ) (m : SymbolStart) (best : Option SymbolStart) → m ≡ start_in p n → NoneBelow v fits p.ep p.slot n → is_earlier m best ≡ false
      → Searched v fits (InSlot p.ep p.slot) best best
  searched_ended n m best is none e =
      searched_passed v fits (InSlot p.ep p.slot) best (from_number n best none (subst (λ (y : SymbolStart). IsNotBefore y best) is (not_earlier m best e)))

  -- one fits, and none before it: it is the first of the slot's
  pub searched_first : (n : ℕ) (m : SymbolStart) (best : Option SymbolStart) → m ≡ start_in p n → n < symbols_of p.ring.now.endpoint.numerology → NoneBelow v fits p.ep p.slot n
      → is_earlier m best ≡ true → fits m ≡ true → Searched v fits (InSlot p.ep p.slot) best (Some m)
  searched_first n m best is below none e fit = record {
    fitting = λ w. subst (IsFitting v fits) (sym is) (record {
      is = record { at = at; slot_is = place.slot_is; symbol_is = below; starts = refl; has = rw place.there place.has };
      fit = ap fits (sym is) ∙ fit;
    });
    keeps = λ x n. earlier_keeps m x best e n;
    finds = from_number n (Some m) none (subst (λ (y : SymbolStart). comes_before (start_in p n) y ≡ false) (sym is) (not_before_itself (start_in p n)));
  }

-- ---- all symbols

first_by : (v : CellsValue) (fits : SymbolStart → Bool) (found : Option SymbolStart) → IfSome found (IsFitting v fits)
    → ((m : SymbolStart) → IsFitting v fits m → IsNotBefore m found) → IsFirst v fits found
first_by v fits None was finds = λ m is. false_from_ne_true (fits m) (λ fit. finds m (record { is = is; fit = fit }))
first_by v fits (Some f) was finds = record { was = was; first = finds }

-- what is passed at a tick is passed at a later one, whatever the endpoint
passed_later : (found : Option SymbolStart) (a b : ℕ) (t s : ℤ) → is_passed found a t ≡ true → t <ℤ s → is_passed found b s ≡ true
passed_later None a b t s e lt = absurd (cc)
passed_later (Some f) a b t s e lt = grind (arith, ints, Decides-int_eq)

-- what another endpoint has that is not before the tick that leads
other_passed : (m : SymbolStart) (found : Option SymbolStart) (l : Lead) → (m.ep ≡ l.ep → ⊥) → IsNotAhead m l → is_passed found (l.ep + 1) l.start.0 ≡ true → IsNotBefore m found
other_passed m found l other is passed = elim (cases_lt m.ep l.ep) [
  | inl below ↦ not_before_passed m found m.ep m.start.0 (omega arith) (omega (arith, ints)) (passed_later found (l.ep + 1) m.ep l.start.0 m.start.0 passed (grind (arith, ints, nat_tests, Decides-int_eq)))
  | inr past ↦ not_before_passed m found (l.ep + 1) l.start.0 (omega (arith, past, other)) (grind (arith, ints, Decides-int_eq)) passed
]

-- where the endpoint that leads has one that none of another endpoint precedes
pub first_of_lead : (v : CellsValue) (fits : SymbolStart → Bool) (l : Lead) (found : Option SymbolStart) → IsLead v fits (length (endpoints_of v)) l
    → Searched v fits (OfEndpoint l.ep) None found → is_passed found (l.ep + 1) l.start.0 ≡ true → IsFirst v fits found
first_of_lead v fits l found is s passed = first_by v fits found (s.fitting tt) (λ m w. elim (cases_eq m.ep l.ep) [
  | inl own ↦ s.finds m w own
  | inr other ↦ other_passed m found l other (is.least m w (slice_get_within (endpoints_of v) m.ep m.endpoint w.is.at)) passed
])

-- where those of the lower and those of the higher endpoints were searched after one endpoint's
pub first_of_all : (v : CellsValue) (fits : SymbolStart → Bool) (k n : ℕ) (own lower found : Option SymbolStart) → length (endpoints_of v) ≤ n
    → Searched v fits (OfEndpoint k) None own → Searched v fits (λ m. (0 ≤ m.ep) × (m.ep < k)) own lower
    → Searched v fits (λ m. (k + 1 ≤ m.ep) × (m.ep < n)) lower found → IsFirst v fits found
first_of_all v fits k n own lower found all a b c = first_by v fits found (c.fitting (b.fitting (a.fitting tt))) (λ m w.
    let within = slice_get_within (endpoints_of v) m.ep m.endpoint w.is.at in
    elim (cases_lt m.ep k) [
      | inl below ↦ c.keeps m (b.finds m w (omega arith, below))
      | inr past ↦ elim (cases_lt k m.ep) [
        | inl above ↦ c.finds m w (omega (arith, above), omega (arith, within, all))
        | inr here ↦ c.keeps m (b.keeps m (a.finds m w (omega (arith, past, here))))
      ]
    ])
