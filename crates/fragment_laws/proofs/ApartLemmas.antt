-- A generation holds what was received of one message.
use Rattle.std.proofs.Common.{◌≡◌, ℕ, ℤ, ◌+ℤ◌, ◌≤ℤ◌, ◌<ℤ◌, ◌%◌, ◌≤◌, inl, inr, List, [], ◌∷◌, refl, ap, ap₂, sym, ◌∙◌, subst, arith, false, ◌==◌, int_le}
use Rattle.std.proofs.lemmas.Int.{ints}
use Rattle.std.proofs.lemmas.Bool.{cases_order, cases_Bool, eq-eqb, eqb-true, and_parts, and_from}
use Rattle.ecpri_fragments.specs.Generations.{Fragment, Generation, is_of, begun, joined, with_fragment, held_in, generations_of, seen}
use Rattle.fragment_laws.specs.Apart.{Numbers, number_of, of_message, AreApart, GenerationsAreMessages}
use Rattle.fh_base.proofs.Orders.{true_le as le_true, and_false}
use Rattle.fh_base.specs.Members.{IsIn}

pub lt_false : (a b : ℤ) → b <ℤ a → int_le a b ≡ false
lt_false a b lt = grind (arith, ints)

-- the earlier fragments are apart too
pub apart_before : (hold fast slow : ℤ) (first : ℕ → ℕ → ℤ) (num : Numbers) (a : Fragment) (earlier : List Fragment) →
    AreApart hold fast slow first num (a ∷ earlier) → AreApart hold fast slow first num earlier
apart_before hold fast slow first num a earlier h = record {
  falling = h.falling.1;
  order = h.order;
  ids = λ b m. h.ids b (inr m);
  from = λ b m. h.from b (inr m);
  to = λ b m. h.to b (inr m);
  soon = λ b m. elim (h.soon b (inr m)) [
    | inl now ↦ inl now
    | inr w ↦ elim w.1 [
      | inl here ↦ inl (let below = h.falling.0 b m in let e = ap (λ (x : Fragment). x.at) here in let s = w.4 in omega (arith, ints))
      | inr there ↦ inr (w.0, there, w.2, w.3, w.4)
    ]
  ];
  apart = λ b c m n. h.apart b c (inr m) (inr n);
}

none_of : (num : Numbers) (ep j : ℕ) (xs : List Fragment) → ((b : Fragment) → IsIn b xs → b.ep ≡ ep → number_of num b ≡ j → ⊥) → of_message num ep j xs ≡ []
none_of num ep j [] none = refl
none_of num ep j (a ∷ xs) none =
    let e = and_false (a.ep == ep) (number_of num a == j) (λ p q. none a (inl refl) (eqb-true _ _ p) (eqb-true _ _ q)) in
    rw e (none_of num ep j xs (λ b m. none b (inr m)))

-- the generations of one endpoint and sequence id
pub data State (hold fast slow : ℤ) (first : ℕ → ℕ → ℤ) (num : Numbers) (ep q : ℕ) (xs : List Fragment) : List Generation → Type 0 where
  unused : ((b : Fragment) → IsIn b xs → b.ep ≡ ep → b.seq ≡ q → ⊥) → State hold fast slow first num ep q xs []
  used : (g : Generation) (gs : List Generation) (j : ℕ) (c : Fragment) → IsIn c xs → c.ep ≡ ep → c.seq ≡ q → number_of num c ≡ j
      → ((b : Fragment) → IsIn b xs → b.ep ≡ ep → b.seq ≡ q → number_of num b ≤ j)
      → g.held ≡ of_message num ep j xs → (first ep j +ℤ fast) ≤ℤ g.start → g.start ≤ℤ (first ep j +ℤ slow)
      → State hold fast slow first num ep q xs (g ∷ gs)

module _ (hold fast slow : ℤ) (first : ℕ → ℕ → ℤ) (num : Numbers) (a : Fragment) (xs : List Fragment) (h : AreApart hold fast slow first num (a ∷ xs)) where
  same_id : (b : Fragment) → IsIn b xs → number_of num b ≡ number_of num a → b.seq ≡ a.seq
  same_id b m e = h.ids b (inr m) ∙ ap (λ n. n % 256) e ∙ sym (h.ids a (inl refl))

  -- no fragment of its message was received before
  pub record IsNew : Type 0 where
    pub none : of_message num a.ep (number_of num a) xs ≡ []
    pub soon : a.at ≤ℤ (first a.ep (number_of num a) +ℤ slow)

  is_new : ((b : Fragment) → IsIn b xs → b.ep ≡ a.ep → number_of num b ≡ number_of num a → ⊥) → IsNew
  is_new none = record {
    none = none_of num a.ep (number_of num a) xs none;
    soon = elim (h.soon a (inl refl)) [
      | inl now ↦ now
      | inr w ↦ elim w.1 [
        | inl here ↦ (let e = ap (λ (x : Fragment). x.at) here in let s = w.4 in omega (arith, ints))
        | inr there ↦ absurd (none w.0 there w.2 w.3)
      ]
    ];
  }

  own : of_message num a.ep (number_of num a) (a ∷ xs) ≡ a ∷ of_message num a.ep (number_of num a) xs
  own = let e = eq-eqb a.ep a.ep refl in let f = eq-eqb (number_of num a) (number_of num a) refl in rw (e, f) refl

  begins : (gs : List Generation) → IsNew → ((b : Fragment) → IsIn b xs → b.ep ≡ a.ep → b.seq ≡ a.seq → number_of num b ≤ number_of num a)
      → State hold fast slow first num a.ep a.seq (a ∷ xs) (begun a ∷ gs)
  begins gs new top = used (begun a) gs (number_of num a) a (inl refl) refl refl refl
      (λ b m e f. elim m [ inl here ↦ (let n = ap (λ (x : Fragment). number_of num x) here in omega (arith, n)) | inr there ↦ top b there e f ])
      (sym (own ∙ ap (λ (ys : List Fragment). a ∷ ys) new.none)) (h.from a (inl refl)) new.soon

  pub record Stepped (gs : List Generation) : Type 0 where
    pub seen : held_in hold a.at gs ≡ of_message num a.ep (number_of num a) xs
    pub next : State hold fast slow first num a.ep a.seq (a ∷ xs) (with_fragment hold a gs)

  step_used : (g : Generation) (gs : List Generation) (j : ℕ) (c : Fragment) → IsIn c xs → c.ep ≡ a.ep → c.seq ≡ a.seq → number_of num c ≡ j
      → ((b : Fragment) → IsIn b xs → b.ep ≡ a.ep → b.seq ≡ a.seq → number_of num b ≤ j)
      → g.held ≡ of_message num a.ep j xs → (first a.ep j +ℤ fast) ≤ℤ g.start → g.start ≤ℤ (first a.ep j +ℤ slow) → Stepped (g ∷ gs)
  step_used g gs j c m o q n top held from to = elim (cases_order (number_of num a) j) [
    | inl same ↦
        let f = ap (first a.ep) same in
        let t = h.to a (inl refl) in
        let e = le_true a.at (g.start +ℤ hold) (omega (arith, ints)) in
        let kept : g.held ≡ of_message num a.ep (number_of num a) xs = held ∙ ap (λ i. of_message num a.ep i xs) (sym same) in
        let holds : (joined a g).held ≡ of_message num a.ep (number_of num a) (a ∷ xs) = ap (λ (ys : List Fragment). a ∷ ys) kept ∙ sym own in
        let st : State hold fast slow first num a.ep a.seq (a ∷ xs) (joined a g ∷ gs) = used (joined a g) gs (number_of num a) a (inl refl) refl refl refl
        (λ b w e f. elim w [ inl here ↦ (let n = ap (λ (x : Fragment). number_of num x) here in omega (arith, n)) | inr there ↦ (let u = top b there e f in omega (arith, u, same)) ])
        holds (omega (arith, ints)) (omega (arith, ints)) in
        record { seen = rw e kept; next = rw e st }
    | inr ne ↦ elim ne [
      | inl before ↦
          let f = h.apart a c (inl refl) (inr m) (sym o) (sym q) (omega (arith, n, before)) in
          let g = h.from c (inr m) in
          let u = h.to a (inl refl) in
          let w = h.falling.0 c m in
          let k = h.order in
          absurd (omega (arith, ints))
      | inr after ↦
          let f = h.apart c a (inr m) (inl refl) o q (omega (arith, n, after)) in
          let i = ap₂ first o n in
          let t = h.from a (inl refl) in
          let e = lt_false a.at (g.start +ℤ hold) (omega (arith, ints)) in
          let new = is_new (λ b w p e. let u = top b w p (same_id b w e) in omega (arith, u, e, after)) in
          record { seen = rw e (sym new.none); next = rw e (begins (g ∷ gs) new (λ b w p e. let u = top b w p e in omega (arith, u, after))) }
    ]
  ]

  pub step : (gs : List Generation) → State hold fast slow first num a.ep a.seq xs gs → Stepped gs
  step [] (unused none) =
      let new = is_new (λ b m p e. none b m p (same_id b m e)) in
      record { seen = sym new.none; next = begins [] new (λ b m p e. absurd (none b m p e)) }
  step (_ ∷ _) (used g gs j c m o q n top held from to) = step_used g gs j c m o q n top held from to

  -- a fragment of another endpoint or sequence id changes nothing
  pub other : (ep q : ℕ) (gs : List Generation) → (a.ep ≡ ep → a.seq ≡ q → ⊥) → State hold fast slow first num ep q xs gs → State hold fast slow first num ep q (a ∷ xs) gs
  other ep q [] ne (unused none) = unused (λ b m e f. elim m [ inl here ↦ ne (sym (ap (λ (x : Fragment). x.ep) here) ∙ e) (sym (ap (λ (x : Fragment). x.seq) here) ∙ f) | inr there ↦ none b there e f ])
  other ep q (_ ∷ _) ne (used g gs j c m o s n top held from to) =
      let t = and_false (a.ep == ep) (number_of num a == j) (λ p w. ne (eqb-true _ _ p) (sym (same_id c m (n ∙ sym (eqb-true _ _ w))) ∙ s)) in
      let kept : g.held ≡ of_message num ep j (a ∷ xs) = rw t held in
      used g gs j c (inr m) o s n
      (λ b w e f. elim w [ inl here ↦ absurd (ne (sym (ap (λ (x : Fragment). x.ep) here) ∙ e) (sym (ap (λ (x : Fragment). x.seq) here) ∙ f)) | inr there ↦ top b there e f ]) kept from to

pub state : (hold fast slow : ℤ) (first : ℕ → ℕ → ℤ) (num : Numbers) (ep q : ℕ) (xs : List Fragment) → AreApart hold fast slow first num xs
    → State hold fast slow first num ep q xs (generations_of hold ep q xs)
state hold fast slow first num ep q [] h = unused (λ b m e f. m)
state hold fast slow first num ep q (a ∷ xs) h = elim (cases_Bool (is_of ep q a)) [
  | inl e ↦
      let parts = and_parts (a.ep == ep) (a.seq == q) e in
      let p = eqb-true _ _ parts.0 in
      let s = eqb-true _ _ parts.1 in
      let earlier = state hold fast slow first num ep q xs (apart_before hold fast slow first num a xs h) in
      let before : State hold fast slow first num a.ep a.seq xs (generations_of hold ep q xs) =
      subst (λ i. State hold fast slow first num i a.seq xs (generations_of hold ep q xs)) (sym p) (subst (λ i. State hold fast slow first num ep i xs (generations_of hold ep q xs)) (sym s) earlier) in
      let now = (step hold fast slow first num a xs h (generations_of hold ep q xs) before).next in
      rw e (subst (λ i. State hold fast slow first num i q (a ∷ xs) (with_fragment hold a (generations_of hold ep q xs))) p (subst (λ i. State hold fast slow first num a.ep i (a ∷ xs) (with_fragment hold a (generations_of hold ep q xs))) s now))
  | inr ne ↦
      rw ne (other hold fast slow first num a xs h ep q (generations_of hold ep q xs) (λ p s. (let t = and_from _ _ (eq-eqb a.ep ep p) (eq-eqb a.seq q s) in let d = sym t ∙ ne in cc))
      (state hold fast slow first num ep q xs (apart_before hold fast slow first num a xs h)))
]

pub seen_is : GenerationsAreMessages
seen_is hold fast slow first num a xs h =
    (step hold fast slow first num a xs h (generations_of hold a.ep a.seq xs) (state hold fast slow first num a.ep a.seq xs (apart_before hold fast slow first num a xs h))).seen
