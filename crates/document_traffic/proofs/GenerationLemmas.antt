-- What was delivered of sound flows of messages is in generations that hold one message each.
use Rattle.std.proofs.Common.{◌≡◌, ℕ, ℤ, ◌%◌, inl, inr, Bool, false, ◌==◌, ◌&&◌, List, [], ◌∷◌, refl, ap, sym, ◌∙◌, subst}
use Rattle.std.specs.Prelude.{All, if◌then◌else◌, ⊤}
use Rattle.std.proofs.lemmas.Bool.{cases_Bool, and_from, and_parts, eq-eqb, eqb-true, both_ways}
use Rattle.std.proofs.lemmas.List.Elements.{All-cons, All-nil, All-weaker}
use Rattle.ecpri_fragments.specs.Generations.{Fragment, Generation, begun, generations_of, held_in, is_of, is_within, joined, with_fragment}
use Rattle.fragment_laws.proofs.ApartLemmas.{apart_before, seen_is}
use Rattle.fragment_laws.proofs.FlowLemmas.{copy, delivered_apart, number_is}
use Rattle.fragment_laws.specs.Apart.{AreApart, Numbers, number_of, of_message}
use Rattle.fragment_laws.specs.Flow.{Bounds, Flow, IsCopyOf, IsDelivered, IsSound, numbers_of, sent_at}
use Rattle.document_traffic.specs.Generations.{EachHoldsOneMessage, HoldsOneMessage}
use Rattle.fh_base.proofs.Orders.{and_false as not_both}
use Rattle.fh_base.specs.Members.{IsIn}

-- ---- what was received of a message

module _ (num : Numbers) (ep n : ℕ) where
  with_own : (a : Fragment) (xs : List Fragment) → a.ep ≡ ep → number_of num a ≡ n → of_message num ep n (a ∷ xs) ≡ a ∷ of_message num ep n xs
  with_own a xs e f = ap (λ (own : Bool). if own then a ∷ of_message num ep n xs else of_message num ep n xs) (and_from (a.ep == ep) (number_of num a == n) (eq-eqb a.ep ep e) (eq-eqb (number_of num a) n f))

  with_other : (a : Fragment) (xs : List Fragment) → (a.ep ≡ ep → number_of num a ≡ n → ⊥) → of_message num ep n (a ∷ xs) ≡ of_message num ep n xs
  with_other a xs other =
      ap (λ (own : Bool). if own then a ∷ of_message num ep n xs else of_message num ep n xs)
      (not_both (a.ep == ep) (number_of num a == n) (λ e f. other (eqb-true a.ep ep e) (eqb-true (number_of num a) n f)))

  record IsOf (xs : List Fragment) (x : Fragment) : Type 0 where
    came : IsIn x xs
    ep_is : x.ep ≡ ep
    number : number_of num x ≡ n

  is_of_it : (xs : List Fragment) (x : Fragment) → IsIn x (of_message num ep n xs) → IsOf xs x
  is_of_it [] x m = absurd m
  is_of_it (a ∷ xs) x m = elim (cases_Bool ((a.ep == ep) && (number_of num a == n))) [
    | inl own ↦
        let parts = and_parts (a.ep == ep) (number_of num a == n) own in
        let here = subst (IsIn x) (ap (λ (b : Bool). if b then a ∷ of_message num ep n xs else of_message num ep n xs) own) m in
        elim here [
          | inl is ↦ record { came = inl is; ep_is = ap (λ (y : Fragment). y.ep) is ∙ eqb-true a.ep ep parts.0; number = ap (λ (y : Fragment). number_of num y) is ∙ eqb-true (number_of num a) n parts.1 }
          | inr later ↦ (let h = is_of_it xs x later in record { came = inr h.came; ep_is = h.ep_is; number = h.number })
        ]
    | inr other ↦
        let h = is_of_it xs x (subst (IsIn x) (ap (λ (b : Bool). if b then a ∷ of_message num ep n xs else of_message num ep n xs) other) m) in
        record { came = inr h.came; ep_is = h.ep_is; number = h.number }
  ]

  stands_in_it : (xs : List Fragment) (x : Fragment) → IsIn x xs → x.ep ≡ ep → number_of num x ≡ n → IsIn x (of_message num ep n xs)
  stands_in_it [] x m e f = absurd m
  stands_in_it (a ∷ xs) x m e f = elim m [
    | inl is ↦ subst (IsIn x) (sym (with_own a xs (ap (λ (y : Fragment). y.ep) (sym is) ∙ e) (ap (λ (y : Fragment). number_of num y) (sym is) ∙ f))) (inl is)
    | inr later ↦ behind (stands_in_it xs x later e f)
  ]
    where
      behind : IsIn x (of_message num ep n xs) → IsIn x (of_message num ep n (a ∷ xs))
      behind there = elim (cases_Bool ((a.ep == ep) && (number_of num a == n))) [
        | inl own ↦ subst (IsIn x) (sym (ap (λ (b : Bool). if b then a ∷ of_message num ep n xs else of_message num ep n xs) own)) (inr there)
        | inr other ↦ subst (IsIn x) (sym (ap (λ (b : Bool). if b then a ∷ of_message num ep n xs else of_message num ep n xs) other)) there
      ]

-- ---- the generations of an endpoint and a sequence id

module _ (num : Numbers) (ep q : ℕ) where
  -- one holds what was received of a message, and something was received
  record Holds (xs : List Fragment) (g : Generation) : Type 0 where
    n : ℕ
    held : g.held ≡ of_message num ep n xs
    one : Fragment
    there : IsIn one (of_message num ep n xs)
    seq : one.seq ≡ q

  -- another message
  HoldsOther : List Fragment → ℕ → Generation → Type 0
  HoldsOther xs n g = (w : Holds xs g) × (w.n ≡ n → ⊥)

  -- the last one another than those before it
  HoldEach : List Fragment → List Generation → Type 0
  HoldEach xs [] = ⊤
  HoldEach xs (g ∷ gs) = (w : Holds xs g) × All (HoldsOther xs w.n) gs

  -- a fragment of another message changes nothing
  still : (a : Fragment) (xs : List Fragment) (g : Generation) (w : Holds xs g) → (a.ep ≡ ep → number_of num a ≡ w.n → ⊥) → Holds (a ∷ xs) g
  still a xs g w other = record {
    n = w.n;
    held = w.held ∙ sym (with_other num ep w.n a xs other);
    one = w.one;
    there = subst (IsIn w.one) (sym (with_other num ep w.n a xs other)) w.there;
    seq = w.seq;
  }

  -- one more was received
  module _ (hold fast slow : ℤ) (first : ℕ → ℕ → ℤ) (a : Fragment) (xs : List Fragment) (h : AreApart hold fast slow first num (a ∷ xs)) where
    -- of another endpoint or sequence id
    unlike : is_of ep q a ≡ false → (g : Generation) (w : Holds xs g) → a.ep ≡ ep → number_of num a ≡ w.n → ⊥
    unlike not_it g w e f =
        let one = is_of_it num ep w.n xs w.one w.there in
        let seq : a.seq ≡ q = h.ids a (inl refl) ∙ ap (λ (i : ℕ). i % 256) (f ∙ sym one.number) ∙ sym (h.ids w.one (inr one.came)) ∙ w.seq in
        both_ways (is_of ep q a) not_it (and_from (a.ep == ep) (a.seq == q) (eq-eqb a.ep ep e) (eq-eqb a.seq q seq))

    beside : is_of ep q a ≡ false → (gs : List Generation) → HoldEach xs gs → HoldEach (a ∷ xs) gs
    unfolding HoldEach HoldsOther still
    beside not_it [] each = tt
    beside not_it (g ∷ gs) each = (
      still a xs g each.0 (unlike not_it g each.0),
      All-weaker (HoldsOther xs each.0.n) (HoldsOther (a ∷ xs) each.0.n) (λ g w. (still a xs g w.0 (unlike not_it g w.0), w.1)) gs each.1,
    )

    -- of this one: it joins what was received of its message, or is the first of it
    own : (g : Generation) → a.ep ≡ ep → a.seq ≡ q → g.held ≡ a ∷ of_message num ep (number_of num a) xs → Holds (a ∷ xs) g
    own g e s is = record {
      n = number_of num a;
      held = is ∙ sym (with_own num ep (number_of num a) a xs e refl);
      one = a;
      there = stands_in_it num ep (number_of num a) (a ∷ xs) a (inl refl) e refl;
      seq = s;
    }

    -- where nothing of its message was received, all others are of other messages
    others_before : of_message num ep (number_of num a) xs ≡ [] → (g : Generation) (w : Holds xs g) → w.n ≡ number_of num a → ⊥
    others_before none g w same = subst (IsIn w.one) (ap (λ (i : ℕ). of_message num ep i xs) same ∙ none) w.there

    before : of_message num ep (number_of num a) xs ≡ [] → (g : Generation) → Holds xs g → HoldsOther (a ∷ xs) (number_of num a) g
    unfolding HoldsOther still
    before none g w = (still a xs g w (λ e f. others_before none g w (sym f)), others_before none g w)

    joins : a.ep ≡ ep → a.seq ≡ q → (gs : List Generation) → held_in hold a.at gs ≡ of_message num ep (number_of num a) xs → HoldEach xs gs → HoldEach (a ∷ xs) (with_fragment hold a gs)
    unfolding HoldEach HoldsOther still own
    joins e s [] seen each = (own (begun a) e s (ap (λ (ys : List Fragment). a ∷ ys) seen), All-nil (HoldsOther (a ∷ xs) (number_of num a)))
    joins e s (g ∷ gs) seen each = elim (cases_Bool (is_within hold g.start a.at)) [
      | inl within ↦
          let all : g.held ≡ of_message num ep (number_of num a) xs = ap (λ (b : Bool). if b then g.held else []) (sym within) ∙ seen in
          let w = each.0 in
          let one = is_of_it num ep (number_of num a) xs w.one (subst (IsIn w.one) (sym w.held ∙ all) w.there) in
          let same : w.n ≡ number_of num a = sym (is_of_it num ep w.n xs w.one w.there).number ∙ one.number in
          let now : HoldEach (a ∷ xs) (joined a g ∷ gs) = (
            own (joined a g) e s (ap (λ (ys : List Fragment). a ∷ ys) all),
            All-weaker (HoldsOther xs w.n) (HoldsOther (a ∷ xs) (number_of num a)) (λ g v. (still a xs g v.0 (λ i f. v.1 (sym f ∙ sym same)), λ f. v.1 (f ∙ sym same))) gs each.1,
          ) in
          rw within now
      | inr later ↦
          let none : of_message num ep (number_of num a) xs ≡ [] = sym seen ∙ ap (λ (b : Bool). if b then g.held else []) later in
          let now : HoldEach (a ∷ xs) (begun a ∷ g ∷ gs) = (
            own (begun a) e s (ap (λ (ys : List Fragment). a ∷ ys) (sym none)),
            All-cons (HoldsOther (a ∷ xs) (number_of num a)) g gs (before none g each.0)
                (All-weaker (HoldsOther xs each.0.n) (HoldsOther (a ∷ xs) (number_of num a)) (λ g v. before none g v.0) gs each.1),
          ) in
          rw later now
    ]

  each_holds : (hold fast slow : ℤ) (first : ℕ → ℕ → ℤ) (xs : List Fragment) → AreApart hold fast slow first num xs → HoldEach xs (generations_of hold ep q xs)
  unfolding HoldEach
  each_holds hold fast slow first [] h = tt
  each_holds hold fast slow first (a ∷ xs) h =
      let each = each_holds hold fast slow first xs (apart_before hold fast slow first num a xs h) in
      elim (cases_Bool (is_of ep q a)) [
        | inl is ↦
            let parts = and_parts (a.ep == ep) (a.seq == q) is in
            let e = eqb-true a.ep ep parts.0 in
            let s = eqb-true a.seq q parts.1 in
            let of_ep = subst (λ (i : ℕ). held_in hold a.at (generations_of hold i a.seq xs) ≡ of_message num i (number_of num a) xs) e (seen_is hold fast slow first num a xs h) in
            let seen = subst (λ (i : ℕ). held_in hold a.at (generations_of hold ep i xs) ≡ of_message num ep (number_of num a) xs) s of_ep in
            rw is (joins hold fast slow first a xs h e s (generations_of hold ep q xs) seen each)
        | inr not_it ↦ rw not_it (beside hold fast slow first a xs h not_it (generations_of hold ep q xs) each)
      ]

  all_hold : (xs : List Fragment) (gs : List Generation) → HoldEach xs gs → All (Holds xs) gs
  unfolding HoldEach HoldsOther
  all_hold xs [] each = All-nil (Holds xs)
  all_hold xs (g ∷ gs) each = All-cons (Holds xs) g gs each.0 (All-weaker (HoldsOther xs each.0.n) (Holds xs) (λ g w. w.0) gs each.1)

-- ---- of what was delivered

module _ (b : Bounds) (flow : ℕ → Flow) (sound : (ep : ℕ) → IsSound b (flow ep)) (all : List Fragment) (d : IsDelivered b flow all) (ep q : ℕ) where
  abbrev num : Numbers
  num = numbers_of b flow

  its_copy : (n : ℕ) (x : Fragment) → IsOf num ep n all x → IsCopyOf b (flow ep) n x
  its_copy n x is = subst (λ (i : ℕ). IsCopyOf b (flow i) n x) is.ep_is (subst (λ (i : ℕ). IsCopyOf b (flow x.ep) i x) is.number (copy b flow sound all d x is.came))

  holds_one : (g : Generation) → Holds num ep q all g → HoldsOneMessage b flow all ep g
  holds_one g w = record {
    message = w.n;
    was_sent = (its_copy w.n w.one (is_of_it num ep w.n all w.one w.there)).below;
    only = λ x m. (let is = is_of_it num ep w.n all x (subst (IsIn x) w.held m) in (is.ep_is, its_copy w.n x is));
    every = λ x m e k.
        subst (IsIn x) (sym w.held)
        (stands_in_it num ep w.n all x m e (number_is b flow sound x w.n (subst (λ (i : ℕ). IsCopyOf b (flow i) w.n x) (sym e) k)));
    held_is = w.held;
  }

pub each_holds_one : (b : Bounds) (flow : ℕ → Flow) → ((ep : ℕ) → IsSound b (flow ep)) → (all : List Fragment) → IsDelivered b flow all → EachHoldsOneMessage b flow all
each_holds_one b flow sound all d ep q =
    All-weaker (Holds (numbers_of b flow) ep q all) (HoldsOneMessage b flow all ep) (holds_one b flow sound all d ep q) (generations_of b.hold ep q all)
    (all_hold (numbers_of b flow) ep q all (generations_of b.hold ep q all)
    (each_holds (numbers_of b flow) ep q b.hold b.fast b.slow (λ i j. sent_at (flow i) j 0) all (delivered_apart b flow sound all d)))
