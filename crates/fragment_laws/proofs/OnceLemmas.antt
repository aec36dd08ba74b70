-- Each message becomes complete exactly once: what its generation holds is what was received of it, and of that one fragment is Whole.
use Rattle.std.proofs.Common.{◌≡◌, ℕ, zero, suc, ℤ, ◌+ℤ◌, ◌≤ℤ◌, ◌+◌, ◌*◌, ◌<◌, ◌≤◌, min, inl, inr, List, [], ◌∷◌, ◌++◌, refl, ap, ap₂, sym, ◌∙◌, subst, arith, true, Bool, ◌==◌, ◌&&◌}
use Rattle.std.proofs.lemmas.Int.{ints}
use Rattle.std.proofs.lemmas.Bool.{cases_Bool, eq-eqb, eqb-true, and_parts, and_from}
use Rattle.ecpri_fragments.specs.Generations.{Fragment, seen}
use Rattle.ecpri_fragments.specs.Verdicts.{stands, all_stand, verdict, standing, verdict_on, first_of}
use Rattle.fragment_laws.specs.Apart.{Numbers, number_of, of_message, IsFalling, AreApart}
use Rattle.fragment_laws.specs.Flow.{Flow, Bounds, sent_at, IsSound, numbers_of, IsCopyOf, IsDelivered}
use Rattle.fragment_laws.specs.Once.{Answered, answered, answers, IsOnceWhole, told, EachIsWholeOnce, EachIsTold}
use Rattle.fragment_laws.proofs.ApartLemmas.{apart_before, seen_is}
use Rattle.fragment_laws.proofs.FlowLemmas.{number_is, copy, delivered_apart}
use Rattle.fragment_laws.proofs.PieceLemmas.{IsPiece, stands-own, stands-more, all_stand-from, verdict_is, oldest, answers_in, Once, Made, once, not_yet, made}
use Rattle.fh_base.specs.Members.{IsIn}

-- the arrivals of a message are what they are among those of the message alone
pub answers_are : (hold fast slow : ℤ) (first : ℕ → ℕ → ℤ) (num : Numbers) (ep j : ℕ) (xs : List Fragment) → AreApart hold fast slow first num xs
    → answers hold num ep j xs ≡ answers_in (of_message num ep j xs)
answers_are hold fast slow first num ep j [] h = refl
answers_are hold fast slow first num ep j (a ∷ xs) h =
    let before = answers_are hold fast slow first num ep j xs (apart_before hold fast slow first num a xs h) in
    elim (cases_Bool ((a.ep == ep) && (number_of num a == j))) [
      | inl e ↦
          let parts = and_parts (a.ep == ep) (number_of num a == j) e in
          let held : seen hold a xs ≡ of_message num ep j xs =
          seen_is hold fast slow first num a xs h ∙ ap₂ (λ (p q : ℕ). of_message num p q xs) (eqb-true _ _ parts.0) (eqb-true _ _ parts.1) in
          rw e (ap₂ (λ (ys : List Fragment) (rest : List Answered). answered (standing ys) a ∷ rest) held before)
      | inr ne ↦ rw ne before
    ]

of_message-in : (num : Numbers) (ep j : ℕ) (xs : List Fragment) (b : Fragment) → IsIn b (of_message num ep j xs) → IsIn b xs × (b.ep ≡ ep) × (number_of num b ≡ j)
of_message-in num ep j [] b m = absurd m
of_message-in num ep j (a ∷ xs) b m = elim (cases_Bool ((a.ep == ep) && (number_of num a == j))) [
  | inl e ↦
      let parts = and_parts (a.ep == ep) (number_of num a == j) e in
      let n = rw e at m in
      elim n [
        | inl here ↦ (inl here, ap (λ (x : Fragment). x.ep) here ∙ eqb-true _ _ parts.0, ap (λ (x : Fragment). number_of num x) here ∙ eqb-true _ _ parts.1)
        | inr there ↦ (let r = of_message-in num ep j xs b there in (inr r.0, r.1, r.2))
      ]
  | inr ne ↦ (let n = rw ne at m in let r = of_message-in num ep j xs b n in (inr r.0, r.1, r.2))
]

falling_of : (num : Numbers) (ep j : ℕ) (xs : List Fragment) → IsFalling xs → IsFalling (of_message num ep j xs)
falling_of num ep j [] h = tt
falling_of num ep j (a ∷ xs) h = elim (cases_Bool ((a.ep == ep) && (number_of num a == j))) [
  | inl e ↦ rw e (λ b m. h.0 b (of_message-in num ep j xs b m).0, falling_of num ep j xs h.1)
  | inr ne ↦ rw ne (falling_of num ep j xs h.1)
]

stands-in : (num : Numbers) (ep j k : ℕ) (a : Fragment) (xs : List Fragment) → IsIn a xs → a.ep ≡ ep → number_of num a ≡ j → a.sub ≡ k → stands (of_message num ep j xs) k ≡ true
stands-in num ep j k a [] m p q s = absurd m
stands-in num ep j k a (b ∷ xs) (inl here) p q s =
    let u : ((b.ep == ep) && (number_of num b == j)) ≡ true =
    and_from _ _ (eq-eqb _ _ (sym (ap (λ (x : Fragment). x.ep) here) ∙ p)) (eq-eqb _ _ (sym (ap (λ (x : Fragment). number_of num x) here) ∙ q)) in
    rw u (stands-own b (of_message num ep j xs) k (sym (ap (λ (x : Fragment). x.sub) here) ∙ s))
stands-in num ep j k a (b ∷ xs) (inr there) p q s =
    let before = stands-in num ep j k a xs there p q s in
    elim (cases_Bool ((b.ep == ep) && (number_of num b == j))) [
      | inl e ↦ rw e (stands-more b (of_message num ep j xs) k before)
      | inr ne ↦ rw ne before
    ]

-- frames of one message leave in the order of their subsequences
more_gaps : (n i k gap : ℕ) → i ≤ k → (n + i) * gap ≤ (n + k) * gap
more_gaps n i k gap le = grind arith

pub sent_rising : (f : Flow) (j i k : ℕ) → i ≤ k → sent_at f j i ≤ℤ sent_at f j k
sent_rising f j i k le =
    let m = more_gaps (f.before j) i k f.gap le in
    let l : min ((f.before j + i) * f.gap) f.spread ≤ min ((f.before j + k) * f.gap) f.spread = omega arith in
    omega (arith, ints)

is_piece : (b : Bounds) (f : Flow) (j : ℕ) (a : Fragment) → IsCopyOf b f j a → IsPiece (f.pieces j) (f.text j) a
is_piece b f j a c = record { sub = c.sub; last = c.last; bytes = c.bytes }

apart_behind : (hold fast slow : ℤ) (first : ℕ → ℕ → ℤ) (num : Numbers) (later xs : List Fragment) → AreApart hold fast slow first num (later ++ xs) → AreApart hold fast slow first num xs
apart_behind hold fast slow first num [] xs h = h
apart_behind hold fast slow first num (a ∷ later) xs h = apart_behind hold fast slow first num later xs (apart_before hold fast slow first num a (later ++ xs) h)

in_behind : (later xs : List Fragment) (b : Fragment) → IsIn b xs → IsIn b (later ++ xs)
in_behind [] xs b m = m
in_behind (a ∷ later) xs b m = inr (in_behind later xs b m)

-- the first of some fragments is one of them
least : (xs : List Fragment) (b : Fragment) → IsIn b xs → (c : Fragment) × IsIn c xs × (first_of xs ≡ c.at)
least [] b m = absurd m
least (a ∷ []) b m = (a, inl refl, refl)
least (a ∷ c ∷ xs) b m = let r = least (c ∷ xs) c (inl refl) in (r.0, inr r.1, r.2)

some_more : (n : ℕ) → 0 < n → (m : ℕ) × (n ≡ suc m)
some_more zero some = absurd (omega arith)
some_more (suc m) some = (m, refl)

module _ (b : Bounds) (flow : ℕ → Flow) (v : (ep : ℕ) → IsSound b (flow ep)) (all : List Fragment) (d : IsDelivered b flow all) where
  abbrev num : Numbers
  num = numbers_of b flow

  apart : AreApart b.hold b.fast b.slow (λ ep j. sent_at (flow ep) j 0) num all
  apart = delivered_apart b flow v all d

  -- what was received of a message are copies of it
  copy_of : (ep j : ℕ) (xs : List Fragment) → ((a : Fragment) → IsIn a xs → IsIn a all) → (a : Fragment) → IsIn a (of_message num ep j xs) → IsCopyOf b (flow ep) j a
  copy_of ep j xs within a m =
      let w = of_message-in num ep j xs a m in
      subst (λ (i : ℕ). IsCopyOf b (flow i) j a) w.1 (subst (λ (i : ℕ). IsCopyOf b (flow a.ep) i a) w.2 (copy b flow v all d a (within a w.0)))

  -- and of each fragment there is one
  all_came : (ep j : ℕ) → j < (flow ep).count → all_stand (of_message num ep j all) ((flow ep).pieces j) ≡ true
  all_came ep j below = all_stand-from ((flow ep).pieces j) (of_message num ep j all) (λ k less.
      (let w = d.every ep j k below less in
      let same : number_of num w.0 ≡ j = number_is b flow v w.0 j (subst (λ (i : ℕ). IsCopyOf b (flow i) j w.0) (sym w.2) w.4) in
      stands-in num ep j k w.0 all w.1 w.2 same w.3))

  made_all : (ep j : ℕ) → j < (flow ep).count → Once ((flow ep).pieces j) ((flow ep).text j) (of_message num ep j all) (answers_in (of_message num ep j all))
  made_all ep j below =
      let n = some_more ((flow ep).pieces j) ((v ep).some j below) in
      let m = made ((flow ep).pieces j) ((flow ep).text j) n.0 n.1 ((v ep).short j below) (of_message num ep j all) (falling_of num ep j all d.falling)
      (λ a i. is_piece b (flow ep) j a (copy_of ep j all (λ c w. w) a i)) in
      go (all_stand (of_message num ep j all) ((flow ep).pieces j)) (all_came ep j below) m
    where
      go : (x : Bool) → x ≡ true → Made ((flow ep).pieces j) ((flow ep).text j) (of_message num ep j all) (answers_in (of_message num ep j all)) x
          → Once ((flow ep).pieces j) ((flow ep).text j) (of_message num ep j all) (answers_in (of_message num ep j all))
      go _ e (not_yet w) = absurd (cc)
      go _ e (once o) = o

  pub once_whole : (ep j : ℕ) → j < (flow ep).count → IsOnceWhole b (flow ep) j (of_message num ep j all) (answers b.hold num ep j all)
  once_whole ep j below =
      let o = made_all ep j below in
      let one : (a : Fragment) → IsIn a (of_message num ep j all) → IsCopyOf b (flow ep) j a = copy_of ep j all (λ c w. w) in
      let some = (v ep).some j below in
      record {
        after = o.after;
        whole = o.whole;
        before = o.before;
        is = answers_are b.hold b.fast b.slow (λ ep j. sent_at (flow ep) j 0) num ep j all apart ∙ o.is;
        was = o.was;
        repeats = o.repeats;
        waits = o.waits;
        pieces = o.pieces;
        first = o.first;
        last = o.last;
        first_from =
            (let r = least (of_message num ep j all) (o.there 0 some).0 (o.there 0 some).1 in
            let c = one r.0 r.1 in
            let x = c.from in
            let y = sent_rising (flow ep) j 0 r.0.sub (omega arith) in
            let e = r.2 in
            let g = o.first in
            omega (arith, ints));
        first_to =
            (let w = o.there 0 some in
            let c = one w.0 w.1 in
            let x = subst (λ (k : ℕ). w.0.at ≤ℤ (sent_at (flow ep) j k +ℤ b.slow)) w.2 c.to in
            let y = oldest (of_message num ep j all) (falling_of num ep j all d.falling) w.0 w.1 in
            let g = o.first in
            omega (arith, ints));
        last_from = λ e q.
            (let w = o.there e (omega (arith, q)) in
            let c = one w.0 w.1 in
            let x = subst (λ (k : ℕ). (sent_at (flow ep) j k +ℤ b.fast) ≤ℤ w.0.at) w.2 c.from in
            let y = w.3 in
            let g = o.last in
            omega (arith, ints));
        last_to = λ e q.
            (let c = one o.whole.fragment o.own in
            let small = c.sub in
            let r = sent_rising (flow ep) j o.whole.fragment.sub e (omega (arith, q, small)) in
            let x = c.to in
            let g = o.last in
            omega (arith, ints));
      }

  -- each arrival is told
  pub each_told : (later earlier : List Fragment) (a : Fragment) → all ≡ later ++ a ∷ earlier
      → verdict_on b.hold a earlier ≡ told ((flow a.ep).pieces (number_of num a)) a (of_message num a.ep (number_of num a) earlier)
  each_told later earlier a is =
      let h = apart_behind b.hold b.fast b.slow (λ ep j. sent_at (flow ep) j 0) num later (a ∷ earlier) (subst (AreApart b.hold b.fast b.slow (λ ep j. sent_at (flow ep) j 0) num) is apart) in
      let within : (c : Fragment) → IsIn c (a ∷ earlier) → IsIn c all = λ c m. subst (λ (xs : List Fragment). IsIn c xs) (sym is) (in_behind later (a ∷ earlier) c m) in
      let c = copy b flow v all d a (within a (inl refl)) in
      let f = flow a.ep in
      let j = number_of num a in
      let n = some_more (f.pieces j) ((v a.ep).some j c.below) in
      let held = of_message num a.ep j earlier in
      let w = verdict_is (f.pieces j) (f.text j) n.0 n.1 ((v a.ep).short j c.below) a held (is_piece b f j a c) (λ x i. is_piece b f j x (copy_of a.ep j earlier (λ y m. within y (inr m)) x i)) in
      let same : verdict_on b.hold a earlier ≡ verdict (standing held) a = ap (λ (ys : List Fragment). verdict (standing ys) a) (seen_is b.hold b.fast b.slow (λ ep j. sent_at (flow ep) j 0) num a earlier h) in
      same ∙ w

pub each_is_whole_once : EachIsWholeOnce
each_is_whole_once = once_whole

pub each_is_told : EachIsTold
each_is_told = each_told
