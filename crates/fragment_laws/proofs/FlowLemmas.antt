-- Messages that are not dense, whose frames take no longer than the bounds say, are apart.
use Rattle.std.proofs.Common.{◌≡◌, ℕ, zero, suc, ℤ, pos, ◌+ℤ◌, ◌≤ℤ◌, ◌<ℤ◌, ◌+◌, ◌-◌, ◌*◌, ◌/◌, ◌%◌, ◌<◌, ◌≤◌, min, inl, inr, List, refl, ap, sym, ◌∙◌, subst, arith, true, false, Bool, if◌then◌else◌, ◌==◌, ◌&&◌, int_le}
use Rattle.std.proofs.lemmas.Int.{ints}
use Rattle.std.proofs.lemmas.Bool.{cases_eq, eq-eqb, ne_eqb, and_from}
use Rattle.ecpri_fragments.specs.Generations.{Fragment}
use Rattle.fragment_laws.specs.Apart.{number_of, AreApart}
use Rattle.fragment_laws.specs.Flow.{Flow, Bounds, sent_at, IsSound, search_from, numbers_of, IsCopyOf, IsDelivered, DeliveredAreApart, NumbersAreTold}
use Rattle.fh_base.proofs.Orders.{true_le as le_true}
use Rattle.fragment_laws.proofs.ApartLemmas.{lt_false}
use Rattle.fh_base.specs.Members.{IsIn}

module _ (b : Bounds) (t : Flow) (v : IsSound b t) where
  pub sent_from : (j sub : ℕ) → t.low j ≤ℤ sent_at t j sub
  sent_from j sub = omega (arith, ints)

  pub sent_to : (j sub : ℕ) → sent_at t j sub ≤ℤ (t.low j +ℤ pos t.spread)
  sent_to j sub = let m : min ((t.before j + sub) * t.gap) t.spread ≤ t.spread = omega arith in omega (arith, ints)

  more_gaps : (n sub : ℕ) → (n + 0) * t.gap ≤ (n + sub) * t.gap
  more_gaps n sub = grind arith

  pub first_is_first : (j sub : ℕ) → sent_at t j 0 ≤ℤ sent_at t j sub
  first_is_first j sub =
      let m = more_gaps (t.before j) sub in
      let l : min ((t.before j + 0) * t.gap) t.spread ≤ min ((t.before j + sub) * t.gap) t.spread = omega arith in
      omega (arith, ints)

  distant : (j : ℕ) → j + 256 < t.count → (sent_at t j 0 +ℤ b.hold +ℤ b.slow) <ℤ (sent_at t (j + 256) 0 +ℤ b.fast)
  distant j below =
      let x = sent_to j 0 in
      let y = sent_from (j + 256) 0 in
      let r = v.rising j (j + 256) (omega arith) below in
      let h = v.hold in
      let d = v.delays in
      elim (v.not_dense j below) [ inl before ↦ omega (arith, ints) | inr after ↦ absurd (omega (arith, ints)) ]

  chain : (j m : ℕ) → j + 256 * suc m < t.count → (sent_at t j 0 +ℤ b.hold +ℤ b.slow) <ℤ (sent_at t (j + 256 * suc m) 0 +ℤ b.fast)
  chain j zero below = let e : j + 256 * 1 ≡ j + 256 = omega arith in rw e (distant j (omega arith))
  chain j (suc m) below =
      let e : j + 256 * suc (suc m) ≡ j + 256 * suc m + 256 = omega arith in
      let before = chain j m (omega arith) in
      let now = distant (j + 256 * suc m) (omega arith) in
      let d = v.delays in
      let h = v.hold in
      rw e (omega (arith, ints))

  pub same_id_later : (j k : ℕ) → k < t.count → j % 256 ≡ k % 256 → j < k → (sent_at t j 0 +ℤ b.hold +ℤ b.slow) <ℤ (sent_at t k 0 +ℤ b.fast)
  same_id_later j k below same order =
      let e : k ≡ j + 256 * suc (k / 256 - j / 256 - 1) = omega arith in
      let far = chain j (k / 256 - j / 256 - 1) (omega (arith, e)) in
      subst (λ i. (sent_at t j 0 +ℤ b.hold +ℤ b.slow) <ℤ (sent_at t i 0 +ℤ b.fast)) (sym e) far

  and_none : (x : Bool) → (x && false) ≡ false
  and_none true = refl
  and_none false = refl

  search-is : (j : ℕ) (at : ℤ) (from n : ℕ) → j < t.count → (sent_at t j 0 +ℤ b.fast) ≤ℤ at → at ≤ℤ (sent_at t j 0 +ℤ b.fast +ℤ b.hold) → from ≤ j → j < from + n
      → search_from b t (j % 256) at from n ≡ j
  unfolding search_from
  search-is j at from zero below x y c d = absurd (omega arith)
  search-is j at from (suc n) below x y c d = elim (cases_eq from j) [
    | inl e ↦
        let now : ((from % 256 == j % 256) && int_le at (sent_at t from 0 +ℤ b.fast +ℤ b.hold)) ≡ true =
        and_from _ _ (eq-eqb _ _ (ap (λ i. i % 256) e)) (le_true at (sent_at t from 0 +ℤ b.fast +ℤ b.hold) (let f : sent_at t from 0 ≡ sent_at t j 0 = ap (λ i. sent_at t i 0) e in omega (arith, ints))) in
        ap (λ (q : Bool). if q then from else search_from b t (j % 256) at (from + 1) n) now ∙ e
    | inr ne ↦
        let later : ((from % 256 == j % 256) && int_le at (sent_at t from 0 +ℤ b.fast +ℤ b.hold)) ≡ false = elim (cases_eq (from % 256) (j % 256)) [
          | inr other ↦ ap (λ (q : Bool). q && int_le at (sent_at t from 0 +ℤ b.fast +ℤ b.hold)) (ne_eqb _ _ other)
          | inl same ↦
              let f = same_id_later from j below same (omega (arith, ne)) in
              let g = v.delays in
              let l = lt_false at (sent_at t from 0 +ℤ b.fast +ℤ b.hold) (omega (arith, ints)) in
              ap (λ (q : Bool). (from % 256 == j % 256) && q) l ∙ and_none (from % 256 == j % 256)
        ] in
        ap (λ (q : Bool). if q then from else search_from b t (j % 256) at (from + 1) n) later ∙ search-is j at (from + 1) n below x y (omega (arith, ne)) (omega arith)
  ]

  pub number_told : (j : ℕ) (a : Fragment) → IsCopyOf b t j a → search_from b t a.seq a.at 0 t.count ≡ j
  number_told j a c =
      let f = first_is_first j a.sub in
      let g = sent_from j 0 in
      let h = sent_to j a.sub in
      let w = v.hold in
      let d = v.delays in
      let x = c.from in
      let y = c.to in
      ap (λ i. search_from b t i a.at 0 t.count) c.id ∙ search-is j a.at 0 t.count c.below (omega (arith, ints)) (omega (arith, ints)) (omega arith) (let z = c.below in omega arith)

pub number_is : NumbersAreTold
number_is b flow v a j c = number_told b (flow a.ep) (v a.ep) j a c

module _ (b : Bounds) (flow : ℕ → Flow) (v : (ep : ℕ) → IsSound b (flow ep)) (all : List Fragment) (d : IsDelivered b flow all) where
  pub copy : (a : Fragment) → IsIn a all → IsCopyOf b (flow a.ep) (number_of (numbers_of b flow) a) a
  copy a m = let c = d.came a m in subst (λ j. IsCopyOf b (flow a.ep) j a) (sym (number_is b flow v a c.0 c.1)) c.1

  pub delivered_apart : AreApart b.hold b.fast b.slow (λ ep j. sent_at (flow ep) j 0) (numbers_of b flow) all
  delivered_apart = record {
    falling = d.falling;
    order = (v 0).delays;
    ids = λ a m. (copy a m).id;
    from = λ a m. (let f = first_is_first b (flow a.ep) (v a.ep) (number_of (numbers_of b flow) a) a.sub in let g = (copy a m).from in omega (arith, ints));
    to = λ a m.
        (let f = sent_from b (flow a.ep) (v a.ep) (number_of (numbers_of b flow) a) 0 in
        let g = sent_to b (flow a.ep) (v a.ep) (number_of (numbers_of b flow) a) a.sub in
        let l = (copy a m).to in
        let h = (v a.ep).hold in
        let e = (v a.ep).delays in
        omega (arith, ints));
    soon = λ a m.
        (let c = copy a m in
        let w = d.every a.ep (number_of (numbers_of b flow) a) 0 c.below ((v a.ep).some (number_of (numbers_of b flow) a) c.below) in
        let same : number_of (numbers_of b flow) w.0 ≡ number_of (numbers_of b flow) a = number_is b flow v w.0 (number_of (numbers_of b flow) a) (subst (λ ep. IsCopyOf b (flow ep) (number_of (numbers_of b flow) a) w.0) (sym w.2) w.4) in
        let l = w.4.to in
        inr (w.0, w.1, w.2, same, subst (λ s. w.0.at ≤ℤ (sent_at (flow a.ep) (number_of (numbers_of b flow) a) s +ℤ b.slow)) w.3 l));
    apart = λ a c m n ep same order.
        (let x = copy a m in
        let y = copy c n in
        let below : number_of (numbers_of b flow) c < (flow a.ep).count = subst (λ i. number_of (numbers_of b flow) c < (flow i).count) (sym ep) y.below in
        let far = same_id_later b (flow a.ep) (v a.ep) (number_of (numbers_of b flow) a) (number_of (numbers_of b flow) c) below (sym x.id ∙ same ∙ y.id) order in
        subst (λ i. (sent_at (flow a.ep) (number_of (numbers_of b flow) a) 0 +ℤ b.hold +ℤ b.slow) <ℤ (sent_at (flow i) (number_of (numbers_of b flow) c) 0 +ℤ b.fast)) ep far);
  }

pub delivered_are_apart : DeliveredAreApart
delivered_are_apart = delivered_apart
