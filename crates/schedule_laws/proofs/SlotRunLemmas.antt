-- Lines in the order of slots: the first ones of one slot are all of it.
use Rattle.std.proofs.Common.{◌≡◌, ℕ, inl, inr, Bool, true, false, ◌==◌, nat_lt, if◌then◌else◌, List, [], ◌∷◌, ◌++◌, Option, Some, None, refl, ap, ap₂, sym, ◌∙◌, subst, zero, suc, ◌+◌, ◌<◌, ◌≤◌, length, get_or, take, drop, true≢false, arith}
use Rattle.std.specs.List.{AllByRecursion}
use Rattle.std.proofs.lemmas.Map.Lookups.{exact_pairs, exact_signed, exact_unsigned}
use Rattle.std.specs.Prelude.{ℤ}
use Rattle.std.specs.Cmp.{IsTotalOrder}
use Rattle.std.specs.Ordering.{nat_cmp, int_cmp, is_lt, ordering_reverse}
use Rattle.std.specs.declared.cmp.Ordering.{Ordering}
use Rattle.std.specs.declared.cmp.Ordering.TheVariants.{Less, Equal, Greater}
use Rattle.std.proofs.lemmas.Bool.{cases_Bool, and_parts, and_from, eq-eqb, cases_eq}
use Rattle.std.proofs.lemmas.Cmp.{nat_cmp_total, int_cmp_total, on_total, then_total}
use Rattle.std.proofs.lemmas.List.{append-nil, get_or_default, take-append-drop}
use Rattle.std.proofs.lemmas.List.Elements.{filter-append}
use Rattle.fh_base.specs.declared.values.Slot.{Slot}
use Rattle.unit_model.specs.Claims.{same_slot}
use Rattle.plan_model.specs.Lines.{line_allocation}
use Rattle.plan_model.specs.declared.lines.PlannedLine.{PlannedLine}
use Rattle.plan_model.specs.declared.refusals.PlanWhy.{PlanWhy}
use Rattle.schedule_laws.specs.SlotOrder.{slot_cmp, comes_first, ArePlannedInOrder, IsFirstRun}
use Rattle.schedule_laws.specs.SlotTests.{is_of_slot, of_home, judged, judged_in, lesser_refusal, least_along}
use Rattle.fh_base.proofs.Order.{same_fields as same_slot_fields}
use Rattle.unit_model.proofs.ClaimLemmas.{same_slot_is as slot_is, slot_self as slot_own}
use Rattle.std.proofs.Math.Seq.{drop-nil}
use Rattle.fh_base.specs.Members.{IsIn}
use Rattle.fh_base.proofs.MemberLemmas.{all_in, all_from, all_map, filter_all, filter_none}

-- ---- the order of slots

pub slot_total : IsTotalOrder slot_cmp
slot_total = then_total (on_total (λ (s : Slot). s.frame) int_cmp_total) (then_total (on_total (λ (s : Slot). s.subframe) nat_cmp_total) (on_total (λ (s : Slot). s.slot) nat_cmp_total))

pub slot_equal : (a b : Slot) → slot_cmp a b ≡ Equal → a ≡ b
slot_equal a b h =
    let same = exact_pairs int_cmp _ exact_signed (exact_pairs nat_cmp nat_cmp exact_unsigned exact_unsigned) (a.frame, (a.subframe, a.slot)) (b.frame, (b.subframe, b.slot)) h in
    same_slot_fields a b (ap (λ (x : ℤ × (ℕ × ℕ)). x.0) same) (ap (λ (x : ℤ × (ℕ × ℕ)). x.1.0) same) (ap (λ (x : ℤ × (ℕ × ℕ)). x.1.1) same)

-- neither is first: they are of one slot
pub tie_is : (a b : Slot) → is_lt (slot_cmp a b) ≡ false → is_lt (slot_cmp b a) ≡ false → a ≡ b
tie_is a b h g = slot_equal a b (go (slot_cmp a b) (slot_cmp b a) h g (slot_total.antisymm a b))
  where
    go : (x y : Ordering) → is_lt x ≡ false → is_lt y ≡ false → x ≡ ordering_reverse y → x ≡ Equal
    go Less y h g e = cc
    go Equal y h g e = refl
    go Greater Less h g e = cc
    go Greater Equal h g e = cc
    go Greater Greater h g e = cc

-- ---- lines of one slot in front

-- a run, and the others after it
pub record IsRun (p : PlannedLine) (run others : List PlannedLine) : Type 0 where
  pub same : AllByRecursion (λ q. q.line.slot ≡ p.line.slot) run
  pub apart : (q : PlannedLine) → IsIn q others → q.line.slot ≡ p.line.slot → ⊥

-- what is after a line in order
behind_first : (p : PlannedLine) (xs : List PlannedLine) (others : List PlannedLine) → ArePlannedInOrder (p ∷ (xs ++ others)) → (q : PlannedLine) → IsIn q others → comes_first q p ≡ false
behind_first p [] others h q m = all_in (λ q. comes_first q p ≡ false) others q h.0 m
behind_first p (x ∷ xs) others h q m = behind_first p xs others (h.0.1, h.1.1) q m

pub order_behind : (xs others : List PlannedLine) → ArePlannedInOrder (xs ++ others) → ArePlannedInOrder others
order_behind [] others h = h
order_behind (x ∷ xs) others h = order_behind xs others h.1

-- where the first of the others is of another slot, all are
others_apart : (p : PlannedLine) (xs others : List PlannedLine) → ArePlannedInOrder (p ∷ (xs ++ others)) → ((z : PlannedLine) (zs : List PlannedLine) → others ≡ z ∷ zs → z.line.slot ≡ p.line.slot → ⊥)
    → (q : PlannedLine) → IsIn q others → q.line.slot ≡ p.line.slot → ⊥
others_apart p xs [] h first q m e = m
others_apart p xs (z ∷ zs) h first q m e = elim m [
  | inl here ↦ first z zs refl (ap (λ (x : PlannedLine). x.line.slot) (sym here) ∙ e)
  | inr there ↦
      let z_behind : comes_first z p ≡ false = behind_first p xs (z ∷ zs) h z (inl refl) in
      let order = order_behind xs (z ∷ zs) h.1 in
      let q_behind : comes_first q z ≡ false = all_in (λ w. comes_first w z ≡ false) zs q order.0 there in
      let p_behind : is_lt (slot_cmp p.line.slot z.line.slot) ≡ false = subst (λ (s : Slot). is_lt (slot_cmp s z.line.slot) ≡ false) e q_behind in
      first z zs refl (tie_is z.line.slot p.line.slot z_behind p_behind)
]

pub run_is : (p : PlannedLine) (xs others : List PlannedLine) → ArePlannedInOrder (p ∷ (xs ++ others)) → AllByRecursion (λ q. q.line.slot ≡ p.line.slot) (p ∷ xs)
    → ((z : PlannedLine) (zs : List PlannedLine) → others ≡ z ∷ zs → z.line.slot ≡ p.line.slot → ⊥) → IsRun p (p ∷ xs) others
run_is p xs others h same first = record { same = same; apart = others_apart p xs others h first }

-- ---- what a run leaves

pub home_true : (ep : ℕ) (slot : Slot) (q : PlannedLine) → q.ep ≡ ep → q.line.slot ≡ slot → is_of_slot ep slot (line_allocation q) ≡ true
home_true ep slot q e s = and_from (q.ep == ep) _ (eq-eqb q.ep ep e) (ap (λ (t : Slot). same_slot t slot) s ∙ slot_own slot)

pub home_false : (ep : ℕ) (slot : Slot) (q : PlannedLine) → (q.line.slot ≡ slot → ⊥) → is_of_slot ep slot (line_allocation q) ≡ false
home_false ep slot q apart = elim (cases_Bool (is_of_slot ep slot (line_allocation q))) [
  | inr f ↦ f
  | inl t ↦ absurd (apart (slot_is q.line.slot slot (and_parts (q.ep == ep) _ t).1))
]

pub both_all : {X : Type 0} (P Q : X → Type 0) (xs : List X) → AllByRecursion P xs → AllByRecursion Q xs → AllByRecursion (λ x. P x × Q x) xs
both_all P Q [] h g = tt
both_all P Q (x ∷ xs) h g = ((h.0, g.0), both_all P Q xs h.1 g.1)

-- the run is all of its slot
pub home_of_run : (p : PlannedLine) (run others : List PlannedLine) → IsRun p run others → AllByRecursion (λ q. q.ep ≡ p.ep) run → of_home p.ep p.line.slot (run ++ others) ≡ run
home_of_run p run others is eps =
    filter-append (λ q. is_of_slot p.ep p.line.slot (line_allocation q)) run others
    ∙ ap₂ (λ (xs ys : List PlannedLine). xs ++ ys)
    (filter_all (λ q. is_of_slot p.ep p.line.slot (line_allocation q)) run
    (all_map (λ q. (q.ep ≡ p.ep) × (q.line.slot ≡ p.line.slot)) (λ q. is_of_slot p.ep p.line.slot (line_allocation q) ≡ true) (λ q h. home_true p.ep p.line.slot q h.0 h.1) run
    (both_all (λ q. q.ep ≡ p.ep) (λ q. q.line.slot ≡ p.line.slot) run eps is.same)))
    (filter_none (λ q. is_of_slot p.ep p.line.slot (line_allocation q)) others (all_from (λ q. is_of_slot p.ep p.line.slot (line_allocation q) ≡ false) others (λ q m. home_false p.ep p.line.slot q (is.apart q m))))
    ∙ append-nil run

-- and leaves other slots as they were
pub home_of_others : (p : PlannedLine) (run others : List PlannedLine) → IsRun p run others → (q : PlannedLine) → IsIn q others
    → of_home q.ep q.line.slot others ≡ of_home q.ep q.line.slot (run ++ others)
home_of_others p run others is q m =
    sym (filter-append (λ x. is_of_slot q.ep q.line.slot (line_allocation x)) run others
    ∙ ap (λ (xs : List PlannedLine). xs ++ of_home q.ep q.line.slot others)
    (filter_none (λ x. is_of_slot q.ep q.line.slot (line_allocation x)) run
    (all_map (λ x. x.line.slot ≡ p.line.slot) (λ x. is_of_slot q.ep q.line.slot (line_allocation x) ≡ false)
    (λ x h. home_false q.ep q.line.slot x (λ e. is.apart q m (sym e ∙ h))) run is.same)))

-- ---- the least

lesser_twice : (x r : Option (ℕ × PlanWhy)) → lesser_refusal (lesser_refusal x r) r ≡ lesser_refusal x r
lesser_twice None None = refl
lesser_twice None (Some q) = self (nat_lt q.0 q.0)
  where
    self : (b : Bool) → (let o : Option (ℕ × PlanWhy) = if b then Some q else Some q in o) ≡ Some q
    self true = refl
    self false = refl
lesser_twice (Some p) None = refl
lesser_twice (Some p) (Some q) = go (nat_lt q.0 p.0) refl
  where
    self : (b : Bool) → (let o : Option (ℕ × PlanWhy) = if b then Some q else Some q in o) ≡ Some q
    self true = refl
    self false = refl

    go : (b : Bool) → nat_lt q.0 p.0 ≡ b → lesser_refusal (let o : Option (ℕ × PlanWhy) = if b then Some q else Some p in o) (Some q) ≡ (let o : Option (ℕ × PlanWhy) = if b then Some q else Some p in o)
    go true e = self (nat_lt q.0 q.0)
    go false e = ap (λ (b : Bool). let o : Option (ℕ × PlanWhy) = if b then Some q else Some p in o) e

least_same : (ps : List PlannedLine) (r x : Option (ℕ × PlanWhy)) (run others : List PlannedLine) → AllByRecursion (λ q. judged_in ps q ≡ r) run → lesser_refusal x r ≡ x
    → least_along ps x (run ++ others) ≡ least_along ps x others
unfolding least_along
least_same ps r x [] others h e = refl
least_same ps r x (q ∷ run) others h e = ap (λ (y : Option (ℕ × PlanWhy)). least_along ps y (run ++ others)) (ap (lesser_refusal x) h.0 ∙ e) ∙ least_same ps r x run others h.1 e

home_same : (ps : List PlannedLine) (p q : PlannedLine) → q.ep ≡ p.ep → q.line.slot ≡ p.line.slot → judged_in ps q ≡ judged_in ps p
home_same ps p q e s = ap₂ (λ (i : ℕ) (t : Slot). judged (of_home i t ps)) e s

pub least_of_run : (ps : List PlannedLine) (x : Option (ℕ × PlanWhy)) (p : PlannedLine) (xs others : List PlannedLine) → AllByRecursion (λ q. q.ep ≡ p.ep) (p ∷ xs)
    → AllByRecursion (λ q. q.line.slot ≡ p.line.slot) (p ∷ xs) → least_along ps x ((p ∷ xs) ++ others) ≡ least_along ps (lesser_refusal x (judged_in ps p)) others
unfolding least_along
least_of_run ps x p xs others eps slots =
    least_same ps (judged_in ps p) (lesser_refusal x (judged_in ps p)) xs others
    (all_map (λ q. (q.ep ≡ p.ep) × (q.line.slot ≡ p.line.slot)) (λ q. judged_in ps q ≡ judged_in ps p) (λ q h. home_same ps p q h.0 h.1) xs
    (both_all (λ q. q.ep ≡ p.ep) (λ q. q.line.slot ≡ p.line.slot) xs eps.1 slots.1)) (lesser_twice x (judged_in ps p))

-- ---- the first slot of what is left

-- the first lines, all of one slot, and what is after them
pub record IsCut (lines run others : List PlannedLine) (p : PlannedLine) : Type 0 where
  pub run_is : IsRun p run others
  pub whole : run ++ others ≡ lines
  pub first : (xs : List PlannedLine) × (run ≡ p ∷ xs)

all_taken : {X : Type 0} (P : X → Type 0) (n : ℕ) (xs : List X) → ((k : ℕ) (d : X) → k < n → k < length xs → P (get_or xs k d)) → AllByRecursion P (take n xs)
all_taken P zero xs h = tt
all_taken P (suc n) [] h = tt
all_taken P (suc n) (x ∷ xs) h = (h 0 x (omega arith) (omega arith), all_taken P n xs (λ k d a b. h (suc k) d (omega (arith, a)) (omega (arith, b))))

dropped_first : {X : Type 0} (n : ℕ) (xs : List X) (z : X) (zs : List X) → drop n xs ≡ z ∷ zs → (n < length xs) × (get_or xs n z ≡ z)
dropped_first n [] z zs h = (let e : [] ≡ z ∷ zs = sym (drop-nil n) ∙ h in cc)
dropped_first zero (x ∷ xs) z zs h = (omega arith, cc)
dropped_first (suc n) (x ∷ xs) z zs h = let r = dropped_first n xs z zs h in (let l = r.0 in omega (arith, l), r.1)

pub cut_is : (lines : List PlannedLine) (n : ℕ) (p : PlannedLine) → IsFirstRun lines n → p ≡ get_or lines 0 p → ArePlannedInOrder lines → IsCut lines (take n lines) (drop n lines) p
cut_is [] n p f is order = absurd (let s = f.some in let w = f.within in omega (arith, s, w))
cut_is (x ∷ xs) zero p f is order = absurd (let s = f.some in omega (arith, s))
cut_is (x ∷ xs) (suc n) p f is order =
    let whole : take n xs ++ drop n xs ≡ xs = take-append-drop n xs in
    let in_order : ArePlannedInOrder (x ∷ (take n xs ++ drop n xs)) = subst (λ (ys : List PlannedLine). ArePlannedInOrder (x ∷ ys)) (sym whole) order in
    let same : AllByRecursion (λ q. q.line.slot ≡ x.line.slot) (x ∷ take n xs) =
    (refl, all_taken (λ q. q.line.slot ≡ x.line.slot) n xs (λ k d a b. f.same (suc k) d (omega (arith, a)))) in
    let run : IsRun x (x ∷ take n xs) (drop n xs) = run_is x (take n xs) (drop n xs) in_order same
    (λ z zs e s. let r = dropped_first n xs z zs e in f.next z (let l = r.0 in omega (arith, l)) (ap (λ (q : PlannedLine). q.line.slot) r.1 ∙ s)) in
    record {
      run_is = subst (λ (y : PlannedLine). IsRun y (x ∷ take n xs) (drop n xs)) (sym is) run;
      whole = ap (λ (ys : List PlannedLine). x ∷ ys) whole;
      first = (take n xs, ap (λ (y : PlannedLine). y ∷ take n xs) (sym is));
    }

-- ---- how long the first slot is

abbrev pub SameTo : List PlannedLine → ℕ → Type 0
SameTo lines n = (j : ℕ) (d : PlannedLine) → j < n → (get_or lines j d).line.slot ≡ (get_or lines 0 d).line.slot

pub same_first : (lines : List PlannedLine) → SameTo lines 1
same_first lines zero d below = refl
same_first lines (suc j) d below = absurd (omega (arith, below))

read_at : (lines : List PlannedLine) (k : ℕ) (d x : PlannedLine) → k < length lines → (get_or lines k x).line.slot ≡ (get_or lines k d).line.slot
read_at lines k d x below = ap (λ (q : PlannedLine). q.line.slot) (get_or_default lines k x d below)

pub same_more : (lines : List PlannedLine) (k : ℕ) (x y : PlannedLine) → SameTo lines k → 1 ≤ k → k < length lines
    → same_slot (get_or lines k x).line.slot (get_or lines 0 y).line.slot ≡ true → SameTo lines (k + 1)
same_more lines k x y same some below is j d j_below = elim (cases_eq j k) [
  | inr other ↦ same j d (omega (arith, other))
  | inl here ↦
      ap (λ (i : ℕ). (get_or lines i d).line.slot) here ∙ sym (read_at lines k d x below)
      ∙ slot_is (get_or lines k x).line.slot (get_or lines 0 y).line.slot is ∙ read_at lines 0 d y (omega (arith, some, below))
]

pub run_ends : (lines : List PlannedLine) (k : ℕ) (x y : PlannedLine) → SameTo lines k → 1 ≤ k → k < length lines
    → same_slot (get_or lines k x).line.slot (get_or lines 0 y).line.slot ≡ false → IsFirstRun lines k
run_ends lines k x y same some below is = record {
  some = omega (arith, some);
  within = omega (arith, below);
  same = same;
  next = λ d n_below e.
      let both : (get_or lines k x).line.slot ≡ (get_or lines 0 y).line.slot = read_at lines k d x below ∙ e ∙ sym (read_at lines 0 d y (omega (arith, some, below))) in
      true≢false (sym (ap (λ (s : Slot). same_slot s (get_or lines 0 y).line.slot) both ∙ slot_own (get_or lines 0 y).line.slot) ∙ is);
}

pub run_whole : (lines : List PlannedLine) (k : ℕ) → SameTo lines k → 0 < length lines → 1 ≤ k → (1 ≤ length lines → k ≤ length lines) → length lines ≤ k → IsFirstRun lines (length lines)
run_whole lines k same some one few all = record {
  some = some;
  within = omega arith;
  same = λ j d below. same j d (omega (arith, below, all));
  next = λ d below e. absurd (omega (arith, below));
}

pub cut_of : (lines run others : List PlannedLine) (n : ℕ) (p : PlannedLine) → IsFirstRun lines n → p ≡ get_or lines 0 p → ArePlannedInOrder lines → run ≡ take n lines → others ≡ drop n lines
    → IsCut lines run others p
cut_of lines run others n p f is order front back =
    subst (λ (xs : List PlannedLine). IsCut lines xs others p) (sym front) (subst (λ (ys : List PlannedLine). IsCut lines (take n lines) ys p) (sym back) (cut_is lines n p f is order))
