-- Each slot is judged by its own lines alone.
use Rattle.std.proofs.Common.{◌≡◌, ℕ, ◌+◌, ◌≤◌, ◌⊎◌, inl, inr, Bool, true, false, ◌&&◌, ◌||◌, ◌==◌, nat_le, if◌then◌else◌, List, [], ◌∷◌, filter, Option, Some, None, refl, ap, ap₂, sym, ◌∙◌, subst, true≢false, arith}
use Rattle.std.specs.Prelude.{⊤}
use Rattle.std.specs.List.{list_any}
use Rattle.std.proofs.lemmas.Bool.{cases_Bool, and_parts, and_from, eq-eqb, eqb-true}
use Rattle.fh_base.specs.declared.values.Slot.{Slot}
use Rattle.unit_model.specs.declared.allocations.Allocation.{Allocation}
use Rattle.unit_model.specs.Claims.{same_slot, same_way}
use Rattle.unit_model.specs.Commands.{is_uplink, uplink_in, is_full}
use Rattle.plan_model.specs.Validity.{share_cell, clash, why_claimed, refused_at}
use Rattle.plan_model.specs.declared.refusals.PlanWhy.{PlanWhy}
use Rattle.schedule_laws.specs.SlotTests.{AreProper, AreClear, why_judged, refused_along, refused_in, is_of_slot, IsFrom, IsLeastSlot}
use Rattle.plan_model.specs.declared.refusals.PlanWhy.TheVariants.{Overlap, TooManySections}
use Rattle.schedule_laws.proofs.OverlapLemmas.{why_is, none_is}
use Rattle.unit_model.specs.declared.uplink.TheConstants.{SLOT_SECTIONS}
use Rattle.unit_model.proofs.ClaimLemmas.{same_slot_is as slot_is, slot_self as slot_own}
use Rattle.fh_base.specs.Members.{IsIn}

-- the words of a line that is refused, of one that is not
abbrev pub chosen : Bool → Bool → Option PlanWhy
chosen c f = if c then Some Overlap else (if f then Some TooManySections else None)

-- a result from number k on
abbrev pub AtLeast : ℕ → Option (ℕ × PlanWhy) → Type 0
AtLeast k None = ⊤
AtLeast k (Some q) = k ≤ q.0

at_least : (k : ℕ) (w : Option PlanWhy) (t : Option (ℕ × PlanWhy)) → AtLeast (k + 1) t → AtLeast k (refused_at k w t)
at_least k (Some x) t h = omega arith
at_least k None None h = tt
at_least k None (Some q) h = omega (arith, h)

less : (k : ℕ) (t : Option (ℕ × PlanWhy)) → AtLeast (k + 1) t → AtLeast k t
less k None h = tt
less k (Some q) h = omega (arith, h)

both_from : (k : ℕ) (w : Option PlanWhy) (r t : Option (ℕ × PlanWhy)) → IsFrom r t → IsFrom (refused_at k w r) (refused_at k w t)
both_from k None r t h = h
both_from k (Some x) r t h = inl refl

one_from : (k : ℕ) (w : Option PlanWhy) (r t : Option (ℕ × PlanWhy)) → IsFrom r t → AtLeast (k + 1) t → IsFrom (refused_at k w r) t
one_from k None r t h l = h
one_from k (Some x) r None h l = tt
one_from k (Some x) r (Some q) h l = inr (omega (arith, l))

module _ (ep : ℕ) (slot : Slot) where
  -- ---- one step

  step_in : (why : List Allocation → Allocation → Option PlanWhy) (earlier : List Allocation) (k : ℕ) (a : Allocation) (ls : List Allocation) → is_of_slot ep slot a ≡ true
      → refused_in why ep slot earlier k (a ∷ ls) ≡ refused_at k (why earlier a) (refused_in why ep slot (a ∷ earlier) (k + 1) ls)
  unfolding refused_in
  step_in why earlier k a ls h =
      ap (λ (b : Bool). let x : Option (ℕ × PlanWhy) = if b then refused_at k (why earlier a) (refused_in why ep slot (a ∷ earlier) (k + 1) ls) else refused_in why ep slot earlier (k + 1) ls in x) h

  step_out : (why : List Allocation → Allocation → Option PlanWhy) (earlier : List Allocation) (k : ℕ) (a : Allocation) (ls : List Allocation) → is_of_slot ep slot a ≡ false
      → refused_in why ep slot earlier k (a ∷ ls) ≡ refused_in why ep slot earlier (k + 1) ls
  unfolding refused_in
  step_out why earlier k a ls h =
      ap (λ (b : Bool). let x : Option (ℕ × PlanWhy) = if b then refused_at k (why earlier a) (refused_in why ep slot (a ∷ earlier) (k + 1) ls) else refused_in why ep slot earlier (k + 1) ls in x) h

  own_in : (a : Allocation) (all : List Allocation) → is_of_slot ep slot a ≡ true → filter (is_of_slot ep slot) (a ∷ all) ≡ a ∷ filter (is_of_slot ep slot) all
  own_in a all h = ap (λ (b : Bool). let x : List Allocation = if b then a ∷ filter (is_of_slot ep slot) all else filter (is_of_slot ep slot) all in x) h

  own_out : (a : Allocation) (all : List Allocation) → is_of_slot ep slot a ≡ false → filter (is_of_slot ep slot) (a ∷ all) ≡ filter (is_of_slot ep slot) all
  own_out a all h = ap (λ (b : Bool). let x : List Allocation = if b then a ∷ filter (is_of_slot ep slot) all else filter (is_of_slot ep slot) all in x) h

  -- both verdicts find the same line of the slot
  slot_same : (earlier : List Allocation) (k : ℕ) (ls : List Allocation) → AreProper earlier → AreClear earlier → AreProper ls
      → refused_in why_claimed ep slot earlier k ls ≡ refused_in why_judged ep slot earlier k ls
  unfolding refused_in
  slot_same earlier k [] ps clear more = refl
  slot_same earlier k (a ∷ ls) ps clear more = elim (cases_Bool (is_of_slot ep slot a)) [
    | inr out ↦ step_out why_claimed earlier k a ls out ∙ slot_same earlier (k + 1) ls ps clear more.1 ∙ sym (step_out why_judged earlier k a ls out)
    | inl home ↦ step_in why_claimed earlier k a ls home ∙ go (why_claimed earlier a) refl (λ e.
        let n = none_is (list_any (clash a) earlier) (is_full earlier a) e in
        slot_same (a ∷ earlier) (k + 1) ls (more.0, ps) (n.0, clear) more.1) ∙ sym (step_in why_judged earlier k a ls home)
  ]
    where
      same : why_claimed earlier a ≡ why_judged earlier a
      same = why_is earlier a ps clear more.0

      go : (w : Option PlanWhy) → why_claimed earlier a ≡ w
          → (w ≡ None → refused_in why_claimed ep slot (a ∷ earlier) (k + 1) ls ≡ refused_in why_judged ep slot (a ∷ earlier) (k + 1) ls)
          → refused_at k (why_claimed earlier a) (refused_in why_claimed ep slot (a ∷ earlier) (k + 1) ls)
          ≡ refused_at k (why_judged earlier a) (refused_in why_judged ep slot (a ∷ earlier) (k + 1) ls)
      go None e later = ap₂ (refused_at k) same (later refl)
      go (Some x) e later =
          let f = sym same ∙ e in
          ap (λ (o : Option PlanWhy). refused_at k o (refused_in why_claimed ep slot (a ∷ earlier) (k + 1) ls)) e
          ∙ sym (ap (λ (o : Option PlanWhy). refused_at k o (refused_in why_judged ep slot (a ∷ earlier) (k + 1) ls)) f)

  -- ---- lines of other slots do not count

  home_is : (a b : Allocation) → a.ep ≡ b.ep → a.slot ≡ b.slot → is_of_slot ep slot a ≡ true → is_of_slot ep slot b ≡ true
  home_is a b e s h = ap₂ (λ (i : ℕ) (t : Slot). (i == ep) && same_slot t slot) (sym e) (sym s) ∙ h

  clash_home : (a b : Allocation) → is_of_slot ep slot a ≡ true → is_of_slot ep slot b ≡ false → clash a b ≡ false
  clash_home a b home out = elim (cases_Bool (clash a b)) [
    | inr is ↦ is
    | inl is ↦
        let p = and_parts (a.ep == b.ep) _ (and_parts (share_cell a b) _ is).0 in
        let q = and_parts (same_way a.down b.down) _ p.1 in
        let r = and_parts (same_slot a.slot b.slot) _ q.1 in
        absurd (true≢false (sym (home_is a b (eqb-true a.ep b.ep p.0) (slot_is a.slot b.slot r.0) home) ∙ out))
  ]

  any_home : (a : Allocation) (all : List Allocation) → is_of_slot ep slot a ≡ true → list_any (clash a) (filter (is_of_slot ep slot) all) ≡ list_any (clash a) all
  any_home a [] home = refl
  any_home a (b ∷ all) home = elim (cases_Bool (is_of_slot ep slot b)) [
    | inl is ↦ ap (list_any (clash a)) (own_in b all is) ∙ ap (λ t. clash a b || t) (any_home a all home)
    | inr out ↦ ap (list_any (clash a)) (own_out b all out) ∙ any_home a all home ∙ sym (ap (λ t. t || list_any (clash a) all) (clash_home a b home out))
  ]

  -- a line of another slot is not counted
  uncounted : (a b : Allocation) → is_of_slot ep slot a ≡ true → is_of_slot ep slot b ≡ false → (is_uplink b && ((b.ep == a.ep) && same_slot b.slot a.slot)) ≡ false
  uncounted a b home out = elim (cases_Bool (is_uplink b && ((b.ep == a.ep) && same_slot b.slot a.slot))) [
    | inr is ↦ is
    | inl is ↦
        let p = and_parts (is_uplink b) _ is in
        let q = and_parts (b.ep == a.ep) _ p.1 in
        absurd (true≢false (sym (home_is a b (sym (eqb-true b.ep a.ep q.0)) (sym (slot_is b.slot a.slot q.1)) home) ∙ out))
  ]

  count_home : (a : Allocation) (all : List Allocation) → is_of_slot ep slot a ≡ true → uplink_in a.ep a.slot (filter (is_of_slot ep slot) all) ≡ uplink_in a.ep a.slot all
  count_home a [] home = refl
  count_home a (b ∷ all) home = elim (cases_Bool (is_of_slot ep slot b)) [
    | inl is ↦ ap (λ (xs : List Allocation). uplink_in a.ep a.slot xs) (own_in b all is)
        ∙ ap (λ (n : ℕ). n + (let m : ℕ = if is_uplink b && ((b.ep == a.ep) && same_slot b.slot a.slot) then 1 else 0 in m)) (count_home a all home)
    | inr out ↦ ap (λ (xs : List Allocation). uplink_in a.ep a.slot xs) (own_out b all out) ∙ count_home a all home
        ∙ sym (ap (λ (t : Bool). uplink_in a.ep a.slot all + (let m : ℕ = if t then 1 else 0 in m)) (uncounted a b home out) ∙ omega arith)
  ]

  why_home : (all : List Allocation) (a : Allocation) → is_of_slot ep slot a ≡ true → why_claimed (filter (is_of_slot ep slot) all) a ≡ why_claimed all a
  why_home all a home = ap₂ chosen (any_home a all home) (ap (λ (n : ℕ). is_uplink a && nat_le SLOT_SECTIONS n) (count_home a all home))

  -- ---- the slot's first refused line is the first of all, or a later one

  in_from : (earlier : List Allocation) (k : ℕ) (ls : List Allocation) → AtLeast k (refused_in why_claimed ep slot earlier k ls)
  unfolding refused_in
  in_from earlier k [] = tt
  in_from earlier k (a ∷ ls) = elim (cases_Bool (is_of_slot ep slot a)) [
    | inl home ↦ subst (AtLeast k) (sym (step_in why_claimed earlier k a ls home)) (at_least k (why_claimed earlier a) _ (in_from (a ∷ earlier) (k + 1) ls))
    | inr out ↦ subst (AtLeast k) (sym (step_out why_claimed earlier k a ls out)) (less k _ (in_from earlier (k + 1) ls))
  ]

  -- a line of the slot, of another slot
  seen_in : (all : List Allocation) (k : ℕ) (a : Allocation) (ls : List Allocation) → is_of_slot ep slot a ≡ true
      → refused_in why_claimed ep slot (filter (is_of_slot ep slot) all) k (a ∷ ls)
      ≡ refused_at k (why_claimed all a) (refused_in why_claimed ep slot (filter (is_of_slot ep slot) (a ∷ all)) (k + 1) ls)
  seen_in all k a ls home = step_in why_claimed (filter (is_of_slot ep slot) all) k a ls home
      ∙ ap₂ (λ (w : Option PlanWhy) (xs : List Allocation). refused_at k w (refused_in why_claimed ep slot xs (k + 1) ls)) (why_home all a home) (sym (own_in a all home))

  seen_out : (all : List Allocation) (k : ℕ) (a : Allocation) (ls : List Allocation) → is_of_slot ep slot a ≡ false
      → refused_in why_claimed ep slot (filter (is_of_slot ep slot) all) k (a ∷ ls) ≡ refused_in why_claimed ep slot (filter (is_of_slot ep slot) (a ∷ all)) (k + 1) ls
  seen_out all k a ls out = step_out why_claimed (filter (is_of_slot ep slot) all) k a ls out
      ∙ ap (λ (xs : List Allocation). refused_in why_claimed ep slot xs (k + 1) ls) (sym (own_out a all out))

  from_first : (all : List Allocation) (k : ℕ) (ls : List Allocation) → IsFrom (refused_along why_claimed all k ls) (refused_in why_claimed ep slot (filter (is_of_slot ep slot) all) k ls)
  unfolding refused_along refused_in
  from_first all k [] = tt
  from_first all k (a ∷ ls) =
      let before = from_first (a ∷ all) (k + 1) ls in
      elim (cases_Bool (is_of_slot ep slot a)) [
        | inl home ↦ subst (IsFrom (refused_along why_claimed all k (a ∷ ls))) (sym (seen_in all k a ls home))
            (both_from k (why_claimed all a) (refused_along why_claimed (a ∷ all) (k + 1) ls) _ before)
        | inr out ↦ subst (IsFrom (refused_along why_claimed all k (a ∷ ls))) (sym (seen_out all k a ls out))
            (one_from k (why_claimed all a) (refused_along why_claimed (a ∷ all) (k + 1) ls) _ before (in_from (filter (is_of_slot ep slot) (a ∷ all)) (k + 1) ls))
      ]

-- ---- and it is that of one slot

pub record IsOne (all : List Allocation) (k : ℕ) (ls : List Allocation) : Type 0 where
  pub b : Allocation
  pub there : IsIn b ls
  pub is : refused_in why_claimed b.ep b.slot (filter (is_of_slot b.ep b.slot) all) k ls ≡ refused_along why_claimed all k ls

own_home : (a : Allocation) → is_of_slot a.ep a.slot a ≡ true
own_home a = and_from (a.ep == a.ep) _ (eq-eqb a.ep a.ep refl) (slot_own a.slot)

first_of : (all : List Allocation) (k : ℕ) (a : Allocation) (ls : List Allocation)
    → refused_along why_claimed all k (a ∷ ls) ≡ refused_at k (why_claimed all a) (refused_along why_claimed (a ∷ all) (k + 1) ls)
unfolding refused_along
first_of all k a ls = refl

is_one : (all : List Allocation) (k : ℕ) (ls : List Allocation) → (refused_along why_claimed all k ls ≡ None) ⊎ IsOne all k ls
unfolding refused_along
is_one all k [] = inl refl
is_one all k (a ∷ ls) = go (why_claimed all a) refl (is_one (a ∷ all) (k + 1) ls)
  where
    at : (w : Option PlanWhy) → why_claimed all a ≡ w → refused_along why_claimed all k (a ∷ ls) ≡ refused_at k w (refused_along why_claimed (a ∷ all) (k + 1) ls)
    at w e = first_of all k a ls ∙ ap (λ (o : Option PlanWhy). refused_at k o (refused_along why_claimed (a ∷ all) (k + 1) ls)) e

    go : (w : Option PlanWhy) → why_claimed all a ≡ w → (refused_along why_claimed (a ∷ all) (k + 1) ls ≡ None) ⊎ IsOne (a ∷ all) (k + 1) ls
        → (refused_along why_claimed all k (a ∷ ls) ≡ None) ⊎ IsOne all k (a ∷ ls)
    go (Some x) e later = inr (record {
      b = a;
      there = inl refl;
      is = seen_in a.ep a.slot all k a ls (own_home a)
          ∙ ap (λ (o : Option PlanWhy). refused_at k o (refused_in why_claimed a.ep a.slot (filter (is_of_slot a.ep a.slot) (a ∷ all)) (k + 1) ls)) e ∙ sym (at (Some x) e);
    })
    go None e (inl none) = inl (at None e ∙ none)
    go None e (inr o) = inr (record {
      b = o.b;
      there = inr o.there;
      is = elim (cases_Bool (is_of_slot o.b.ep o.b.slot a)) [
        | inl home ↦ seen_in o.b.ep o.b.slot all k a ls home
            ∙ ap (λ (w : Option PlanWhy). refused_at k w (refused_in why_claimed o.b.ep o.b.slot (filter (is_of_slot o.b.ep o.b.slot) (a ∷ all)) (k + 1) ls)) e ∙ o.is ∙ sym (at None e)
        | inr out ↦ seen_out o.b.ep o.b.slot all k a ls out ∙ o.is ∙ sym (at None e)
      ];
    })

pub least_is : (ls : List Allocation) → AreProper ls → IsLeastSlot ls
least_is ls proper = record {
  none_before = λ ep slot. subst (IsFrom (refused_along why_claimed [] 0 ls)) (slot_same ep slot [] 0 ls tt tt proper) (from_first ep slot [] 0 ls);
  is_one = elim (is_one [] 0 ls) [
    | inl none ↦ inl none
    | inr o ↦ inr (o.b, o.there, sym (slot_same o.b.ep o.b.slot [] 0 ls tt tt proper) ∙ o.is)
  ];
}
