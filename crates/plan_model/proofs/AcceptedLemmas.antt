-- What is accepted of commands that each name, on time, one of some allocations that do not clash.
use Rattle.std.proofs.Common.{◌≡◌, ℕ, ◌+◌, ◌<◌, ◌≤◌, ◌⊎◌, inl, inr, Bool, true, false, ◌&&◌, ◌==◌, nat_le, if◌then◌else◌, List, [], ◌∷◌, refl, ap, sym, ◌∙◌, subst, true≢false, arith}
use Rattle.std.specs.Prelude.{⊤}
use Rattle.std.specs.List.{list_any}
use Rattle.std.proofs.lemmas.Bool.{cases_Bool, and_from, eq-eqb, leb-true}
use Rattle.fh_base.specs.Carrier.{is_outside}
use Rattle.fh_base.specs.declared.values.Slot.{Slot}
use Rattle.window_config.specs.declared.delays.Delays.{Delays}
use Rattle.window_config.specs.declared.verdicts.Class.{Class}
use Rattle.window_config.specs.declared.verdicts.Class.TheVariants.{OnTime}
use Rattle.unit_model.specs.Claims.{same_slot, repeats, overlaps}
use Rattle.unit_model.specs.Commands.{accepted, allocation_of, command_class, command_verdict, is_for, is_full, is_uplink, timely_verdict, uplink_in, verdict_in, with_accepted}
use Rattle.unit_model.specs.declared.allocations.Allocation.{Allocation}
use Rattle.unit_model.specs.declared.decoded.ControlSection.{ControlSection}
use Rattle.unit_model.specs.declared.verdicts.CommandVerdict.{CommandVerdict}
use Rattle.unit_model.specs.declared.verdicts.CommandVerdict.TheVariants.{Mismatch, Range, Repeat, Overlap, Full, Accepted}
use Rattle.plan_model.specs.Validity.{clash, IsProper}
use Rattle.plan_model.proofs.ScheduleClashLemmas.{IsClear, own_clash, is_repeat, no_repeat, no_overlap}
use Rattle.unit_model.specs.declared.uplink.TheConstants.{SLOT_SECTIONS}
use Rattle.unit_model.proofs.ClaimLemmas.{slot_self as slot_own}
use Rattle.fh_base.specs.Members.{IsIn}
use Rattle.fh_base.proofs.MemberLemmas.{any_in, among}

-- ---- how many uplink sections there are of lists without repeats

abbrev pub AreDistinct : List Allocation → Type 0
AreDistinct [] = ⊤
AreDistinct (a ∷ ls) = (IsIn a ls → ⊥) × AreDistinct ls

abbrev weight : ℕ → Slot → Allocation → ℕ
weight ep slot a = if is_uplink a && ((a.ep == ep) && same_slot a.slot slot) then 1 else 0

-- a list without one of its elements
record Without (ep : ℕ) (slot : Slot) (x : Allocation) (ys : List Allocation) : Type 0 where
  rest : List Allocation
  count : uplink_in ep slot ys ≡ uplink_in ep slot rest + weight ep slot x
  keeps : (b : Allocation) → IsIn b ys → (b ≡ x) ⊎ IsIn b rest

later_count : (t s r w v : ℕ) → t ≡ r + v → s ≡ t + w → s ≡ r + w + v
later_count t s r w v e f = omega (arith, e, f)

without : (ep : ℕ) (slot : Slot) (x : Allocation) (ys : List Allocation) → IsIn x ys → Without ep slot x ys
without ep slot x [] m = absurd m
without ep slot x (y ∷ ys) (inl here) = record {
  rest = ys;
  count = ap (λ (z : Allocation). uplink_in ep slot ys + weight ep slot z) (sym here);
  keeps = λ b m. elim m [ inl e ↦ inl (e ∙ sym here) | inr t ↦ inr t ];
}
without ep slot x (y ∷ ys) (inr there) =
    let w = without ep slot x ys there in
    record {
      rest = y ∷ w.rest;
      count = later_count (uplink_in ep slot ys) _ (uplink_in ep slot w.rest) (weight ep slot y) (weight ep slot x) w.count refl;
      keeps = λ b m. elim m [ inl e ↦ inr (inl e) | inr t ↦ elim (w.keeps b t) [ inl e ↦ inl e | inr r ↦ inr (inr r) ] ];
    }

fewer_count : (a b c w : ℕ) → a ≤ b → c ≡ b + w → a + w ≤ c
fewer_count a b c w h e = omega (arith, h, e)

pub fewer : (ep : ℕ) (slot : Slot) (xs ys : List Allocation) → AreDistinct xs → ((b : Allocation) → IsIn b xs → IsIn b ys) → uplink_in ep slot xs ≤ uplink_in ep slot ys
fewer ep slot [] ys d sub = omega arith
fewer ep slot (x ∷ xs) ys d sub =
    let w = without ep slot x ys (sub x (inl refl)) in
    fewer_count (uplink_in ep slot xs) (uplink_in ep slot w.rest) (uplink_in ep slot ys) (weight ep slot x)
    (fewer ep slot xs w.rest d.1 (λ b m. elim (w.keeps b (sub b (inr m))) [
      | inl e ↦ absurd (d.0 (subst (λ (z : Allocation). IsIn z xs) e m))
      | inr t ↦ t
    ])) w.count

-- ---- the verdict

verdict_repeat : (o r p f : Bool) → o ≡ false → r ≡ true
    → (let v : CommandVerdict = if o then Range else (if r then Repeat else (if p then Overlap else (if f then Full else Accepted))) in v) ≡ Repeat
verdict_repeat o r p f a b = rw (a, b) refl

verdict_accepted : (o r p f : Bool) → o ≡ false → r ≡ false → p ≡ false → f ≡ false
    → (let v : CommandVerdict = if o then Range else (if r then Repeat else (if p then Overlap else (if f then Full else Accepted))) in v) ≡ Accepted
verdict_accepted o r p f a b c d = rw (a, b, c, d) refl

timely : (d : Delays) (xs : List Allocation) (c : ControlSection) → is_for c.head.body c.endpoint.numerology ≡ true → command_class d c ≡ OnTime
    → command_verdict d xs c ≡ timely_verdict xs (allocation_of c)
unfolding command_verdict
timely d xs c fits class =
    ap (λ (t : Bool). let v : CommandVerdict = if t then verdict_in (command_class d c) xs (allocation_of c) else Mismatch in v) fits
    ∙ ap (λ (k : Class). verdict_in k xs (allocation_of c)) class

not_less : (n : ℕ) → n < SLOT_SECTIONS → nat_le SLOT_SECTIONS n ≡ false
not_less n h = elim (cases_Bool (nat_le SLOT_SECTIONS n)) [
  | inl is ↦ let l = leb-true SLOT_SECTIONS n is in absurd (omega (arith, l))
  | inr is ↦ is
]

-- allocations that a plan may have: none clashes with another, and no slot has more than 64 uplink sections
pub record AreAllowed (ls : List Allocation) : Type 0 where
  pub clear : IsClear ls
  pub proper : (a : Allocation) → IsIn a ls → IsProper a
  pub inside : (a : Allocation) → IsIn a ls → is_outside a.endpoint.prbs a.start_prb a.num_prb ≡ false
  pub few : (ep : ℕ) (slot : Slot) → uplink_in ep slot ls ≤ SLOT_SECTIONS

-- a command that names one of these on time
pub record IsTimely (d : Delays) (ls : List Allocation) (c : ControlSection) : Type 0 where
  pub fits : is_for c.head.body c.endpoint.numerology ≡ true
  pub class : command_class d c ≡ OnTime
  pub named : IsIn (allocation_of c) ls

-- ---- what was accepted

-- it is each allocation that was named, once
pub record AreNamed (d : Delays) (cs : List ControlSection) : Type 0 where
  pub from : (a : Allocation) → IsIn a (accepted d cs) → (c : ControlSection) × IsIn c cs × (allocation_of c ≡ a)
  pub all : (c : ControlSection) → IsIn c cs → IsIn (allocation_of c) (accepted d cs)
  pub distinct : AreDistinct (accepted d cs)

module _ (d : Delays) (ls : List Allocation) (allowed : AreAllowed ls) where
  -- after these the command is accepted or a repeat
  module _ (c : ControlSection) (cs : List ControlSection) (timely_c : IsTimely d ls c) (timely_cs : (x : ControlSection) → IsIn x cs → IsTimely d ls x) (named : AreNamed d cs) where
    abbrev a : Allocation
    a = allocation_of c

    within : (b : Allocation) → IsIn b (accepted d cs) → IsIn b ls
    within b m = let w = named.from b m in subst (λ (x : Allocation). IsIn x ls) w.2 (timely_cs w.0 w.1).named

    clear : IsClear (accepted d cs)
    clear x y m n e = allowed.clear x y (within x m) (within y n) e

    pub again : IsIn a (accepted d cs) → command_verdict d (accepted d cs) c ≡ Repeat
    again m =
        timely d (accepted d cs) c timely_c.fits timely_c.class
        ∙ verdict_repeat (is_outside a.endpoint.prbs a.start_prb a.num_prb) (repeats (accepted d cs) a) (overlaps (accepted d cs) a) (is_full (accepted d cs) a)
        (allowed.inside a timely_c.named) (is_repeat (accepted d cs) a clear m)

    apart : (IsIn a (accepted d cs) → ⊥) → (b : Allocation) → IsIn b (accepted d cs) → clash a b ≡ false
    apart new b m = elim (cases_Bool (clash a b)) [
      | inr other ↦ other
      | inl is ↦ absurd (new (subst (λ (x : Allocation). IsIn x (accepted d cs)) (sym (allowed.clear a b timely_c.named (within b m) is)) m))
    ]

    room_for : (b : Bool) → is_uplink a ≡ b → (IsIn a (accepted d cs) → ⊥) → (b && nat_le SLOT_SECTIONS (uplink_in a.ep a.slot (accepted d cs))) ≡ false
    room_for false e new = refl
    room_for true e new =
        let all = fewer a.ep a.slot (a ∷ accepted d cs) ls (new, named.distinct) (λ b m. elim m [
          | inl here ↦ subst (λ (x : Allocation). IsIn x ls) (sym here) timely_c.named
          | inr there ↦ within b there
        ]) in
        let own : (is_uplink a && ((a.ep == a.ep) && same_slot a.slot a.slot)) ≡ true = and_from _ _ e (and_from _ _ (eq-eqb a.ep a.ep refl) (slot_own a.slot)) in
        let more : uplink_in a.ep a.slot (accepted d cs) + 1 ≤ uplink_in a.ep a.slot ls = rw own at all in
        let most = allowed.few a.ep a.slot in
        not_less (uplink_in a.ep a.slot (accepted d cs)) (omega (arith, more, most))

    pub new_one : (IsIn a (accepted d cs) → ⊥) → command_verdict d (accepted d cs) c ≡ Accepted
    new_one new =
        timely d (accepted d cs) c timely_c.fits timely_c.class
        ∙ verdict_accepted (is_outside a.endpoint.prbs a.start_prb a.num_prb) (repeats (accepted d cs) a) (overlaps (accepted d cs) a) (is_full (accepted d cs) a)
        (allowed.inside a timely_c.named) (no_repeat (accepted d cs) a (allowed.proper a timely_c.named) (apart new)) (no_overlap (accepted d cs) a (apart new))
        (room_for (is_uplink a) refl new)

    -- it is there or not
    pub is_there : (IsIn a (accepted d cs)) ⊎ (IsIn a (accepted d cs) → ⊥)
    is_there = elim (cases_Bool (list_any (clash a) (accepted d cs))) [
      | inl is ↦
          let w = among (clash a) (accepted d cs) is in
          inl (subst (λ (x : Allocation). IsIn x (accepted d cs)) (sym (allowed.clear a w.x timely_c.named (within w.x w.there) w.is)) w.there)
      | inr none ↦ inr (λ m. true≢false (sym (any_in (clash a) a (accepted d cs) m (own_clash a (allowed.proper a timely_c.named))) ∙ none))
    ]

    with_repeat : command_verdict d (accepted d cs) c ≡ Repeat → accepted d (c ∷ cs) ≡ accepted d cs
    unfolding accepted
    with_repeat e = ap (λ (v : CommandVerdict). with_accepted v a (accepted d cs)) e

    with_new : command_verdict d (accepted d cs) c ≡ Accepted → accepted d (c ∷ cs) ≡ a ∷ accepted d cs
    unfolding accepted
    with_new e = ap (λ (v : CommandVerdict). with_accepted v a (accepted d cs)) e

    abbrev AreNamedBy : List Allocation → Type 0
    AreNamedBy xs = ((x : Allocation) → IsIn x xs → (y : ControlSection) × IsIn y (c ∷ cs) × (allocation_of y ≡ x))
        × ((y : ControlSection) → IsIn y (c ∷ cs) → IsIn (allocation_of y) xs) × AreDistinct xs

    named_from : AreNamedBy (accepted d (c ∷ cs)) → AreNamed d (c ∷ cs)
    named_from w = record { from = w.0; all = w.1; distinct = w.2 }

    pub named_next : AreNamed d (c ∷ cs)
    named_next = elim is_there [
      | inl there ↦ named_from (subst AreNamedBy (sym (with_repeat (again there))) (
        λ x m. (let w = named.from x m in (w.0, inr w.1, w.2)),
        λ y m. elim m [ inl here ↦ subst (λ (z : ControlSection). IsIn (allocation_of z) (accepted d cs)) (sym here) there | inr t ↦ named.all y t ],
        named.distinct,
      ))
      | inr new ↦ named_from (subst AreNamedBy (sym (with_new (new_one new))) (
        λ x m. elim m [ inl here ↦ (c, inl refl, sym here) | inr t ↦ (let w = named.from x t in (w.0, inr w.1, w.2)) ],
        λ y m. elim m [ inl here ↦ inl (ap (λ (z : ControlSection). allocation_of z) here) | inr t ↦ inr (named.all y t) ],
        (new, named.distinct),
      ))
    ]

  pub named_all : (cs : List ControlSection) → ((x : ControlSection) → IsIn x cs → IsTimely d ls x) → AreNamed d cs
  unfolding accepted
  named_all [] h = record { from = λ a m. absurd m; all = λ c m. absurd m; distinct = tt }
  named_all (c ∷ cs) h = named_next c cs (h c (inl refl)) (λ x m. h x (inr m)) (named_all cs (λ x m. h x (inr m)))
