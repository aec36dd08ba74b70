-- What the tests of a plan give.
use Rattle.std.proofs.Common.{◌≡◌, ℕ, ◌+◌, ◌≤◌, inl, inr, Bool, true, false, ◌&&◌, ◌==◌, nat_le, if◌then◌else◌, List, [], ◌∷◌, ◌++◌, map, Option, Some, None, refl, ap, ap₂, sym, ◌∙◌, subst, true≢false, arith}
use Rattle.std.specs.Prelude.{⊤}
use Rattle.std.specs.List.{list_any}
use Rattle.std.specs.Option.{option_to_list}
use Rattle.std.proofs.lemmas.Bool.{cases_Bool, and_parts, eqb-true, leb-false}
use Rattle.fh_base.specs.declared.values.Slot.{Slot}
use Rattle.window_config.specs.declared.config.Config.{Config}
use Rattle.window_config.specs.declared.endpoints.EndpointConfig.{EndpointConfig}
use Rattle.window_config.specs.declared.plan.PlanLine.{PlanLine}
use Rattle.unit_model.specs.Claims.{same_slot}
use Rattle.unit_model.specs.Commands.{is_full, is_uplink, uplink_in}
use Rattle.fh_base.specs.Lists.{or_else}
use Rattle.unit_model.specs.Meetings.{find_endpoint}
use Rattle.unit_model.specs.Proper.{IsAt}
use Rattle.unit_model.specs.declared.allocations.Allocation.{Allocation}
use Rattle.plan_model.specs.Dense.{dense}
use Rattle.plan_model.specs.Lines.{line_allocation, planned, planned_at, planned_from, planned_with}
use Rattle.plan_model.specs.Valid.{dense_refused, IsValid}
use Rattle.plan_model.specs.Validity.{clash, first_refused, is_out_of_range, refused_at, refused_from, why_found, why_planned, with_line}
use Rattle.plan_model.specs.declared.dense.Dense.{Dense}
use Rattle.plan_model.specs.declared.lines.PlannedLine.{PlannedLine}
use Rattle.plan_model.specs.declared.refusals.PlanWhy.{PlanWhy}
use Rattle.plan_model.specs.declared.refusals.PlanWhy.TheVariants.{Range, Overlap, TooManySections}
use Rattle.plan_model.proofs.ScheduleClashLemmas.{clash_swap}
use Rattle.unit_model.specs.declared.uplink.TheConstants.{SLOT_SECTIONS}
use Rattle.unit_model.proofs.ClaimLemmas.{same_slot_is as slots_equal}
use Rattle.fh_base.specs.Members.{IsIn}
use Rattle.fh_base.proofs.MemberLemmas.{any_in}
use Rattle.unit_model.proofs.EndpointLemmas.{found_at}

-- ---- a line at its endpoint

pub record IsLineOf (es : List EndpointConfig) (lines : List PlanLine) (p : PlannedLine) : Type 0 where
  pub at : IsAt es p.ep p.endpoint
  pub there : IsIn p.line lines

pub line_of : (es : List EndpointConfig) (k : ℕ) (lines : List PlanLine) (p : PlannedLine) → IsIn p (planned_from es k lines) → IsLineOf es lines p
unfolding planned_from
line_of es k [] p m = absurd m
line_of es k (line ∷ lines) p m = go (find_endpoint es line.id) refl m (line_of es (k + 1) lines p)
  where
    later : IsLineOf es lines p → IsLineOf es (line ∷ lines) p
    later w = record { at = w.at; there = inr w.there }

    go : (o : Option (ℕ × EndpointConfig)) → find_endpoint es line.id ≡ o → IsIn p (option_to_list (planned_with k line o) ++ planned_from es (k + 1) lines)
        → (IsIn p (planned_from es (k + 1) lines) → IsLineOf es lines p) → IsLineOf es (line ∷ lines) p
    go None e n rest = later (rest n)
    go (Some (ep, f)) e n rest = elim n [
      | inl here ↦
          let q : PlannedLine = record { index = k; ep = ep; endpoint = f; line = line } in
          record {
            at = subst (λ (x : PlannedLine). IsAt es x.ep x.endpoint) (sym here) (found_at es line.id ep f e);
            there = inl (ap (λ (x : PlannedLine). x.line) here);
          }
      | inr there ↦ later (rest there)
    ]

-- ---- the tests, line by line

abbrev pub AreTested : List Allocation → List PlannedLine → Type 0
AreTested earlier [] = ⊤
AreTested earlier (p ∷ ps) =
    (is_out_of_range p.endpoint p.line ≡ false) × (list_any (clash (line_allocation p)) earlier ≡ false) × (is_full earlier (line_allocation p) ≡ false)
    × AreTested (line_allocation p ∷ earlier) ps

pub none_refused : (k : ℕ) (w : Option PlanWhy) (later : Option (ℕ × PlanWhy)) → refused_at k w later ≡ None → (w ≡ None) × (later ≡ None)
none_refused k None later h = (refl, h)
none_refused k (Some why) later h = absurd cc

none_why : (o c f : Bool) → (let x : Option PlanWhy = if o then Some Range else (if c then Some Overlap else (if f then Some TooManySections else None)) in x) ≡ None
    → (o ≡ false) × (c ≡ false) × (f ≡ false)
none_why true c f h = absurd cc
none_why false true f h = absurd cc
none_why false false true h = absurd cc
none_why false false false h = (refl, refl, refl)

tested : (es : List EndpointConfig) (earlier : List Allocation) (k : ℕ) (lines : List PlanLine) → refused_from es earlier k lines ≡ None → AreTested earlier (planned_from es k lines)
unfolding refused_from planned_from
tested es earlier k [] h = tt
tested es earlier k (line ∷ lines) h = go (planned_at es k line) h (λ p. tested es (line_allocation p ∷ earlier) (k + 1) lines)
  where
    go : (o : Option PlannedLine) → refused_at k (why_found earlier o) (refused_from es (with_line o earlier) (k + 1) lines) ≡ None
        → ((p : PlannedLine) → refused_from es (line_allocation p ∷ earlier) (k + 1) lines ≡ None → AreTested (line_allocation p ∷ earlier) (planned_from es (k + 1) lines))
        → AreTested earlier (option_to_list o ++ planned_from es (k + 1) lines)
    go None g rest = absurd cc
    go (Some p) g rest =
        let n = none_refused k (why_planned earlier p) (refused_from es (line_allocation p ∷ earlier) (k + 1) lines) g in
        let w = none_why (is_out_of_range p.endpoint p.line) (list_any (clash (line_allocation p)) earlier) (is_full earlier (line_allocation p)) n.0 in
        (w.0, w.1, w.2, rest p n.1)

-- ---- of all lines

pub in_range : (earlier : List Allocation) (ps : List PlannedLine) (p : PlannedLine) → AreTested earlier ps → IsIn p ps → is_out_of_range p.endpoint p.line ≡ false
in_range earlier [] p t m = absurd m
in_range earlier (q ∷ ps) p t m = elim m [
  | inl here ↦ subst (λ (x : PlannedLine). is_out_of_range x.endpoint x.line ≡ false) (sym here) t.0
  | inr there ↦ in_range (line_allocation q ∷ earlier) ps p t.3 there
]

pub later_clear : (earlier : List Allocation) (ps : List PlannedLine) (p : PlannedLine) (a : Allocation) → AreTested earlier ps → IsIn p ps → IsIn a earlier → clash (line_allocation p) a ≡ false
later_clear earlier [] p a t m n = absurd m
later_clear earlier (q ∷ ps) p a t m n = elim m [
  | inr there ↦ later_clear (line_allocation q ∷ earlier) ps p a t.3 there (inr n)
  | inl here ↦ elim (cases_Bool (clash (line_allocation p) a)) [
    | inr other ↦ other
    | inl is ↦
        let q_is : clash (line_allocation q) a ≡ true = ap (λ (x : PlannedLine). clash (line_allocation x) a) (sym here) ∙ is in
        absurd (true≢false (sym (any_in (clash (line_allocation q)) a earlier n q_is) ∙ t.1))
  ]
]

-- two lines that clash are one
pub one_line : (earlier : List Allocation) (ps : List PlannedLine) (p q : PlannedLine) → AreTested earlier ps → IsIn p ps → IsIn q ps → clash (line_allocation p) (line_allocation q) ≡ true → p ≡ q
one_line earlier [] p q t m n h = absurd m
one_line earlier (r ∷ ps) p q t m n h = elim m [
  | inl p_here ↦ elim n [
    | inl q_here ↦ p_here ∙ sym q_here
    | inr q_there ↦
        let none = later_clear (line_allocation r ∷ earlier) ps q (line_allocation r) t.3 q_there (inl refl) in
        let is : clash (line_allocation q) (line_allocation r) ≡ true = ap (λ (x : PlannedLine). clash (line_allocation q) (line_allocation x)) (sym p_here) ∙ clash_swap (line_allocation p) (line_allocation q) h in
        absurd (true≢false (sym is ∙ none))
  ]
  | inr p_there ↦ elim n [
    | inl q_here ↦
        let none = later_clear (line_allocation r ∷ earlier) ps p (line_allocation r) t.3 p_there (inl refl) in
        absurd (true≢false (sym (ap (λ (x : PlannedLine). clash (line_allocation p) (line_allocation x)) (sym q_here) ∙ h) ∙ none))
    | inr q_there ↦ one_line (line_allocation r ∷ earlier) ps p q t.3 p_there q_there h
  ]
]

-- a slot's uplink sections

room : (a : Allocation) (ep : ℕ) (slot : Slot) (earlier : List Allocation) → is_full earlier a ≡ false → uplink_in ep slot earlier ≤ SLOT_SECTIONS
    → (b : Bool) → (is_uplink a && ((a.ep == ep) && same_slot a.slot slot)) ≡ b → uplink_in ep slot earlier + (let n : ℕ = if b then 1 else 0 in n) ≤ SLOT_SECTIONS
room a ep slot earlier free few false e = omega (arith, few)
room a ep slot earlier free few true e =
    let p = and_parts (is_uplink a) _ e in
    let q = and_parts (a.ep == ep) _ p.1 in
    let same : uplink_in a.ep a.slot earlier ≡ uplink_in ep slot earlier = ap₂ (λ i (t : Slot). uplink_in i t earlier) (eqb-true a.ep ep q.0) (slots_equal a.slot slot q.1) in
    let not_full : nat_le SLOT_SECTIONS (uplink_in a.ep a.slot earlier) ≡ false = sym (ap (λ t. t && nat_le SLOT_SECTIONS (uplink_in a.ep a.slot earlier)) p.0) ∙ free in
    let l = leb-false SLOT_SECTIONS (uplink_in a.ep a.slot earlier) not_full in
    omega (arith, l, same)

in_turn : (a w r m : ℕ) → (a + w) + r ≤ m → a + (r + w) ≤ m
in_turn a w r m h = omega (arith, h)

none_more : (a : ℕ) → a ≤ SLOT_SECTIONS → a + 0 ≤ SLOT_SECTIONS
none_more a h = omega (arith, h)

pub few_uplink : (ep : ℕ) (slot : Slot) (earlier : List Allocation) (ps : List PlannedLine) → AreTested earlier ps → uplink_in ep slot earlier ≤ SLOT_SECTIONS
    → uplink_in ep slot earlier + uplink_in ep slot (map line_allocation ps) ≤ SLOT_SECTIONS
few_uplink ep slot earlier [] t h = none_more _ h
few_uplink ep slot earlier (p ∷ ps) t h =
    let a = line_allocation p in
    in_turn (uplink_in ep slot earlier) _ (uplink_in ep slot (map line_allocation ps)) SLOT_SECTIONS
    (few_uplink ep slot (a ∷ earlier) ps t.3 (room a ep slot earlier t.2 h (is_uplink a && ((a.ep == ep) && same_slot a.slot slot)) refl))

-- ---- a valid plan

no_else : (x : Option (ℕ × PlanWhy)) (d : Option Dense) → or_else x (dense_refused d) ≡ None → (x ≡ None) × (d ≡ None)
no_else (Some w) d h = absurd cc
no_else None (Some w) h = absurd cc
no_else None None h = (refl, refl)

pub valid_tested : (c : Config) (lines : List PlanLine) → IsValid c lines → AreTested [] (planned c.endpoints lines)
valid_tested c lines h = tested c.endpoints [] 0 lines (no_else (first_refused c.endpoints lines) (dense c (planned c.endpoints lines)) h).0

pub valid_apart : (c : Config) (lines : List PlanLine) → IsValid c lines → dense c (planned c.endpoints lines) ≡ None
valid_apart c lines h = (no_else (first_refused c.endpoints lines) (dense c (planned c.endpoints lines)) h).1
