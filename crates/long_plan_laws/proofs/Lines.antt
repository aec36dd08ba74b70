-- The lines of a long plan, none of which is refused.
use Rattle.std.proofs.Common.{◌≡◌, ℕ, ℤ, pos, zero, suc, ◌+◌, ◌<ℤ◌, inl, inr, Bool, false, ◌==◌, if◌then◌else◌, List, [], ◌∷◌, Option, Some, None, refl, ap, sym, ◌∙◌, subst, arith}
use Rattle.std.proofs.lemmas.Bool.{cases_Bool, and_parts}
use Rattle.std.proofs.lemmas.Int.{ints}
use Rattle.fh_base.specs.declared.values.Slot.{Slot}
use Rattle.unit_model.specs.Claims.{same_slot, same_way}
use Rattle.unit_model.specs.Commands.{is_full}
use Rattle.unit_model.specs.declared.allocations.Allocation.{Allocation}
use Rattle.plan_model.specs.Examples.{usual}
use Rattle.plan_model.specs.Lines.{line_allocation, planned_from}
use Rattle.plan_model.specs.Validity.{clash, refused_at, refused_from, share_cell}
use Rattle.plan_model.specs.declared.lines.PlannedLine.{PlannedLine}
use Rattle.plan_model.specs.declared.refusals.PlanWhy.{PlanWhy}
use Rattle.plan_model.specs.declared.refusals.PlanWhy.TheVariants.{Overlap, TooManySections}
use Rattle.generated_laws.proofs.Lines.{none_any}
use Rattle.long_plan_laws.specs.Lines.{frame_line, frame_lines}
use Rattle.unit_model.proofs.ClaimLemmas.{same_slot_is as slots_equal}
use Rattle.fh_base.proofs.Orders.{more_differ as other_frame}
use Rattle.fh_base.specs.Members.{IsIn}

-- the line of a frame at the endpoint
abbrev pub line_at : ℕ → ℕ → PlannedLine
line_at i frame = record { index = i; ep = 0; endpoint = usual; line = frame_line frame }

unfoldable pub lines_from : ℕ → ℕ → ℕ → List PlannedLine
lines_from i frame zero = []
lines_from i frame (suc n) = line_at i frame ∷ lines_from (i + 1) (frame + 1) n

pub planned_is : (i frame n : ℕ) → planned_from (usual ∷ []) i (frame_lines frame n) ≡ lines_from i frame n
unfolding planned_from frame_lines lines_from
planned_is i frame zero = refl
planned_is i frame (suc n) = ap (λ (ps : List PlannedLine). line_at i frame ∷ ps) (planned_is (i + 1) (frame + 1) n)

-- ---- none is refused

no_clash : (i frame : ℕ) (a : Allocation) → a.slot.frame <ℤ pos frame → clash (line_allocation (line_at i frame)) a ≡ false
no_clash i frame a h = elim (cases_Bool (clash (line_allocation (line_at i frame)) a)) [
  | inr other ↦ other
  | inl is ↦
      let b = line_allocation (line_at i frame) in
      let cell = (and_parts (share_cell b a) _ is).0 in
      let way = (and_parts (b.ep == a.ep) _ cell).1 in
      let slots = (and_parts (same_way b.down a.down) _ way).1 in
      let slot = (and_parts (same_slot b.slot a.slot) _ slots).0 in
      absurd (other_frame (pos frame) a.slot.frame h (ap (λ (s : Slot). s.frame) (slots_equal b.slot a.slot slot)))
]

earlier_still : (x : ℤ) (frame : ℕ) → x <ℤ pos frame → x <ℤ pos (frame + 1)
earlier_still x frame h = omega (arith, ints, h)

now_earlier : (frame : ℕ) → pos frame <ℤ pos (frame + 1)
now_earlier frame = omega (arith, ints)

pub none_refused : (earlier : List Allocation) (i frame n : ℕ) → ((a : Allocation) → IsIn a earlier → a.slot.frame <ℤ pos frame) → refused_from (usual ∷ []) earlier i (frame_lines frame n) ≡ None
unfolding refused_from frame_lines
none_refused earlier i frame zero h = refl
none_refused earlier i frame (suc n) h =
    let a = line_allocation (line_at i frame) in
    let later = refused_from (usual ∷ []) (a ∷ earlier) (i + 1) (frame_lines (frame + 1) n) in
    ap (λ (b : Bool). let w : Option PlanWhy = if b then Some Overlap else (if is_full earlier a then Some TooManySections else None) in refused_at i w later)
    (none_any (clash a) earlier (λ x m. no_clash i frame x (h x m)))
    ∙ none_refused (a ∷ earlier) (i + 1) (frame + 1) n (λ x m. elim m [
      | inl here ↦ subst (λ (y : Allocation). y.slot.frame <ℤ pos (frame + 1)) (sym here) (now_earlier frame)
      | inr there ↦ earlier_still x.slot.frame frame (h x there)
    ])
