-- The tests of Overlap and TooManySections by the radio unit's verdict, and slot by slot (this project's means to look at each line
-- once).
use Rattle.std.specs.Prelude.{◌≡◌, ⊤, ◌⊎◌, ℕ, ◌+◌, ◌<◌, Bool, false, ◌&&◌, ◌==◌, nat_lt, if◌then◌else◌, List, [], ◌∷◌, map, filter, Option, Some, None}
use Rattle.std.specs.List.{list_any, AllByRecursion}
use Rattle.fh_base.specs.declared.values.Slot.{Slot}
use Rattle.unit_model.specs.Claims.{same_slot, repeats, overlaps}
use Rattle.unit_model.specs.Commands.{is_full}
use Rattle.unit_model.specs.declared.allocations.Allocation.{Allocation}
use Rattle.plan_model.specs.Lines.{line_allocation}
use Rattle.plan_model.specs.Validity.{clash, why_claimed, refused_at, IsProper}
use Rattle.plan_model.specs.declared.lines.PlannedLine.{PlannedLine}
use Rattle.plan_model.specs.declared.refusals.PlanWhy.{PlanWhy}
use Rattle.plan_model.specs.declared.refusals.PlanWhy.TheVariants.{Range, Overlap, TooManySections}
use Rattle.unit_model.specs.declared.verdicts.CommandVerdict.{CommandVerdict}
use Rattle.unit_model.specs.declared.verdicts.CommandVerdict.TheVariants as verdict
use Rattle.fh_base.specs.Lists.{onto}
use Rattle.fh_base.specs.Members.{IsIn}

abbrev pub AreProper : List Allocation → Type 0
AreProper ls = AllByRecursion IsProper ls

-- none of these, the newest first, clashes with one before it
abbrev pub AreClear : List Allocation → Type 0
AreClear [] = ⊤
AreClear (a ∷ earlier) = (list_any (clash a) earlier ≡ false) × AreClear earlier

-- ---- by the radio unit's verdict

abbrev pub why_judged : List Allocation → Allocation → Option PlanWhy
why_judged earlier a =
    if repeats earlier a then Some Overlap
    else (if overlaps earlier a then Some Overlap else (if is_full earlier a then Some TooManySections else None))

-- the first of these, the first of which is number k, that is refused, where the earlier ones are listed the newest first
unfoldable pub refused_along : (List Allocation → Allocation → Option PlanWhy) → List Allocation → ℕ → List Allocation → Option (ℕ × PlanWhy)
refused_along why earlier k [] = None
refused_along why earlier k (a ∷ ls) = refused_at k (why earlier a) (refused_along why (a ∷ earlier) (k + 1) ls)

-- ---- slot by slot

abbrev pub is_of_slot : ℕ → Slot → Allocation → Bool
is_of_slot ep slot a = (a.ep == ep) && same_slot a.slot slot

-- the first refused line of one endpoint and slot, of which only those are looked at
unfoldable pub refused_in : (List Allocation → Allocation → Option PlanWhy) → ℕ → Slot → List Allocation → ℕ → List Allocation → Option (ℕ × PlanWhy)
refused_in why ep slot earlier k [] = None
refused_in why ep slot earlier k (a ∷ ls) =
    if is_of_slot ep slot a then refused_at k (why earlier a) (refused_in why ep slot (a ∷ earlier) (k + 1) ls) else refused_in why ep slot earlier (k + 1) ls

-- the second is the first one, or of a later line
abbrev pub IsFrom : Option (ℕ × PlanWhy) → Option (ℕ × PlanWhy) → Type 0
IsFrom x None = ⊤
IsFrom None (Some q) = ⊥
IsFrom (Some p) (Some q) = (q ≡ p) ⊎ (p.0 < q.0)

-- the first refused line of all is the least of the slots' first ones, each slot judged by itself
pub record IsLeastSlot (ls : List Allocation) : Type 0 where
  pub none_before : (ep : ℕ) (slot : Slot) → IsFrom (refused_along why_claimed [] 0 ls) (refused_in why_judged ep slot [] 0 ls)
  pub is_one : (refused_along why_claimed [] 0 ls ≡ None)
      ⊎ ((a : Allocation) × IsIn a ls × (refused_in why_judged a.ep a.slot [] 0 ls ≡ refused_along why_claimed [] 0 ls))

-- the one of the lower line
abbrev pub lesser_refusal : Option (ℕ × PlanWhy) → Option (ℕ × PlanWhy) → Option (ℕ × PlanWhy)
lesser_refusal None y = y
lesser_refusal (Some p) None = Some p
lesser_refusal (Some p) (Some q) = if nat_lt q.0 p.0 then Some q else Some p

-- ---- a slot's lines as a list of their own, with their numbers

unfoldable pub numbered_lines : ℕ → List Allocation → List (ℕ × Allocation)
numbered_lines k [] = []
numbered_lines k (a ∷ ls) = (k, a) ∷ numbered_lines (k + 1) ls

unfoldable pub refused_of : (List Allocation → Allocation → Option PlanWhy) → List Allocation → List (ℕ × Allocation) → Option (ℕ × PlanWhy)
refused_of why earlier [] = None
refused_of why earlier (p ∷ ps) = refused_at p.0 (why earlier p.1) (refused_of why (p.1 ∷ earlier) ps)

abbrev pub entry_of : PlannedLine → ℕ × Allocation
entry_of p = (p.index, line_allocation p)

-- the first refused of these lines, by the radio unit's verdict
abbrev pub judged : List PlannedLine → Option (ℕ × PlanWhy)
judged ps = refused_of why_judged [] (map entry_of ps)

-- the same of one slot of an endpoint
abbrev pub of_home : ℕ → Slot → List PlannedLine → List PlannedLine
of_home ep slot ps = filter (λ p. is_of_slot ep slot (line_allocation p)) ps

abbrev pub judged_in : List PlannedLine → PlannedLine → Option (ℕ × PlanWhy)
judged_in ps p = judged (of_home p.ep p.line.slot ps)

-- the least of one answer and of what the slots of these lines refuse
unfoldable pub least_along : List PlannedLine → Option (ℕ × PlanWhy) → List PlannedLine → Option (ℕ × PlanWhy)
least_along ps least [] = least
least_along ps least (q ∷ qs) = least_along ps (lesser_refusal least (judged_in ps q)) qs

-- what lines name, the newest first, after these
abbrev pub behind : List Allocation → List PlannedLine → List Allocation
behind earlier ps = onto earlier (map line_allocation ps)

-- ---- the reason by a verdict

-- the reason that a verdict other than Accepted is
abbrev pub why_of : CommandVerdict → PlanWhy
why_of verdict.Mismatch = Overlap
why_of verdict.Late = Overlap
why_of verdict.Early = Overlap
why_of verdict.Range = Range
why_of verdict.Repeat = Overlap
why_of verdict.Overlap = Overlap
why_of verdict.Full = TooManySections
why_of verdict.Accepted = Overlap

abbrev pub why_in : CommandVerdict → Option PlanWhy
why_in verdict.Accepted = None
why_in v = Some (why_of v)

-- ---- endpoint after endpoint

-- what no slot refuses earlier
abbrev pub IsBefore : List PlannedLine → Option (ℕ × PlanWhy) → Type 0
IsBefore ps r = (q : PlannedLine) → IsFrom r (judged_in ps q)

-- the least of a refusal and of what the slots of an endpoint refuse: of what no slot refuses earlier it is that, where it was
-- that already or a slot refuses it
pub record Covers (ps : List PlannedLine) (ep : ℕ) (old new : Option (ℕ × PlanWhy)) : Type 0 where
  pub from : (r : Option (ℕ × PlanWhy)) → IsBefore ps r → IsFrom r old → IsFrom r new
  pub kept : (r : Option (ℕ × PlanWhy)) → IsBefore ps r → old ≡ r → new ≡ r
  pub one : (r : Option (ℕ × PlanWhy)) → IsBefore ps r → IsFrom r old → (q : PlannedLine) → IsIn q ps → q.ep ≡ ep → judged_in ps q ≡ r → new ≡ r
