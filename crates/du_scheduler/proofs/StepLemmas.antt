-- Messages part by part, and what was made of the complete ones so far.
use Rattle.std.proofs.Common.{◌≡◌, ℕ, ◌+◌, ◌*◌, ◌≤◌, Bool, true, false, min, if◌then◌else◌, List, [], ◌∷◌, ◌++◌, length, append-nil, append_assoc, refl, ap, ap₂, sym, ◌∙◌, subst, arith}
use Rattle.std.specs.List.{AllByRecursion}
use Rattle.std.proofs.lemmas.Bool.{and_parts}
use Rattle.du_scheduler.specs.declared.turns.Run.{Run}
use Rattle.plan_model.proofs.PackLemmas.{length_more, room_is}
use Rattle.du_scheduler.specs.Parts.{IsTimed}
use Rattle.du_scheduler.specs.Ranges.{IsLimits, IsOpenMessage}
use Rattle.du_scheduler.specs.OpenMessages.{alone, grown, same_place, takes_more}
use Rattle.du_scheduler.specs.Walks.{begins, begins_from, complete, complete_from, frames_needed, run_from, run_next_to, runs_from, walked}
use Rattle.du_scheduler.specs.declared.limits.Limits.{Limits}
use Rattle.du_scheduler.specs.declared.open_messages.OpenMessage.{OpenMessage}
use Rattle.du_scheduler.specs.declared.parts.TimedPart.{TimedPart}

-- ---- a part more

pub grown_open : (l : Limits) (m : OpenMessage) (p : TimedPart) → IsLimits l → IsOpenMessage l m → takes_more l.pack m p ≡ true → IsOpenMessage l (grown m p)
grown_open l m p limits o h =
    let s = room_is l.pack m.size p.size (and_parts (same_place m.first p) _ h).1 in
    record { first = o.first; parts = (let a = s.parts in let b = limits.pack in omega (arith, a, b)); bytes = s.bytes; wait = o.wait }

pub next_open : (l : Limits) (m : OpenMessage) (p : TimedPart) → IsTimed p → IsOpenMessage l (run_next_to l m p)
next_open l m p is = record { first = is; parts = omega arith; bytes = (let b = is.size in omega (arith, b)); wait = low (same_place p m.first) }
  where
    low : (t : Bool) → (let w : ℕ = if t then min (m.wait + frames_needed l.fragment m.size.bytes * l.departures.gap) l.departures.spread else 0 in w) ≤ l.departures.spread
    low true = omega arith
    low false = omega arith

pub first_open : (l : Limits) (p : TimedPart) → IsTimed p → IsOpenMessage l (alone p 0)
first_open l p is = record { first = is; parts = omega arith; bytes = (let b = is.size in omega (arith, b)); wait = omega arith }

pub goes_on : (l : Limits) (m : OpenMessage) (p : TimedPart) (ps : List TimedPart) → takes_more l.pack m p ≡ true → complete_from l m (p ∷ ps) ≡ complete_from l (grown m p) ps
unfolding complete_from
goes_on l m p ps h = rw h refl

pub is_complete : (l : Limits) (m : OpenMessage) (p : TimedPart) (ps : List TimedPart) → takes_more l.pack m p ≡ false → complete_from l m (p ∷ ps) ≡ m ∷ complete_from l (run_next_to l m p) ps
unfolding complete_from
is_complete l m p ps h = rw h refl

pub at_end : (l : Limits) (m : OpenMessage) (ps : List TimedPart) → length ps ≡ 0 → complete_from l m ps ≡ m ∷ []
unfolding complete_from
at_end l m [] none = refl
at_end l m (p ∷ ps) none = absurd (omega (arith, none))

-- ---- the complete messages are in their ranges, and no more than parts

abbrev pub AreComplete : Limits → List OpenMessage → ℕ → Type 0
AreComplete l ms count = AllByRecursion (IsOpenMessage l) ms × (length ms ≤ count)

complete_behind : (l : Limits) (m : OpenMessage) (ps : List TimedPart) → IsLimits l → IsOpenMessage l m → AllByRecursion IsTimed ps → AreComplete l (complete_from l m ps) (length ps + 1)
unfolding complete_from
complete_behind l m [] limits o h = ((o, tt), omega arith)
complete_behind l m (p ∷ ps) limits o h =
    go (takes_more l.pack m p) refl (λ t. complete_behind l (grown m p) ps limits (grown_open l m p limits o t) h.1) (complete_behind l (run_next_to l m p) ps limits (next_open l m p h.0) h.1)
  where
    go : (t : Bool) → takes_more l.pack m p ≡ t → (takes_more l.pack m p ≡ true → AreComplete l (complete_from l (grown m p) ps) (length ps + 1))
        → AreComplete l (complete_from l (run_next_to l m p) ps) (length ps + 1)
        → AreComplete l (let ms : List OpenMessage = if t then complete_from l (grown m p) ps else m ∷ complete_from l (run_next_to l m p) ps in ms) (length (p ∷ ps) + 1)
    go true e joined next = let (all, few) = joined e in (all, omega (arith, few))
    go false e joined next = let (all, few) = next in ((o, all), omega (arith, few))

pub are_complete : (l : Limits) (ps : List TimedPart) → IsLimits l → AllByRecursion IsTimed ps → AreComplete l (complete l ps) (length ps)
are_complete l [] limits h = (tt, omega arith)
are_complete l (p ∷ ps) limits h = let (all, few) = complete_behind l (alone p 0) ps limits (first_open l p h.0) h.1 in (all, omega (arith, few))

-- ---- so far

-- of these parts' messages these are left
pub record SoFar (l : Limits) (parts : List TimedPart) (runs : List Run) (begun : List ℕ) (begin : ℕ) (left : List OpenMessage) : Type 0 where
  pub runs_are : runs ++ runs_from l (length runs) left ≡ walked l parts
  pub begins_are : begun ++ begins_from begin left ≡ begins l parts
  pub are_open : AllByRecursion (IsOpenMessage l) left
  pub few : length runs + length left ≤ length parts
  pub low : begin ≤ 65 * length runs

pub so_far_start : (l : Limits) (parts : List TimedPart) (runs : List Run) (begun : List ℕ) (left : List OpenMessage) → IsLimits l → AllByRecursion IsTimed parts
    → runs ≡ [] → begun ≡ [] → left ≡ complete l parts → SoFar l parts runs begun 0 left
so_far_start l parts runs begun left limits timed no_runs none left_is =
    let (all, few) = are_complete l parts limits timed in
    record {
      runs_are = ap₂ (λ (rs : List Run) (ms : List OpenMessage). rs ++ runs_from l (length rs) ms) no_runs left_is;
      begins_are = ap₂ (λ (ns : List ℕ) (ms : List OpenMessage). ns ++ begins_from 0 ms) none left_is;
      are_open = subst (AllByRecursion (IsOpenMessage l)) (sym left_is) all;
      few = let a = ap length no_runs in let b = ap length left_is in omega (arith, a, b, few);
      low = omega arith;
    }

pub so_far_more : (l : Limits) (parts : List TimedPart) (runs new : List Run) (begun more : List ℕ) (begin : ℕ) (m : OpenMessage) (all left : List OpenMessage) (r : Run)
    → SoFar l parts runs begun begin all → all ≡ m ∷ left → r ≡ run_from l (length runs) m → new ≡ runs ++ r ∷ [] → more ≡ begun ++ begin ∷ [] → SoFar l parts new more (begin + m.size.parts) left
unfolding runs_from begins_from
so_far_more l parts runs new begun more begin m all left r f all_is r_is new_is more_is =
    let opened = subst (AllByRecursion (IsOpenMessage l)) all_is f.are_open in
    let longer = ap length new_is ∙ length_more runs r in
    record {
      runs_are = ap₂ (λ (rs : List Run) (n : ℕ). rs ++ runs_from l n left) (new_is ∙ ap (λ (x : Run). runs ++ x ∷ []) r_is) longer
          ∙ append_assoc runs (run_from l (length runs) m ∷ []) (runs_from l (length runs + 1) left)
          ∙ ap (λ (ms : List OpenMessage). runs ++ runs_from l (length runs) ms) (sym all_is) ∙ f.runs_are;
      begins_are = ap (λ (ns : List ℕ). ns ++ begins_from (begin + m.size.parts) left) more_is
          ∙ append_assoc begun (begin ∷ []) (begins_from (begin + m.size.parts) left)
          ∙ ap (λ (ms : List OpenMessage). begun ++ begins_from begin ms) (sym all_is) ∙ f.begins_are;
      are_open = opened.1;
      few = let a = f.few in let b = ap length all_is in omega (arith, a, b, longer);
      low = let a = f.low in let b = opened.0.parts in omega (arith, a, b, longer);
    }

pub runs_end : (l : Limits) (parts : List TimedPart) (runs : List Run) (begun : List ℕ) (begin : ℕ) (left : List OpenMessage) → SoFar l parts runs begun begin left → left ≡ [] → runs ≡ walked l parts
unfolding runs_from
runs_end l parts runs begun begin left f none = sym (append-nil runs) ∙ ap (λ (ms : List OpenMessage). runs ++ runs_from l (length runs) ms) (sym none) ∙ f.runs_are

pub begins_end : (l : Limits) (parts : List TimedPart) (runs : List Run) (begun : List ℕ) (begin : ℕ) (left : List OpenMessage) → SoFar l parts runs begun begin left → left ≡ [] → begun ≡ begins l parts
unfolding begins_from
begins_end l parts runs begun begin left f none = sym (append-nil begun) ∙ ap (λ (ms : List OpenMessage). begun ++ begins_from begin ms) (sym none) ∙ f.begins_are
