-- The lines of a slot, and the slots of an endpoint, judged one after the other.
use Rattle.std.proofs.Common.{◌≡◌, ℕ, suc, ◌+◌, ◌<◌, ◌≤◌, inl, List, [], ◌∷◌, ◌++◌, length, get_or, take, drop, Option, None, refl, ap, sym, ◌∙◌, subst, arith, map, drop-cons, Some, ap₂}
use Rattle.std.specs.List.{AllByRecursion}
use Rattle.std.proofs.lemmas.List.{take_more, drop_all, map-append}
use Rattle.fh_base.specs.declared.values.Slot.{Slot}
use Rattle.window_config.specs.declared.endpoints.EndpointConfig.{EndpointConfig}
use Rattle.plan_model.specs.declared.lines.PlannedLine.{PlannedLine}
use Rattle.plan_model.specs.declared.refusals.PlanWhy.{PlanWhy}
use Rattle.schedule_laws.specs.SlotOrder.{IsEndpointLine, IsSlotLine, ArePlannedInOrder}
use Rattle.schedule_laws.specs.SlotTests.{judged, judged_in, of_home, lesser_refusal, least_along, behind, why_of, why_in, why_judged, refused_of, entry_of}
use Rattle.schedule_laws.proofs.SlotRunLemmas.{home_of_run, home_of_others, least_of_run, order_behind, IsCut}
use Rattle.fh_base.specs.Lists.{onto}
use Rattle.unit_model.specs.declared.allocations.Allocation.{Allocation}
use Rattle.unit_model.specs.declared.verdicts.CommandVerdict.{CommandVerdict}
use Rattle.unit_model.specs.declared.verdicts.CommandVerdict.TheVariants as verdict
use Rattle.fh_base.proofs.OntoLemmas.{onto-append}
use Rattle.plan_model.specs.Lines.{line_allocation}
use Rattle.plan_model.specs.Validity.{refused_at}
use Rattle.std.proofs.lemmas.List.Elements.{All-from_recursion}
use Rattle.fh_base.specs.Members.{IsIn}
use Rattle.fh_base.proofs.MemberLemmas.{all_in, all_from, all_map, in_right}

-- ---- the lines of a slot

-- the line at a place
pub line_at : (e : EndpointConfig) (ep : ℕ) (slot : Slot) (ps : List PlannedLine) (i : ℕ) (p : PlannedLine) → AllByRecursion (IsSlotLine e ep slot) ps → i < length ps
    → p ≡ get_or ps i p → IsSlotLine e ep slot p
line_at e ep slot ps i p all below is = subst (IsSlotLine e ep slot) (sym is) (All-from_recursion (IsSlotLine e ep slot) ps all i p below)

pub why_other : (v : CommandVerdict) → (v ≡ verdict.Accepted → ⊥) → why_in v ≡ Some (why_of v)
why_other verdict.Mismatch h = refl
why_other verdict.Late h = refl
why_other verdict.Early h = refl
why_other verdict.Range h = refl
why_other verdict.Repeat h = refl
why_other verdict.Overlap h = refl
why_other verdict.Full h = refl
why_other verdict.Accepted h = absurd (h refl)

-- none before this place is refused, and the rest decides
abbrev pub RestDecides : List PlannedLine → ℕ → Type 0
RestDecides lines i = refused_of why_judged (behind [] (take i lines)) (map entry_of (drop i lines)) ≡ judged lines

behind_more : (earlier : List Allocation) (xs : List PlannedLine) (i : ℕ) (d : PlannedLine) → i < length xs
    → behind earlier (take (i + 1) xs) ≡ line_allocation (get_or xs i d) ∷ behind earlier (take i xs)
unfolding onto
behind_more earlier xs i d inside =
    ap (behind earlier) (take_more xs i d inside) ∙ ap (onto earlier) (map-append line_allocation (take i xs) (get_or xs i d ∷ []))
    ∙ onto-append earlier (map line_allocation (take i xs)) (line_allocation (get_or xs i d) ∷ [])

-- a line more
pub behind_next : (lines : List PlannedLine) (i : ℕ) (p : PlannedLine) → i < length lines → p ≡ get_or lines i p
    → behind [] (take (i + 1) lines) ≡ line_allocation p ∷ behind [] (take i lines)
behind_next lines i p below is = behind_more [] lines i p below ∙ ap (λ (x : PlannedLine). line_allocation x ∷ behind [] (take i lines)) (sym is)

module _ (lines : List PlannedLine) (i : ℕ) (p : PlannedLine) (below : i < length lines) (is : p ≡ get_or lines i p) (rest : RestDecides lines i) where
  -- it is refused, or those after it are
  one_more : (w : Option PlanWhy) → why_judged (behind [] (take i lines)) (line_allocation p) ≡ w
      → refused_at p.index w (refused_of why_judged (line_allocation p ∷ behind [] (take i lines)) (map entry_of (drop (i + 1) lines))) ≡ judged lines
  unfolding refused_of
  one_more w why =
      let e : suc i ≡ i + 1 = omega arith in
      let here : drop i lines ≡ p ∷ drop (i + 1) lines = drop-cons lines i p below ∙ ap₂ (λ (x : PlannedLine) (n : ℕ). x ∷ drop n lines) (sym is) e in
      sym (ap (λ (xs : List PlannedLine). refused_of why_judged (behind [] (take i lines)) (map entry_of xs)) here
      ∙ ap (λ (o : Option PlanWhy). refused_at p.index o (refused_of why_judged (line_allocation p ∷ behind [] (take i lines)) (map entry_of (drop (i + 1) lines)))) why)
      ∙ rest

  pub rest_more : why_judged (behind [] (take i lines)) (line_allocation p) ≡ None → RestDecides lines (i + 1)
  rest_more why = ap (λ (xs : List Allocation). refused_of why_judged xs (map entry_of (drop (i + 1) lines))) (behind_next lines i p below is) ∙ one_more None why

  pub rest_refused : (w : PlanWhy) → why_judged (behind [] (take i lines)) (line_allocation p) ≡ Some w → Some (p.index, w) ≡ judged lines
  rest_refused w why = one_more (Some w) why

pub rest_end : (lines : List PlannedLine) (i : ℕ) → RestDecides lines i → length lines ≤ i → None ≡ judged lines
unfolding refused_of
rest_end lines i rest end = sym (ap (λ (xs : List PlannedLine). refused_of why_judged (behind [] (take i lines)) (map entry_of xs)) (drop_all i lines end)) ∙ rest

-- ---- the slots of an endpoint

-- what is left, with what was found so far
pub record LeftLines (e : EndpointConfig) (ep : ℕ) (lines rest : List PlannedLine) (least : Option (ℕ × PlanWhy)) : Type 0 where
  pub homes : (q : PlannedLine) → IsIn q rest → of_home q.ep q.line.slot rest ≡ of_home q.ep q.line.slot lines
  pub order : ArePlannedInOrder rest
  pub all : AllByRecursion (IsEndpointLine e ep) rest
  pub least_is : least_along lines least rest ≡ least_along lines None lines

pub lines_start : (e : EndpointConfig) (ep : ℕ) (lines : List PlannedLine) → ArePlannedInOrder lines → AllByRecursion (IsEndpointLine e ep) lines → LeftLines e ep lines lines None
lines_start e ep lines order all = record { homes = λ q m. refl; order = order; all = all; least_is = refl }

all_parts : {X : Type 0} (P : X → Type 0) (xs ys : List X) → AllByRecursion P (xs ++ ys) → AllByRecursion P xs × AllByRecursion P ys
all_parts P [] ys h = (tt, h)
all_parts P (x ∷ xs) ys h = let r = all_parts P xs ys h.1 in ((h.0, r.0), r.1)

module _ (e : EndpointConfig) (ep : ℕ) (lines rest : List PlannedLine) (least : Option (ℕ × PlanWhy)) (l : LeftLines e ep lines rest least)
    (run others : List PlannedLine) (p : PlannedLine) (cut : IsCut rest run others p) where
  pub first_left : IsIn p rest
  first_left = subst (IsIn p) (ap (λ (xs : List PlannedLine). xs ++ others) (sym cut.first.1) ∙ cut.whole) (inl refl)

  parts : AllByRecursion (IsEndpointLine e ep) run × AllByRecursion (IsEndpointLine e ep) others
  parts = all_parts (IsEndpointLine e ep) run others (subst (AllByRecursion (IsEndpointLine e ep)) (sym cut.whole) l.all)

  p_is : IsEndpointLine e ep p
  p_is = all_in (IsEndpointLine e ep) rest p l.all first_left

  -- what the judging of the run asks
  pub first_at : IsSlotLine e p.ep p.line.slot p
  first_at = record { of_endpoint = record { endpoint = p_is.endpoint; ep_is = refl; ranges = p_is.ranges; inside = p_is.inside }; slot_is = refl }

  pub run_at : AllByRecursion (IsSlotLine e p.ep p.line.slot) run
  run_at = all_from (IsSlotLine e p.ep p.line.slot) run (λ q m.
      let is = all_in (IsEndpointLine e ep) run q parts.0 m in
      record {
        of_endpoint = record { endpoint = is.endpoint; ep_is = is.ep_is ∙ sym p_is.ep_is; ranges = is.ranges; inside = is.inside };
        slot_is = all_in (λ x. x.line.slot ≡ p.line.slot) run q cut.run_is.same m;
      })

  eps : AllByRecursion (λ q. q.ep ≡ p.ep) run
  eps = all_map (IsEndpointLine e ep) (λ q. q.ep ≡ p.ep) (λ q is. is.ep_is ∙ sym p_is.ep_is) run parts.0

  -- its answer is that of its slot
  run_judged : judged run ≡ judged_in lines p
  run_judged = ap judged (sym (home_of_run p run others cut.run_is eps) ∙ ap (of_home p.ep p.line.slot) cut.whole ∙ l.homes p first_left)

  -- each of the others is of those left
  pub still_left : (q : PlannedLine) → IsIn q others → IsIn q rest
  still_left q m = subst (IsIn q) cut.whole (in_right q run others m)

  pub lines_more : (r new : Option (ℕ × PlanWhy)) → r ≡ judged run → new ≡ lesser_refusal least r → LeftLines e ep lines others new
  lines_more r new r_is new_is = record {
    homes = λ q m. home_of_others p run others cut.run_is q m ∙ ap (of_home q.ep q.line.slot) cut.whole ∙ l.homes q (still_left q m);
    order = order_behind run others (subst ArePlannedInOrder (sym cut.whole) l.order);
    all = parts.1;
    least_is =
        ap (λ (x : Option (ℕ × PlanWhy)). least_along lines x others) (new_is ∙ ap (lesser_refusal least) (r_is ∙ run_judged))
        ∙ sym (ap (least_along lines least) (sym cut.whole ∙ ap (λ (xs : List PlannedLine). xs ++ others) cut.first.1)
        ∙ least_of_run lines least p cut.first.0 others (subst (AllByRecursion (λ q. q.ep ≡ p.ep)) cut.first.1 eps) (subst (AllByRecursion (λ q. q.line.slot ≡ p.line.slot)) cut.first.1 cut.run_is.same))
        ∙ l.least_is;
  }

pub lines_end : (e : EndpointConfig) (ep : ℕ) (lines rest : List PlannedLine) (least : Option (ℕ × PlanWhy)) → LeftLines e ep lines rest least → length rest ≡ 0
    → least ≡ least_along lines None lines
unfolding least_along
lines_end e ep lines [] least l none = l.least_is
lines_end e ep lines (x ∷ rest) least l none = absurd (omega (arith, none))
