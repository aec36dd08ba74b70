-- A silent element is in no cell of the radio unit, so no accepted section names it.
use Rattle.std.proofs.Common.{◌≡◌, ℕ, ◌+◌, ◌<◌, ◌==◌, Bool, true, false, List, [], ◌∷◌, refl, sym, ap, ◌∙◌, subst, inl, inr}
use Rattle.std.specs.Prelude.{not, if◌then◌else◌, Option, Some, None, slice_index}
use Rattle.std.specs.Option.{option_to_list}
use Rattle.std.proofs.lemmas.Bool.{and_parts, cases_Bool}
use Rattle.air_source.specs.declared.events.Event.{Event}
use Rattle.air_source.specs.declared.events.Side.TheVariants.{Ru}
use Rattle.window_config.specs.Configs.{IsConfig}
use Rattle.window_config.specs.declared.config.Config.{Config}
use Rattle.window_config.specs.declared.endpoints.EndpointConfig.{EndpointConfig}
use Rattle.window_config.specs.declared.plan.PlanLine.{PlanLine}
use Rattle.unit_model.specs.Claims.{cell_at, first_prb, in_mask, names, prb_count}
use Rattle.unit_model.specs.Commands.{allocation_of}
use Rattle.unit_model.specs.Meetings.{find_endpoint}
use Rattle.unit_model.specs.Proper.{IsAt}
use Rattle.unit_laws.proofs.FarLemmas.{endpoints_equal}
use Rattle.plan_model.specs.Lines.{line_allocation, planned, planned_at, planned_from, planned_with}
use Rattle.plan_model.specs.declared.lines.PlannedLine.{PlannedLine}
use Rattle.replay_laws.specs.Events.{events}
use Rattle.replay_laws.specs.Passing.{AreLandings}
use Rattle.replay_laws.specs.Traffic.{Traffic}
use Rattle.document_traffic.specs.Replayed.{traffic_of}
use Rattle.document_traffic.proofs.ReplayedLemmas.{landings_are_replayed}
use Rattle.explain_model.specs.declared.sections.CommandRecord.{CommandRecord}
use Rattle.explain_model.specs.Commanded.{command_reason}
use Rattle.explain_model.specs.SilentReasons.{kept}
use Rattle.explain_model.specs.Seen.{Seen, is_heard, seen}
use Rattle.explain_model.specs.Silent.{SilentPrb, SilentSymbol, is_dl, is_silent, line_elements, silent_in, silent_mask, silent_of, silent_of_line, silent_prb, silent_prbs, silent_symbol, silent_symbols}
use Rattle.explain_laws.proofs.MaskLemmas.{bits_is}
use Rattle.explain_laws.specs.Silent.{NoAcceptedNamesSilent, SilentAreUnnamed}
use Rattle.explain_laws.proofs.HeardLemmas.{accepted_is_heard, at_place}
use Rattle.explain_laws.proofs.ListLemmas.{in_both, of_each, of_some}
use Rattle.fh_base.specs.Members.{IsIn}
use Rattle.unit_model.proofs.EndpointLemmas.{found_at}

-- ---- the endpoint of a line of a plan

in_with : (es : List EndpointConfig) (k : ℕ) (line : PlanLine) (o : Option (ℕ × EndpointConfig)) (p : PlannedLine) → find_endpoint es line.id ≡ o
    → IsIn p (option_to_list (planned_with k line o)) → IsAt es p.ep p.endpoint
in_with es k line None p is m = absurd m
in_with es k line (Some (ep, e)) p is (inl here) =
    subst (λ (q : PlannedLine). IsAt es q.ep q.endpoint) (sym here) (found_at es line.id ep e is)
in_with es k line (Some (ep, e)) p is (inr none) = absurd none

planned_there : (es : List EndpointConfig) (k : ℕ) (lines : List PlanLine) (p : PlannedLine) → IsIn p (planned_from es k lines) → IsAt es p.ep p.endpoint
unfolding planned_from
planned_there es k [] p m = absurd m
planned_there es k (line ∷ lines) p m = elim (in_both p (option_to_list (planned_at es k line)) (planned_from es (k + 1) lines) m) [
  | inl here ↦ in_with es k line (find_endpoint es line.id) p refl here
  | inr later ↦ planned_there es (k + 1) lines p later
]

-- ---- the silent PRBs of a symbol of a line

module _ (commands : List CommandRecord) (cells : List Seen) where
  -- it is what is told of the symbol
  record IsToldOf (p : PlannedLine) (s : SilentSymbol) : Type 0 where
    planned_is : s.planned ≡ p
    prbs_are : s.prbs ≡ silent_prbs commands cells s.planned s.symbol

  told_symbol : (number : ℕ) (p : PlannedLine) (s : SilentSymbol) → IsIn s (silent_of_line commands cells number p) → IsToldOf p s
  unfolding silent_of_line
  told_symbol number p s m =
      let at = of_each s p.line.symbol p.line.count (λ y. silent_symbol commands cells number p y ∷ []) m in
      one at.0 at.1
    where
      one : (y : ℕ) → IsIn s (silent_symbol commands cells number p y ∷ []) → IsToldOf p s
      one y (inl here) = subst (IsToldOf p) (sym here) (record { planned_is = refl; prbs_are = refl })
      one y (inr none) = absurd none

  told_by : (number : ℕ) (p : PlannedLine) (s : SilentSymbol) (b : Bool) → IsIn s (if b then silent_of_line commands cells number p else []) → IsToldOf p s
  told_by number p s true m = told_symbol number p s m
  told_by number p s false m = absurd m

  prb_by : (p : PlannedLine) (y n mask : ℕ) (x : SilentPrb) (b : Bool) → mask ≡ silent_mask cells p y n
      → (let xs : List SilentPrb = if b then [] else record { prb = n; mask = mask; reason = command_reason commands (line_elements p y n mask) } ∷ [] in IsIn x xs)
      → x.mask ≡ silent_mask cells p y x.prb
  prb_by p y n mask x true is m = absurd m
  prb_by p y n mask x false is (inl here) =
      ap (λ (z : SilentPrb). z.mask) here ∙ is ∙ ap (silent_mask cells p y) (sym (ap (λ (z : SilentPrb). z.prb) here))
  prb_by p y n mask x false is (inr none) = absurd none

  mask_told : (p : PlannedLine) (y : ℕ) (x : SilentPrb) → IsIn x (silent_prbs commands cells p y) → x.mask ≡ silent_mask cells p y x.prb
  unfolding silent_prbs
  mask_told p y x m =
      let at = of_each x (first_prb (line_allocation p)) (prb_count (line_allocation p)) (silent_prb commands cells p y) m in
      prb_by p y at.0 (silent_mask cells p y at.0) x (silent_mask cells p y at.0 == 0) refl at.1

  -- an element of its mask is in no cell
  not_heard : (p : PlannedLine) (y prb re : ℕ) → re < 12 → in_mask (silent_mask cells p y prb) re ≡ true → not (is_heard cells Ru p.endpoint.id p.line.slot y prb re) ≡ true
  unfolding silent_mask
  not_heard p y prb re small has =
      (and_parts (in_mask p.line.mask re) (not (is_heard cells Ru p.endpoint.id p.line.slot y prb re)) (sym (bits_is (is_silent cells p y prb) re small) ∙ has)).1

record IsOfPlan (c : Config) (plan : List PlanLine) (es : List Event) (s : SilentSymbol) : Type 0 where
  at : IsAt c.endpoints s.planned.ep s.planned.endpoint
  prbs_are : s.prbs ≡ silent_prbs (kept c es).commanded (seen es) s.planned s.symbol

of_plan : (c : Config) (plan : List PlanLine) (numbers : List ℕ) (es : List Event) (s : SilentSymbol) → IsIn s (silent_in c plan numbers es) → IsOfPlan c plan es s
unfolding silent_symbols
of_plan c plan numbers es s m =
    let commands = (kept c es).commanded in
    let cells = seen es in
    let line = of_some s (silent_of commands cells numbers) (planned c.endpoints plan) m in
    let told = told_by commands cells (slice_index numbers line.0.index) line.0 s (is_dl line.0.line.kind) line.2 in
    record {
      at = subst (λ (p : PlannedLine). IsAt c.endpoints p.ep p.endpoint) (sym told.planned_is) (planned_there c.endpoints 0 plan line.0 line.1);
      prbs_are = told.prbs_are;
    }

-- ---- so no accepted section names one

both : (b : Bool) → b ≡ true → not b ≡ true → ⊥
both true p q = cc
both false p q = cc

unnamed : (c : Config) (t : Traffic) (plan : List PlanLine) (numbers : List ℕ) → IsConfig c → AreLandings t.at_ru → SilentAreUnnamed c plan numbers (events c t)
unnamed c t plan numbers config landings s x k re there inside h busy small has =
    let p = s.planned in
    let commands = (kept c (events c t)).commanded in
    let cells = seen (events c t) in
    let of = of_plan c plan numbers (events c t) s there in
    let mask : x.mask ≡ silent_mask cells p s.symbol x.prb = mask_told commands cells p s.symbol x (subst (λ (xs : List SilentPrb). IsIn x xs) of.prbs_are inside) in
    let quiet : not (is_heard cells Ru p.endpoint.id p.line.slot s.symbol x.prb re) ≡ true =
    not_heard commands cells p s.symbol x.prb re small (subst (λ (m : ℕ). in_mask m re ≡ true) mask has) in
    elim (cases_Bool (names (allocation_of k) (cell_at p.ep true p.line.slot s.symbol x.prb) re)) [
      | inl named ↦
          let heard = accepted_is_heard c t config landings k h busy p.ep p.line.slot s.symbol x.prb re small named in
          let same : k.endpoint ≡ p.endpoint =
          endpoints_equal c.endpoints p.ep p.ep k.endpoint p.endpoint (at_place c t config landings k h busy p.ep p.line.slot s.symbol x.prb re small named) of.at refl in
          absurd (both (is_heard cells Ru p.endpoint.id p.line.slot s.symbol x.prb re)
          (subst (λ (e : EndpointConfig). is_heard cells Ru e.id p.line.slot s.symbol x.prb re ≡ true) same heard) quiet)
      | inr not_named ↦ not_named
    ]

pub none_names : NoAcceptedNamesSilent
none_names = record {
  replays = unnamed;
  documents = λ d numbers replayable. unnamed d.config (traffic_of d) d.plan numbers replayable.document.config (landings_are_replayed d Ru replayable);
}
