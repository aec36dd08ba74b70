-- Each element of a plan's `dl` line is in use in a cell, or is told as silent exactly once.
use Rattle.std.proofs.Common.{◌≡◌, ℕ, zero, suc, ◌+◌, ◌<◌, ◌≤◌, ◌==◌, Bool, true, false, List, [], ◌∷◌, ◌++◌, refl, sym, ap, ap₂, ◌∙◌, subst, inl, inr, arith, append-nil}
use Rattle.std.specs.Prelude.{◌⊎◌, filter, if◌then◌else◌, not, ◌&&◌, Option, Some, None, slice_index}
use Rattle.std.specs.List.{flat_map}
use Rattle.std.specs.Option.{option_to_list}
use Rattle.std.proofs.lemmas.Bool.{and_from, cases_Bool, eq-eqb, eqb-true}
use Rattle.std.proofs.lemmas.Grind.{flat_map-append}
use Rattle.std.proofs.lemmas.List.Elements.{filter-append}
use Rattle.air_source.specs.declared.events.Event.{Event}
use Rattle.air_source.specs.declared.events.Side.TheVariants.{Ru}
use Rattle.window_config.specs.declared.config.Config.{Config}
use Rattle.window_config.specs.declared.endpoints.EndpointConfig.{EndpointConfig}
use Rattle.window_config.specs.declared.plan.PlanLine.{PlanLine}
use Rattle.unit_model.specs.Claims.{first_prb, in_mask, is_from, prb_count}
use Rattle.fh_base.specs.Lists.{each}
use Rattle.unit_model.specs.Meetings.{find_endpoint}
use Rattle.unit_model.proofs.ClaimLemmas.{from_within, starts_before}
use Rattle.plan_model.specs.Lines.{line_allocation, planned, planned_at, planned_from, planned_with}
use Rattle.plan_model.specs.declared.lines.PlannedLine.{PlannedLine}
use Rattle.schedule_laws.proofs.SingleLemmas.{mask_some}
use Rattle.explain_model.specs.declared.sections.CommandRecord.{CommandRecord}
use Rattle.explain_model.specs.Commanded.{command_reason}
use Rattle.explain_model.specs.SilentReasons.{kept}
use Rattle.explain_model.specs.Seen.{Seen, is_heard, seen}
use Rattle.explain_model.specs.Silent.{SilentPrb, SilentSymbol, is_dl, is_silent, line_elements, silent_mask, silent_of, silent_of_line, silent_prb, silent_prbs, silent_symbol, silent_symbols}
use Rattle.explain_laws.specs.Planned.{IsToldSilent, PlansAreTold, is_symbol, told_symbol}
use Rattle.explain_laws.proofs.MaskLemmas.{bits_are, bits_is}
use Rattle.fh_base.specs.Members.{IsIn}

not_equal : (m n : ℕ) → (m ≡ n → ⊥) → (m == n) ≡ false
not_equal m n h = elim (cases_Bool (m == n)) [ inl is ↦ absurd (h (eqb-true m n is)) | inr is ↦ is ]

-- ---- of the lists of following numbers, that of one

module _ {B : Type 0} (f : ℕ → List B) (q : B → Bool) (n : ℕ) (own : filter q (f n) ≡ f n) (others : (m : ℕ) → (m ≡ n → ⊥) → filter q (f m) ≡ []) where
  none_before : (from count : ℕ) → n < from → filter q (each from count f) ≡ []
  unfolding each
  none_before from zero h = refl
  none_before from (suc count) h =
      filter-append q (f from) (each (from + 1) count f) ∙ ap₂ ◌++◌ (others from (λ e. omega (arith, e))) (none_before (from + 1) count (omega arith))

  later : (from : ℕ) → from ≤ n → (from ≡ n → ⊥) → from + 1 ≤ n
  later from h apart = omega arith

  one_step : (from count : ℕ) (b : Bool) → (from == n) ≡ b → from ≤ n → n < from + suc count
      → ((from + 1) ≤ n → n < (from + 1) + count → filter q (each (from + 1) count f) ≡ f n) → filter q (f from) ++ filter q (each (from + 1) count f) ≡ f n
  one_step from count true is low high more =
      let e = eqb-true from n is in
      ap₂ ◌++◌ (subst (λ (m : ℕ). filter q (f m) ≡ f n) (sym e) own) (none_before (from + 1) count (omega (arith, e))) ∙ append-nil (f n)
  one_step from count false is low high more =
      let apart : from ≡ n → ⊥ = (λ e. let t : true ≡ false = sym (eq-eqb from n e) ∙ is in cc) in
      ap (λ (xs : List B). xs ++ filter q (each (from + 1) count f)) (others from apart) ∙ more (later from low apart) (omega arith)

  pub one_of_each : (from count : ℕ) → from ≤ n → n < from + count → filter q (each from count f) ≡ f n
  unfolding each
  one_of_each from zero low high = absurd (let h : n < n = omega arith in omega arith)
  one_of_each from (suc count) low high = filter-append q (f from) (each (from + 1) count f) ∙ one_step from count (from == n) refl low high (one_of_each (from + 1) count)

none_at_all : {B : Type 0} (f : ℕ → List B) (q : B → Bool) → ((m : ℕ) → filter q (f m) ≡ []) → (from count : ℕ) → filter q (each from count f) ≡ []
unfolding each
none_at_all f q h from zero = refl
none_at_all f q h from (suc count) = filter-append q (f from) (each (from + 1) count f) ∙ ap₂ ◌++◌ (h from) (none_at_all f q h (from + 1) count)

-- ---- the PRBs of a symbol

module _ (commands : List CommandRecord) (cells : List Seen) (p : PlannedLine) (symbol : ℕ) where
  abbrev at_prb : ℕ → List SilentPrb
  at_prb n = silent_prb commands cells p symbol n

  own_by : (n mask : ℕ) (b : Bool) → (let xs : List SilentPrb = if b then [] else record { prb = n; mask = mask; reason = command_reason commands (line_elements p symbol n mask) } ∷ [] in filter (λ x. x.prb == n) xs)
      ≡ (if b then [] else record { prb = n; mask = mask; reason = command_reason commands (line_elements p symbol n mask) } ∷ [])
  own_by n mask true = refl
  own_by n mask false = ap (λ (t : Bool). let x : SilentPrb = record { prb = n; mask = mask; reason = command_reason commands (line_elements p symbol n mask) } in if t then x ∷ [] else []) (eq-eqb n n refl)

  others_by : (n m mask : ℕ) (b : Bool) → (m == n) ≡ false
      → (let xs : List SilentPrb = if b then [] else record { prb = m; mask = mask; reason = command_reason commands (line_elements p symbol m mask) } ∷ [] in filter (λ x. x.prb == n) xs) ≡ []
  others_by n m mask true is = refl
  others_by n m mask false is = ap (λ (t : Bool). let x : SilentPrb = record { prb = m; mask = mask; reason = command_reason commands (line_elements p symbol m mask) } in if t then x ∷ [] else []) is

  only_prb : (n : ℕ) → is_from (first_prb (line_allocation p)) (prb_count (line_allocation p)) n ≡ true → filter (λ x. x.prb == n) (silent_prbs commands cells p symbol) ≡ at_prb n
  unfolding silent_prbs
  only_prb n h =
      one_of_each at_prb (λ x. x.prb == n) n (own_by n (silent_mask cells p symbol n) (silent_mask cells p symbol n == 0))
      (λ m apart. others_by n m (silent_mask cells p symbol m) (silent_mask cells p symbol m == 0) (not_equal m n apart))
      (first_prb (line_allocation p)) (prb_count (line_allocation p)) (starts_before _ _ n h) (from_within _ _ n h)

  -- an element that no cell has is in the mask
  in_silent : (n re : ℕ) → re < 12 → is_silent cells p symbol n re ≡ true → in_mask (silent_mask cells p symbol n) re ≡ true
  unfolding silent_mask
  in_silent n re small is = bits_is (is_silent cells p symbol n) re small ∙ is

  some_silent : (n re : ℕ) → re < 12 → is_silent cells p symbol n re ≡ true → silent_mask cells p symbol n ≡ 0 → ⊥
  unfolding silent_mask
  some_silent n re small is none = mask_some (is_silent cells p symbol n) 12 re small is (sym (bits_are (is_silent cells p symbol n) 12) ∙ none)

  prb_there : (n re : ℕ) → re < 12 → is_silent cells p symbol n re ≡ true
      → at_prb n ≡ record { prb = n; mask = silent_mask cells p symbol n; reason = command_reason commands (line_elements p symbol n (silent_mask cells p symbol n)) } ∷ []
  prb_there n re small is =
      ap (λ (b : Bool). let xs : List SilentPrb = if b then [] else record { prb = n; mask = silent_mask cells p symbol n; reason = command_reason commands (line_elements p symbol n (silent_mask cells p symbol n)) } ∷ [] in xs)
      (not_equal (silent_mask cells p symbol n) 0 (some_silent n re small is))

pub element_by : (c : Config) (numbers : List ℕ) (events : List Event) (p : PlannedLine) (symbol n re : ℕ) → is_from (first_prb (line_allocation p)) (prb_count (line_allocation p)) n ≡ true → re < 12 → in_mask p.line.mask re ≡ true
    → (b : Bool) → is_heard (seen events) Ru p.endpoint.id p.line.slot symbol n re ≡ b
    → (b ≡ true) ⊎ IsToldSilent c events p symbol n re (told_symbol c numbers events p symbol).prbs
element_by c numbers events p symbol n re inside small has true is = inl refl
element_by c numbers events p symbol n re inside small has false is =
    let commands = (kept c events).commanded in
    let cells = seen events in
    let silent : is_silent cells p symbol n re ≡ true = and_from (in_mask p.line.mask re) _ has (ap not is) in
    inr (record {
      it = record { prb = n; mask = silent_mask cells p symbol n; reason = command_reason commands (line_elements p symbol n (silent_mask cells p symbol n)) };
      only = only_prb commands cells p symbol n inside ∙ prb_there commands cells p symbol n re small silent;
      has = in_silent commands cells p symbol n re small silent;
      reason = refl;
    })

-- ---- the symbols of a plan

module _ (commands : List CommandRecord) (cells : List Seen) (numbers : List ℕ) where
  abbrev symbol_of : PlannedLine → ℕ → SilentSymbol
  symbol_of p y = silent_symbol commands cells (slice_index numbers p.index) p y

  -- those of the line with this place
  pub own_symbols : (p : PlannedLine) (y : ℕ) → is_dl p.line.kind ≡ true → is_from p.line.symbol p.line.count y ≡ true → filter (is_symbol p.index y) (silent_of commands cells numbers p) ≡ symbol_of p y ∷ []
  unfolding silent_of_line
  own_symbols p y down inside =
      let self = eq-eqb p.index p.index refl in
      ap (λ (b : Bool). filter (is_symbol p.index y) (if b then silent_of_line commands cells (slice_index numbers p.index) p else [])) down
      ∙ one_of_each (λ z. symbol_of p z ∷ []) (is_symbol p.index y) y
      (ap (λ (b : Bool). if b then symbol_of p y ∷ [] else []) (and_from (p.index == p.index) (y == y) self (eq-eqb y y refl)))
      (λ z apart. ap₂ (λ (a b : Bool). if a && b then symbol_of p z ∷ [] else []) self (not_equal z y apart))
      p.line.symbol p.line.count (starts_before p.line.symbol p.line.count y inside) (from_within p.line.symbol p.line.count y inside)

  -- of another line none
  pub other_by : (p : PlannedLine) (i y : ℕ) (b : Bool) → (p.index == i) ≡ false → filter (is_symbol i y) (if b then silent_of_line commands cells (slice_index numbers p.index) p else []) ≡ []
  unfolding silent_of_line
  other_by p i y false is = refl
  other_by p i y true is =
      none_at_all (λ z. symbol_of p z ∷ []) (is_symbol i y) (λ z. ap (λ (a : Bool). if a && (z == y) then symbol_of p z ∷ [] else []) is) p.line.symbol p.line.count

  other_symbols : (p : PlannedLine) (i y : ℕ) → (p.index == i) ≡ false → filter (is_symbol i y) (silent_of commands cells numbers p) ≡ []
  other_symbols p i y is = other_by p i y (is_dl p.line.kind) is

  -- ---- of all lines, whose places go upwards

  module _ (es : List EndpointConfig) where
    abbrev of_lines : ℕ → List PlanLine → List SilentSymbol
    of_lines k lines = flat_map (silent_of commands cells numbers) (planned_from es k lines)

    abbrev with_line : ℕ → PlanLine → Option (ℕ × EndpointConfig) → List PlannedLine
    with_line k line o = option_to_list (planned_with k line o)

    before_step : (k i y : ℕ) (line : PlanLine) (o : Option (ℕ × EndpointConfig)) → i < k → filter (is_symbol i y) (flat_map (silent_of commands cells numbers) (with_line k line o)) ≡ []
    before_step k i y line None h = refl
    before_step k i y line (Some found) h =
        let p : PlannedLine = record { index = k; ep = found.0; endpoint = found.1; line = line } in
        ap (filter (is_symbol i y)) (append-nil (silent_of commands cells numbers p)) ∙ other_symbols p i y (not_equal k i (λ e. omega (arith, e)))

    before : (k i y : ℕ) (lines : List PlanLine) → i < k → filter (is_symbol i y) (of_lines k lines) ≡ []
    unfolding planned_from
    before k i y [] h = refl
    before k i y (line ∷ lines) h =
        ap (filter (is_symbol i y)) (flat_map-append (silent_of commands cells numbers) (option_to_list (planned_at es k line)) (planned_from es (k + 1) lines))
        ∙ filter-append (is_symbol i y) (flat_map (silent_of commands cells numbers) (option_to_list (planned_at es k line))) (of_lines (k + 1) lines)
        ∙ ap₂ ◌++◌ (before_step k i y line (find_endpoint es line.id) h) (before (k + 1) i y lines (omega arith))

    in_with : (k : ℕ) (line : PlanLine) (o : Option (ℕ × EndpointConfig)) (p : PlannedLine) (rest : List PlannedLine) → IsIn p (with_line k line o ++ rest) → (p.index ≡ k) ⊎ IsIn p rest
    in_with k line None p rest m = inr m
    in_with k line (Some found) p rest (inl here) = inl (ap (λ (q : PlannedLine). q.index) here)
    in_with k line (Some found) p rest (inr more) = inr more

    low_by : (k i : ℕ) → (i ≡ k) ⊎ ((k + 1) ≤ i) → k ≤ i
    low_by k i (inl e) = omega (arith, e)
    low_by k i (inr h) = omega arith

    low : (k : ℕ) (lines : List PlanLine) (p : PlannedLine) → IsIn p (planned_from es k lines) → k ≤ p.index
    unfolding planned_from
    low k [] p m = absurd m
    low k (line ∷ lines) p m =
        low_by k p.index (elim (in_with k line (find_endpoint es line.id) p (planned_from es (k + 1) lines) m) [ inl e ↦ inl e | inr more ↦ inr (low (k + 1) lines p more) ])

    abbrev IsOnce : PlannedLine → ℕ → List SilentSymbol → Type 0
    IsOnce p y xs = filter (is_symbol p.index y) xs ≡ symbol_of p y ∷ []

    here_or_later : (k : ℕ) (line : PlanLine) (lines : List PlanLine) (o : Option (ℕ × EndpointConfig)) (p : PlannedLine) (y : ℕ)
        → is_dl p.line.kind ≡ true → is_from p.line.symbol p.line.count y ≡ true → IsIn p (with_line k line o ++ planned_from es (k + 1) lines)
        → (IsIn p (planned_from es (k + 1) lines) → IsOnce p y (of_lines (k + 1) lines))
        → filter (is_symbol p.index y) (flat_map (silent_of commands cells numbers) (with_line k line o)) ++ filter (is_symbol p.index y) (of_lines (k + 1) lines) ≡ symbol_of p y ∷ []
    here_or_later k line lines None p y down inside m more = more m
    here_or_later k line lines (Some found) p y down inside (inl here) more =
        let q : PlannedLine = record { index = k; ep = found.0; endpoint = found.1; line = line } in
        ap₂ ◌++◌
        (ap (λ (x : PlannedLine). filter (is_symbol p.index y) (silent_of commands cells numbers x ++ [])) (sym here)
        ∙ ap (filter (is_symbol p.index y)) (append-nil (silent_of commands cells numbers p))
        ∙ own_symbols p y down inside)
        (let place : p.index ≡ k = ap (λ (x : PlannedLine). x.index) here in before (k + 1) p.index y lines (omega (arith, place)))
    here_or_later k line lines (Some found) p y down inside (inr later) more =
        let least = low (k + 1) lines p later in
        ap (λ (xs : List SilentSymbol). xs ++ filter (is_symbol p.index y) (of_lines (k + 1) lines))
        (ap (filter (is_symbol p.index y)) (append-nil _) ∙ other_symbols (record { index = k; ep = found.0; endpoint = found.1; line = line }) p.index y (not_equal k p.index (λ e. omega (arith, e, least))))
        ∙ more later

    once : (k : ℕ) (lines : List PlanLine) (p : PlannedLine) (y : ℕ) → is_dl p.line.kind ≡ true → is_from p.line.symbol p.line.count y ≡ true → IsIn p (planned_from es k lines) → IsOnce p y (of_lines k lines)
    unfolding planned_from
    once k [] p y down inside m = absurd m
    once k (line ∷ lines) p y down inside m =
        ap (filter (is_symbol p.index y)) (flat_map-append (silent_of commands cells numbers) (option_to_list (planned_at es k line)) (planned_from es (k + 1) lines))
        ∙ filter-append (is_symbol p.index y) (flat_map (silent_of commands cells numbers) (option_to_list (planned_at es k line))) (of_lines (k + 1) lines)
        ∙ here_or_later k line lines (find_endpoint es line.id) p y down inside m (once (k + 1) lines p y down inside)

  pub symbols_once : (c : Config) (plan : List PlanLine) (p : PlannedLine) (y : ℕ) → IsIn p (planned c.endpoints plan) → is_dl p.line.kind ≡ true → is_from p.line.symbol p.line.count y ≡ true
      → filter (is_symbol p.index y) (silent_symbols commands cells numbers (planned c.endpoints plan)) ≡ symbol_of p y ∷ []
  unfolding silent_symbols
  symbols_once c plan p y m down inside = once c.endpoints 0 plan p y down inside m

pub are_told : PlansAreTold
are_told c plan numbers events = record {
  symbols = λ p symbol m down inside. symbols_once (kept c events).commanded (seen events) numbers c plan p symbol m down inside;
  elements = λ p symbol prb re inside small has.
      element_by c numbers events p symbol prb re inside small has (is_heard (seen events) Ru p.endpoint.id p.line.slot symbol prb re) refl;
}
