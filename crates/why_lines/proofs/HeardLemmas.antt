-- What the runs of a symbol have is what all cells have.
use Rattle.std.proofs.Common.{◌≡◌, ℕ, zero, suc, ◌+◌, ◌==◌, inl, inr, Bool, true, false, ◌&&◌, ◌||◌, List, [], ◌∷◌, ◌++◌, filter, Option, Some, refl, sym, ap, ap₂, ◌∙◌, arith}
use Rattle.std.specs.Prelude.{if◌then◌else◌}
use Rattle.std.specs.List.{AllByRecursion, flat_map, list_any}
use Rattle.std.proofs.lemmas.Bool.{cases_Bool, eq-eqb, eqb-true}
use Rattle.std.proofs.lemmas.Bool.Decides.{nat_tests}
use Rattle.air_source.specs.Units.{same_side}
use Rattle.air_source.specs.declared.events.Event.{Event}
use Rattle.air_source.specs.declared.events.Side.TheVariants.{Ru}
use Rattle.window_config.specs.declared.config.Config.{Config}
use Rattle.window_config.specs.declared.endpoints.EndpointConfig.{EndpointConfig}
use Rattle.window_config.specs.declared.plan.PlanLine.{PlanLine}
use Rattle.unit_model.specs.Claims.{in_mask, is_from, same_slot}
use Rattle.fh_base.specs.Lists.{each}
use Rattle.unit_model.specs.Meetings.{find_endpoint, find_from}
use Rattle.plan_model.specs.declared.lines.PlannedLine.{PlannedLine}
use Rattle.explain_model.specs.Cells.{runs}
use Rattle.explain_model.specs.Seen.{Seen, cell_runs, ep_found, ep_of, is_at, is_heard, run_of, seen_at, seen_in}
use Rattle.explain_model.specs.Keys.{run_key, same_symbol}
use Rattle.explain_model.specs.declared.runs.CellRun.{CellRun}
use Rattle.explain_records.specs.Keys.{of_symbol}
use Rattle.explain_records.proofs.MissingLemmas.{HasEndpoint, runs_have as runs_named}
use Rattle.why_lines.specs.Silent.{has_element, symbol_key}
use Rattle.fh_base.proofs.MemberLemmas.{all_map as all_weaker}

-- ---- one of a list

any_append : {X : Type 0} (p : X → Bool) (xs ys : List X) → list_any p (xs ++ ys) ≡ (list_any p xs || list_any p ys)
any_append p [] ys = refl
any_append p (x ∷ xs) ys = ap (λ b. p x || b) (any_append p xs ys) ∙ chain (p x) (list_any p xs) (list_any p ys)
  where
    chain : (a b c : Bool) → (a || (b || c)) ≡ ((a || b) || c)
    chain true b c = refl
    chain false b c = refl

pub any_flat : {X Y : Type 0} (p : Y → Bool) (f : X → List Y) (xs : List X) → list_any p (flat_map f xs) ≡ list_any (λ x. list_any p (f x)) xs
any_flat p f [] = refl
any_flat p f (x ∷ xs) = any_append p (f x) (flat_map f xs) ∙ ap (λ b. list_any p (f x) || b) (any_flat p f xs)

pub any_filter : {X : Type 0} (p t : X → Bool) (xs : List X) → list_any p (filter t xs) ≡ list_any (λ x. t x && p x) xs
any_filter p t [] = refl
any_filter p t (x ∷ xs) = elim (cases_Bool (t x)) [
  | inl h ↦ rw h (ap (λ b. p x || b) (any_filter p t xs))
  | inr h ↦ rw h (any_filter p t xs)
]

pub any_same : {X : Type 0} (p q : X → Bool) (xs : List X) → AllByRecursion (λ x. p x ≡ q x) xs → list_any p xs ≡ list_any q xs
any_same p q [] h = refl
any_same p q (x ∷ xs) h = ap₂ (λ a b. a || b) h.0 (any_same p q xs h.1)

-- ---- the cells of a run

one_more : (first n prb : ℕ) → is_from first (suc n) prb ≡ ((first == prb) || is_from (first + 1) n prb)
one_more first n prb = grind (arith, nat_tests)

pub none_from : (first prb : ℕ) → is_from first 0 prb ≡ false
none_from first prb = grind (arith, nat_tests)

spread : (a m e f : Bool) → (((a && e) && m) || ((a && f) && m)) ≡ ((a && (e || f)) && m)
spread false m e f = refl
spread true true true f = refl
spread true true false f = refl
spread true false true true = refl
spread true false true false = refl
spread true false false true = refl
spread true false false false = refl

nothing : (a m : Bool) → false ≡ ((a && false) && m)
nothing true m = refl
nothing false m = refl

any_each : {Y : Type 0} (h : Y → Bool) (g : ℕ → Y) (a m : Bool) (prb : ℕ) → ((k : ℕ) → h (g k) ≡ ((a && (k == prb)) && m)) → (first n : ℕ)
    → list_any h (each first n (λ k. g k ∷ [])) ≡ ((a && is_from first n prb) && m)
unfolding each
any_each h g a m prb is first zero = nothing a m ∙ ap (λ b. (a && b) && m) (sym (none_from first prb))
any_each h g a m prb is first (suc n) =
    ap₂ (λ x y. x || y) (is first) (any_each h g a m prb is (first + 1) n) ∙ spread a m (first == prb) (is_from (first + 1) n prb)
    ∙ ap (λ b. (a && b) && m) (sym (one_more first n prb))

-- ---- a run of the symbol

-- where it has the id of the line's endpoint, it is of that endpoint
abbrev pub Names : PlannedLine → CellRun → Type 0
Names p r = r.id ≡ p.endpoint.id → r.ep ≡ p.ep

regroup : (s i t y e m : Bool) → ((s && (i && (t && (y && e)))) && m) ≡ (((s && (i && (t && y))) && e) && m)
regroup true true true y e m = refl
regroup true true false y e m = refl
regroup true false t y e m = refl
regroup false i t y e m = refl

both : (s n t i f m : Bool) → (i ≡ true → n ≡ true) → ((s && (n && t)) && ((i && f) && m)) ≡ (((s && (i && t)) && f) && m)
both false n t i f m h = refl
both true n true true f m h = ap (λ (b : Bool). (b && true) && (f && m)) (h refl)
both true n false true f m h = ap (λ (b : Bool). (b && false) && (f && m)) (h refl)
both true true true false f m h = refl
both true true false false f m h = refl
both true false t false f m h = refl

run_has : (p : PlannedLine) (symbol prb re : ℕ) (r : CellRun) → Names p r
    → (same_symbol (run_key r) (symbol_key p symbol) && has_element p.endpoint.id prb re r)
    ≡ list_any (λ s. is_at Ru p.endpoint.id p.line.slot symbol prb s && in_mask s.mask re) (seen_in r)
unfolding seen_in
run_has p symbol prb re r names =
    both (same_side r.side Ru) (r.ep == p.ep) (same_slot r.slot p.line.slot && (r.symbol == symbol)) (r.id == p.endpoint.id) (is_from r.prb r.count prb) (in_mask r.mask re)
    (λ same. eq-eqb r.ep p.ep (names (eqb-true r.id p.endpoint.id same)))
    ∙ sym (any_each (λ (s : Seen). is_at Ru p.endpoint.id p.line.slot symbol prb s && in_mask s.mask re) (seen_at r)
    (same_side r.side Ru && ((r.id == p.endpoint.id) && (same_slot r.slot p.line.slot && (r.symbol == symbol)))) (in_mask r.mask re) prb
    (λ k. regroup (same_side r.side Ru) (r.id == p.endpoint.id) (same_slot r.slot p.line.slot) (r.symbol == symbol) (k == prb) (in_mask r.mask re)) r.prb r.count)

heard_by : (p : PlannedLine) (rs sorted : List CellRun) → ((symbol : ℕ) → of_symbol run_key (symbol_key p symbol) sorted ≡ of_symbol run_key (symbol_key p symbol) rs)
    → AllByRecursion (Names p) rs → (symbol prb re : ℕ)
    → list_any (has_element p.endpoint.id prb re) (of_symbol run_key (symbol_key p symbol) sorted) ≡ is_heard (flat_map seen_in rs) Ru p.endpoint.id p.line.slot symbol prb re
unfolding is_heard
heard_by p rs sorted same h symbol prb re =
    ap (list_any (has_element p.endpoint.id prb re)) (same symbol)
    ∙ any_filter (has_element p.endpoint.id prb re) (λ r. same_symbol (run_key r) (symbol_key p symbol)) rs
    ∙ any_same (λ r. same_symbol (run_key r) (symbol_key p symbol) && has_element p.endpoint.id prb re r)
    (λ r. list_any (λ s. is_at Ru p.endpoint.id p.line.slot symbol prb s && in_mask s.mask re) (seen_in r)) rs
    (all_weaker (Names p) (λ r. (same_symbol (run_key r) (symbol_key p symbol) && has_element p.endpoint.id prb re r)
    ≡ list_any (λ s. is_at Ru p.endpoint.id p.line.slot symbol prb s && in_mask s.mask re) (seen_in r)) (λ r n. run_has p symbol prb re r n) rs h)
    ∙ sym (any_flat (λ s. is_at Ru p.endpoint.id p.line.slot symbol prb s && in_mask s.mask re) seen_in rs)

-- ---- the endpoint of a line

-- it is at the endpoint that is found by its id
abbrev pub IsFound : List EndpointConfig → PlannedLine → Type 0
IsFound es p = find_endpoint es p.endpoint.id ≡ Some (p.ep, p.endpoint)

found_id : (start : ℕ) (es : List EndpointConfig) (id : ℕ) (found : ℕ × EndpointConfig) → find_from start es id ≡ Some found → found.1.id ≡ id
found_id start [] id found h = absurd cc
found_id start (e ∷ es) id found h = one (e.id == id) refl h (λ later. found_id (start + 1) es id found later)
  where
    one : (b : Bool) → (e.id == id) ≡ b → (let o : Option (ℕ × EndpointConfig) = if b then Some (start, e) else find_from (start + 1) es id in o) ≡ Some found
        → (find_from (start + 1) es id ≡ Some found → found.1.id ≡ id) → found.1.id ≡ id
    one true is f rest = let same : (start, e) ≡ found = cc in sym (ap (λ (o : ℕ × EndpointConfig). o.1.id) same) ∙ eqb-true e.id id is
    one false is f rest = rest f

pub line_found : (es : List EndpointConfig) (k : ℕ) (line : PlanLine) (found : ℕ × EndpointConfig) → find_endpoint es line.id ≡ Some found
    → IsFound es (record { index = k; ep = found.0; endpoint = found.1; line = line })
line_found es k line found h = ap (find_endpoint es) (found_id 0 es line.id found h) ∙ h

-- ---- the runs of a replay

all_named : (c : Config) (p : PlannedLine) (events : List Event) → IsFound c.endpoints p → AllByRecursion (Names p) (cell_runs c events)
unfolding cell_runs
all_named c p events found =
    all_weaker (HasEndpoint c) (Names p) (λ r h same. h ∙ ap (ep_of c) same ∙ ap ep_found found) (flat_map (run_of c) (runs c events)) (runs_named c (runs c events))

pub heard_is : (c : Config) (events : List Event) (sorted : List CellRun) (p : PlannedLine) → IsFound c.endpoints p
    → ((symbol : ℕ) → of_symbol run_key (symbol_key p symbol) sorted ≡ of_symbol run_key (symbol_key p symbol) (cell_runs c events)) → (symbol prb re : ℕ)
    → list_any (has_element p.endpoint.id prb re) (of_symbol run_key (symbol_key p symbol) sorted)
    ≡ is_heard (flat_map seen_in (cell_runs c events)) Ru p.endpoint.id p.line.slot symbol prb re
heard_is c events sorted p found same symbol prb re = heard_by p (cell_runs c events) sorted same (all_named c p events found) symbol prb re
