-- The runs of a symbol show a block exactly where a cell shows it.
use Rattle.std.proofs.Common.{◌≡◌, ℕ, zero, suc, ◌+◌, Bool, true, false, ◌&&◌, ◌||◌, ◌==◌, List, [], ◌∷◌, refl, sym, ap, ap₂, ◌∙◌, arith, true≢false}
use Rattle.std.specs.List.{AllByRecursion, list_any}
use Rattle.std.proofs.lemmas.Bool.{eq-eqb, eqb-true}
use Rattle.std.proofs.lemmas.Bool.Decides.{nat_tests}
use Rattle.fh_base.specs.declared.values.Slot.{Slot}
use Rattle.air_source.specs.Units.{same_side}
use Rattle.air_source.specs.declared.events.Event.{Event}
use Rattle.air_source.specs.declared.events.Side.{Side}
use Rattle.window_config.specs.Configs.{IsConfig}
use Rattle.window_config.specs.declared.config.Config.{Config}
use Rattle.window_config.specs.declared.endpoints.EndpointConfig.{EndpointConfig}
use Rattle.unit_model.specs.Claims.{is_from, same_slot}
use Rattle.fh_base.specs.Lists.{each}
use Rattle.unit_model.specs.Proper.{IsAt}
use Rattle.unit_model.specs.declared.symbol_start.SymbolStart.{SymbolStart}
use Rattle.unit_laws.proofs.UnitLemmas.{same_ids}
use Rattle.explain_model.specs.Cells.{runs}
use Rattle.explain_model.specs.Seen.{Seen, cell_runs, ep_found, ep_of, is_at, is_shown_at, seen, seen_at, seen_in}
use Rattle.explain_model.specs.Unused.{key_at}
use Rattle.explain_model.proofs.SeenLemmas.{runs_hold_cells}
use Rattle.explain_model.specs.Keys.{run_key, same_symbol}
use Rattle.explain_model.specs.declared.keys.SymbolKey.{SymbolKey}
use Rattle.explain_model.specs.declared.runs.CellRun.{CellRun}
use Rattle.explain_records.specs.Keys.{of_symbol}
use Rattle.why_lines.specs.Unused.{is_shown_by, shows}
use Rattle.slot_rings.proofs.RangeLemmas.{same_tests as alike}
use Rattle.why_lines.proofs.HeardLemmas.{any_filter, any_flat, any_same, none_from}
use Rattle.unit_model.proofs.CommonLemmas.{first_found}
use Rattle.explain_records.proofs.MissingLemmas.{HasEndpoint, runs_have}
use Rattle.fh_base.proofs.Orders.{and_false_3}

-- ---- a number among those from one on

from_first : (first n prb : ℕ) → ((first == prb) || is_from (first + 1) n prb) ≡ true → is_from first (suc n) prb ≡ true
from_first first n prb h = grind (arith, nat_tests)

first_from : (first n prb : ℕ) → is_from first (suc n) prb ≡ true → ((first == prb) || is_from (first + 1) n prb) ≡ true
first_from first n prb h = grind (arith, nat_tests)

from_more : (first n prb : ℕ) → ((first == prb) || is_from (first + 1) n prb) ≡ is_from first (suc n) prb
from_more first n prb = alike _ _ (from_first first n prb) (first_from first n prb)

both_and : (x y c : Bool) → ((x && c) || (y && c)) ≡ ((x || y) && c)
both_and true true true = refl
both_and true true false = refl
both_and true false true = refl
both_and true false false = refl
both_and false y c = refl

any_each : {A : Type 0} (p : A → Bool) (f : ℕ → A) (first n prb : ℕ) (c : Bool) → ((k : ℕ) → p (f k) ≡ ((k == prb) && c))
    → list_any p (each first n (λ k. f k ∷ [])) ≡ (is_from first n prb && c)
unfolding each
any_each p f first zero prb c h = sym (ap (λ b. b && c) (none_from first prb))
any_each p f first (suc n) prb c h =
    ap₂ (λ a b. a || b) (h first) (any_each p f (first + 1) n prb c h)
    ∙ both_and (first == prb) (is_from (first + 1) n prb) c
    ∙ ap (λ b. b && c) (from_more first n prb)

-- ---- tests in another order

turn : (a i l y k f : Bool) → ((a && (i && (l && (y && k)))) && f) ≡ (k && ((a && (i && (l && y))) && f))
turn true true true true k f = refl
turn true true true false k f = sym (and_false_3 k)
turn true true false y k f = sym (and_false_3 k)
turn true false l y k f = sym (and_false_3 k)
turn false i l y k f = sym (and_false_3 k)

swap : (z f h : Bool) → (z && (f && h)) ≡ (f && (z && h))
swap true f h = refl
swap false f h = sym (and_false_3 f)

-- where the second test follows from the fourth
shuffle : (a e i l y f h : Bool) → (i ≡ true → e ≡ true) → ((a && (e && (l && y))) && (i && (f && h))) ≡ (f && ((a && (i && (l && y))) && h))
shuffle a true true l y f h m = swap (a && (l && y)) f h
shuffle a false true l y f h m = absurd (true≢false (sym (m refl)))
shuffle a e false l y f h m = and_false_3 (a && (e && (l && y))) ∙ sym (ap (λ (b : Bool). f && (b && h)) (and_false_3 a) ∙ and_false_3 f)

-- ---- the cells of a run

seen_shows : (side : Side) (id : ℕ) (slot : Slot) (symbol prb : ℕ) (r : CellRun) → list_any (λ s. is_at side id slot symbol prb s && s.shown) (seen_in r)
    ≡ (is_from r.prb r.count prb && ((same_side r.side side && ((r.id == id) && (same_slot r.slot slot && (r.symbol == symbol)))) && r.shown))
unfolding seen_in
seen_shows side id slot symbol prb r =
    any_each (λ s. is_at side id slot symbol prb s && s.shown) (seen_at r) r.prb r.count prb _
    (λ k. turn (same_side r.side side) (r.id == id) (same_slot r.slot slot) (r.symbol == symbol) (k == prb) r.shown)

-- ---- endpoints by their ids

-- a cell of the id of an endpoint is of its index
ep_is : (c : Config) (ep : ℕ) (e : EndpointConfig) → IsConfig c → IsAt c.endpoints ep e → ep_of c e.id ≡ ep
ep_is c ep e config at =
    let here : 0 + ep ≡ ep = omega arith in
    ap ep_found (first_found 0 c.endpoints ep e at (λ i f below at_f same.
    (let equal : i ≡ ep = same_ids c.endpoints i ep f e config.endpoints.differ at_f at same in omega (arith, below, equal))))
    ∙ here

-- ---- the runs of a replay

module _ (c : Config) (config : IsConfig c) (side : Side) (s : SymbolStart) (at : IsAt c.endpoints s.ep s.endpoint) (prb : ℕ) where
  abbrev shown_in : CellRun → Bool
  shown_in r = same_symbol (run_key r) (key_at side s) && shows s.endpoint.id prb r

  abbrev seen_here : Seen → Bool
  seen_here x = is_at side s.endpoint.id s.slot s.symbol prb x && x.shown

  own_ep : (r : CellRun) → HasEndpoint c r → (r.id == s.endpoint.id) ≡ true → (r.ep == s.ep) ≡ true
  own_ep r has same = eq-eqb r.ep s.ep (has ∙ ap (ep_of c) (eqb-true r.id s.endpoint.id same) ∙ ep_is c s.ep s.endpoint config at)

  run_shows : (r : CellRun) → HasEndpoint c r → shown_in r ≡ list_any seen_here (seen_in r)
  run_shows r has =
      shuffle (same_side r.side side) (r.ep == s.ep) (r.id == s.endpoint.id) (same_slot r.slot s.slot) (r.symbol == s.symbol) (is_from r.prb r.count prb) r.shown (own_ep r has)
      ∙ sym (seen_shows side s.endpoint.id s.slot s.symbol prb r)

  all_show : (rs : List CellRun) → AllByRecursion (HasEndpoint c) rs → AllByRecursion (λ r. shown_in r ≡ list_any seen_here (seen_in r)) rs
  all_show [] h = tt
  all_show (r ∷ rs) h = (run_shows r h.0, all_show rs h.1)

  pub shown_same : (events : List Event) (sorted : List CellRun) → ((key : SymbolKey) → of_symbol run_key key sorted ≡ of_symbol run_key key (cell_runs c events))
      → is_shown_by (of_symbol run_key (key_at side s) sorted) s.endpoint.id prb ≡ is_shown_at (seen events) side s.endpoint.id s.slot s.symbol prb
  unfolding cell_runs is_shown_at
  shown_same events sorted same =
      ap (λ rs. is_shown_by rs s.endpoint.id prb) (same (key_at side s))
      ∙ any_filter (shows s.endpoint.id prb) (λ r. same_symbol (run_key r) (key_at side s)) (cell_runs c events)
      ∙ any_same shown_in (λ r. list_any seen_here (seen_in r)) (cell_runs c events) (all_show (cell_runs c events) (runs_have c (runs c events)))
      ∙ sym (any_flat seen_here seen_in (cell_runs c events))
      ∙ ap (list_any seen_here) (runs_hold_cells c events)
