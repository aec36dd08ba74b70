-- The tests of a complete plan, and its dense messages.
use Rattle.std.proofs.Common.{◌≡◌, ℕ, suc, ◌+◌, ◌<◌, ◌≤◌, Bool, true, false, nat_lt, if◌then◌else◌, List, [], ◌∷◌, length, map, get_or, drop, drop-cons, Option, Some, None, refl, ap, ap₂, sym, ◌∙◌, arith}
use Rattle.std.specs.Prelude.{is_some}
use Rattle.std.proofs.lemmas.Bool.Decides.{nat_tests}
use Rattle.std.proofs.lemmas.List.{drop_all}
use Rattle.window_config.specs.declared.config.Config.{Config}
use Rattle.window_config.specs.declared.endpoints.EndpointConfig.{EndpointConfig}
use Rattle.window_config.specs.declared.plan.PlanLine.{PlanLine}
use Rattle.fh_base.specs.Lists.{or_else}
use Rattle.plan_model.specs.Dense.{dense, dense_from, dense_in, lesser, sendings}
use Rattle.plan_model.specs.Lines.{line_allocation, planned}
use Rattle.plan_model.specs.Valid.{dense_refused, plan_refusal}
use Rattle.plan_model.specs.Validity.{first_refused, why_claimed}
use Rattle.plan_model.specs.declared.dense.Dense.{Dense}
use Rattle.plan_model.specs.declared.lines.PlannedLine.{PlannedLine}
use Rattle.plan_model.specs.declared.refusals.PlanWhy.{PlanWhy}
use Rattle.schedule_laws.specs.DenseWays.{distance_of, stream_of}
use Rattle.schedule_laws.specs.PlacedLines.{placed_from, stopped_from}
use Rattle.schedule_laws.specs.SlotTests.{refused_along}
use Rattle.schedule_laws.proofs.PlacedLemmas.{refused_apart, placed_all}

-- ---- dense messages

pub lesser_none : (x : Option Dense) → lesser x None ≡ x
lesser_none None = refl
lesser_none (Some p) = refl

abbrev pick : Bool → Dense → Dense → Option Dense
pick t q p = if t then Some q else Some p

not_less : (a b c : ℕ) → nat_lt b a ≡ false → nat_lt c b ≡ false → nat_lt c a ≡ false
not_less a b c h g = grind (arith, nat_tests)

less_on : (a b c : ℕ) → nat_lt b a ≡ true → nat_lt c b ≡ true → nat_lt c a ≡ true
less_on a b c h g = grind (arith, nat_tests)

pub lesser_along : (x y z : Option Dense) → lesser (lesser x y) z ≡ lesser x (lesser y z)
lesser_along None y z = refl
lesser_along (Some p) None z = refl
lesser_along (Some p) (Some q) None = lesser_none (lesser (Some p) (Some q))
lesser_along (Some p) (Some q) (Some r) = go (nat_lt q.number p.number) refl (nat_lt r.number q.number) refl
  where
    go : (s : Bool) → nat_lt q.number p.number ≡ s → (t : Bool) → nat_lt r.number q.number ≡ t → lesser (pick s q p) (Some r) ≡ lesser (Some p) (pick t r q)
    go true e true f = rw (f, less_on p.number q.number r.number e f) refl
    go true e false f = rw (f, e) refl
    go false e true f = refl
    go false e false f = rw (not_less p.number q.number r.number e f, e) refl

pub dense_more : (c : Config) (lines : List PlannedLine) (up : Bool) (ep : ℕ) (first found new : Option Dense) (d : EndpointConfig) → ep < length c.endpoints
    → lesser first (dense_from c lines (stream_of up) (distance_of c.delays up) ep (drop ep c.endpoints)) ≡ dense_from c lines (stream_of up) (distance_of c.delays up) 0 c.endpoints
    → found ≡ dense_in (distance_of c.delays up) (sendings c lines (stream_of up) ep (get_or c.endpoints ep d)) → new ≡ lesser first found
    → lesser new (dense_from c lines (stream_of up) (distance_of c.delays up) (ep + 1) (drop (ep + 1) c.endpoints)) ≡ dense_from c lines (stream_of up) (distance_of c.delays up) 0 c.endpoints
unfolding dense_from
dense_more c lines up ep first found new d below so_far found_is new_is =
    let e : suc ep ≡ ep + 1 = omega arith in
    let here : drop ep c.endpoints ≡ get_or c.endpoints ep d ∷ drop (ep + 1) c.endpoints = drop-cons c.endpoints ep d below ∙ ap (λ (n : ℕ). get_or c.endpoints ep d ∷ drop n c.endpoints) e in
    let rest : Option Dense = dense_from c lines (stream_of up) (distance_of c.delays up) (ep + 1) (drop (ep + 1) c.endpoints) in
    ap (λ (x : Option Dense). lesser x rest) (new_is ∙ ap (lesser first) found_is)
    ∙ lesser_along first (dense_in (distance_of c.delays up) (sendings c lines (stream_of up) ep (get_or c.endpoints ep d))) rest
    ∙ sym (ap (λ (es : List EndpointConfig). lesser first (dense_from c lines (stream_of up) (distance_of c.delays up) ep es)) here) ∙ so_far

pub dense_end : (c : Config) (lines : List PlannedLine) (up : Bool) (ep : ℕ) (first : Option Dense) → length c.endpoints ≤ ep
    → lesser first (dense_from c lines (stream_of up) (distance_of c.delays up) ep (drop ep c.endpoints)) ≡ dense_from c lines (stream_of up) (distance_of c.delays up) 0 c.endpoints
    → first ≡ dense_from c lines (stream_of up) (distance_of c.delays up) 0 c.endpoints
unfolding dense_from
dense_end c lines up ep first end so_far =
    sym (lesser_none first) ∙ sym (ap (λ (es : List EndpointConfig). lesser first (dense_from c lines (stream_of up) (distance_of c.delays up) ep es)) (drop_all ep c.endpoints end)) ∙ so_far

-- ---- all tests

pub lines_refused : (c : Config) (lines : List PlanLine) (placed : List PlannedLine) (judged stop : Option (ℕ × PlanWhy)) → placed ≡ placed_from c.endpoints 0 lines → stop ≡ stopped_from c.endpoints 0 lines
    → judged ≡ refused_along why_claimed [] 0 (map line_allocation placed) → or_else judged stop ≡ first_refused c.endpoints lines
lines_refused c lines placed judged stop placed_is stop_is judged_is =
    ap₂ or_else (judged_is ∙ ap (λ (ps : List PlannedLine). refused_along why_claimed [] 0 (map line_allocation ps)) placed_is) stop_is ∙ sym (refused_apart c.endpoints [] 0 lines)

pub judged_first : (c : Config) (lines : List PlanLine) (judged stop : Option (ℕ × PlanWhy)) → or_else judged stop ≡ first_refused c.endpoints lines → is_some judged ≡ true
    → judged ≡ plan_refusal c lines
judged_first c lines None stop h some = cc
judged_first c lines (Some r) stop h some = ap (λ (o : Option (ℕ × PlanWhy)). or_else o (dense_refused (dense c (planned c.endpoints lines)))) h

pub stop_first : (c : Config) (lines : List PlanLine) (judged stop : Option (ℕ × PlanWhy)) → or_else judged stop ≡ first_refused c.endpoints lines → is_some judged ≡ false → is_some stop ≡ true
    → stop ≡ plan_refusal c lines
stop_first c lines (Some r) stop h none some = cc
stop_first c lines None None h none some = cc
stop_first c lines None (Some r) h none some = ap (λ (o : Option (ℕ × PlanWhy)). or_else o (dense_refused (dense c (planned c.endpoints lines)))) h

pub dense_last : (c : Config) (lines : List PlanLine) (placed : List PlannedLine) (judged stop : Option (ℕ × PlanWhy)) (found : Option Dense) → or_else judged stop ≡ first_refused c.endpoints lines
    → is_some judged ≡ false → is_some stop ≡ false → placed ≡ placed_from c.endpoints 0 lines → stop ≡ stopped_from c.endpoints 0 lines → found ≡ dense c placed
    → dense_refused found ≡ plan_refusal c lines
dense_last c lines placed (Some r) stop found h none off placed_is stop_is found_is = cc
dense_last c lines placed None (Some r) found h none off placed_is stop_is found_is = cc
dense_last c lines placed None None found h none off placed_is stop_is found_is =
    ap dense_refused (found_is ∙ ap (dense c) (placed_is ∙ placed_all c.endpoints 0 lines (sym stop_is)))
    ∙ ap (λ (o : Option (ℕ × PlanWhy)). or_else o (dense_refused (dense c (planned c.endpoints lines)))) h

pub placed_at : (c : Config) (lines : List PlanLine) (es : List EndpointConfig) (items placed : List PlannedLine) → es ≡ c.endpoints → items ≡ placed_from es 0 lines → placed ≡ items
    → placed ≡ placed_from c.endpoints 0 lines
placed_at c lines es items placed es_is items_is placed_is = placed_is ∙ items_is ∙ ap (λ (x : List EndpointConfig). placed_from x 0 lines) es_is

pub stop_at : (c : Config) (lines : List PlanLine) (es : List EndpointConfig) (stop : Option (ℕ × PlanWhy)) → es ≡ c.endpoints → stop ≡ stopped_from es 0 lines → stop ≡ stopped_from c.endpoints 0 lines
stop_at c lines es stop es_is stop_is = stop_is ∙ ap (λ (x : List EndpointConfig). stopped_from x 0 lines) es_is

pub tests_first : (c : Config) (lines : List PlanLine) (es : List EndpointConfig) (items placed : List PlannedLine) (judged stop : Option (ℕ × PlanWhy)) → es ≡ c.endpoints → items ≡ placed_from es 0 lines
    → placed ≡ items → stop ≡ stopped_from es 0 lines → judged ≡ refused_along why_claimed [] 0 (map line_allocation placed) → or_else judged stop ≡ first_refused c.endpoints lines
tests_first c lines es items placed judged stop es_is items_is placed_is stop_is judged_is =
    lines_refused c lines placed judged stop (placed_at c lines es items placed es_is items_is placed_is) (stop_at c lines es stop es_is stop_is) judged_is
