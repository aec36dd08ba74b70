-- By what is known of the section.
use Rattle.std.proofs.Common.{◌≡◌, ℤ, List, [], ◌∷◌, sym, ap, ◌∙◌}
use Rattle.std.specs.Prelude.{slice_get, Some, None}
use Rattle.unit_model.specs.declared.symbol_start.SymbolStart.{SymbolStart}
use Rattle.explain_model.specs.Unused.{start_with}
use Rattle.why_lines.proofs.StartLemmas.{get_none, get_some}
use Rattle.why_lines.proofs.starts.start_of.Goals as goal

pub air-requires-clause-low : goal.air-requires-clause-low
air-requires-clause-low c =
    let at : slice_get c.args.endpoints.now c.args.r.now.ep ≡ Some c.in-Some.endpoint.now = get_some c.args.endpoints.now c.args.r.now.ep c.in-Some.endpoint c.in-Some.ensures.lookup in
    (c.requires c.in-Some.endpoint.now at).0.low

pub air-requires-clause-high : goal.air-requires-clause-high
air-requires-clause-high c =
    let at : slice_get c.args.endpoints.now c.args.r.now.ep ≡ Some c.in-Some.endpoint.now = get_some c.args.endpoints.now c.args.r.now.ep c.in-Some.endpoint c.in-Some.ensures.lookup in
    (c.requires c.in-Some.endpoint.now at).0.high

pub air-requires-clause-subframe : goal.air-requires-clause-subframe
air-requires-clause-subframe c =
    let at : slice_get c.args.endpoints.now c.args.r.now.ep ≡ Some c.in-Some.endpoint.now = get_some c.args.endpoints.now c.args.r.now.ep c.in-Some.endpoint c.in-Some.ensures.lookup in
    (c.requires c.in-Some.endpoint.now at).0.subframe

pub air-requires-clause-slot : goal.air-requires-clause-slot
air-requires-clause-slot c =
    let at : slice_get c.args.endpoints.now c.args.r.now.ep ≡ Some c.in-Some.endpoint.now = get_some c.args.endpoints.now c.args.r.now.ep c.in-Some.endpoint c.in-Some.ensures.lookup in
    (c.requires c.in-Some.endpoint.now at).0.slot_is

pub air-requires-clause-symbol : goal.air-requires-clause-symbol
air-requires-clause-symbol c =
    let at : slice_get c.args.endpoints.now c.args.r.now.ep ≡ Some c.in-Some.endpoint.now = get_some c.args.endpoints.now c.args.r.now.ep c.in-Some.endpoint c.in-Some.ensures.lookup in
    (c.requires c.in-Some.endpoint.now at).1

pub returns-in-Some : goal.returns-in-Some
returns-in-Some c =
    let at : slice_get c.args.endpoints.now c.args.r.now.ep ≡ Some c.in-Some.endpoint.now = get_some c.args.endpoints.now c.args.r.now.ep c.in-Some.endpoint c.in-Some.ensures.lookup in
    ap (start_with c.args.r.now) at
    ∙ ap (λ (z : ℤ). let ss : List SymbolStart = record { ep = c.args.r.now.ep; endpoint = c.in-Some.endpoint.now; start = record { 0 = z }; slot = c.args.r.now.slot; symbol = c.args.r.now.symbol } ∷ [] in ss)
    (sym c.air.ensures.value)

pub returns-in-None : goal.returns-in-None
returns-in-None c =
    let none : slice_get c.args.endpoints.now c.args.r.now.ep ≡ None = get_none c.args.endpoints.now c.args.r.now.ep c.in-None.ensures.lookup in
    ap (start_with c.args.r.now) none
