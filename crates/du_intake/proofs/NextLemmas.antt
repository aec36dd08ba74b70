-- The symbols of a plan in their order: which is next.
use Rattle.std.proofs.Common.{◌≡◌, ℕ, suc, zero, ◌+◌, ◌^◌, ◌<◌, ◌≤◌, inl, inr, true, false, ◌==◌, nat_lt, List, [], ◌∷◌, length, get_or, take, drop, ◌-◌, Option, Some, None, refl, ap, sym, ◌∙◌, subst, arith}
use Rattle.std.specs.List.{slice_get}
use Rattle.std.proofs.lemmas.Bool.{cases_Bool, eqb-true}
use Rattle.std.proofs.lemmas.Bool.Decides.{nat_tests}
use Rattle.std.proofs.lemmas.Option.{slice_get_within}
use Rattle.window_config.specs.declared.config.Config.{Config}
use Rattle.window_config.specs.declared.endpoints.EndpointConfig.{EndpointConfig}
use Rattle.unit_model.specs.Claims.{claim_at}
use Rattle.unit_model.specs.Order.{comes_before}
use Rattle.unit_model.specs.declared.allocations.Allocation.{Allocation}
use Rattle.unit_model.specs.declared.symbol_start.SymbolStart.{SymbolStart}
use Rattle.slot_rings.proofs.SeenLemmas.{if_some}
use Rattle.unit_symbols.proofs.OrderLemmas.{not_before_earlier, not_before_itself}
use Rattle.du_intake.specs.Cursors.{IsNamed, IsNextPlannedSymbol, uplink_cell_in, is_after}
use Rattle.du_intake.specs.Lines.{claim_in_slot, lines_at}
use Rattle.du_intake.specs.Rows.{IsRowOf, claim_of_planned, no_claim}
use Rattle.du_intake.proofs.RowLemmas.{in_take}
use Rattle.du_intake.proofs.ListLemmas.{some_same}
use Rattle.du_intake.specs.Symbols.{AreLines, IsKeptSymbol, IsLine, IsListed, lines_in, start_by, planned_start_in, planned_start, start_with, symbol_at}
use Rattle.du_intake.specs.declared.lines.UplinkLine.{UplinkLine}
use Rattle.du_intake.specs.declared.claims.PlannedClaim.{PlannedClaim}
use Rattle.du_intake.specs.declared.plan.UplinkPlan.{UplinkPlan}
use Rattle.du_intake.specs.declared.symbols.PlannedSymbol.{PlannedSymbol}
use Rattle.unit_symbols.specs.Searches.{IsNotBefore}
use Rattle.fh_base.specs.declared.carrier.TheConstants.{CARRIER_PRBS}
use Rattle.fh_base.specs.Members.{IsIn}
use Rattle.fh_base.proofs.MemberLemmas.{get_in}
use Rattle.fh_base.proofs.MadeLists.{at_in}

-- ---- a symbol at its place

pub start_is : (es : List EndpointConfig) (ls : List UplinkLine) (s : PlannedSymbol) (m : SymbolStart) → planned_start_in es ls (Some s) ≡ Some m → (m.start ≡ s.start) × (m.symbol ≡ s.symbol)
start_is es ls s m h = by_line (slice_get ls s.first) h
  where
    with_endpoint : (l : UplinkLine) (o : Option EndpointConfig) → start_with s l o ≡ Some m → (m.start ≡ s.start) × (m.symbol ≡ s.symbol)
    with_endpoint l None h = absurd cc
    with_endpoint l (Some e) h =
        let same : planned_start s l e ≡ m = cc in
        (sym (ap (λ (x : SymbolStart). x.start) same), sym (ap (λ (x : SymbolStart). x.symbol) same))

    by_line : (o : Option UplinkLine) → start_by es s o ≡ Some m → (m.start ≡ s.start) × (m.symbol ≡ s.symbol)
    by_line None h = absurd cc
    by_line (Some l) h = with_endpoint l (slice_get es l.ep) h

pub record IsSymbolAt (es : List EndpointConfig) (p : UplinkPlan) (k : ℕ) (m : SymbolStart) : Type 0 where
  pub s : PlannedSymbol
  pub at : slice_get p.symbols.items k ≡ Some s
  pub is : planned_start_in es p.lines.items (Some s) ≡ Some m

pub symbol_some : (es : List EndpointConfig) (p : UplinkPlan) (k : ℕ) (m : SymbolStart) → symbol_at es p k ≡ Some m → IsSymbolAt es p k m
symbol_some es p k m h = go (slice_get p.symbols.items k) refl h
  where
    go : (o : Option PlannedSymbol) → slice_get p.symbols.items k ≡ o → planned_start_in es p.lines.items o ≡ Some m → IsSymbolAt es p k m
    go None e h = absurd cc
    go (Some s) e h = record { s = s; at = e; is = h }

pub symbol_below : (es : List EndpointConfig) (p : UplinkPlan) (k : ℕ) (m : SymbolStart) → symbol_at es p k ≡ Some m → k < length p.symbols.items
symbol_below es p k m h = let w = symbol_some es p k m h in slice_get_within p.symbols.items k w.s w.at

module _ (c : Config) (planned : List Allocation) (p : UplinkPlan) (listed : IsListed c planned p) where
  -- what is kept of the symbol at a place
  pub kept_symbol : (k : ℕ) (m : SymbolStart) → symbol_at c.endpoints p k ≡ Some m → (w : IsSymbolAt c.endpoints p k m) × (x : IsKeptSymbol c.endpoints planned p.lines.items w.s) × (x.start ≡ m)
  kept_symbol k m h =
      let w = symbol_some c.endpoints p k m h in
      let x = listed.symbols k w.s w.at in
      (w, x, some_same (planned_start_in c.endpoints p.lines.items (Some w.s)) x.start m x.is w.is)

  pub at_named : (k : ℕ) (m : SymbolStart) → symbol_at c.endpoints p k ≡ Some m → IsNamed planned m
  at_named k m h = let w = kept_symbol k m h in subst (IsNamed planned) w.2 w.1.named

  -- there is one at each place before the last
  pub at_each : (k : ℕ) → k < length p.symbols.items → (m : SymbolStart) × (symbol_at c.endpoints p k ≡ Some m)
  at_each k below = go (slice_get p.symbols.items k) refl
    where
      none : (xs : List PlannedSymbol) (k : ℕ) → slice_get xs k ≡ None → k < length xs → ⊥
      none [] k e h = absurd (omega arith)
      none (x ∷ xs) zero e h = cc
      none (x ∷ xs) (suc k) e h = none xs k e (omega (arith, h))

      go : (o : Option PlannedSymbol) → slice_get p.symbols.items k ≡ o → (m : SymbolStart) × (symbol_at c.endpoints p k ≡ Some m)
      go None e = absurd (none p.symbols.items k e below)
      go (Some s) e = let x = listed.symbols k s e in (x.start, ap (planned_start_in c.endpoints p.lines.items) e ∙ x.is)

  next_is : (n : ℕ) (last : Option SymbolStart) → ((j : ℕ) (x : SymbolStart) → symbol_at c.endpoints p j ≡ Some x → is_after last x ≡ true → n ≤ j)
      → ((x : SymbolStart) → symbol_at c.endpoints p n ≡ Some x → is_after last x ≡ true) → IsNextPlannedSymbol planned last (symbol_at c.endpoints p n)
  next_is n last behind after = record {
    named = if_some (symbol_at c.endpoints p n) {P = IsNamed planned} (at_named n);
    after = if_some (symbol_at c.endpoints p n) {P = λ m. is_after last m ≡ true} after;
    first = λ m named late.
        let w = listed.all m named in
        let low : n ≤ w.k = behind w.k m w.is late in
        elim (cases_Bool (n == w.k)) [
          | inl same ↦
              let is : symbol_at c.endpoints p n ≡ Some m = ap (symbol_at c.endpoints p) (eqb-true n w.k same) ∙ w.is in
              subst (IsNotBefore m) (sym is) (not_before_itself m)
          | inr other ↦
              let less : n < w.k = strictly n w.k low other in
              let below = symbol_below c.endpoints p w.k m w.is in
              let here = at_each n (omega (arith, less, below)) in
              subst (IsNotBefore m) (sym here.1) (not_before_earlier m here.0 m (not_before_itself m) (listed.order n w.k here.0 m less here.1 w.is))
        ];
  }
    where
      strictly : (a b : ℕ) → a ≤ b → (a == b) ≡ false → a < b
      strictly a b h e = grind (arith, nat_tests)

  pub first_symbol : IsNextPlannedSymbol planned None (symbol_at c.endpoints p 0)
  first_symbol = next_is 0 None (λ j x is late. omega arith) (λ x is. refl)

  pub next_symbol : (k : ℕ) (m : SymbolStart) → symbol_at c.endpoints p k ≡ Some m → IsNextPlannedSymbol planned (Some m) (symbol_at c.endpoints p (k + 1))
  next_symbol k m is = next_is (k + 1) (Some m) behind (λ x at. listed.order k (k + 1) m x (omega arith) is at)
    where
      less : (k j : ℕ) → nat_lt k j ≡ true → k + 1 ≤ j
      less k j e = grind (arith, nat_tests)

      strictly : (a b : ℕ) → nat_lt b a ≡ false → (a == b) ≡ false → a < b
      strictly a b h e = grind (arith, nat_tests)

      behind : (j : ℕ) (x : SymbolStart) → symbol_at c.endpoints p j ≡ Some x → comes_before m x ≡ true → k + 1 ≤ j
      behind j x at late = elim (cases_Bool (nat_lt k j)) [
        | inl t ↦ less k j t
        | inr f ↦ elim (cases_Bool (j == k)) [
          | inl same ↦
              let e : x ≡ m = some_same (symbol_at c.endpoints p j) x m at (ap (symbol_at c.endpoints p) (eqb-true j k same) ∙ is) in
              let none : comes_before m x ≡ false = ap (comes_before m) e ∙ not_before_itself m in absurd cc
          | inr other ↦
              let none : comes_before m x ≡ false = not_before_earlier m x m (not_before_itself m) (listed.order j k x m (strictly j k f other) at is) in absurd cc
        ]
      ]

  -- the row of the symbol has what the plan claims
  pub row_claims : (k : ℕ) (m : SymbolStart) (row : List PlannedClaim) → symbol_at c.endpoints p k ≡ Some m
      → ((s : PlannedSymbol) → slice_get p.symbols.items k ≡ Some s → IsRowOf (lines_in p.lines.items s) s.symbol row)
      → (prb : ℕ) → ((get_or row prb no_claim).mask < 2 ^ 12) × ((re : ℕ) → claim_of_planned (get_or row prb no_claim) re ≡ claim_at planned (uplink_cell_in m prb) re)
  row_claims k m row is was_claimed prb =
      let w = kept_symbol k m is in
      let r = was_claimed w.0.s w.0.at in
      let own : lines_in p.lines.items w.0.s ≡ lines_at m.ep m.slot p.lines.items = w.1.lines ∙ ap (λ (x : SymbolStart). lines_at x.ep x.slot p.lines.items) w.2 in
      let symbol : w.0.s.symbol ≡ m.symbol = sym (start_is c.endpoints p.lines.items w.0.s m w.0.is).1 in (
        r.few prb,
        λ re. r.claims prb re ∙ ap (λ (xs : List UplinkLine). claim_in_slot xs w.0.s.symbol prb re) own
            ∙ ap (λ (y : ℕ). claim_in_slot (lines_at m.ep m.slot p.lines.items) y prb re) symbol ∙ listed.claims (uplink_cell_in m prb) re refl,
      )

-- ---- a row for a symbol

of_take : {X : Type 0} (n k : ℕ) (x : X) (xs : List X) → slice_get (take n xs) k ≡ Some x → IsIn x xs
of_take n k x xs at = in_take n x xs (at_in k x (take n xs) at)

in_drop : {X : Type 0} (n : ℕ) (x : X) (xs : List X) → IsIn x (drop n xs) → IsIn x xs
in_drop zero x xs m = m
in_drop (suc n) x [] m = m
in_drop (suc n) x (y ∷ xs) m = inr (in_drop n x xs m)

-- each of a symbol's lines is a line
pub own_line : (es : List EndpointConfig) (p : UplinkPlan) (s : PlannedSymbol) (k : ℕ) (l : UplinkLine) → AreLines es p.lines.items → slice_get (lines_in p.lines.items s) k ≡ Some l → IsLine es l
own_line es p s k l lines at =
    let m = in_drop s.first l p.lines.items (of_take (s.last - s.first) k l (drop s.first p.lines.items) at) in
    let w = get_in l p.lines.items m in lines w.0 l w.1

pub ends_inside : (a b most room : ℕ) → a + b ≤ most → most ≤ CARRIER_PRBS → CARRIER_PRBS ≤ room → a + b ≤ room
ends_inside a b most room h k l = omega arith
