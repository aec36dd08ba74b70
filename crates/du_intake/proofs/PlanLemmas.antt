-- What the uplink lines of a valid plan name.
use Rattle.std.proofs.Common.{◌≡◌, ℕ, zero, suc, ℤ, pos, ◌+◌, ◌-◌, ◌^◌, ◌<◌, ◌≤◌, ◌≤ℤ◌, neg_ℤ, Bool, true, false, not, ◌&&◌, ◌||◌, ◌==◌, List, [], ◌∷◌, filter, map, take, drop, Some, inl, inr, refl, ap, sym, ◌∙◌, subst, arith}
use Rattle.std.specs.List.{slice_get}
use Rattle.std.proofs.lemmas.Bool.{and_from, and_parts, cases_Bool, eqb-true, or_right}
use Rattle.std.proofs.lemmas.Int.{ints}
use Rattle.window_config.specs.Configs.{IsConfig}
use Rattle.window_config.specs.declared.config.Config.{Config}
use Rattle.window_config.specs.declared.plan.PlanKind.{PlanKind}
use Rattle.window_config.specs.declared.plan.PlanKind.TheVariants.{Down, Up, Idle}
use Rattle.fh_base.specs.Air.{air_of}
use Rattle.fh_base.specs.Numbering.{symbols_of}
use Rattle.fh_base.specs.declared.values.Slot.{Slot}
use Rattle.window_config.specs.declared.endpoints.EndpointConfig.{EndpointConfig}
use Rattle.unit_model.specs.Claims.{cell_at, cell_of, covers, first_prb, in_mask, is_from, prb_count}
use Rattle.unit_model.specs.Order.{comes_before}
use Rattle.unit_model.specs.Proper.{IsAt, IsSlot}
use Rattle.unit_model.specs.Starts.{start_at}
use Rattle.unit_model.specs.declared.allocations.Allocation.{Allocation}
use Rattle.unit_model.specs.declared.cells.Cell.{Cell}
use Rattle.unit_model.specs.declared.symbol_start.SymbolStart.{SymbolStart}
use Rattle.unit_laws.proofs.FarLemmas.{endpoints_equal}
use Rattle.plan_model.specs.Lines.{line_allocation, is_down_kind, is_idle_kind, planned, uplink_allocations, is_up_line}
use Rattle.plan_model.specs.Validity.{share_bit, share_cell}
use Rattle.plan_model.specs.declared.lines.PlannedLine.{PlannedLine}
use Rattle.plan_model.proofs.RangeLemmas.{found}
use Rattle.plan_model.proofs.ClashLemmas.{both_cover, covers_own}
use Rattle.plan_model.proofs.ScheduleClashLemmas.{IsClear, own_clash}
use Rattle.plan_model.proofs.LineLemmas.{IsGoodLine, allowed, line_good, line_proper}
use Rattle.du_intake.specs.Cursors.{ArePlanned, IsNamed, IsPlanned}
use Rattle.du_intake.specs.Lines.{claim_in_slot, has_symbol, is_home, line_of, lines_at}
use Rattle.du_intake.specs.Listing.{AreInTurn, ComesFirst, IsSymbolOf}
use Rattle.du_intake.specs.Planned.{IsPlanOf}
use Rattle.du_intake.specs.Symbols.{AreLines, AreOneSection, IsSymbolOfPlan, IsKeptSymbol, IsListed, lines_in, start_by, planned_start_in, planned_start, start_with, symbol_at}
use Rattle.du_intake.specs.declared.lines.UplinkLine.{UplinkLine}
use Rattle.du_intake.specs.declared.plan.UplinkPlan.{UplinkPlan}
use Rattle.du_intake.specs.declared.symbols.PlannedSymbol.{PlannedSymbol}
use Rattle.du_intake.proofs.ClaimLemmas.{claims_planned}
use Rattle.du_intake.proofs.HomeLemmas.{home_from, home_is}
use Rattle.du_intake.proofs.ListLemmas.{pairs_at, some_same}
use Rattle.du_intake.proofs.ListingLemmas.{comes_first}
use Rattle.du_intake.proofs.NextLemmas.{symbol_some}
use Rattle.window_config.specs.declared.plan.TheConstants.{LAST_FRAME}
use Rattle.fh_base.proofs.Orders.{nat_own}
use Rattle.fh_base.specs.Members.{IsIn}
use Rattle.fh_base.proofs.MemberLemmas.{among, in_filter, of_filter, get_in}
use Rattle.fh_base.proofs.MadeLists.{at_in, in_map, of_map}
use Rattle.fh_base.proofs.CommonLemmas.{within_carrier}

not_idle : (k : PlanKind) → not (is_down_kind k) ≡ true → (is_down_kind k ≡ false) × (is_idle_kind k ≡ false)
not_idle Down h = cc
not_idle Up h = (refl, refl)
not_idle Idle h = cc

frame_low : (f : ℤ) → pos 1 ≤ℤ f → neg_ℤ (pos 1000000) ≤ℤ f
frame_low f h = omega (arith, ints)

frame_high : (f : ℤ) → f ≤ℤ pos LAST_FRAME → f ≤ℤ pos 1000000
frame_high f h = omega (arith, ints)

either_bit : (b c : Bool) → (b || not c) ≡ true → c ≡ true → b ≡ true
either_bit true c h e = refl
either_bit false true h e = cc
either_bit false false h e = cc

line_planned : (c : Config) (p : PlannedLine) → IsGoodLine c.endpoints p → is_up_line p ≡ true → IsPlanned c (line_allocation p)
line_planned c p g up =
    let kind = not_idle p.line.kind up in
    let proper = line_proper c.endpoints p g in
    let one = and_parts (share_cell (line_allocation p) (line_allocation p)) _ (own_clash (line_allocation p) proper) in
    let bit = either_bit (share_bit p.line.mask p.line.mask) (p.line.section == p.line.section) one.1 (nat_own p.line.section) in
    let f = found 0 12 (λ re. in_mask p.line.mask re && in_mask p.line.mask re) bit in
    record {
      at = g.at;
      begun = g.fits.frame_low;
      ended = g.fits.frame_high;
      timed = record {
        slot_is = record { low = frame_low p.line.slot.frame g.fits.frame_low; high = frame_high p.line.slot.frame g.fits.frame_high; subframe = g.fits.subframe; slot_is = g.slot };
        within = g.within;
      };
      down = kind.0;
      idle = kind.1;
      twelve = proper.twelve;
      most = g.endpoint.most;
      prbs = proper.prbs;
      inside = within_carrier p.endpoint.prbs p.line.start_prb p.line.num_prb g.prbs;
      re = f.k;
      few = f.high;
      mask = (and_parts (in_mask p.line.mask f.k) _ f.is).0;
    }

pub plan_planned : (c : Config) (lines : List PlannedLine) → IsConfig c → IsPlanOf c lines → ArePlanned c (uplink_allocations lines)
plan_planned c lines config plan k a at =
    let m = of_map line_allocation a (filter is_up_line lines) (at_in k a (uplink_allocations lines) at) in
    let n = of_filter is_up_line m.0 lines m.1 in
    let there : IsIn m.0 (planned c.endpoints plan.plan) = subst (IsIn m.0) plan.is n.0 in
    subst (IsPlanned c) (sym m.2) (line_planned c m.0 (line_good c plan.plan config plan.ranges plan.valid m.0 there) n.1)

pub in_plan : (c : Config) (lines : List PlannedLine) → IsConfig c → IsPlanOf c lines → (a : Allocation) → IsIn a (uplink_allocations lines) → IsPlanned c a
in_plan c lines config plan a m = let w = get_in a (uplink_allocations lines) m in plan_planned c lines config plan w.0 a w.1

-- no two of them name one element, or one cell under two section ids
pub plan_clear : (c : Config) (lines : List PlannedLine) → IsConfig c → IsPlanOf c lines → IsClear (uplink_allocations lines)
plan_clear c lines config plan a b m n h = (allowed c plan.plan config plan.ranges plan.valid).clear a b (of_all a m) (of_all b n) h
  where
    of_all : (a : Allocation) → IsIn a (uplink_allocations lines) → IsIn a (map line_allocation (planned c.endpoints plan.plan))
    of_all a m =
        let w = of_map line_allocation a (filter is_up_line lines) m in
        let n = of_filter is_up_line w.0 lines w.1 in
        subst (λ (x : Allocation). IsIn x (map line_allocation (planned c.endpoints plan.plan))) (sym w.2)
        (in_map line_allocation w.0 (planned c.endpoints plan.plan) (subst (IsIn w.0) plan.is n.0))

-- ---- the kept lines

module _ (c : Config) (lines : List PlannedLine) (config : IsConfig c) (plan : IsPlanOf c lines) (ls : List UplinkLine)
    (homes : (ep : ℕ) (slot : Slot) → lines_at ep slot ls ≡ lines_at ep slot (map line_of (uplink_allocations lines))) where
  -- a kept line is one of the plan's
  pub of_plan : (l : UplinkLine) → IsIn l ls → (a : Allocation) × IsIn a (uplink_allocations lines) × (l ≡ line_of a)
  of_plan l m =
      let own : is_home l.ep l.slot l ≡ true = home_from l.ep l.slot l refl refl in
      of_map line_of l (uplink_allocations lines)
      (of_filter (is_home l.ep l.slot) l (map line_of (uplink_allocations lines)) (subst (IsIn l) (homes l.ep l.slot) (in_filter (is_home l.ep l.slot) l ls m own))).0

  -- and a line of the plan is kept
  pub of_lines : (a : Allocation) → IsIn a (uplink_allocations lines) → IsIn (line_of a) ls
  of_lines a m =
      let l : UplinkLine = line_of a in
      let own : is_home l.ep l.slot l ≡ true = home_from l.ep l.slot l refl refl in
      (of_filter (is_home l.ep l.slot) l ls
      (subst (IsIn l) (sym (homes l.ep l.slot)) (in_filter (is_home l.ep l.slot) l (map line_of (uplink_allocations lines)) (in_map line_of a (uplink_allocations lines) m) own))).0

  pub are_lines : AreLines c.endpoints ls
  are_lines k l at =
      let w = of_plan l (at_in k l ls at) in
      let a = w.0 in
      let p = in_plan c lines config plan a w.1 in
      record {
        endpoint = a.endpoint;
        at = ap (λ (x : UplinkLine). slice_get c.endpoints x.ep) w.2 ∙ p.at;
        slot_is = subst (λ (x : UplinkLine). IsSlot a.endpoint.numerology x.slot) (sym w.2) p.timed.slot_is;
        within = subst (λ (x : UplinkLine). x.symbol + x.num_symbol ≤ symbols_of a.endpoint.numerology) (sym w.2) p.timed.within;
        inside = subst (λ (x : UplinkLine). x.first_prb + x.prbs ≤ a.endpoint.prbs) (sym w.2) p.inside;
        few = p.most;
        mask = subst (λ (x : UplinkLine). x.mask < 2 ^ 12) (sym w.2) p.twelve;
      }

  -- ---- its symbols

  -- the start of a symbol that a line of the plan names
  start_same : (s : PlannedSymbol) (head : UplinkLine) (e : EndpointConfig) (a : Allocation) (symbol : ℕ) → IsAt c.endpoints head.ep e → IsPlanned c a → a.ep ≡ head.ep → a.slot ≡ head.slot
      → s.start.0 ≡ air_of e.numerology head.slot s.symbol → s.symbol ≡ symbol → planned_start s head e ≡ start_at a.ep a.endpoint a.slot symbol
  start_same s head e a symbol at p ep slot starts same =
      let endpoint : a.endpoint ≡ e = endpoints_equal c.endpoints a.ep head.ep a.endpoint e p.at at ep in
      ap (λ (t : ℤ). (let m : SymbolStart = record { ep = head.ep; endpoint = e; start = record { 0 = t }; slot = head.slot; symbol = s.symbol } in m)) starts
      ∙ ap (λ (y : ℕ). start_at head.ep e head.slot y) same
      ∙ sym (ap (λ (i : ℕ). start_at i a.endpoint a.slot symbol) ep ∙ ap (λ (f : EndpointConfig). start_at head.ep f a.slot symbol) endpoint
      ∙ ap (λ (t : Slot). start_at head.ep e t symbol) slot)

  start_found : (s : PlannedSymbol) (w : IsSymbolOf c.endpoints ls s) → planned_start_in c.endpoints ls (Some s) ≡ Some (planned_start s w.head w.endpoint)
  start_found s w = ap (start_by c.endpoints s) w.at ∙ ap (start_with s w.head) w.at_endpoint

  -- the lines of a slot, in the plan
  home_line : (s : PlannedSymbol) (w : IsSymbolOf c.endpoints ls s) (l : UplinkLine) → IsIn l (lines_in ls s)
      → (a : Allocation) × IsIn a (uplink_allocations lines) × (l ≡ line_of a) × (a.ep ≡ w.head.ep) × (a.slot ≡ w.head.slot)
  home_line s w l m =
      let n = of_filter (is_home w.head.ep w.head.slot) l ls (subst (IsIn l) w.lines m) in
      let home = home_is w.head.ep w.head.slot l n.1 in
      let a = of_plan l n.0 in
      (a.0, a.1, a.2, ap (λ (x : UplinkLine). x.ep) (sym a.2) ∙ home.0, ap (λ (x : UplinkLine). x.slot) (sym a.2) ∙ home.1)

  one_section : (s : PlannedSymbol) → IsSymbolOf c.endpoints ls s → AreOneSection (lines_in ls s) s.symbol
  one_section s w i j prb k l at_k at_l has_k has_l here_k here_l =
      let a = home_line s w k (at_in i k (lines_in ls s) at_k) in
      let b = home_line s w l (at_in j l (lines_in ls s) at_l) in
      let symbol_a : is_from a.0.symbol a.0.num_symbol s.symbol ≡ true = ap (has_symbol s.symbol) (sym a.2) ∙ has_k in
      let symbol_b : is_from b.0.symbol b.0.num_symbol s.symbol ≡ true = ap (has_symbol s.symbol) (sym b.2) ∙ has_l in
      let prb_a : is_from (first_prb a.0) (prb_count a.0) prb ≡ true = ap (λ (x : UplinkLine). is_from x.first_prb x.prbs prb) (sym a.2) ∙ here_k in
      let prb_b : is_from (first_prb b.0) (prb_count b.0) prb ≡ true = ap (λ (x : UplinkLine). is_from x.first_prb x.prbs prb) (sym b.2) ∙ here_l in
      let down_a = (in_plan c lines config plan a.0 a.1).down in
      let down_b = (in_plan c lines config plan b.0 b.1).down in
      let same : cell_of b.0 s.symbol prb ≡ cell_of a.0 s.symbol prb =
      ap (λ (x : ℕ). cell_at x b.0.down b.0.slot s.symbol prb) (b.3 ∙ sym a.3) ∙ ap (λ (x : Bool). cell_at a.0.ep x b.0.slot s.symbol prb) (down_b ∙ sym down_a)
      ∙ ap (λ (x : Slot). cell_at a.0.ep a.0.down x s.symbol prb) (b.4 ∙ sym a.4) in
      let shared = both_cover a.0 b.0 (cell_of a.0 s.symbol prb) (covers_own a.0 s.symbol prb symbol_a prb_a)
      (subst (λ (x : Cell). covers b.0 x ≡ true) same (covers_own b.0 s.symbol prb symbol_b prb_b)) in
      ap (λ (x : UplinkLine). x.section) a.2 ∙ sections a.0 b.0 a.1 b.1 shared ∙ ap (λ (x : UplinkLine). x.section) (sym b.2)
    where
      sections : (a b : Allocation) → IsIn a (uplink_allocations lines) → IsIn b (uplink_allocations lines) → share_cell a b ≡ true → a.section ≡ b.section
      sections a b m n shared = elim (cases_Bool (a.section == b.section)) [
        | inl same ↦ eqb-true a.section b.section same
        | inr other ↦
            ap (λ (x : Allocation). x.section)
            (plan_clear c lines config plan a b m n (and_from (share_cell a b) _ shared (or_right (share_bit a.mask b.mask) (not (a.section == b.section)) (ap not other))))
      ]

  kept_symbol : (s : PlannedSymbol) → IsSymbolOf c.endpoints ls s → IsKeptSymbol c.endpoints (uplink_allocations lines) ls s
  kept_symbol s w =
      let l = among (has_symbol s.symbol) (lines_in ls s) w.named in
      let a = home_line s w l.x l.there in
      let p = in_plan c lines config plan a.0 a.1 in
      let n = get_in a.0 (uplink_allocations lines) a.1 in
      record {
        start = planned_start s w.head w.endpoint;
        is = start_found s w;
        named = record {
          k = n.0;
          by = a.0;
          at = n.1;
          names = record { symbol = ap (has_symbol s.symbol) (sym a.2) ∙ l.is; is = start_same s w.head w.endpoint a.0 s.symbol w.at_endpoint p a.3 a.4 w.starts refl };
        };
        order = (let r = w.order in omega (arith, r));
        within = w.within;
        lines = w.lines;
        one = one_section s w;
      }

  in_mid : {X : Type 0} (xs : List X) (a b k : ℕ) (x : X) → a ≤ k → k < b → slice_get xs k ≡ Some x → IsIn x (take (b - a) (drop a xs))
  in_mid [] a b k x low high at = absurd cc
  in_mid (y ∷ xs) (suc a) zero k x low high at = absurd (omega arith)
  in_mid (y ∷ xs) (suc a) (suc b) zero x low high at = absurd (omega arith)
  in_mid (y ∷ xs) (suc a) (suc b) (suc k) x low high at =
      let same : suc b - suc a ≡ b - a = omega arith in
      rw same (in_mid xs a b k x (omega (arith, low)) (omega (arith, high)) at)
  in_mid (y ∷ xs) zero zero k x low high at = absurd (omega arith)
  in_mid (y ∷ xs) zero (suc b) zero x low high at =
      let all : suc b - 0 ≡ suc b = omega arith in
      rw all (inl (let e : y ≡ x = cc in sym e))
  in_mid (y ∷ xs) zero (suc b) (suc k) x low high at =
      let all : suc b - 0 ≡ suc b = omega arith in
      let rest : b - 0 ≡ b = omega arith in
      let there : IsIn x (take (b - 0) xs) = in_mid xs 0 b k x (omega arith) (omega (arith, high)) at in
      rw all (inr (subst (λ (n : ℕ). IsIn x (take n xs)) rest there))

  module _ (p : UplinkPlan) (own : p.lines.items ≡ ls) (turn : AreInTurn c.endpoints ls p.symbols.items) where
    kept : (m : SymbolStart) → IsNamed (uplink_allocations lines) m → IsSymbolOfPlan c.endpoints p m
    kept m named =
        let a = named.by in
        let there = at_in named.k a (uplink_allocations lines) named.at in
        let k = get_in (line_of a) ls (of_lines a there) in
        let s = turn.all k.0 m.symbol (line_of a) k.1 named.names.symbol in
        let w = turn.each s.s s.there in
        let i = get_in s.s p.symbols.items s.there in
        let home = home_is w.head.ep w.head.slot (line_of a)
        (of_filter (is_home w.head.ep w.head.slot) (line_of a) ls (subst (IsIn (line_of a)) w.lines (in_mid ls s.s.first s.s.last k.0 (line_of a) s.low s.high k.1))).1 in
        record {
          k = i.0;
          is =
              ap (λ (xs : List UplinkLine). planned_start_in c.endpoints xs (slice_get p.symbols.items i.0)) own ∙ ap (planned_start_in c.endpoints ls) i.1 ∙ start_found s.s w
              ∙ ap (λ (x : SymbolStart). Some x)
              (start_same s.s w.head w.endpoint a m.symbol w.at_endpoint (in_plan c lines config plan a there) home.0 home.1 w.starts s.symbol_is ∙ sym named.names.is);
        }

    by_first : (s : PlannedSymbol) (w : IsSymbolOf c.endpoints ls s) (k : ℕ) (m : SymbolStart) → slice_get p.symbols.items k ≡ Some s → symbol_at c.endpoints p k ≡ Some m
        → planned_start s w.head w.endpoint ≡ m
    by_first s w k m at is =
        some_same (symbol_at c.endpoints p k) (planned_start s w.head w.endpoint) m
        (ap (λ (xs : List UplinkLine). planned_start_in c.endpoints xs (slice_get p.symbols.items k)) own ∙ ap (planned_start_in c.endpoints ls) at ∙ start_found s w) is

    pub is_listed : IsListed c (uplink_allocations lines) p
    is_listed = record {
      claims = λ cell re down.
          ap (λ (xs : List UplinkLine). claim_in_slot (lines_at cell.ep cell.slot xs) cell.symbol cell.prb re) own
          ∙ ap (λ (xs : List UplinkLine). claim_in_slot xs cell.symbol cell.prb re) (homes cell.ep cell.slot)
          ∙ claims_planned (uplink_allocations lines) cell re (λ a m. (let q = in_plan c lines config plan a m in (q.down, q.idle))) down;
      lines = subst (AreLines c.endpoints) (sym own) are_lines;
      symbols = λ k s at. subst (λ (xs : List UplinkLine). IsKeptSymbol c.endpoints (uplink_allocations lines) xs s) (sym own) (kept_symbol s (turn.each s (at_in k s p.symbols.items at)));
      all = kept;
      order = λ i j m n less is_m is_n.
          (let a = symbol_some c.endpoints p i m is_m in
          let b = symbol_some c.endpoints p j n is_n in
          let x = turn.each a.s (at_in i a.s p.symbols.items a.at) in
          let y = turn.each b.s (at_in j b.s p.symbols.items b.at) in
          let em = by_first a.s x i m a.at is_m in
          let en = by_first b.s y j n b.at is_n in
          sym (ap (λ (q : SymbolStart). comes_before q (planned_start b.s y.head y.endpoint)) em ∙ ap (comes_before m) en)
          ∙ comes_first ls a.s b.s x.head y.head x.endpoint y.endpoint (pairs_at (ComesFirst ls) p.symbols.items turn.order i j a.s b.s less a.at b.at) x.at y.at);
    }
