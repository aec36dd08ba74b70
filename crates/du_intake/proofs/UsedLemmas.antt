-- The cells that are in use by a plan are those of the symbols that it names.
use Rattle.std.proofs.Common.{◌≡◌, ℕ, zero, suc, ◌+◌, ◌*◌, ◌<◌, Bool, true, false, not, ◌==◌, if◌then◌else◌, List, [], ◌∷◌, Option, Some, None, ◌⊎◌, inl, inr, refl, ap, sym, ◌∙◌, subst, arith}
use Rattle.std.specs.Prelude.{nat_lt}
use Rattle.std.specs.List.{slice_get}
use Rattle.std.proofs.lemmas.Bool.{cases_Bool, and_from, eq-eqb}
use Rattle.unit_model.specs.Claims.{same_slot, cell_at, claim_at, claim_of, covers, first_prb, in_mask, is_from, names, prb_count}
use Rattle.std.proofs.lemmas.Bool.Decides.{nat_tests}
use Rattle.fh_base.specs.declared.values.Slot.{Slot}
use Rattle.window_config.specs.declared.config.Config.{Config}
use Rattle.window_config.specs.declared.endpoints.EndpointConfig.{EndpointConfig}
use Rattle.unit_model.specs.Proper.{IsAt}
use Rattle.unit_model.specs.Radiated.{is_used, used_below, used_mask}
use Rattle.unit_model.specs.Starts.{start_at}
use Rattle.unit_model.specs.declared.allocations.Allocation.{Allocation}
use Rattle.unit_model.specs.declared.cells.Cell.{Cell}
use Rattle.unit_model.specs.declared.cells.Claim.{Claim}
use Rattle.unit_model.specs.declared.symbol_start.SymbolStart.{SymbolStart}
use Rattle.unit_laws.proofs.FarLemmas.{endpoints_equal}
use Rattle.unit_laws.proofs.UnitLemmas.{not_both}
use Rattle.plan_model.proofs.TimeLemmas.{first_less}
use Rattle.du_intake.specs.Cursors.{ArePlanned, HasStillLeft, IsNamed, uplink_cell_in}
use Rattle.unit_model.proofs.ClaimLemmas.{none_used as unused, slot_self as slot_own, covers_is}

-- ---- what covers a cell

pub record IsCovered (planned : List Allocation) (cell : Cell) : Type 0 where
  pub k : ℕ
  pub by : Allocation
  pub at : slice_get planned k ≡ Some by
  pub covers_it : covers by cell ≡ true

none_named : (a : Allocation) (earlier : List Allocation) (cell : Cell) (re : ℕ) → covers a cell ≡ false → claim_at earlier cell re ≡ None → claim_at (a ∷ earlier) cell re ≡ None
unfolding claim_at
none_named a earlier cell re h e = rw h e

pub covered : (planned : List Allocation) (cell : Cell) → IsCovered planned cell ⊎ ((re : ℕ) → claim_at planned cell re ≡ None)
unfolding claim_at
covered [] cell = inr (λ re. refl)
covered (a ∷ earlier) cell = elim (cases_Bool (covers a cell)) [
  | inl own ↦ inl (record { k = 0; by = a; at = refl; covers_it = own })
  | inr other ↦ elim (covered earlier cell) [
    | inl c ↦ inl (record { k = suc c.k; by = c.by; at = c.at; covers_it = c.covers_it })
    | inr none ↦ inr (λ re. none_named a earlier cell re other (none re))
  ]
]

pub used_covered : (planned : List Allocation) (cell : Cell) → 0 < used_mask (claim_at planned cell) → IsCovered planned cell
used_covered planned cell used = elim (covered planned cell) [
  | inl c ↦ c
  | inr none ↦ absurd (not_both (used_mask (claim_at planned cell)) (unused (claim_at planned cell) 12 none) used)
]

-- the symbol of a cell in use is named
pub used_named : (c : Config) (planned : List Allocation) (e : EndpointConfig) (cell : Cell) → ArePlanned c planned → IsAt c.endpoints cell.ep e
    → 0 < used_mask (claim_at planned cell) → IsNamed planned (start_at cell.ep e cell.slot cell.symbol)
used_named c planned e cell plan at used =
    let is = used_covered planned cell used in
    let cover = covers_is is.by cell is.covers_it in
    let p = plan is.k is.by is.at in
    let same : is.by.endpoint ≡ e = endpoints_equal c.endpoints is.by.ep cell.ep is.by.endpoint e p.at at cover.ep in
    record {
      k = is.k;
      by = is.by;
      at = is.at;
      names = record {
        symbol = cover.symbol;
        is =
            sym (ap (λ (i : ℕ). start_at i is.by.endpoint is.by.slot cell.symbol) cover.ep ∙ ap (λ (x : EndpointConfig). start_at cell.ep x is.by.slot cell.symbol) same
            ∙ ap (λ (t : Slot). start_at cell.ep e t cell.symbol) cover.slot);
      };
    }

-- ---- what is named is in use

some_still : (b : Bool) (a : Allocation) (o : Option Claim) → a.idle ≡ false → is_used o ≡ true → is_used (let q : Option Claim = if b then Some (claim_of a) else o in q) ≡ true
some_still true a o idle h = ap not idle
some_still false a o idle h = h

pub claim_used : (planned : List Allocation) (k : ℕ) (a : Allocation) (cell : Cell) (re : ℕ) → ((i : ℕ) (x : Allocation) → slice_get planned i ≡ Some x → x.idle ≡ false)
    → slice_get planned k ≡ Some a → names a cell re ≡ true → is_used (claim_at planned cell re) ≡ true
unfolding claim_at
claim_used [] k a cell re idle at own = cc
claim_used (x ∷ planned) zero a cell re idle at own =
    let same : x ≡ a = cc in
    let is : names x cell re ≡ true = ap (λ (y : Allocation). names y cell re) same ∙ own in
    rw is (ap not (idle 0 x refl))
claim_used (x ∷ planned) (suc k) a cell re idle at own =
    some_still (names x cell re) x (claim_at planned cell re) (idle 0 x refl) (claim_used planned k a cell re (λ i y there. idle (suc i) y there) at own)

bit_counts : (low : ℕ) (b : Bool) → b ≡ true → 0 < 2 * low + (let n : ℕ = if b then 1 else 0 in n)
bit_counts low true e = omega arith
bit_counts low false e = cc

higher_counts : (low n : ℕ) → 0 < low → 0 < 2 * low + n
higher_counts low n h = omega arith

used_positive : (claims : ℕ → Option Claim) (n re : ℕ) → re < n → is_used (claims re) ≡ true → 0 < used_below claims n
unfolding used_below
used_positive claims zero re below h = absurd (omega arith)
used_positive claims (suc n) re below h = elim (cases_Bool (nat_lt re n)) [
  | inl e ↦ higher_counts (used_below claims n) _ (used_positive claims n re (grind (arith, nat_tests)) h)
  | inr e ↦ bit_counts (used_below claims n) (is_used (claims n)) (ap (λ (i : ℕ). is_used (claims i)) (last re n below e) ∙ h)
]
  where
    last : (i j : ℕ) → i < suc j → nat_lt i j ≡ false → j ≡ i
    last i j h e = grind (arith, nat_tests)

own_from : (first count : ℕ) → 0 < count → is_from first count first ≡ true
own_from first count h = grind (arith, nat_tests)

-- a cell is planned of each symbol that is named
pub named_left : (c : Config) (planned : List Allocation) (m : SymbolStart) → ArePlanned c planned → IsNamed planned m → HasStillLeft planned 0 m
named_left c planned m plan is =
    let a = is.by in
    let p = plan is.k a is.at in
    let own : SymbolStart = start_at a.ep a.endpoint a.slot m.symbol in
    subst (HasStillLeft planned 0) (sym is.names.is) (record {
      prb = first_prb a;
      low = omega arith;
      below = first_less (first_prb a) (prb_count a) a.endpoint.prbs p.prbs p.inside;
      used = used_positive (claim_at planned (uplink_cell_in own (first_prb a))) 12 p.re p.few
          (claim_used planned is.k a (uplink_cell_in own (first_prb a)) p.re (λ i x there. (plan i x there).idle) is.at
          (and_from (covers a (uplink_cell_in own (first_prb a))) (in_mask a.mask p.re) (covers_own a m.symbol p.down is.names.symbol (own_from (first_prb a) (prb_count a) p.prbs)) p.mask));
    })
  where
    same_down : (a b : Bool) → a ≡ false → b ≡ false → (let w : Bool = if a then b else not b in w) ≡ true
    same_down a b h k = rw (h, k) refl

    covers_own : (a : Allocation) (symbol : ℕ) → a.down ≡ false → is_from a.symbol a.num_symbol symbol ≡ true → is_from (first_prb a) (prb_count a) (first_prb a) ≡ true
        → covers a (cell_at a.ep false a.slot symbol (first_prb a)) ≡ true
    covers_own a symbol down h k =
        and_from (a.ep == a.ep) _ (eq-eqb a.ep a.ep refl)
        (and_from _ _ (same_down a.down false down refl)
        (and_from (same_slot a.slot a.slot) _ (slot_own a.slot) (and_from (is_from a.symbol a.num_symbol symbol) _ h k)))
