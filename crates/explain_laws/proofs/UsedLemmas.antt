-- An element in use is in the mask of a cell that its unit reports.
use Rattle.std.proofs.Common.{◌≡◌, ℕ, zero, suc, pos, ◌+◌, ◌*◌, ◌<◌, ◌+ℤ◌, ◌-ℤ◌, ◌≤ℤ◌, ◌<ℤ◌, Bool, true, false, List, [], ◌∷◌, refl, sym, ap, ◌∙◌, subst, inl, inr, arith}
use Rattle.std.specs.Prelude.{if◌then◌else◌, ◌&&◌, ◌==◌, Option, Some, not}
use Rattle.std.proofs.lemmas.Bool.{and_from, cases_Bool, eq-eqb, eqb-true}
use Rattle.fh_base.specs.Air.{air_of}
use Rattle.fh_base.specs.Numbering.{IsSlotOf, symbols_of}
use Rattle.fh_base.specs.declared.values.Slot.{Slot}
use Rattle.air_source.specs.Units.{is_down, same_side}
use Rattle.air_source.specs.declared.events.AirCell.{AirCell}
use Rattle.air_source.specs.declared.events.Side.{Side}
use Rattle.window_config.specs.declared.config.Config.{Config}
use Rattle.window_config.specs.declared.endpoints.EndpointConfig.{EndpointConfig}
use Rattle.unit_model.specs.Claims.{cell_at, claim_at, claim_of, in_mask, names, same_slot}
use Rattle.unit_model.specs.Proper.{IsAt}
use Rattle.unit_model.specs.Radiated.{Known, air_cell, cell_report, first_clock, is_used, reported, symbol_report, used_below, used_mask, wait_of}
use Rattle.unit_model.specs.declared.allocations.Allocation.{Allocation}
use Rattle.unit_model.specs.declared.cells.Cell.{Cell}
use Rattle.unit_model.specs.declared.cells.Claim.{Claim}
use Rattle.unit_model.proofs.ClaimLemmas.{slot_self}
use Rattle.unit_model.proofs.ReachLaws.{symbol_piece}
use Rattle.schedule_laws.specs.Cells.{mask_below}
use Rattle.plan_model.proofs.SweptLists.{in_piece, numerology_short}
use Rattle.schedule_laws.proofs.SingleLemmas.{mask_some}
use Rattle.replay_laws.specs.Events.{events}
use Rattle.replay_laws.specs.Moments.{all_arrivals, end_of_time}
use Rattle.replay_laws.specs.Traffic.{Traffic, known_at, landings_at, reported_at}
use Rattle.replay_laws.proofs.OnceLemmas.{cells_are_reported}
use Rattle.explain_model.specs.Seen.{is_at, is_heard, seen, seen_of}
use Rattle.explain_laws.proofs.MaskLemmas.{mask_is}
use Rattle.explain_laws.proofs.SeenLemmas.{heard_is_seen}
use Rattle.fh_base.specs.Members.{IsIn}
use Rattle.fh_base.proofs.MadeLists.{in_each}
use Rattle.air_source.proofs.Sides.{side_self}

-- ---- the mask of a cell

module _ (claims : ℕ → Option Claim) where
  abbrev used : ℕ → Bool
  used re = is_used (claims re)

  used_is : (n : ℕ) → used_below claims n ≡ mask_below used n
  unfolding used_below mask_below
  used_is zero = refl
  used_is (suc n) = ap (λ (m : ℕ). 2 * m + (let k : ℕ = if used n then 1 else 0 in k)) (used_is n)

  pub used_in_mask : (re : ℕ) → re < 12 → is_used (claims re) ≡ true → in_mask (used_mask claims) re ≡ true
  used_in_mask re small is = ap (λ (m : ℕ). in_mask m re) (used_is 12) ∙ mask_is used re small ∙ is

  pub some_used : (re : ℕ) → re < 12 → is_used (claims re) ≡ true → (used_mask claims == 0) ≡ false
  some_used re small is = elim (cases_Bool (used_mask claims == 0)) [
    | inl none ↦ absurd (mask_some used 12 re small is (sym (used_is 12) ∙ eqb-true (used_mask claims) 0 none))
    | inr not_none ↦ not_none
  ]

-- ---- it is reported, and so it is seen

module _ (side : Side) (c : Config) (t : Traffic) (ep : ℕ) (e : EndpointConfig) (slot : Slot) (symbol prb : ℕ)
    (at : IsAt c.endpoints ep e) (slot_is : IsSlotOf e.numerology slot) (symbol_is : symbol < symbols_of e.numerology) (prb_is : prb < e.prbs)
    (low : (first_clock -ℤ wait_of side c.delays) ≤ℤ air_of e.numerology slot symbol) (high : air_of e.numerology slot symbol <ℤ ((end_of_time -ℤ wait_of side c.delays) +ℤ pos 1)) where
  abbrev k : Known
  k = known_at side c t.planned (all_arrivals (landings_at side t))

  abbrev cell : Cell
  cell = cell_at ep (is_down side) slot symbol prb

  abbrev it : AirCell
  it = air_cell side e cell (air_of e.numerology slot symbol) (k.claims cell) (k.blocks cell)

  own_place : is_at side e.id slot symbol prb (seen_of it) ≡ true
  own_place =
      and_from (same_side side side) _ (side_self side)
      (and_from (e.id == e.id) _ (eq-eqb e.id e.id refl)
      (and_from (same_slot slot slot) _ (slot_self slot) (and_from (symbol == symbol) (prb == prb) (eq-eqb symbol symbol refl) (eq-eqb prb prb refl))))

  module _ (re : ℕ) (small : re < 12) (used_here : is_used (k.claims cell re) ≡ true) where
    told : cell_report side k ep e slot symbol prb ≡ it ∷ []
    told = ap (λ (b : Bool). let xs : List AirCell = if b then [] else it ∷ [] in xs) (some_used (k.claims cell) re small used_here)

    in_symbol : IsIn it (symbol_report side k ep e slot symbol)
    unfolding symbol_report
    in_symbol =
        in_each it 0 e.prbs prb (cell_report side k ep e slot symbol) (omega arith) (omega (arith, prb_is)) (subst (λ (xs : List AirCell). IsIn it xs) (sym told) (inl refl))

    in_reported : IsIn it (reported_at side c t.planned (all_arrivals (landings_at side t)) end_of_time)
    unfolding reported
    in_reported =
        in_piece it (symbol_report side k ep e slot symbol) _
        (symbol_piece (symbol_report side k) c.endpoints ep e slot symbol (first_clock -ℤ wait_of side c.delays) ((end_of_time -ℤ wait_of side c.delays) +ℤ pos 1) at
        (numerology_short e.numerology) slot_is symbol_is low high)
        in_symbol

    pub heard : is_heard (seen (events c t)) side e.id slot symbol prb re ≡ true
    unfolding is_heard
    heard =
        heard_is_seen (λ s. is_at side e.id slot symbol prb s && in_mask s.mask re) it
        (and_from (is_at side e.id slot symbol prb (seen_of it)) (in_mask it.mask re) own_place (used_in_mask (k.claims cell) re small used_here)) side (events c t)
        (subst (λ (xs : List AirCell). IsIn it xs) (sym (cells_are_reported side c t)) in_reported)

-- ---- of allocations that are not idle, one that names an element has it in use

named_step : (b : Allocation) (xs : List Allocation) (there : Cell) (re : ℕ) (x : Bool) → b.idle ≡ false → (x ≡ false → is_used (claim_at xs there re) ≡ true)
    → is_used (if x then Some (claim_of b) else claim_at xs there re) ≡ true
named_step b xs there re true busy more = ap not busy
named_step b xs there re false busy more = more refl

pub named_is_used : (xs : List Allocation) (there : Cell) (re : ℕ) → ((a : Allocation) → IsIn a xs → a.idle ≡ false) → (a : Allocation) → IsIn a xs → names a there re ≡ true
    → is_used (claim_at xs there re) ≡ true
unfolding claim_at
named_is_used [] there re busy a m is = absurd m
named_is_used (b ∷ xs) there re busy a (inl here) is =
    named_step b xs there re (names b there re) (busy b (inl refl)) (λ other. let h : names b there re ≡ true = subst (λ (x : Allocation). names x there re ≡ true) here is in cc)
named_is_used (b ∷ xs) there re busy a (inr later) is =
    named_step b xs there re (names b there re) (busy b (inl refl)) (λ other. named_is_used xs there re (λ x n. busy x (inr n)) a later is)
