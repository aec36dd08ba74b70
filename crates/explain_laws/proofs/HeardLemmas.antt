-- Each element that an accepted section names is in use in a cell that the radio unit reported.
use Rattle.std.proofs.Common.{◌≡◌, ℕ, ℤ, pos, zero, suc, ◌+◌, ◌<◌, ◌+ℤ◌, ◌-ℤ◌, ◌≤ℤ◌, ◌<ℤ◌, true, false, List, [], ◌∷◌, ◌++◌, refl, sym, ap, ◌∙◌, subst, arith}
use Rattle.std.specs.Prelude.{All, not, Some, None, Option}
use Rattle.std.proofs.lemmas.Bool.{and_parts}
use Rattle.std.proofs.lemmas.Int.{by_lt_z, ints}
use Rattle.std.proofs.lemmas.List.Elements.{All-append, All-head, All-nil, All-tail, All-weaker}
use Rattle.fh_base.specs.Air.{air_of}
use Rattle.fh_base.specs.declared.values.Slot.{Slot}
use Rattle.fh_base.proofs.Kept.{offsets_short}
use Rattle.air_source.specs.declared.events.Side.TheVariants.{Ru}
use Rattle.window_config.specs.Configs.{IsConfig}
use Rattle.window_config.specs.declared.config.Config.{Config}
use Rattle.unit_model.specs.Claims.{cell_at, claim_at, claim_of, covers, in_mask, names}
use Rattle.unit_model.specs.Commands.{accepted, allocation_of, is_idle}
use Rattle.unit_model.specs.Meetings.{Arrival, commands, meetings}
use Rattle.unit_model.specs.Proper.{IsAt, IsProperCommand}
use Rattle.unit_model.specs.Radiated.{first_clock, is_used, wait_of}
use Rattle.unit_model.specs.Reports.{accepted_of, commands_of}
use Rattle.unit_model.specs.Standing.{IsCell}
use Rattle.unit_model.specs.Times.{end_of_time, last_landing}
use Rattle.unit_model.specs.declared.cells.Cell.{Cell}
use Rattle.unit_model.specs.declared.cells.Claim.{Claim}
use Rattle.unit_model.specs.declared.decoded.ControlSection.{ControlSection}
use Rattle.unit_model.proofs.ClaimLemmas.{covers_is}
use Rattle.unit_model.proofs.VerdictLemmas.{accepted_proper}
use Rattle.unit_laws.specs.Past.{IsInOrder}
use Rattle.unit_model.specs.Swept.{IsSwept}
use Rattle.unit_laws.proofs.AcceptanceLemmas.{accepted_is_acceptable}
use Rattle.unit_laws.proofs.AheadLemmas.{no_claims_ahead}
use Rattle.unit_laws.proofs.FrameLemmas.{symbols_are_swept}
use Rattle.unit_laws.proofs.HistoryLemmas.{commands_are_proper}
use Rattle.unit_laws.proofs.LookupLemmas.{covered_cells}
use Rattle.unit_laws.proofs.OrderLemmas.{commands_in_order}
use Rattle.unit_laws.proofs.PastLemmas.{section_before}
use Rattle.unit_laws.proofs.AddedLemmas.{CommandCame, commands_added}
use Rattle.replay_laws.specs.Events.{events}
use Rattle.replay_laws.specs.Moments.{all_arrivals, arrivals_in, landing_at}
use Rattle.replay_laws.specs.Passing.{AreLandings}
use Rattle.replay_laws.specs.Traffic.{Traffic}
use Rattle.replay_laws.proofs.CameLemmas.{arrivals_in_time, landed_then, next_first, none_first}
use Rattle.replay_laws.proofs.EndLemmas.{all_in_time}
use Rattle.explain_model.specs.Seen.{is_heard, seen}
use Rattle.explain_laws.proofs.UsedLemmas.{heard}
use Rattle.explain_laws.specs.Silent.{IsAccepted}
use Rattle.explain_laws.proofs.AcceptedLemmas.{Stands, accepted_stands, stays_claimed}
use Rattle.explain_laws.proofs.ReplayLemmas.{arrivals_are}
use Rattle.explain_laws.proofs.ListLemmas.{in_middle}
use Rattle.fh_base.proofs.OntoLemmas.{All-onto}
use Rattle.unit_laws.proofs.EndLemmas.{far_later}
use Rattle.fh_base.proofs.MadeLists.{in_all as holds_in}
use Rattle.fh_base.proofs.Orders.{frame_low_is}

-- ---- nothing is received before the clock begins

abbrev HasBegun : Arrival → Type 0
HasBegun a = first_clock ≤ℤ a.at

landed_begun : (landings : List Arrival) (n : ℕ) → All HasBegun (landing_at landings (first_clock +ℤ pos n))
landed_begun landings n =
    All-weaker (λ (a : Arrival). a.at ≡ first_clock +ℤ pos n) HasBegun (λ a is. subst (λ (t : ℤ). first_clock ≤ℤ t) (sym is) (frame_low_is first_clock n))
    (landing_at landings (first_clock +ℤ pos n)) (landed_then landings (first_clock +ℤ pos n))

arrivals_begun : (landings : List Arrival) (n : ℕ) → All HasBegun (arrivals_in landings n)
arrivals_begun landings zero = subst (All HasBegun) (sym (none_first landings)) (All-nil HasBegun)
arrivals_begun landings (suc n) =
    subst (All HasBegun) (sym (next_first landings n))
    (All-onto HasBegun (arrivals_in landings n) (landing_at landings (first_clock +ℤ pos n)) (arrivals_begun landings n) (landed_begun landings n))

abbrev CameThen : ControlSection → Type 0
CameThen k = first_clock ≤ℤ k.at.0

no_commands : (c : Config) → commands_of Ru c [] ≡ []
unfolding meetings commands
no_commands c = refl

commands_begun : (c : Config) (arrivals : List Arrival) → All HasBegun arrivals → All CameThen (commands_of Ru c arrivals)
commands_begun c [] h = subst (All CameThen) (sym (no_commands c)) (All-nil CameThen)
commands_begun c (a ∷ arrivals) h =
    let added = commands_added Ru c.endpoints a arrivals in
    let begun = All-head HasBegun a arrivals h in
    subst (All CameThen) (sym added.is)
    (All-append CameThen added.front (commands_of Ru c arrivals)
    (All-weaker (CommandCame a.at) CameThen (λ k is. subst (λ (t : ℤ). first_clock ≤ℤ t) (sym is) begun) added.front added.all)
    (commands_begun c arrivals (All-tail HasBegun a arrivals h)))

-- ---- a claimed symbol starts before the end of time

second_later : (tick : ℤ) → ((end_of_time -ℤ pos 0) +ℤ pos 1) ≤ℤ tick → (last_landing +ℤ pos 1536000000000) ≤ℤ tick
second_later tick h = omega (arith, ints)

after_clock : (at s : ℤ) → first_clock ≤ℤ at → at <ℤ s → (first_clock -ℤ pos 0) ≤ℤ s
after_clock at s h k = omega (arith, ints)

some_none : (o : Option Claim) (k : Claim) → o ≡ Some k → o ≡ None → ⊥
some_none o k p q = cc

-- ---- so it is heard

module _ (c : Config) (t : Traffic) (config : IsConfig c) (landings : AreLandings t.at_ru) (k : ControlSection) (h : IsAccepted c (events c t) k)
    (busy : is_idle k.head.body ≡ false) (ep : ℕ) (slot : Slot) (symbol prb re : ℕ) (small : re < 12)
    (named : names (allocation_of k) (cell_at ep true slot symbol prb) re ≡ true) where
  abbrev arrivals : List Arrival
  arrivals = all_arrivals t.at_ru

  abbrev cell : Cell
  cell = cell_at ep true slot symbol prb

  stands : Stands c.delays (commands_of Ru c arrivals) k
  stands = subst (λ (xs : List Arrival). Stands c.delays (commands_of Ru c xs) k) (arrivals_are Ru c t) (accepted_stands c (events c t) k h)

  of_all : (P : ControlSection → Type 0) → All P (commands_of Ru c arrivals) → P k
  of_all P all = holds_in P k (stands.later ++ k ∷ stands.earlier) (subst (All P) stands.is all) (in_middle stands.later k stands.earlier)

  proper : IsProperCommand c.endpoints k
  proper =
      of_all (IsProperCommand c.endpoints)
      (commands_are_proper Ru c last_landing arrivals (all_in_time t.at_ru landings) (arrivals_in_time t.at_ru (end_of_time +ℤ pos 1) landings).1)

  ordered : IsInOrder k
  ordered = of_all IsInOrder (commands_in_order Ru c.endpoints arrivals)

  came : first_clock ≤ℤ k.at.0
  came = of_all CameThen (commands_begun c arrivals (arrivals_begun t.at_ru _))

  covered : covers (allocation_of k) cell ≡ true
  covered = (and_parts (covers (allocation_of k) cell) (in_mask (allocation_of k).mask re) named).0

  place : IsCell c k.endpoint cell
  place = covered_cells c (allocation_of k) cell (accepted_proper c.endpoints c.delays (accepted c.delays stands.earlier) k proper stands.verdict) covered

  claimed : claim_at (accepted_of c arrivals) cell re ≡ Some (claim_of (allocation_of k))
  claimed = stays_claimed c.delays (commands_of Ru c arrivals) k cell re stands small named

  used : is_used (claim_at (accepted_of c arrivals) cell re) ≡ true
  used = ap is_used claimed ∙ ap not busy

  starts : k.at.0 <ℤ air_of k.endpoint.numerology slot symbol
  starts =
      let is = covers_is (allocation_of k) cell covered in
      subst (λ (s : Slot). k.at.0 <ℤ air_of k.endpoint.numerology s symbol) is.slot
      (section_before c.delays k symbol config.delays ordered (accepted_is_acceptable c.delays (accepted c.delays stands.earlier) k stands.verdict).on_time is.symbol)

  swept : IsSwept c.endpoints ep k.endpoint slot symbol (air_of k.endpoint.numerology slot symbol)
  swept =
      symbols_are_swept c.endpoints ep k.endpoint slot symbol place.endpoint (offsets_short k.endpoint.numerology)
      (record { subframe = place.slot.subframe; slot = place.slot.slot_is }) place.symbol

  ended : air_of k.endpoint.numerology slot symbol <ℤ ((end_of_time -ℤ wait_of Ru c.delays) +ℤ pos 1)
  ended =
      let s = air_of k.endpoint.numerology slot symbol in
      by_lt_z s ((end_of_time -ℤ pos 0) +ℤ pos 1) (λ before. before) (λ after.
      absurd (some_none (claim_at (accepted_of c arrivals) cell re) (claim_of (allocation_of k)) claimed
      (no_claims_ahead c last_landing arrivals k.endpoint cell re config.delays (all_in_time t.at_ru landings) place.endpoint
      (far_later c.delays c.endpoints ep k.endpoint slot symbol last_landing s config.delays (second_later s after) swept))))

  pub accepted_is_heard : is_heard (seen (events c t)) Ru k.endpoint.id slot symbol prb re ≡ true
  accepted_is_heard =
      heard Ru c t ep k.endpoint slot symbol prb place.endpoint (record { subframe = place.slot.subframe; slot = place.slot.slot_is }) place.symbol place.prb
      (after_clock k.at.0 (air_of k.endpoint.numerology slot symbol) came starts) ended re small used

  pub at_place : IsAt c.endpoints ep k.endpoint
  at_place = place.endpoint
