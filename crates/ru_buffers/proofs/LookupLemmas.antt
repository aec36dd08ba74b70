-- What the rings answer of uplink messages, and that it is what the definitions say.
use Rattle.std.proofs.Common.{◌≡◌, ℕ, ℤ, pos, ◌+ℤ◌, ◌≤ℤ◌, ◌<ℤ◌, ◌^◌, true, List, refl, sym, ap, ◌∙◌, subst, inl, inr}
use Rattle.std.specs.Prelude.{int_lt}
use Rattle.std.proofs.lemmas.Int.{by_lt_z}
use Rattle.fh_base.specs.Air.{air_of}
use Rattle.fh_base.specs.declared.values.Slot.{Slot}
use Rattle.air_source.specs.declared.events.Side.TheVariants.{Ru}
use Rattle.fault_counters.specs.declared.kinds.Counter.{Counter}
use Rattle.window_config.specs.declared.config.Config.{Config}
use Rattle.window_config.specs.declared.endpoints.EndpointConfig.{EndpointConfig}
use Rattle.unit_model.specs.Meetings.{Arrival}
use Rattle.unit_model.specs.Radiated.{first_clock}
use Rattle.unit_model.specs.Reports.{accepted_of, timely_of}
use Rattle.unit_model.specs.Starts.{start_at}
use Rattle.unit_model.specs.Sweeps.{OfSymbol, sweep}
use Rattle.unit_model.specs.Uplink.{symbol_jobs}
use Rattle.unit_model.specs.declared.allocations.Allocation.{Allocation}
use Rattle.unit_model.specs.declared.jobs.UplinkJob.{UplinkJob}
use Rattle.unit_model.specs.Swept.{IsSwept}
use Rattle.unit_laws.proofs.AheadLemmas.{no_jobs_ahead, no_jobs}
use Rattle.unit_laws.proofs.LookupLemmas.{jobs_of_their_slot}
use Rattle.unit_model.proofs.SweepLemmas.{sweep-same}
use Rattle.unit_laws.proofs.TickLemmas.{starts_at}
use Rattle.unit_cells.specs.Cells.{cells_uplink, ring_of}
use Rattle.unit_cells.proofs.TimeLemmas.{far_no_place, live_at, no_uplink_from}
use Rattle.unit_symbols.specs.Cursors.{jobs_left, left_jobs}
use Rattle.unit_symbols.specs.declared.cursor.JobCursor.{JobCursor}
use Rattle.unit_memory.specs.Memory.{Holds}
use Rattle.unit_memory.specs.declared.memory.UnitMemory.{UnitMemory}
use Rattle.ru_buffers.specs.Units.{left_up_to}
use Rattle.ru_buffers.proofs.SlotLemmas.{swept_slot}
use Rattle.fh_base.proofs.Orders.{under_is as is_less, at_most}

-- what is left of each symbol's messages, by definition
abbrev pub left_of : List Allocation → JobCursor → OfSymbol UplinkJob
left_of acc cursor ep e slot symbol = left_jobs cursor (start_at ep e slot symbol) (symbol_jobs acc ep e slot symbol)

module _ (c : Config) (m : UnitMemory) (since : ℤ) (arrivals : List Arrival) (beside : List Counter) (holds : Holds Ru c since m arrivals beside)
    (begun : first_clock ≤ℤ since) (small : since ≤ℤ pos (2 ^ 53)) where
  abbrev acc : List Allocation
  acc = accepted_of c arrivals

  pub messages_by_lookup : (ep : ℕ) (e : EndpointConfig) (slot : Slot) (symbol : ℕ) (tick : ℤ) → IsSwept c.endpoints ep e slot symbol tick → since ≤ℤ tick
      → symbol_jobs (cells_uplink m.cells ep slot) ep e slot symbol ≡ symbol_jobs acc ep e slot symbol
  messages_by_lookup ep e slot symbol tick swept after =
      let limits = holds.config.delays in
      let in_slot = λ (us : List Allocation). symbol_jobs us ep e slot symbol in
      elim (starts_at c.delays e since tick slot symbol limits after swept.symbol_is swept.starts) [
        | inl live ↦
            ap in_slot (holds.keeps.uplink e ep slot swept.endpoint
            (swept_slot c.delays c.endpoints ep e slot symbol tick since limits swept (at_most first_clock since tick begun after) small live)
            (live_at Ru c since e ep slot swept.endpoint live))
            ∙ sym (jobs_of_their_slot acc ep e slot symbol)
        | inr far ↦
            ap in_slot (no_uplink_from (ring_of m.cells ep) slot (far_no_place Ru c since m.cells acc (timely_of Ru c arrivals) e ep slot holds.keeps swept.endpoint far))
            ∙ no_jobs ep e slot symbol
            ∙ sym (no_jobs_ahead c since arrivals e ep slot symbol limits holds.came swept.endpoint far)
      ]

  pub left_is : (cursor : JobCursor) → cursor.since.0 ≡ since → (ep : ℕ) (e : EndpointConfig) (slot : Slot) (symbol : ℕ) (tick : ℤ)
      → IsSwept c.endpoints ep e slot symbol tick → jobs_left (cells_uplink m.cells) cursor ep e slot symbol ≡ left_of acc cursor ep e slot symbol
  unfolding jobs_left
  left_is cursor same ep e slot symbol tick swept =
      by_lt_z tick since
      (λ before.
      let past : int_lt (air_of e.numerology slot symbol) cursor.since.0 ≡ true =
      is_less _ _ (subst (λ (t : ℤ). t <ℤ cursor.since.0) (sym swept.starts) (subst (λ (t : ℤ). tick <ℤ t) (sym same) before)) in
      rw past refl)
      (λ after. ap (left_jobs cursor (start_at ep e slot symbol)) (messages_by_lookup ep e slot symbol tick swept after))

  pub left_by_definition : (cursor : JobCursor) → cursor.since.0 ≡ since → (to : ℤ)
      → left_up_to m.cells cursor to ≡ sweep (left_of acc cursor) c.endpoints first_clock (to +ℤ pos 1)
  unfolding left_up_to
  left_by_definition cursor same to =
      ap (λ (es : List EndpointConfig). sweep (jobs_left (cells_uplink m.cells) cursor) es first_clock (to +ℤ pos 1)) holds.of.endpoints
      ∙ sweep-same (jobs_left (cells_uplink m.cells) cursor) (left_of acc cursor) c.endpoints first_clock (to +ℤ pos 1)
      (λ ep e slot symbol tick low high swept. left_is cursor same ep e slot symbol tick swept)
