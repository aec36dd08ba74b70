-- A unit that stands for a history answers as the definitions do, and stands for it and an arrival once that was treated.
use Rattle.std.proofs.Common.{◌≡◌, ℤ, pos, ◌≤ℤ◌, ◌^◌, true, false, List, sym, ◌∙◌, inl, inr}
use Rattle.std.specs.List.{list_any}
use Rattle.air_source.specs.declared.events.Side.TheVariants.{Ru}
use Rattle.window_config.specs.Rings.{ru_reach_of}
use Rattle.window_config.specs.declared.config.Config.{Config}
use Rattle.window_config.specs.declared.endpoints.EndpointConfig.{EndpointConfig}
use Rattle.unit_model.specs.Radiated.{used_mask}
use Rattle.unit_model.specs.Reports.{accepted_of, ru_known, timely_of}
use Rattle.unit_model.specs.Standing.{History, IsCell, IsHistory, IsLiveAt, StandsBy, cell_heard, still_given}
use Rattle.unit_model.specs.declared.allocations.Allocation.{Allocation}
use Rattle.unit_model.specs.declared.cells.Cell.{Cell}
use Rattle.unit_laws.specs.Far.{IsFar}
use Rattle.unit_laws.proofs.AheadLemmas.{no_claims_ahead}
use Rattle.unit_laws.proofs.TickLemmas.{live_later}
use Rattle.unit_laws.proofs.UnitLemmas.{not_both}
use Rattle.unit_cells.specs.Cells.{cells_reported}
use Rattle.unit_cells.specs.Keeping.{Keeps as RingsKeep}
use Rattle.unit_cells.proofs.TimeLemmas.{far_not_reported, keeps_later, live_at}
use Rattle.unit_cells.proofs.ToldLemmas.{told_whole}
use Rattle.unit_symbols.specs.declared.cursor.JobCursor.{JobCursor}
use Rattle.unit_memory.specs.declared.memory.UnitMemory.{UnitMemory}
use Rattle.ru_buffers.specs.Units.{RadioKeeps, RadioStands, view_of}
use Rattle.ru_buffers.proofs.SymbolLemmas.{all_told}
use Rattle.unit_model.proofs.ClaimLemmas.{none_used as unused}
use Rattle.fh_base.proofs.Orders.{not_true, at_most}
use Rattle.unit_model.proofs.InTimeLemmas.{in_time_later}

-- ---- what a unit answers

module _ (c : Config) (m : UnitMemory) (clock : ℤ) (cursor : JobCursor) (h : History) (k : RadioKeeps c m clock cursor h) where
  abbrev acc : List Allocation
  acc = accepted_of c h.arrivals

  abbrev since : ℤ
  since = cursor.since.0

  pub since_small : since ≤ℤ pos (2 ^ 53)
  since_small = at_most since h.clock (pos (2 ^ 53)) k.since k.time.high

  pub rings_now : RingsKeep Ru c h.clock m.cells acc (timely_of Ru c h.arrivals)
  rings_now = keeps_later Ru c since h.clock m.cells acc (timely_of Ru c h.arrivals) k.since k.holds.keeps

  -- a cell of a slot that was not live yet was not heard
  pub far_not_heard : (e : EndpointConfig) (cell : Cell) → IsCell c e cell → cell.down ≡ true → IsFar e.numerology (ru_reach_of c.delays) since cell.slot
      → list_any (cell_heard e cell) h.reported ≡ false
  far_not_heard e cell is down far =
      not_true (list_any (cell_heard e cell) h.reported) (λ heard.
      not_both (used_mask ((ru_known c h.arrivals).claims cell))
      (unused ((ru_known c h.arrivals).claims cell) 12 (λ re. no_claims_ahead c since h.arrivals e cell re k.holds.config.delays k.holds.came is.endpoint far))
      (k.told e cell is down heard))

  -- what is reported, at any time from then on
  pub reports_at : (later : ℤ) → since ≤ℤ later → (e : EndpointConfig) (cell : Cell) → IsCell c e cell → cell.down ≡ true → IsLiveAt c later cell.ep cell.slot
      → cells_reported m.cells cell ≡ list_any (cell_heard e cell) h.reported
  reports_at later order e cell is down live =
      elim (live_later e.numerology (ru_reach_of c.delays) since later cell.slot order (live e is.endpoint)) [
        | inl now ↦ k.reports e cell is down (live_at Ru c since e cell.ep cell.slot is.endpoint now)
        | inr far ↦
            far_not_reported Ru c since m.cells acc (timely_of Ru c h.arrivals) e cell k.holds.keeps is.endpoint far
            ∙ sym (far_not_heard e cell is down far)
      ]

  history : IsHistory Ru c (ru_known c h.arrivals) h
  history = record { differ = k.differ; owed = k.owed; later = still_given c acc h.given h.clock; given = sym k.given }

  pub answers : StandsBy (IsLiveAt c h.clock) c (view_of m clock cursor) h
  answers = record {
    kept = record {
      clock = k.clock_is;
      came = in_time_later since h.clock h.arrivals k.since k.holds.came;
      counts = k.holds.counts;
      fragments = k.holds.fragments;
      hold = k.holds.hold;
      blocks = λ e cell is down live. rings_now.blocks e cell is down live ∙ told_whole (timely_of Ru c h.arrivals) cell (all_told c m clock cursor h k);
      past = k.past;
      told = k.told;
      history = history;
    };
    claims = rings_now.claims;
    uplink = rings_now.uplink;
    reported = reports_at h.clock k.since;
    jobs = k.left;
  }

  pub stands : RadioStands c m clock cursor h
  stands = record { answers = answers; kept = k }
