-- What holds of the reasons in the explanation of every document (this project's profile).
use Rattle.std.specs.Prelude.{◌≡◌, ℕ, ◌<◌, true, [], filter, length, map, Some, slice_get}
use Rattle.std.specs.List.{flat_map}
use Rattle.air_source.specs.Units.{is_down}
use Rattle.air_source.specs.declared.events.Side.{Side}
use Rattle.air_source.specs.declared.events.Side.TheVariants.{Du}
use Rattle.explain_model.specs.Missing.{is_missing, missing_of, why_lines}
use Rattle.explain_model.specs.SilentReasons.{giver_of, kept as records}
use Rattle.explain_model.specs.Seen.{is_heard, is_shown_at, seen}
use Rattle.explain_model.specs.Silent.{silent_in, silent_lines}
use Rattle.explain_model.specs.Told.{all_silent, all_unused, missing_as_told, told_missing, told_silent, told_unused}
use Rattle.explain_model.specs.Unused.{unused_in, unused_lines}
use Rattle.fault_counters.specs.Counts.{times}
use Rattle.fault_counters.specs.declared.kinds.Counter.TheVariants.{Missing}
use Rattle.fh_document.specs.declared.document.Document.{Document}
use Rattle.fronthaul_replay.specs.Replaying.{events_of}
use Rattle.document_traffic.specs.Replayed.{traffic_of}
use Rattle.plan_model.specs.Lines.{is_up_line, line_allocation, planned}
use Rattle.plan_model.specs.declared.lines.PlannedLine.{PlannedLine}
use Rattle.explain_laws.specs.ReasonCounted.{missing_at}
use Rattle.explain_laws.specs.Planned.{PlanIsTold}
use Rattle.explain_laws.specs.Undisturbed.{HasNoWhy}
use Rattle.explain_laws.specs.Blocks.{is_block, lone_by, lone_in}
use Rattle.explain_laws.specs.Decoded.{AreKept}
use Rattle.explain_laws.specs.Giving.{cell_key, id_of_block, id_of_giver}
use Rattle.explain_model.specs.declared.keys.SymbolKey.{SymbolKey}
use Rattle.replay_laws.specs.Events.{all_counted}
use Rattle.unit_model.specs.Heard.{arrivals_heard}
use Rattle.explain_laws.specs.Silent.{SilentAreUnnamed}
use Rattle.unit_model.specs.Blocks.{block_at}
use Rattle.unit_model.specs.Claims.{first_prb, in_mask, is_from, prb_count}
use Rattle.unit_model.specs.Reports.{timely_of}
use Rattle.unit_model.specs.declared.cells.Cell.{Cell}
use Rattle.window_config.specs.declared.endpoints.EndpointConfig.{EndpointConfig}
use Rattle.fh_base.specs.Members.{IsIn}

-- the lines of reasons tell each missing cell, each silent PRB of the plan and each block that no cell shows, in their order
pub record TellsReasons (d : Document) : Type 0 where
  pub missing : flat_map told_missing (why_lines d.config (events_of d)) ≡ map missing_as_told (missing_of d.config (events_of d))
  pub silent : flat_map told_silent (silent_lines d.config d.plan d.plan_lines (events_of d)) ≡ flat_map all_silent (silent_in d.config d.plan d.plan_lines (events_of d))
  pub unused : flat_map told_unused (unused_lines d.config (events_of d)) ≡ flat_map all_unused (unused_in d.config (events_of d))
  -- the missing cells are those that were reported without samples
  pub cells : map (λ x. x.cell) (missing_of d.config (events_of d)) ≡ filter is_missing (seen (events_of d))
  -- as many as each unit's counter of them was counted
  pub counted : (side : Side) → length (missing_at side (missing_of d.config (events_of d))) ≡ times (all_counted side d.config (traffic_of d)) Missing
  -- each `dl` element of the plan is in use in a reported cell, or is told as silent exactly once; no accepted command names a silent one
  pub plan : PlanIsTold d.config d.plan d.plan_lines (events_of d)
  pub unnamed : SilentAreUnnamed d.config d.plan d.plan_lines (events_of d)
  -- each `ul` element is in use in a reported cell
  pub uplink : (p : PlannedLine) (symbol prb re : ℕ) → IsIn p (planned d.config.endpoints d.plan) → is_up_line p ≡ true
      → is_from p.line.symbol p.line.count symbol ≡ true → is_from (first_prb (line_allocation p)) (prb_count (line_allocation p)) prb ≡ true → re < 12 → in_mask p.line.mask re ≡ true
      → is_heard (seen (events_of d)) Du p.endpoint.id p.line.slot symbol prb re ≡ true
  -- where each planned element radiates once and each is taken in once, no line says why
  pub undisturbed : HasNoWhy d (traffic_of d)

-- the records that the reasons look at are of what both units decoded, each with its verdict over all that was before it
pub record AreOfDecoded (d : Document) : Type 0 where
  pub kept : AreKept d.config (events_of d)
  -- a cell has a block exactly where a record gives it one, and of the same section id
  pub givers : (side : Side) (cell : Cell) → cell.down ≡ is_down side
      → id_of_giver (giver_of (records d.config (events_of d)).given (cell_key side cell) cell.prb)
      ≡ id_of_block (block_at (timely_of side d.config (arrivals_heard side [] (events_of d))) cell)
  -- each block that no cell shows is told exactly once, and no other
  pub blocks : (k : SymbolKey) (prb : ℕ) (e : EndpointConfig) → slice_get d.config.endpoints k.ep ≡ Some e → prb < e.prbs
      → filter (is_block k prb) (lone_in d.config (events_of d))
      ≡ lone_by k prb (is_shown_at (seen (events_of d)) k.side e.id k.slot k.symbol prb) (giver_of (records d.config (events_of d)).given k prb)
