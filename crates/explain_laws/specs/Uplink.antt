-- Each element of a plan's `ul` line is in use in a cell that the distributed unit reported (this project's profile).
use Rattle.std.specs.Prelude.{◌≡◌, ℕ, ◌<◌, true}
use Rattle.air_source.specs.declared.events.Side.TheVariants.{Du}
use Rattle.fh_document.specs.Proper.{IsDocument}
use Rattle.fh_document.specs.declared.document.Document.{Document}
use Rattle.unit_model.specs.Claims.{first_prb, in_mask, is_from, prb_count}
use Rattle.plan_model.specs.Lines.{is_up_line, line_allocation, planned, uplink_allocations}
use Rattle.plan_model.specs.Valid.{IsValid}
use Rattle.plan_model.specs.declared.lines.PlannedLine.{PlannedLine}
use Rattle.replay_laws.specs.Events.{events}
use Rattle.replay_laws.specs.Traffic.{Traffic}
use Rattle.explain_model.specs.Seen.{is_heard, seen}
use Rattle.fh_base.specs.Members.{IsIn}

-- of a valid plan, whatever lands
abbrev pub PlannedUplinkIsHeard : Type 0
PlannedUplinkIsHeard =
    (d : Document) (t : Traffic) → IsDocument d → IsValid d.config d.plan → t.planned ≡ uplink_allocations (planned d.config.endpoints d.plan)
    → (p : PlannedLine) (symbol prb re : ℕ) → IsIn p (planned d.config.endpoints d.plan) → is_up_line p ≡ true
    → is_from p.line.symbol p.line.count symbol ≡ true → is_from (first_prb (line_allocation p)) (prb_count (line_allocation p)) prb ≡ true → re < 12 → in_mask p.line.mask re ≡ true
    → is_heard (seen (events d.config t)) Du p.endpoint.id p.line.slot symbol prb re ≡ true
