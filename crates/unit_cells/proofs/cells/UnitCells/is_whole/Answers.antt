use Rattle.std.proofs.Common.{◌≡◌, ℕ, true, [], ◌∙◌, ap, sym}
use Rattle.std.specs.Prelude.{is_some}
use Rattle.fh_base.specs.declared.values.Slot.{Slot}
use Rattle.unit_model.specs.Blocks.{data_prb_count, data_slot, first_data_prb}
use Rattle.unit_model.specs.Claims.{cell_at}
use Rattle.fh_base.specs.Lists.{every}
use Rattle.slot_rings.specs.Rings.{RingValue, ring_block}
use Rattle.unit_model.specs.Headings.{data_under}
use Rattle.unit_cells.proofs.CallLemmas.{ring_read}
use Rattle.unit_cells.proofs.cells.UnitCells.is_whole.Goals as goal
use Rattle.fh_base.proofs.Options.{some_is as some_equal}

pub returns : goal.returns
returns c r is =
    let h = c.args.heading.now in
    let read = c.index.result.now in
    let there = ring_read c.self.inside.side c.self.inside.delays c.self.inside.rings.items c.args.self.now h.ep h.endpoint read c.self.view_is c.requires.endpoint c.index.ensures in
    let same : read ≡ r = some_equal read r (sym there ∙ is) in
    c.has_all.ensures h.ep
    ∙ ap (λ (n : ℕ). every n c.prbs-prbs.result.count (λ prb. is_some (ring_block read (cell_at h.ep true c.data_slot-slot.result h.section.symbol prb)))) c.prbs-prbs.ensures.first
    ∙ ap (λ (n : ℕ). every (first_data_prb (data_under h [])) n (λ prb. is_some (ring_block read (cell_at h.ep true c.data_slot-slot.result h.section.symbol prb)))) c.prbs-prbs.ensures.count
    ∙ ap (λ (s : Slot). every (first_data_prb (data_under h [])) (data_prb_count (data_under h [])) (λ prb. is_some (ring_block read (cell_at h.ep true s h.section.symbol prb)))) c.data_slot-slot.ensures.value
    ∙ ap (λ (x : RingValue). every (first_data_prb (data_under h [])) (data_prb_count (data_under h [])) (λ prb. is_some (ring_block x (cell_at h.ep true (data_slot (data_under h [])) h.section.symbol prb)))) same
