use Rattle.std.proofs.Common.{map, List, ◌∙◌, sym, ap, subst}
use Rattle.std.specs.Prelude.{All}
use Rattle.std.proofs.lemmas.List.Elements.{All-push}
use Rattle.slot_rings.specs.Rings.{RingValue}
use Rattle.unit_cells.specs.Cells.{endpoint_in}
use Rattle.unit_cells.proofs.RingsLemmas.{IsFresh, fresh_reported, fresh_keeps, fresh_rings, pushed_rings}
use Rattle.unit_cells.proofs.cells.UnitCells.make.Goals as goal

pub loop-endpoint-preserved : goal.loop-endpoint-preserved
loop-endpoint-preserved c =
    let items = c.in_ok-push.ensures.items in
    let ring = c.in_ok-ring.ring in
    let P = IsFresh c.args.side c.args.config.now.delays in
    let fresh : P ring = record { wide = c.in_ok-ring.ensures.wide; empty = c.in_ok-ring.ensures.empty } in
    record {
      endpoints =
          ap (λ (rs : List RingValue). map endpoint_in rs) items
          ∙ pushed_rings c.loop-endpoint.rings.items ring c.as_slice-endpoints.result.now c.loop-endpoint.endpoint-index c.endpoint-item.result
          c.loop-endpoint.invariant.endpoints c.loop-endpoint-test.true (c.in_ok-ring.ensures.endpoint ∙ c.endpoint-item.is);
      fresh = subst (All P) (sym items) (All-push P c.loop-endpoint.rings.items ring c.loop-endpoint.invariant.fresh fresh);
    }

pub invariant_of-result : goal.invariant_of-result
invariant_of-result c = fresh_rings c.args.side c.args.config.now.delays c.loop-endpoint.rings.items c.requires.delays c.loop-endpoint.invariant.fresh

pub returns-clause-keeps : goal.returns-clause-keeps
returns-clause-keeps c clock = fresh_keeps c.args.side c.args.config.now.delays c.loop-endpoint.rings.items c.loop-endpoint.invariant.fresh c.args.config.now clock

pub returns-clause-unreported : goal.returns-clause-unreported
returns-clause-unreported c = fresh_reported c.args.side c.args.config.now.delays c.loop-endpoint.rings.items c.loop-endpoint.invariant.fresh
