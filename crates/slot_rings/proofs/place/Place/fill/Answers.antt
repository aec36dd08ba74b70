use Rattle.std.proofs.Common.{◌≡◌, ◌∙◌, ℕ, ap, arith, sym, None}
use Rattle.slot_rings.specs.Places.{PlaceValue, cell_number}
use Rattle.slot_rings.proofs.RunLemmas.{not_last}
use Rattle.slot_rings.proofs.WrittenLemmas.{blank_still}
use Rattle.slot_rings.proofs.place.Place.fill.Goals as goal

pub invariant_of-self : goal.invariant_of-self
invariant_of-self c =
    let i = c.self.inside in
    let v = c.self.invariant in
    let prbs : i.prbs ≡ c.args.self.now.prbs = ap (λ (p : PlaceValue). p.prbs) c.self.view_is in
    let at : c.args.k ≡ cell_number i.prbs c.args.symbol c.args.prb = c.requires.number ∙ ap (λ (n : ℕ). cell_number n c.args.symbol c.args.prb) (sym prbs) in (
      v.0,
      v.1,
      omega (arith, v.2, c.fill.ensures.cells),
      v.3,
      v.4,
      v.5,
      v.6,
      v.7,
      v.8,
      blank_still None i.prbs c.args.symbol c.args.prb 1 i.blocks.items c.fill.new.self.items i.block_spans c.widen.new.spans (omega (arith, c.requires.prb, prbs)) v.9
          c.widen.ensures.own c.widen.ensures.more
          (λ n out. c.fill.ensures.others n (λ e. not_last (cell_number i.prbs c.args.symbol c.args.prb) 0 n out (omega (arith, e, at)))),
    )
