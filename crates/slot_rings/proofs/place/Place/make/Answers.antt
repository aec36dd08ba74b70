use Rattle.std.proofs.Common.{◌≡◌, ℕ, ap, arith, List, length, get_or, None}
use Rattle.unit_model.specs.declared.allocations.Allocation.{Allocation}
use Rattle.slot_rings.specs.Blocks.{BlocksValue}
use Rattle.slot_rings.specs.Places.{no_claims}
use Rattle.slot_rings.specs.declared.claims.CellClaims.{CellClaims}
use Rattle.slot_rings.proofs.RowLemmas.{rows_none}
use Rattle.slot_rings.proofs.place.Place.make.Goals as goal

pub invariant_of-result : goal.invariant_of-result
invariant_of-result c =
    let down : (k : ℕ) → get_or c.in_ok-down.down.items k no_claims ≡ no_claims = λ k. ap (λ (l : List CellClaims). get_or l k no_claims) c.in_ok-down.ensures.items in
    let up : (k : ℕ) → get_or c.in_ok-up.up.items k no_claims ≡ no_claims = λ k. ap (λ (l : List CellClaims). get_or l k no_claims) c.in_ok-up.ensures.items in (
      omega (arith, c.in_ok-down.ensures.capacity),
      omega (arith, c.in_ok-up.ensures.capacity),
      omega (arith, ap (λ (b : BlocksValue). b.cells) c.in_ok-blocks.ensures),
      omega (arith, c.in_ok-uplink.ensures.capacity),
      omega (arith, ap (λ (l : List Allocation). length l) c.in_ok-uplink.ensures.items),
      rows_none c.args.prbs c.in_ok-down.down.items down,
      rows_none c.args.prbs c.in_ok-up.up.items up,
      record { each = λ k out. down k },
      record { each = λ k out. up k },
      record { each = λ k out. ap (λ (b : BlocksValue). get_or b.items k None) c.in_ok-blocks.ensures },
    )
