use Rattle.std.proofs.Common.{◌≡◌, ℕ, ◌<◌, ◌≤◌, false}
use Rattle.unit_model.specs.Claims.{first_prb, prb_count, cell_of, is_overlapped}
use Rattle.fh_base.specs.Lists.{some}
use Rattle.slot_rings.specs.Places.{claims_in}
use Rattle.slot_rings.proofs.judging.overlaps.Given as goal

abbrev pub invariant-loop-symbol : goal.invariant-loop-symbol
invariant-loop-symbol l = record {
  all : (y : ℕ) → l.first ≤ y → y < l.symbol → some (first_prb l.a) (prb_count l.a)
      (λ n. is_overlapped l.a.section l.a.mask (claims_in l.a.endpoint.prbs l.claims (cell_of l.a y n))) ≡ false;
}
