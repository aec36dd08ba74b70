-- The bounds of what is added up.
use Rattle.std.proofs.Common.{◌≡◌, ℕ, ◌<◌, ◌≤◌, true, arith}
use Rattle.std.specs.Cmp.{first_so}
use Rattle.std.proofs.lemmas.Bool.{ltb-true}
use Rattle.std.proofs.lemmas.Int.{ints}
use Rattle.air_source.specs.declared.events.AirCell.{AirCell}
use Rattle.report_airs.specs.OpenRuns.{OpenRun}
use Rattle.report_airs.specs.Places.{place_of, same_place}
use Rattle.report_airs.specs.States.{goes_on_with}
use Rattle.report_airs.specs.Totals.{IsWithin}
use Rattle.report_airs.specs.declared.totals.Totals.{Totals}

-- what is within some bound is within a greater one
pub wider : (n m : ℕ) (t : Totals) → n ≤ m → IsWithin n t → IsWithin m t
wider n m t le h = record {
  elements = omega (arith, h.elements);
  missing = omega (arith, h.missing);
  i_low = omega (arith, ints, h.i_low);
  i_high = omega (arith, ints, h.i_high);
  q_low = omega (arith, ints, h.q_low);
  q_high = omega (arith, ints, h.q_high);
}

-- a cell that goes on a run has a greater PRB
pub rises : (r : OpenRun) (c : AirCell) → goes_on_with r c ≡ true → r.prb < c.prb
rises r c h = ltb-true r.prb c.prb (first_so _ (same_place r.place (place_of c)) h)
