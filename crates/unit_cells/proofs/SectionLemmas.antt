-- The PRBs of a section.
use Rattle.std.proofs.Common.{◌≡◌, ℕ, ◌+◌, ◌<◌, ◌≤◌, false, refl, arith}
use Rattle.std.proofs.lemmas.Bool.Decides.{nat_tests}
use Rattle.fh_base.specs.Carrier.{count_of, first_of, is_outside}
use Rattle.unit_cells.proofs.FillLemmas.{from_is}
use Rattle.unit_model.proofs.ClaimLemmas.{within_carrier}

pub prb_within : (prbs start num k : ℕ) → is_outside prbs start num ≡ false → k < count_of prbs num → first_of start num + k < prbs
prb_within prbs start num k inside below =
    within_carrier prbs start num (first_of start num + k) inside (from_is (first_of start num) (count_of prbs num) k (first_of start num + k) refl below)

pub prbs_within : (prbs start num k n : ℕ) → is_outside prbs start num ≡ false → k + n ≤ count_of prbs num → first_of start num + k + n ≤ prbs
prbs_within prbs start num k n inside below = grind (arith, nat_tests)
