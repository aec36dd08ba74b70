-- Elements of a block that a mask has.
use Rattle.std.proofs.Common.{◌≡◌, ℕ, ◌%◌, ◌<◌, refl, arith}
use Rattle.std.proofs.lemmas.Int.{ints}
use Rattle.bfp_codec.specs.declared.samples.Wide.{Wide}
use Rattle.air_source.proofs.Masks.{is_full}
use Rattle.report_airs.specs.declared.totals.Totals.{Totals}
use Rattle.report_airs.specs.Totals.{no_totals, with_sample, with_element, IsWithin}

pub none_within : IsWithin 0 no_totals
none_within = record { elements = omega arith; missing = omega arith; i_low = omega (arith, ints); i_high = omega (arith, ints); q_low = omega (arith, ints); q_high = omega (arith, ints) }

-- a mask that has all elements has each
pub all_in : (mask : ℕ) (w : Wide) (k : ℕ) (t : Totals) → mask % 4096 ≡ 4095 → k < 12 → with_sample w t ≡ with_element mask w k t
all_in mask w k t full below = rw (is_full mask k full below) refl
