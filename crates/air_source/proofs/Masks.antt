-- A mask that has all elements.
use Rattle.std.proofs.Common.{◌≡◌, ℕ, zero, suc, ◌%◌, ◌<◌, ◌++◌, List, refl, arith}
use Rattle.std.specs.Prelude.{codes}
use Rattle.std.specs.List.{slice_index_or}
use Rattle.bfp_codec.specs.Samples.{no_wide}
use Rattle.bfp_codec.specs.declared.samples.Wide.{Wide}
use Rattle.air_source.specs.CellLines.{in_mask, item_text, sample_text}

pub is_full : (mask k : ℕ) → mask % 4096 ≡ 4095 → k < 12 → in_mask mask k ≡ 1
is_full mask zero full below = omega arith
is_full mask (suc zero) full below = omega arith
is_full mask (suc (suc zero)) full below = omega arith
is_full mask (suc (suc (suc zero))) full below = omega arith
is_full mask (suc (suc (suc (suc zero)))) full below = omega arith
is_full mask (suc (suc (suc (suc (suc zero))))) full below = omega arith
is_full mask (suc (suc (suc (suc (suc (suc zero)))))) full below = omega arith
is_full mask (suc (suc (suc (suc (suc (suc (suc zero))))))) full below = omega arith
is_full mask (suc (suc (suc (suc (suc (suc (suc (suc zero)))))))) full below = omega arith
is_full mask (suc (suc (suc (suc (suc (suc (suc (suc (suc zero))))))))) full below = omega arith
is_full mask (suc (suc (suc (suc (suc (suc (suc (suc (suc (suc zero)))))))))) full below = omega arith
is_full mask (suc (suc (suc (suc (suc (suc (suc (suc (suc (suc (suc zero))))))))))) full below = omega arith
is_full mask (suc (suc (suc (suc (suc (suc (suc (suc (suc (suc (suc (suc k)))))))))))) full below = absurd (omega arith)

-- the word of an element is its sample
pub item_in : (mask : ℕ) (block : List Wide) (k : ℕ) → mask % 4096 ≡ 4095 → k < 12 → codes " " ++ sample_text (slice_index_or block k no_wide) ≡ item_text mask block k
item_in mask block k full below = rw (is_full mask k full below) refl
