-- The definition at messages worked out by hand, each by computing.
use Rattle.std.proofs.Common.{◌≡◌, ℕ, List, [], ◌∷◌, Some, true, false, refl}
use Rattle.bfp_codec.specs.Field.{field}
use Rattle.fh_base.specs.declared.values.Shape.{Shape}
use Rattle.bfp_codec.specs.declared.methods.Method.TheVariants.{Plain, Bfp}
use Rattle.bfp_codec.specs.declared.methods.Format.{Format}
use Rattle.uplane_sections.specs.declared.values.UWhy.TheVariants.{Truncated, PrbRange, Method as UnknownMethod}
use Rattle.uplane_sections.specs.Messages.{Head, Section, done, fault, after, told}

dynamic : Format
dynamic = record { dynamic = true; method = Plain }

usual : Shape
usual = record { symbols = 14; slots = 2 }

-- 90 01 00 00: downlink, version 1, filter 0, frame 1, subframe, slot and symbol 0
header : List ℕ → List ℕ
header rest = 144 ∷ 1 ∷ 0 ∷ 0 ∷ rest

no_section : told dynamic 106 usual (header []) ≡ after (Head (record { down = true; filter = 0; frame_id = 1; subframe = 0; slot = 0; symbol = 0 }) ∷ []) done
unfolding field header dynamic usual
no_section = refl

-- 00 10 00 01 91 00: section 1, PRB 0, packed by 9 bits; its 28 bytes are missing
cut_section : (told dynamic 106 usual (header (0 ∷ 16 ∷ 0 ∷ 1 ∷ 145 ∷ 0 ∷ []))) ≡ after
    (Head (record { down = true; filter = 0; frame_id = 1; subframe = 0; slot = 0; symbol = 0 })
    ∷ Section (record { id = 1; sym_inc = false; symbol = 0; start_prb = 0; num_prb = 1; method = Bfp 9 }) ∷ [])
    (fault 10 Truncated)
unfolding field header dynamic usual
cut_section = refl

-- method 2
other_method : (told dynamic 106 usual (header (0 ∷ 16 ∷ 0 ∷ 1 ∷ 146 ∷ 0 ∷ []))).refusal ≡ Some (record { place = 4; why = UnknownMethod })
unfolding field header dynamic usual
other_method = refl

-- 255 PRBs of 106, and method 2
too_many : (told dynamic 106 usual (header (0 ∷ 16 ∷ 0 ∷ 255 ∷ 146 ∷ 0 ∷ []))).refusal ≡ Some (record { place = 4; why = PrbRange })
unfolding field header dynamic usual
too_many = refl
