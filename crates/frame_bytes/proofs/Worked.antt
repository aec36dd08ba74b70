-- The definitions at values worked out by hand, each by computing.
use Rattle.std.proofs.Common.{◌≡◌, ℕ, zero, suc, pos, negsuc, true, false, List, [], ◌∷◌, refl}
use Rattle.bfp_codec.specs.Field.{digits}
use Rattle.bfp_codec.specs.declared.samples.Iq.{Iq}
use Rattle.bfp_codec.specs.declared.methods.Method.TheVariants.{Plain}
use Rattle.bfp_codec.specs.Layout.{be_bytes, number_bytes, packed_of}
use Rattle.cplane_sections.specs.declared.values.CBody.TheVariants.{Normal, Offset}
use Rattle.cplane_sections.specs.declared.values.CSection.{CSection}
use Rattle.frame_bytes.specs.Commands.{command_frame}
use Rattle.frame_bytes.specs.Messages.{message_of, message_size, section_of}
use Rattle.frame_bytes.specs.Cuts.{piece_frame}
use Rattle.ecpri_fragments.specs.Pieces.{piece_count}

one_prb : CSection
one_prb = record { id = 1; sym_inc = false; symbol = 0; start_prb = 0; num_prb = 1; mask = 4095; num_symbol = 1; beam = 0; freq_offset = pos 0 }

-- 10 02 00 14 00 00 00 80 and 90 01 00 00 01 01 00 00 00 10 00 01 ff f1 00 00 in base 16
usual_command : command_frame 0 0 (record { down = true; filter = 0; frame_id = 1; subframe = 0; slot = 0; start_symbol = 0; count = 1; body = Normal 0 }) one_prb
    ≡ 16 ∷ 2 ∷ 0 ∷ 20 ∷ 0 ∷ 0 ∷ 0 ∷ 128 ∷ 144 ∷ 1 ∷ 0 ∷ 0 ∷ 1 ∷ 1 ∷ 0 ∷ 0 ∷ 0 ∷ 16 ∷ 0 ∷ 1 ∷ 255 ∷ 241 ∷ 0 ∷ 0 ∷ []
unfolding be_bytes one_prb
usual_command = refl

-- 10 02 00 1c and so on: an offset endpoint with freqOffset -2
offset_command : command_frame 1 7 (record { down = false; filter = 1; frame_id = 255; subframe = 9; slot = 1; start_symbol = 13; count = 1; body = Offset 1 14 2 145 })
    (record { id = 1; sym_inc = false; symbol = 13; start_prb = 0; num_prb = 1; mask = 4095; num_symbol = 1; beam = 32767; freq_offset = negsuc 1 })
    ≡ 16 ∷ 2 ∷ 0 ∷ 28 ∷ 0 ∷ 1 ∷ 7 ∷ 128 ∷ 17 ∷ 255 ∷ 144 ∷ 77 ∷ 1 ∷ 3 ∷ 0 ∷ 1 ∷ 14 ∷ 0 ∷ 2 ∷ 145 ∷ 0 ∷ 16 ∷ 0 ∷ 1 ∷ 255 ∷ 241 ∷ 127 ∷ 255 ∷ 255 ∷ 255 ∷ 254 ∷ 0 ∷ []
unfolding be_bytes
offset_command = refl

sample : ℕ → Iq
sample zero = record { i = pos 0; q = pos 0 }
sample (suc k) = record { i = pos (suc k); q = negsuc k }

-- the samples (k, -k)
rising : List Iq
rising = sample 0 ∷ sample 1 ∷ sample 2 ∷ sample 3 ∷ sample 4 ∷ sample 5 ∷ sample 6 ∷ sample 7 ∷ sample 8 ∷ sample 9 ∷ sample 10 ∷ sample 11 ∷ []

-- 10 00 00 3c 00 00 00 80, then 90 01 00 00 and 00 10 00 01, then 48 bytes of samples
usual_data : piece_frame 0 (record { seq = 0; last = true; sub = 0 }) 0 56
    (message_of (record { format = record { dynamic = false; method = Plain }; prbs = 106 }) (λ place prb. rising) (record { down = true; filter = 0; frame_id = 1; subframe = 0; slot = 0; symbol = 0 })
    (record { id = 1; start_prb = 0; num_prb = 1 } ∷ []))
    ≡ 16 ∷ 0 ∷ 0 ∷ 60 ∷ 0 ∷ 0 ∷ 0 ∷ 128 ∷ 144 ∷ 1 ∷ 0 ∷ 0 ∷ 0 ∷ 16 ∷ 0 ∷ 1
    ∷ 0 ∷ 0 ∷ 0 ∷ 0 ∷ 0 ∷ 1 ∷ 255 ∷ 255 ∷ 0 ∷ 2 ∷ 255 ∷ 254 ∷ 0 ∷ 3 ∷ 255 ∷ 253 ∷ 0 ∷ 4 ∷ 255 ∷ 252 ∷ 0 ∷ 5 ∷ 255 ∷ 251
    ∷ 0 ∷ 6 ∷ 255 ∷ 250 ∷ 0 ∷ 7 ∷ 255 ∷ 249 ∷ 0 ∷ 8 ∷ 255 ∷ 248 ∷ 0 ∷ 9 ∷ 255 ∷ 247 ∷ 0 ∷ 10 ∷ 255 ∷ 246 ∷ 0 ∷ 11 ∷ 255 ∷ 245 ∷ []
unfolding be_bytes number_bytes packed_of digits message_of section_of rising sample
usual_data = refl

-- 273 PRBs that are not compressed: 13,112 bytes, nine pieces of 1,492 bytes at most
largest_size : message_size (record { format = record { dynamic = false; method = Plain }; prbs = 273 }) (record { id = 1; start_prb = 0; num_prb = 0 } ∷ []) ≡ 13112
largest_size = refl

largest_pieces : piece_count 1492 13112 ≡ 9
largest_pieces = refl
