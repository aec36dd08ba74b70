-- PRBs that are packed one after the other (O-RAN.WG4.CUS, U-plane section: the PRBs are without gaps), and their cells.
use Rattle.std.specs.Prelude.{ℕ, zero, suc, List, [], ◌∷◌, take, drop, get_or}
use Rattle.bfp_codec.specs.declared.methods.Method.{Method}
use Rattle.bfp_codec.specs.declared.samples.Wide.{Wide}
use Rattle.bfp_codec.specs.Layout.{length_of, unpacked_of}
use Rattle.unit_model.specs.declared.cells.Block.{Block}
use Rattle.slot_rings.specs.declared.packed.PackedRun.{PackedRun}

-- the samples of n PRBs that are packed so
abbrev pub unpacked_run : Method → ℕ → List ℕ → List (List Wide)
unpacked_run method zero bytes = []
unpacked_run method (suc n) bytes = unpacked_of method (take (length_of method) bytes) ∷ unpacked_run method n (drop (length_of method) bytes)

-- those of a run
abbrev pub packed_samples : PackedRun → List (List Wide)
packed_samples run = unpacked_run run.method run.count run.bytes.now

-- the block of number k of some PRBs with these samples, of a section with this id
abbrev pub packed_block : ℕ → List (List Wide) → ℕ → Block
packed_block id run k = record { id = id; samples = get_or run k [] }
