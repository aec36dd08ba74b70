-- What a packed block holds.
use Rattle.std.specs.Prelude.{ℕ, List, take}
use Rattle.bfp_codec.specs.declared.packed_bytes.Packed.{Packed}

abbrev pub bytes_of : Packed → List ℕ
bytes_of packed = take packed.len packed.bytes
