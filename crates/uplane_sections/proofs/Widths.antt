-- The widths of methods by the lengths of their blocks.
use Rattle.std.proofs.Common.{◌≤◌, arith}
use Rattle.bfp_codec.specs.declared.methods.Method.{Method}
use Rattle.bfp_codec.specs.declared.methods.Method.TheVariants.{Plain, Bfp}
use Rattle.bfp_codec.specs.Layout.{HasWidth, length_of}

pub has_width : (m : Method) → 4 ≤ length_of m → length_of m ≤ 49 → HasWidth m
has_width Plain low high = tt
has_width (Bfp w) low high = (omega arith, omega arith)

pub least_length : (m : Method) → HasWidth m → 4 ≤ length_of m
least_length Plain h = omega arith
least_length (Bfp w) h = omega (arith, h.0)

pub most_length : (m : Method) → HasWidth m → length_of m ≤ 49
most_length Plain h = omega arith
most_length (Bfp w) h = omega (arith, h.1)
