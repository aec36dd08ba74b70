-- The rules of fields of bits, for tactics.
pub use Rattle.bfp_codec.proofs.Field.{fields}
