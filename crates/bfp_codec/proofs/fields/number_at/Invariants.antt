use Rattle.std.proofs.Common.{◌≡◌, ◌*◌}
use Rattle.bfp_codec.specs.Field.{field}
use Rattle.bfp_codec.proofs.fields.number_at.Given as goal

abbrev pub invariant-loop-k : goal.invariant-loop-k
invariant-loop-k l = l.number ≡ field l.bytes (8 * l.at) (8 * l.k)
