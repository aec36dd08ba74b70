use Rattle.std.proofs.Common.{◌≡◌}
use Rattle.bfp_codec.specs.Field.{field}
use Rattle.bfp_codec.proofs.fields.field_at.Given as goal

abbrev pub invariant-loop-k : goal.invariant-loop-k
invariant-loop-k l = l.number ≡ field l.bytes l.place l.k
