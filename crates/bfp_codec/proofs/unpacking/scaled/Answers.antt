use Rattle.std.proofs.Common.{pos, ◌^◌, ◌*ℤ◌, rules}
use Rattle.std.proofs.lemmas.Int.{to_z-of_z}
use Rattle.std.specs.Int.{w32}
use mir.Val.{SFits}
use Rattle.bfp_codec.proofs.Twos.{one_at, scaled_fits}
use Rattle.bfp_codec.proofs.unpacking.scaled.Goals as goal

pub overflow_mul-result : goal.overflow_mul-result
overflow_mul-result c =
    let f : SFits w32 c.args.x = search rules in
    rw (one_at c.args.e c.requires.small, to_z-of_z w32 c.args.x f) (scaled_fits c.args.x c.args.e c.requires.within c.requires.small)

pub returns : goal.returns
returns c =
    let f : SFits w32 c.args.x = search rules in
    rw (one_at c.args.e c.requires.small, to_z-of_z w32 c.args.x f) (to_z-of_z w32 (c.args.x *ℤ pos (2 ^ c.args.e)) (scaled_fits c.args.x c.args.e c.requires.within c.requires.small))
