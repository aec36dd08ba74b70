use Rattle.std.proofs.Common.{◌≡◌, length, ap, ◌∙◌, arith}
use Rattle.std.proofs.lemmas.Slice.{take-put_mid}
use Rattle.bfp_codec.specs.Layout.{length_of}
use Rattle.bfp_codec.proofs.Laws.{length_packed}
use Rattle.bfp_codec.proofs.packing.pack_front.Goals as goal

pub returns-clause-bytes : goal.returns-clause-bytes
returns-clause-bytes c =
    let packed = c.pack_into.new.into in
    let len : length packed ≡ length_of c.args.method = ap length c.pack_into.ensures.bytes ∙ length_packed c.args.method c.args.block.now in
    take-put_mid 0 _ c.args.into.now packed (length_of c.args.method) (omega (arith, len)) (omega arith) ∙ c.pack_into.ensures.bytes
