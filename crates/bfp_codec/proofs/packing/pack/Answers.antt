use Rattle.std.proofs.Common.{length, take, sym, ap, subst, ◌∙◌}
use Rattle.bfp_codec.specs.Layout.{unpacked_of, IsLaidOut}
use Rattle.bfp_codec.proofs.Laws.{length_packed, laid_out, unpacked_packed, shrunk_near, packed_again, same_bytes_again}
use Rattle.bfp_codec.proofs.packing.pack.Goals as goal

pub returns-clause-bytes : goal.returns-clause-bytes
returns-clause-bytes c = ap (λ n. take n c.pack_front.new.into) (c.zeros-room.ensures ∙ c.block_len.ensures.value) ∙ c.pack_front.ensures.bytes

pub returns-clause-length : goal.returns-clause-length
returns-clause-length c = ap length (returns-clause-bytes c) ∙ length_packed c.args.method c.args.block.now

pub returns-clause-fields : goal.returns-clause-fields
returns-clause-fields c = subst (IsLaidOut c.args.method c.args.block.now) (sym (returns-clause-bytes c)) (laid_out c.args.method c.args.block.now c.pack_front.ensures.can)

pub returns-clause-unpacked : goal.returns-clause-unpacked
returns-clause-unpacked c = ap (unpacked_of c.args.method) (returns-clause-bytes c) ∙ unpacked_packed c.args.method c.args.block.now c.pack_front.ensures.can

pub returns-clause-near : goal.returns-clause-near
returns-clause-near c = λ k h. shrunk_near c.args.method c.args.block.now k

pub returns-clause-again : goal.returns-clause-again
returns-clause-again c = packed_again c.args.method c.args.block.now c.pack_front.ensures.can

pub returns-clause-kept : goal.returns-clause-kept
returns-clause-kept c = λ keeps. same_bytes_again c.args.method c.args.block.now c.pack_front.ensures.can keeps ∙ sym (returns-clause-bytes c)
