use Rattle.std.proofs.Common.{◌≡◌, ◌+◌, ◌*◌, ◌<◌, ◌++◌, length, refl, sym, ap, ◌∙◌, arith, append_assoc, length-append}
use Rattle.bfp_codec.specs.Layout.{packed_of}
use Rattle.frame_bytes.specs.Messages.{packed_prbs}
use Rattle.frame_bytes.proofs.PackedPrbs.{packed_last, length_prbs, prbs_begin, prbs_end}
use Rattle.frame_bytes.proofs.pieces.write_prbs.Goals as goal

pub loop-k-init : goal.loop-k-init
loop-k-init g c = (
  refl,
  omega arith,
  λ block said before at stood.
      let size = c.block_len-size.ensures.value in
      let none = c.touched-begin.ensures.before in
      prbs_begin c.args.span c.args.carrier.now.format.method block c.prbs_of-first.result.0 c.touched-begin.result.0 c.args.place before c.args.into.now at
      (λ some. rw size at (none some)) stood,
)

pub loop-k-preserved : goal.loop-k-preserved
loop-k-preserved g c =
    let inv = c.loop-k.invariant in (
      c.write_block.ensures.len ∙ inv.0,
      omega (arith, inv.1),
      λ block said before at stood.
          let method = c.args.carrier.now.format.method in
          let first = c.prbs_of-first.result.0 in
          let k = c.loop-k.k in
          let size = c.block_len-size.ensures.value in
          let here = packed_prbs method block first k in
          let place : length (before ++ here) ≡ c.args.place + k * c.block_len-size.result =
          length-append before here ∙ ap (λ n. length before + n) (length_prbs method block first k ∙ ap (λ n. k * n) (sym size)) ∙ ap (λ n. n + k * c.block_len-size.result) at in
          let written = c.write_block.ensures.stands (before ++ here) place (inv.2 block said before at stood) in
          let inside : k < c.prbs_of-first.result.1 = omega (arith, c.loop-k-test.true, c.loop-k.auto.k-end, c.touched-begin.ensures.within) in
          let answer : c.source-block.result ≡ block (first + k) = said (first + k) c.source-block.result (omega (arith, inside, c.prbs_of-first.ensures.within)) c.source-block.ensures in
          let all : (before ++ here) ++ packed_of method c.source-block.result ≡ before ++ packed_prbs method block first (k + 1) =
          ap (λ xs. (before ++ here) ++ packed_of method xs) answer ∙ append_assoc before here (packed_of method (block (first + k))) ∙ ap (λ xs. before ++ xs) (sym (packed_last method block first k)) in
          rw all at written,
    )

pub returns-clause-stands : goal.returns-clause-stands
returns-clause-stands g c block said before at stood =
    let inv = c.loop-k.invariant in
    let method = c.args.carrier.now.format.method in
    let size = c.block_len-size.ensures.value in
    let behind = c.touched-begin.ensures.behind in
    let stopped : c.loop-k.k ≡ c.touched-begin.result.1 = omega (arith, c.loop-k-test.false, c.loop-k.auto.k-end, c.loop-k.auto.k, c.touched-begin.ensures.order) in
    let stands = inv.2 block said before at stood in
    let here = rw stopped at stands in
    let whole = prbs_end c.args.span method block c.prbs_of-first.result.0 c.touched-begin.result.1 c.prbs_of-first.result.1 c.args.place before c.loop-k.into c.requires.order at c.touched-begin.ensures.within
    (λ lt. rw size at (behind lt)) here in
    let first = c.prbs_of-first.ensures.first in
    let count = c.prbs_of-first.ensures.count in
    rw (first, count) at whole
