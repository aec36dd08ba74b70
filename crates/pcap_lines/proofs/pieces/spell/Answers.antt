use Rattle.std.proofs.Common.{arith, ◌≡◌, ◌+◌, ◌*◌, ◌++◌, take, length, sym, ap, ◌∙◌}
use Rattle.std.proofs.lemmas.List.{length-take-le}
use Rattle.fh_document.specs.LineWords.{hex_text}
use Rattle.pcap_lines.proofs.Hex.{front_more}
use Rattle.pcap_lines.proofs.pieces.spell.Goals as goal
use Rattle.fh_document.proofs.HexLemmas.{hex_size}

pub loop-block-preserved : goal.loop-block-preserved
loop-block-preserved c =
    let left = c.loop-block.left.now in
    let place = c.loop-block.place in
    let cut = c.in-Some.ensures.cases in
    let is : c.spelled.result ≡ hex_text (take 64 left) = c.spelled.ensures ∙ ap hex_text cut.0 in
    let size : length c.spelled.result ≡ 128 = ap length is ∙ hex_size (take 64 left) ∙ ap (λ n. 2 * n) (length-take-le 64 left (omega (arith, cut.2))) in
    let put : take (place + 128) c.put.new.text ≡ take place c.loop-block.text ++ hex_text (take 64 left)
    = ap (λ n. take (place + n) c.put.new.text) (sym size) ∙ c.put.ensures ∙ ap (λ t. take place c.loop-block.text ++ t) is in
    record {
      sum = omega (arith, c.loop-block.invariant.sum, cut.2);
      front = ap (λ t. take (place + 128) c.put.new.text ++ hex_text t) cut.1
          ∙ front_more c.loop-block.text c.put.new.text left (hex_text c.args.piece.now) 64 place (place + 128) c.loop-block.invariant.front put;
    }
