use Rattle.std.proofs.Common.{arith, ℕ, List, ◌≡◌, ◌++◌, ◌*◌, length, take, drop, replicate, ap, ◌∙◌}
use Rattle.std.proofs.lemmas.List.{length-append, length-drop}
use Rattle.fh_document.specs.LineWords.{hex_text}
use Rattle.pcap_lines.proofs.Hex.{hex_front, front_cut}
use Rattle.pcap_lines.proofs.pieces.spell_last.Goals as goal
use Rattle.fh_document.proofs.HexLemmas.{hex_size}

pub returns : goal.returns
returns c =
    let last = c.args.last.now in
    let zeros : List ℕ = replicate 64 0 in
    let old : List ℕ = drop (length last) zeros in
    let is : c.spelled.result ≡ hex_text (last ++ old) = c.spelled.ensures ∙ ap (λ f. hex_text (f ++ old)) c.copy_from_slice.ensures.after in
    let size : length c.spelled.result ≡ 128
    = omega (arith, ap length is, hex_size (last ++ old), length-append last old, length-drop (length last) zeros, c.requires.few) in
    front_cut c.args.text.now c.put.new.text c.spelled.result c.args.place (2 * length last)
    (omega (arith, size, c.requires.few))
    (omega (arith, size, c.requires.room, c.put.array_long))
    c.put.ensures
    ∙ ap (λ t. take c.args.place c.args.text.now ++ t) (ap (take (2 * length last)) is ∙ hex_front last old)
