use Rattle.std.proofs.Common.{List, ◌++◌, ℕ, ap, ◌∙◌}
use Rattle.document_texts.specs.SentLines.{frame_line_text}
use Rattle.document_texts.proofs.TimesLemmas.{six_texts}
use Rattle.document_texts.proofs.lines.put_frame_line.Goals as goal

pub returns : goal.returns
unfolding frame_line_text
returns c =
    six_texts c.args.line.now c.put_name.new.line c.put_place.new.line c.put_piece.new.line c.text.new.self c.put_copies.new.line c.text-2.new.self _ _ _ _ _ _
    c.requires.empty c.put_name.ensures.text c.put_place.ensures.text c.put_piece.ensures.text
    (c.text.ensures ∙ ap (λ (t : List ℕ). c.put_piece.new.line ++ t) c.kind_text.ensures.word) c.put_copies.ensures.text c.text-2.ensures
