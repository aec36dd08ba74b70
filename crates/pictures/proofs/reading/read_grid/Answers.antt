use Rattle.std.proofs.Common.{rules, arith, ap, sym, ◌∙◌}
use Rattle.line_words.specs.Words.{left_length, parts_left}
use Rattle.line_words.proofs.Cuts.{shorter}
use Rattle.line_words.proofs.Texts.{lines_are_texts, rest_are_texts}
use Rattle.pictures.proofs.reading.read_grid.Goals as goal

pub lines-init : goal.lines-init
lines-init c = record {
  fits = search rules;
  says = search rules;
  plain = λ is. lines_are_texts c.without_last_feed-lines.result.now (sym c.are_texts-plain.ensures ∙ is);
}

pub lines-preserved : goal.lines-preserved
lines-preserved c = record {
  fits = omega (arith, c.lines.invariant.fits, ap left_length c.in-Some.is, shorter c.in-Some.piece.now c.cut.result.1 c.cut.ensures.shorter);
  says = search rules;
  plain = λ is. rest_are_texts (parts_left 10 c.lines.rest) (parts_left 10 c.cut.result.1) c.cut.result.0.now (ap (parts_left 10) c.in-Some.is ∙ c.cut.ensures.parts) (c.lines.invariant.plain is);
}
