use Rattle.std.proofs.Common.{◌≡◌, ◌∙◌, sym, ap, arith, rules}
use Rattle.std.specs.Prelude.{Ok}
use Rattle.std.proofs.lemmas.Grind.{common_steps}
use Rattle.line_words.specs.Words.{left_length, parts_left}
use Rattle.line_words.proofs.Cuts.{shorter}
use Rattle.line_words.proofs.Texts.{first_is_text, lines_are_texts, rest_are_texts}
use Rattle.fh_document.specs.Document.{document_of}
use Rattle.fh_document.proofs.Properness.{proper}
use Rattle.fh_document.proofs.reading.read.Goals as goal

pub lines-init : goal.lines-init
lines-init c = record {
  fits = search rules;
  says = search rules;
  plain = λ is. lines_are_texts c.without_last_feed-lines.result.now (sym c.are_texts-plain.ensures ∙ is);
}

pub read_line-requires : goal.read_line-requires
read_line-requires c = λ is. first_is_text (parts_left 10 c.lines.rest) (parts_left 10 c.cut.result.1) c.cut.result.0.now (ap (parts_left 10) c.in-Some.is ∙ c.cut.ensures.parts) (c.lines.invariant.plain is)

pub lines-preserved : goal.lines-preserved
lines-preserved c = record {
  fits = omega (arith, c.lines.invariant.fits, ap left_length c.in-Some.is, shorter c.in-Some.text.now c.cut.result.1 c.cut.ensures.shorter);
  says = search rules;
  plain = λ is. rest_are_texts (parts_left 10 c.lines.rest) (parts_left 10 c.cut.result.1) c.cut.result.0.now (ap (parts_left 10) c.in-Some.is ∙ c.cut.ensures.parts) (c.lines.invariant.plain is);
}

pub returns-clause-proper : goal.returns-clause-proper
returns-clause-proper c =
    let read : document_of c.args.bytes.now ≡ Ok c.finished.result = grind (arith, common_steps) in
    proper c.args.bytes.now c.finished.result read
