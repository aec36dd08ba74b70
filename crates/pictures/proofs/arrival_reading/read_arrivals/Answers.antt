use Rattle.std.proofs.Common.{[], ◌++◌, ap, sym, ◌∙◌, arith, rules, length-append}
use Rattle.std.specs.Option.{option_to_list}
use Rattle.line_words.specs.Words.{left_length, parts_left}
use Rattle.line_words.proofs.Cuts.{shorter}
use Rattle.line_words.proofs.Texts.{lines_are_texts, rest_are_texts}
use Rattle.pictures.proofs.OneLine.{one_at_most, read_on}
use Rattle.pictures.proofs.arrival_reading.read_arrivals.Goals as goal

pub lines-init : goal.lines-init
lines-init c = record {
  came = [];
  counts = search rules;
  few = search rules;
  fits = search rules;
  says = search rules;
  plain = λ is. lines_are_texts c.without_last_feed-lines.result.now (sym c.are_texts-plain.ensures ∙ is);
}

pub lines-preserved : goal.lines-preserved
lines-preserved c =
    let came = c.lines.invariant.came in
    let a = c.in-Ok-read_line.arrival in
    let parts = ap (parts_left 10) c.in-Some.is ∙ c.cut.ensures.parts in
    let less = shorter c.in-Some.piece.now c.cut.result.1 c.cut.ensures.shorter in
    record {
      came = came ++ option_to_list a;
      counts = c.count.ensures came c.lines.invariant.counts;
      few = omega (arith, length-append came (option_to_list a), one_at_most a, c.lines.invariant.few, ap left_length c.in-Some.is, less);
      fits = omega (arith, c.lines.invariant.fits, ap left_length c.in-Some.is, less);
      says = c.lines.invariant.says
          ∙ read_on (parts_left 10 c.lines.rest) (parts_left 10 c.cut.result.1) c.lines.n c.lines.reading c.read_line.new.reading came a c.cut.result.0.now
          parts c.in-Ok-read_line.ensures.value;
      plain = λ is. rest_are_texts (parts_left 10 c.lines.rest) (parts_left 10 c.cut.result.1) c.cut.result.0.now parts (c.lines.invariant.plain is);
    }
