use Rattle.std.proofs.Common.{◌++◌, ap, ◌∙◌}
use Rattle.line_words.proofs.EachTexts.{each_none, each_more}
use Rattle.pictures.specs.Bars.{column_text, most_of, nth_column}
use Rattle.pictures.proofs.bars.put_bars.Goals as goal

pub loop-column-init : goal.loop-column-init
loop-column-init c = each_none (nth_column c.args.base c.args.columns.now) c.args.to.now

pub loop-column-preserved : goal.loop-column-preserved
loop-column-preserved c =
    each_more (nth_column c.args.base c.args.columns.now) c.args.to.now c.loop-column.to c.put_column.new.to c.loop-column.column c.loop-column.invariant
    (c.in_ok-put_column.ensures
    ∙ ap (λ m. c.loop-column.to ++ column_text c.args.base m c.loop-column.column c.counts_at.result) c.most_of-most.ensures.value
    ∙ ap (λ x. c.loop-column.to ++ column_text c.args.base (most_of c.args.columns.now) c.loop-column.column x) c.counts_at.ensures)
