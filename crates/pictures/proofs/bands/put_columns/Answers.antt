use Rattle.pictures.specs.Bands.{column_text}
use Rattle.line_words.proofs.EachTexts.{each_none, each_more}
use Rattle.pictures.proofs.bands.put_columns.Goals as goal

pub loop-k-init : goal.loop-k-init
loop-k-init c = each_none (column_text c.args.span) c.args.to.now

pub loop-k-preserved : goal.loop-k-preserved
loop-k-preserved c = each_more (column_text c.args.span) c.args.to.now c.loop-k.to c.put_column.new.to c.loop-k.k c.loop-k.invariant c.in_ok-put_column.ensures
