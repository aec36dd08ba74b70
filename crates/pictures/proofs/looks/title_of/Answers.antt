use Rattle.std.proofs.Common.{arith}
use Rattle.fh_base.specs.Numbers.{word_at}
use Rattle.pictures.proofs.Titles.{title_more}
use Rattle.pictures.proofs.looks.title_of.Goals as goal

pub loop-i-preserved : goal.loop-i-preserved
loop-i-preserved c =
    title_more c.args.words.now c.loop-i.i (word_at c.args.words.now 1) c.word-in-loop-i.result.now c.loop-i.title c.push_all-in-loop-i.new.self c.push_all-in-loop-i-2.new.self (omega arith)
    (omega arith) c.word-in-loop-i.ensures c.loop-i.invariant c.in_ok-push_all-2.ensures.ok c.in_ok-push_all-3.ensures.ok
