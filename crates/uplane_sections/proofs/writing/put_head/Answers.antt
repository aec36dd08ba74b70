use Rattle.std.proofs.Common.{◌∙◌, arith}
use Rattle.uplane_sections.proofs.Words.{head_written}
use Rattle.uplane_sections.proofs.Back.{head_back}
use Rattle.uplane_sections.proofs.writing.put_head.Goals as goal

pub returns-clause-written : goal.returns-clause-written
returns-clause-written c =
    head_written c.args.head.now c.put_word.new.into (omega arith) c.requires c.head_word.ensures.frame (c.put_word.ensures.word ∙ c.head_word.ensures.value)

pub returns-clause-read_back : goal.returns-clause-read_back
returns-clause-read_back c format prbs shape a = head_back format prbs shape c.args.head.now c.put_word.new.into (returns-clause-written c) a
