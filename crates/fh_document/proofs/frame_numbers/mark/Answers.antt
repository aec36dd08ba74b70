use Rattle.fh_document.proofs.Marks.{marks_more}
use Rattle.fh_document.proofs.frame_numbers.mark.Goals as goal

pub returns : goal.returns
returns c = λ q. marks_more c.args.words.now.items c.args.number c.index_mut.result.now q c.requires c.index_mut.ensures.value
