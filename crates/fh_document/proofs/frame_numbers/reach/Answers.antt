use Rattle.std.proofs.Common.{◌+◌, ◌/◌, arith, rules}
use Rattle.fh_document.proofs.Marks.{marks_grown}
use Rattle.fh_document.proofs.frame_numbers.reach.Goals as goal

pub returns-in_ok-resize-clause-same : goal.returns-in_ok-resize-clause-same
returns-in_ok-resize-clause-same c = λ q. marks_grown c.args.words.now.items c.resize.new.self.items (c.args.number / 64 + 1) q (search rules) (search (rules, arith))
