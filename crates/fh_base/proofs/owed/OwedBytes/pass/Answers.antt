use Rattle.fh_base.proofs.Passing.{passed, cut, cut_part}
use Rattle.fh_base.proofs.owed.OwedBytes.pass.Goals as goal

pub returns-in_err-write_all_to-clause-front : goal.returns-in_err-write_all_to-clause-front
returns-in_err-write_all_to-clause-front g c = cut _ _ _ _ _ c.from_residual-in_err-write_all_to.result c.in_ok-write.ensures.all c.write_all_to.ensures.front

pub returns-in_err-write_all_to-clause-part : goal.returns-in_err-write_all_to-clause-part
returns-in_err-write_all_to-clause-part g c = cut_part _ _ _ _ _ c.from_residual-in_err-write_all_to.result c.in_ok-write.ensures.all c.in_err-write_all_to.ensures.part

pub returns-clause-carried : goal.returns-clause-carried
returns-clause-carried g c = passed _ _ _ _ _ _ c.clear.ensures c.in_ok-write.ensures.all c.in_ok-write_all_to.ensures.ok
