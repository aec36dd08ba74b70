use Rattle.explain_records.proofs.HeardOrderLemmas.{starts}
use Rattle.explain_records.proofs.heard_records.HeardRecords.make.Goals as goal

pub returns : goal.returns
returns c = starts c.args.config.now _ c.new.ensures c.in_ok-ru.ensures c.in_ok-du.ensures
