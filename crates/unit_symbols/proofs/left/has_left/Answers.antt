use Rattle.std.proofs.Common.{reverse}
use Rattle.unit_model.specs.Starts.{jobs_at}
use Rattle.unit_symbols.proofs.LeftLemmas.{some_left}
use Rattle.unit_symbols.proofs.left.has_left.Goals as goal

pub returns-in-Some : goal.returns-in-Some
returns-in-Some c =
    some_left c.args.uplink.now c.args.m.now c.in-Some.given _ _ (c.in-Some.ensures (jobs_at (reverse c.args.uplink.now) c.args.m.now)) c.count_sending.ensures
