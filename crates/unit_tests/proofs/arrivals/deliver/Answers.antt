use Rattle.std.proofs.Common.{[]}
use Rattle.unit_memory.proofs.HoldLemmas.{holds_later}
use Rattle.unit_tests.proofs.arrivals.deliver.Goals as goal

pub arrive-requires-clause-unit : goal.arrive-requires-clause-unit
arrive-requires-clause-unit c =
    let conf = c.args.config.now in
    let u = c.requires.unit in
    record {
      side = u.0;
      config = conf;
      arrivals = u.1;
      beside = [];
      holds = holds_later u.0 conf c.args.before.0 c.args.at.0 c.args.memory.now u.1 [] c.requires.order u.2;
    }

pub returns-clause-unit : goal.returns-clause-unit
returns-clause-unit c =
    let conf = c.args.config.now in
    let u = c.requires.unit in
    let before = holds_later u.0 conf c.args.before.0 c.args.at.0 c.args.memory.now u.1 [] c.requires.order u.2 in
    (_, _, c.arrive.ensures.holds u.0 conf u.1 [] before)

pub returns-clause-listed : goal.returns-clause-listed
returns-clause-listed c =
    let conf = c.args.config.now in
    let u = c.requires.unit in
    let before = holds_later u.0 conf c.args.before.0 c.args.at.0 c.args.memory.now u.1 [] c.requires.order u.2 in
    (c.arrive.ensures.holds u.0 conf u.1 [] before).of.endpoints
