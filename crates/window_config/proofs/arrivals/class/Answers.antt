use Rattle.std.proofs.Common.{◌≡◌, arith, rules}
use Rattle.std.proofs.lemmas.Grind.{common_steps}
use Rattle.window_config.specs.Classes.{class_of}
use Rattle.window_config.proofs.Timing.{class_late, class_on_time}
use Rattle.window_config.proofs.arrivals.class.Goals as goal

pub returns-clause-value : goal.returns-clause-value
returns-clause-value c = first_of (search rules, grind arith, grind (arith, common_steps))

pub returns-clause-late : goal.returns-clause-late
returns-clause-late c =
    let is : c.classified.result ≡ class_of c.args.first.0 c.args.last.0 c.args.s.0 c.args.window = returns-clause-value c in
    rw is (class_late c.args.first.0 c.args.last.0 c.args.s.0 c.args.window)

pub returns-clause-on_time : goal.returns-clause-on_time
returns-clause-on_time c =
    let is : c.classified.result ≡ class_of c.args.first.0 c.args.last.0 c.args.s.0 c.args.window = returns-clause-value c in
    rw is (class_on_time c.args.first.0 c.args.last.0 c.args.s.0 c.args.window)
