use Rattle.std.proofs.Common.{rules, refl}
use Rattle.uplink_path.proofs.NumberLemmas.{none_numbered, none_waits}
use Rattle.uplink_path.proofs.uplink.Uplink.make.Goals as goal

pub returns-clause-numbered : goal.returns-clause-numbered
returns-clause-numbered g c = record {
  config = c.requires.config;
  rules = c.rules_of.ensures.value;
  kept = c.rules_of.ensures.kept;
  endpoints = search rules;
  room = search rules;
  size = refl;
  numbers = λ ep below. none_numbered ep;
  wait = none_waits c.args.config.now;
}
