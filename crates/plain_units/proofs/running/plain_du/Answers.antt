use Rattle.std.proofs.Common.{◌≡◌, reverse, ap, ◌∙◌}
use Rattle.unit_model.specs.Terms.{Du}
use Rattle.unit_model.specs.Commands.{command_verdicts}
use Rattle.plain_units.specs.Plain.{arrivals_of}
use Rattle.unit_model.specs.Radiated.{known_of, reported}
use Rattle.unit_model.specs.Reports.{du_reported}
use Rattle.plain_units.proofs.RunLemmas.{counted_before, report_counted, no_commands}
use Rattle.plain_units.proofs.running.plain_du.Goals as goal

pub returns : goal.returns
unfolding command_verdicts
returns c =
    let conf = c.args.config.now in
    let d = conf.delays in
    let to = c.args.to.0 in
    let planned = c.args.planned.now in
    let arrivals = arrivals_of c.args.frames.now in
    let h = c.in_ok-unit.ensures in
    let told : c.in_ok-cells.cells ≡ du_reported conf planned arrivals to =
    c.in_ok-cells.ensures ∙ ap (λ xs. reported Du d xs (known_of planned c.deref.result.now) to) c.as_slice-endpoints.ensures.items
    ∙ ap (λ xs. reported Du d conf.endpoints (known_of planned xs) to) (c.deref.ensures.value ∙ h.timely) in
    record {
      commands = h.commands ∙ ap (λ cs. reverse (command_verdicts d cs)) (no_commands conf.endpoints arrivals);
      user = h.user;
      cells = told;
      jobs = c.new.ensures;
      counts =
          report_counted Du conf arrivals c.in_ok-cells.cells _ c.count_cells.new.counters told (c.count_cells.ensures (counted_before Du conf arrivals) h.counts);
    }
