use Rattle.std.proofs.Common.{◌≡◌, ap, ◌∙◌}
use Rattle.unit_model.specs.Terms.{Ru}
use Rattle.plain_units.specs.Plain.{arrivals_of}
use Rattle.unit_model.specs.Radiated.{known_of, reported}
use Rattle.unit_model.specs.Reports.{accepted_of, ru_reported}
use Rattle.unit_model.specs.Uplink.{jobs}
use Rattle.plain_units.proofs.RunLemmas.{counted_before, report_counted}
use Rattle.plain_units.proofs.running.plain_ru.Goals as goal

pub returns : goal.returns
returns c =
    let conf = c.args.config.now in
    let d = conf.delays in
    let to = c.args.to.0 in
    let arrivals = arrivals_of c.args.frames.now in
    let h = c.in_ok-unit.ensures in
    let es = c.as_slice-endpoints.result.now in
    let told : c.in_ok-cells.cells ≡ ru_reported conf arrivals to =
    c.in_ok-cells.ensures ∙ ap (λ xs. reported Ru d xs (known_of c.deref.result.now c.deref-2.result.now) to) c.as_slice-endpoints.ensures.items
    ∙ ap (λ xs. reported Ru d conf.endpoints (known_of xs c.deref-2.result.now) to) (c.deref.ensures.value ∙ h.accepted)
    ∙ ap (λ xs. reported Ru d conf.endpoints (known_of (accepted_of conf arrivals) xs) to) (c.deref-2.ensures.value ∙ h.timely) in
    record {
      commands = h.commands;
      user = h.user;
      cells = told;
      jobs =
          c.in_ok-jobs.ensures ∙ ap (λ xs. jobs xs c.deref-3.result.now to) c.as_slice-endpoints.ensures.items
          ∙ ap (λ xs. jobs conf.endpoints xs to) (c.deref-3.ensures.value ∙ h.accepted);
      counts =
          report_counted Ru conf arrivals c.in_ok-cells.cells _ c.count_cells.new.counters told (c.count_cells.ensures (counted_before Ru conf arrivals) h.counts);
    }
