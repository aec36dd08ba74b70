use Rattle.air_source.specs.declared.events.Side.{Side}
use Rattle.air_source.specs.declared.events.Side.TheVariants.{Ru}
use Rattle.unit_cells.specs.Cells.{IsOf}
use Rattle.unit_cells.specs.Keeping.{SameReported}
use Rattle.std.proofs.Common.{◌≡◌, refl, sym, subst, ◌∙◌, [], ◌∷◌}
use Rattle.unit_model.specs.Commands.{accepted, command_verdict}
use Rattle.unit_model.proofs.CountLemmas.{added_as}
use Rattle.unit_model.proofs.SectionLemmas.{command_count}
use Rattle.unit_memory.proofs.StepLemmas.{keeps_command}
use Rattle.unit_model.specs.declared.verdicts.CommandVerdict.{CommandVerdict}
use Rattle.unit_model.specs.Judgements.{Commanded}
use Rattle.unit_memory.proofs.memory.UnitMemory.section.Goals as goal
use Rattle.unit_cells.proofs.KeepLemmas.{of_still as of_later}

pub returns-clause-holds : goal.returns-clause-holds
returns-clause-holds g c conf n fs cs ds h =
    let d = conf.delays in
    let s = c.args.command.now in
    let v = c.command-verdict.result in
    let told = c.command-verdict.ensures in
    let verdict : v ≡ command_verdict d (accepted d cs) s = told.verdict conf (accepted d cs) _ h.of h.keeps in
    record {
      config = h.config;
      endpoints = h.endpoints;
      of = of_later Ru conf _ _ told.side told.delays told.endpoints h.of;
      came = h.came;
      fragments = h.fragments;
      places = h.places;
      hold = h.hold;
      keeps = keeps_command conf _ s cs _ v verdict (told.keeps conf (accepted d cs) _ h.of h.keeps);
      told = h.told;
      counts = λ k. command_count d s cs (accepted d cs) v _ _ _ _ k refl verdict (h.counts k) (added_as _ _ _ _ k c.command_counter.ensures (c.add.ensures.each k));
    }

pub returns-clause-reports : goal.returns-clause-reports
returns-clause-reports g c = record {
  reports = λ side conf of. subst (λ (s : Side). SameReported s conf c.args.command.now.at.0 c.args.self.now.cells c.command-verdict.new.self) (sym c.requires.side ∙ of.side_is)
      (c.command-verdict.ensures.reports conf (subst (λ (s : Side). IsOf s conf c.args.self.now.cells) (sym of.side_is ∙ c.requires.side) of));
  side = c.command-verdict.ensures.side;
  delays = c.command-verdict.ensures.delays;
  endpoints = c.command-verdict.ensures.endpoints;
}

pub returns-clause-told : goal.returns-clause-told
returns-clause-told g c conf n fs cs ds h =
    let d = conf.delays in
    let is = c.command-verdict.ensures.verdict conf (accepted d cs) _ h.of h.keeps in
    subst (λ (v : CommandVerdict). g.L.Listener.heard c.args.listener.now (Commanded c.args.command.now v ∷ []) c.command.new.self) is c.command.ensures
