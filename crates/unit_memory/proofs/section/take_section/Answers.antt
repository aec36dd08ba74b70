use Rattle.std.proofs.Common.{[], ◌∷◌, subst}
use Rattle.unit_model.specs.Blocks.{timely}
use Rattle.unit_model.specs.declared.verdicts.DataVerdict.{DataVerdict}
use Rattle.unit_model.specs.Judgements.{Given}
use Rattle.unit_memory.proofs.DataHoldLemmas.{section_holds}
use Rattle.unit_memory.proofs.section.take_section.Goals as goal

pub returns-clause-taken : goal.returns-clause-taken
returns-clause-taken g c =
    let f = c.fill_section.ensures in
    let s = f.filled in
    record {
      blocks = s.blocks;
      tells = s.tells;
      holds =
          section_holds c.args.heading.now s.blocks c.begin-verdict.result c.data_counter.result c.args.cells.now c.fill_section.new.cells c.args.counters.now c.add.new.self
          c.begin-verdict.ensures.verdict c.begin-verdict.ensures.keeps c.data_counter.ensures c.add.ensures.each s.tells.all s.gives f.side f.delays f.endpoints;
    }

pub returns-clause-told : goal.returns-clause-told
returns-clause-told g c side conf n acc ds blocks h =
    let is = c.begin-verdict.ensures.verdict side conf acc (timely side conf.delays ds) blocks h.of h.keeps h.told in
    subst (λ (v : DataVerdict). g.L.Listener.heard c.args.listener.now (Given c.args.heading.now v ∷ []) c.section.new.self) is c.section.ensures
