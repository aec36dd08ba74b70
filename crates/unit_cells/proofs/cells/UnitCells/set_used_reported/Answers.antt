use Rattle.unit_cells.proofs.ReportedLemmas.{keeps_same, reported_just, reported_known, reported_others}
use Rattle.unit_cells.specs.Keeping.{SameKnown}
use Rattle.unit_cells.specs.Steps.{SetsReported}
use Rattle.unit_cells.proofs.RingsLemmas.{endpoints_still}
use Rattle.unit_cells.proofs.cells.UnitCells.set_used_reported.Goals as goal
use Rattle.unit_cells.proofs.cells.UnitCells.set_used_reported.Goals.{After-set_reported}

known : (c : After-set_reported) → SameKnown c.args.self.now c.set_reported.new.self
known c = reported_known c.args.ep c.args.slot c.args.symbol c.args.count c.args.self.now c.set_reported.new.self c.set_reported.ensures c.requires.has

pub returns-clause-here : goal.returns-clause-here
returns-clause-here c = reported_just c.args.ep c.args.slot c.args.symbol c.args.count c.args.self.now c.set_reported.new.self c.set_reported.ensures c.requires.has

pub returns-clause-others : goal.returns-clause-others
returns-clause-others c = reported_others c.args.ep c.args.slot c.args.symbol c.args.count c.args.self.now c.set_reported.new.self c.set_reported.ensures c.requires.has

pub returns-clause-keeps : goal.returns-clause-keeps
returns-clause-keeps c side k clock acc ds keeps = keeps_same side k clock c.args.self.now c.set_reported.new.self acc ds (known c) keeps

pub returns-clause-known : goal.returns-clause-known
returns-clause-known c = known c

pub returns-clause-endpoints : goal.returns-clause-endpoints
returns-clause-endpoints c =
    endpoints_still c.args.ep (SetsReported c.args.slot c.args.symbol c.args.count) c.args.self.now c.set_reported.new.self c.set_reported.ensures c.set_reported.ensures.stepped.touches.endpoint
