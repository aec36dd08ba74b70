use Rattle.report_airs.proofs.Bounds.{rises}
use Rattle.report_airs.proofs.runs.Run.with.Goals as goal

pub grown-requires-clause-rises : goal.grown-requires-clause-rises
grown-requires-clause-rises c = rises c.args.self.now c.args.c.now c.requires
