-- What is heard, by the endpoints that contracts see.
use Rattle.std.proofs.Common.{ap, ◌∙◌}
use Rattle.explain_air.specs.LastFrames.{LastHeard}
use Rattle.explain_heard.specs.Heard.{all_heard}
use Rattle.unit_memory.specs.Memory.{arrival_at}
use Rattle.unit_model.specs.Judgements.{judgements}
use Rattle.explain_air.proofs.last.LastFrame.arrive.Goals as goal

pub returns-clause-heard : goal.returns-clause-heard
returns-clause-heard g c cfg planned h may fine =
    c.hear_frame-taken.ensures.heard cfg planned h may fine
    ∙ ap (λ (l : LastHeard). all_heard c.args.side l.endpoints (judgements c.args.side cfg h.arrivals (arrival_at c.args.at.0 c.args.bytes.now))) c.self.view_is
