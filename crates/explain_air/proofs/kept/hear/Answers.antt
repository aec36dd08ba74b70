use Rattle.std.proofs.Common.{List, refl, ap, subst, sym}
use Rattle.explain_air.proofs.ArrivalLemmas.{arrivals_are}
use Rattle.explain_model.proofs.Steps.{arrival_stories, story_after}
use Rattle.explain_model.specs.Stories.{Story, arrival_with, stories}
use Rattle.explain_records.specs.Records.{HaveHeard}
use Rattle.unit_model.specs.Judgements.{judgements}
use Rattle.unit_model.specs.Meetings.{Arrival}
use Rattle.explain_air.proofs.kept.hear.Goals as goal

pub returns-clause-records : goal.returns-clause-records
returns-clause-records g c cfg events bytes is kept =
    let f = c.args.frame.now in
    subst (λ (ss : List Story). HaveHeard cfg ss c.keep.new.self) (sym (arrival_stories cfg events f.side f.at bytes))
    (c.in_ok-keep.ensures cfg (stories cfg events) (story_after cfg events f.side f.at bytes) refl (sym is.number_is)
    (ap (λ (xs : List Arrival). judgements f.side cfg xs (arrival_with f.at.0 bytes)) (sym (arrivals_are f.side cfg events))) is.judged_is kept)
