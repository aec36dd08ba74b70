-- The frame is the next one, and its lines are left.
use Rattle.std.proofs.Common.{◌≡◌, ◌<◌, ◌^◌, suc, List, rules, ap, subst, ◌∙◌}
use Rattle.std.specs.Prelude.{All}
use Rattle.explain_air.proofs.KeptLemmas.{pending_of}
use Rattle.explain_heard.specs.Heard.{all_heard}
use Rattle.explain_model.specs.Stories.{arrival_with}
use Rattle.unit_laws.specs.Sound.{IsSoundJudgement}
use Rattle.unit_model.specs.Judgements.{judgements}
use Rattle.unit_model.specs.Meetings.{Arrival}
use Rattle.explain_air.proofs.kept.Kept.arrive.Goals as goal

pub returns-in-Some-clause-after : goal.returns-in-Some-clause-after
returns-in-Some-clause-after g c s events planned h heard may same =
    let number : c.in-Some.number ≡ suc c.args.self.now.number = search (rules, c.in-Some.ensures) in
    let few : c.in-Some.number < 2 ^ 32 = search (rules, c.in-Some.ensures) in
    let e = c.arrive.ensures in
    let a = arrival_with c.args.at.0 c.args.bytes.now in
    pending_of s events c.args.self.now c.args.side c.args.at c.args.bytes.now c.in-Some.number c.arrive.new.self heard number e.frame e.endpoints e.delays
    (λ fine. e.heard s.config planned h may fine ∙ ap (λ (xs : List Arrival). all_heard c.args.side c.args.self.now.last.endpoints (judgements c.args.side s.config xs a)) same)
    few (subst (λ (xs : List Arrival). All (IsSoundJudgement s.config.endpoints) (judgements c.args.side s.config xs a)) same (e.sound s.config planned h may))
