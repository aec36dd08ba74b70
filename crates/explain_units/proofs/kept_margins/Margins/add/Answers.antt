-- The endpoint's margins are put in their place, where it has any.
use Rattle.std.proofs.Common.{ap, sym, ◌∙◌, arith}
use Rattle.std.specs.Prelude.{slice_set}
use Rattle.explain_units.specs.Margins.{with_one}
use Rattle.explain_units.specs.declared.kept_margins.EndpointMargins.{EndpointMargins}
use Rattle.explain_units.proofs.KeptLemmas.{none_added, set_added}
use Rattle.explain_units.proofs.kept_margins.Margins.add.Goals as goal

pub returns-then-ep-len : goal.returns-then-ep-len
returns-then-ep-len c =
    sym (none_added c.args.self.now.all.items c.args.ep c.args.of c.args.class c.args.timing (omega (arith, c.if-ep-len.true, c.len.ensures)))

pub returns-in-Some : goal.returns-in-Some
returns-in-Some c =
    let all = c.args.self.now.all.items in
    ap (λ (m : EndpointMargins). slice_set all c.args.ep m) c.in-Some.ensures
    ∙ ap (λ (m : EndpointMargins). slice_set all c.args.ep (with_one c.args.of c.args.class c.args.timing m)) c.index.ensures
    ∙ set_added all c.args.ep c.args.of c.args.class c.args.timing c.index.result.now
