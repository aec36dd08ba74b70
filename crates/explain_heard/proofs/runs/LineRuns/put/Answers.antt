-- An item goes on with the open run, or begins another after that one's line.
use Rattle.std.proofs.Common.{◌≡◌, [], ◌∷◌, Some, None, ap, rules, subst, sym, ◌∙◌}
use Rattle.explain_heard.specs.Runs.{HasPut, with_item}
use Rattle.explain_heard.proofs.RunLemmas.{put_on, put_off, stops_off_put}
use Rattle.explain_heard.proofs.runs.LineRuns.put.Goals as goal

pub returns-then-takes-clause-ok : goal.returns-then-takes-clause-ok
returns-then-takes-clause-ok g c =
    subst (λ o. HasPut g.T.RunItem.related g.T.RunItem.run_line g.W.LineSink.grew (c.args.item ∷ []) c.args.self.now c.args.out.now o c.args.out.now) (sym c.add.ensures)
    (put_on g.T.RunItem.related g.T.RunItem.run_line g.W.LineSink.grew g.met.W.LineSink.grew_more c.args.self.now c.args.item c.args.out.now (sym c.takes.ensures ∙ c.if-takes.true))

pub returns-clause-ok : goal.returns-clause-ok
returns-clause-ok g c =
    let e : c.add-2.new.self ≡ Some (with_item None c.args.item) = c.add-2.ensures ∙ ap (λ o. Some (with_item o c.args.item)) c.in_ok-close.ensures.ok in
    subst (λ o. HasPut g.T.RunItem.related g.T.RunItem.run_line g.W.LineSink.grew (c.args.item ∷ []) c.args.self.now c.args.out.now o c.close.new.out) (sym e)
    (put_off g.T.RunItem.related g.T.RunItem.run_line g.W.LineSink.grew g.met.W.LineSink.grew_more c.args.self.now c.args.item c.args.out.now c.close.new.out
    (sym c.takes.ensures ∙ c.if-takes.false) c.in_ok-close.ensures.heard)

pub returns-in_err-close-clause-stop : goal.returns-in_err-close-clause-stop
returns-in_err-close-clause-stop g c =
    let stop = stops_off_put g.T.RunItem.related g.T.RunItem.run_line g.W.LineSink.grew g.met.W.LineSink.grew_more (g.W.LineSink.stopped c.in_err-close.field-0.0) c.args.self.now c.args.item c.args.out.now
    c.close.new.out (sym c.takes.ensures ∙ c.if-takes.false) c.in_err-close.ensures.stop in
    search (rules, stop)
