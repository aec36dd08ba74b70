-- A run without samples, by the records of its symbol.
use Rattle.std.proofs.Common.{◌≡◌, Bool, List, [], if◌then◌else◌, OnOk, IfErr, ap, subst, sym, ◌∙◌}
use Rattle.explain_model.specs.SilentReasons.{Kept, of_symbol}
use Rattle.explain_records.specs.Elements.{at_symbol}
use Rattle.explain_model.specs.declared.keys.SymbolKey.{SymbolKey}
use Rattle.explain_heard.specs.Runs.{HasPut, StopsPutting}
use Rattle.explain_heard.proofs.RunLemmas.{put_none}
use Rattle.explain_records.specs.Missing.{missing_line_of, missing_prbs_by, missing_prbs_of, missing_related}
use Rattle.explain_records.specs.declared.missing.MissingPrb.{MissingPrb}
use Rattle.explain_records.proofs.MissingLemmas.{alone}
use Rattle.explain_records.proofs.missing.put_run.Goals as goal

pub returns-then-run-clause-ok : goal.returns-then-run-clause-ok
returns-then-run-clause-ok g c =
    subst (λ (b : Bool). let ys : List MissingPrb = if b then [] else missing_prbs_by c.args.kept.now c.args.run.now in
    HasPut missing_related missing_line_of g.W.LineSink.grew ys c.args.lines.now c.args.out.now c.args.lines.now c.args.out.now) (sym c.if-run.true)
    (put_none missing_related missing_line_of g.W.LineSink.grew c.args.lines.now c.args.out.now)

pub returns-else-run-clause-ok : goal.returns-else-run-clause-ok
returns-else-run-clause-ok g c =
    let e : missing_prbs_by (at_symbol c.at_symbol-at.result) c.args.run.now ≡ missing_prbs_of c.args.kept.now c.args.run.now =
    ap (λ (k : Kept). missing_prbs_by k c.args.run.now) (c.at_symbol-at.ensures ∙ ap (λ (key : SymbolKey). of_symbol key c.args.kept.now) c.key.ensures)
    ∙ alone c.args.kept.now c.args.run.now
    ∙ sym (ap (λ (b : Bool). let ys : List MissingPrb = if b then [] else missing_prbs_by c.args.kept.now c.args.run.now in ys) c.if-run.false) in
    subst (λ xs. OnOk c.put_cells.result (HasPut missing_related missing_line_of g.W.LineSink.grew xs c.args.lines.now c.args.out.now c.put_cells.new.lines c.put_cells.new.out)) e c.put_cells.ensures.ok

pub returns-else-run-clause-stop : goal.returns-else-run-clause-stop
returns-else-run-clause-stop g c =
    let e : missing_prbs_by (at_symbol c.at_symbol-at.result) c.args.run.now ≡ missing_prbs_of c.args.kept.now c.args.run.now =
    ap (λ (k : Kept). missing_prbs_by k c.args.run.now) (c.at_symbol-at.ensures ∙ ap (λ (key : SymbolKey). of_symbol key c.args.kept.now) c.key.ensures)
    ∙ alone c.args.kept.now c.args.run.now
    ∙ sym (ap (λ (b : Bool). let ys : List MissingPrb = if b then [] else missing_prbs_by c.args.kept.now c.args.run.now in ys) c.if-run.false) in
    subst (λ xs. IfErr c.put_cells.result (λ f. StopsPutting missing_related missing_line_of g.W.LineSink.grew (g.W.LineSink.stopped f) xs c.args.lines.now c.args.out.now c.put_cells.new.out)) e c.put_cells.ensures.stop
