-- PRB by PRB.
use Rattle.std.proofs.Common.{◌≡◌, ◌-◌, [], ◌∷◌, refl, subst, ap, ◌∙◌, arith, rules}
use Rattle.fh_base.specs.Lists.{each}
use Rattle.explain_heard.specs.Runs.{HasPut, StopsPutting}
use Rattle.explain_heard.proofs.PutLemmas.{each_none, each_put, each_stop}
use Rattle.explain_records.specs.Elements.{at_symbol}
use Rattle.explain_model.specs.SilentReasons.{missing_reason}
use Rattle.explain_model.specs.Keys.{run_key}
use Rattle.explain_records.specs.Missing.{missing_line_of, missing_prb_at, missing_related}
use Rattle.explain_records.specs.declared.missing.MissingPrb.{MissingPrb}
use Rattle.explain_records.proofs.missing.put_cells.Goals as goal

pub loop-prb-init : goal.loop-prb-init
loop-prb-init g c = record {
  put = each_none missing_related missing_line_of g.W.LineSink.grew c.args.run.now.prb (missing_prb_at (at_symbol c.args.at.now) c.args.run.now) c.args.run.now.prb refl c.args.lines.now c.args.out.now;
  same = g.met.W.LineSink.same_none c.args.out.now;
  still = refl;
}

pub loop-prb-preserved : goal.loop-prb-preserved
loop-prb-preserved g c = let why : c.missing_reason.result ≡ missing_reason (at_symbol c.args.at.now) (run_key c.args.run.now) c.loop-prb.prb = c.missing_reason.ensures ∙ ap (λ k. missing_reason (at_symbol c.args.at.now) k c.loop-prb.prb) c.key-key.ensures in
    record {
      put =
          each_put missing_related missing_line_of g.W.LineSink.grew c.args.run.now.prb c.loop-prb.prb (missing_prb_at (at_symbol c.args.at.now) c.args.run.now) c.loop-prb.auto.prb
          c.args.lines.now c.loop-prb.lines c.put.new.self c.args.out.now c.loop-prb.out c.put.new.out c.loop-prb.invariant.put (subst (λ r. HasPut missing_related missing_line_of g.W.LineSink.grew (let m : MissingPrb = record { run = c.args.run.now; prb = c.loop-prb.prb; reason = r } in m ∷ []) c.loop-prb.lines c.loop-prb.out c.put.new.self c.put.new.out) why c.in_ok-put.ensures.ok);
      same = g.met.W.LineSink.same_more _ _ _ c.loop-prb.invariant.same c.in_ok-put.ensures.same;
      still = c.in_ok-put.ensures.cause ∙ c.loop-prb.invariant.still;
    }

pub returns-in_err-put-clause-stop : goal.returns-in_err-put-clause-stop
returns-in_err-put-clause-stop g c =
    let why : c.missing_reason.result ≡ missing_reason (at_symbol c.args.at.now) (run_key c.args.run.now) c.loop-prb.prb = c.missing_reason.ensures ∙ ap (λ k. missing_reason (at_symbol c.args.at.now) k c.loop-prb.prb) c.key-key.ensures in
    let stop = each_stop missing_related missing_line_of g.W.LineSink.grew (g.W.LineSink.stopped c.in_err-put.field-0.0) c.args.run.now.prb c.loop-prb.prb c.args.run.now.count (missing_prb_at (at_symbol c.args.at.now) c.args.run.now) c.loop-prb.auto.prb c.loop-prb-test.true
    c.args.lines.now c.loop-prb.lines c.args.out.now c.loop-prb.out c.put.new.out c.loop-prb.invariant.put (subst (λ r. StopsPutting missing_related missing_line_of g.W.LineSink.grew (g.W.LineSink.stopped c.in_err-put.field-0.0) (let m : MissingPrb = record { run = c.args.run.now; prb = c.loop-prb.prb; reason = r } in m ∷ []) c.loop-prb.lines c.loop-prb.out c.put.new.out) why c.in_err-put.ensures.stop) in
    search (rules, stop)

pub returns-clause-ok : goal.returns-clause-ok
returns-clause-ok g c =
    let low = c.loop-prb.auto.prb in
    let most = c.loop-prb.auto.prb-end (omega arith) in
    let past = c.loop-prb-test.false in
    subst (λ n. HasPut missing_related missing_line_of g.W.LineSink.grew (each c.args.run.now.prb n (missing_prb_at (at_symbol c.args.at.now) c.args.run.now)) c.args.lines.now c.args.out.now c.loop-prb.lines c.loop-prb.out)
    {x = c.loop-prb.prb - c.args.run.now.prb} {y = c.args.run.now.count} (omega (arith, low, most, past)) c.loop-prb.invariant.put
