use Rattle.std.proofs.Common.{◌≡◌, ℕ, List, length, take, subst, ap, ◌∙◌, arith}
use Rattle.std.specs.List.{flat_map}
use Rattle.std.proofs.lemmas.List.{take_all}
use Rattle.fh_base.specs.Owed.{Carried}
use Rattle.fh_base.proofs.OwedTelling.{anyhow, carried_one_more, cut_at}
use Rattle.window_config.specs.declared.endpoints.EndpointConfig.{EndpointConfig}
use Rattle.idle_text.specs.Text.{endpoint_text}
use Rattle.idle_text.proofs.TableLemmas.{table_at}
use Rattle.idle_text.proofs.endpoints.tell_endpoints.Goals as goal

pub tell_endpoint-requires-clause-stands : goal.tell_endpoint-requires-clause-stands
tell_endpoint-requires-clause-stands g c =
    let s = c.requires.stands in
    (s.first, s.last, s.cells, table_at c.args.listing.now.spans.now s.config c.args.endpoints.now c.loop-ep.ep c.index-endpoints-ep.result s.first s.last s.cells s.same s.stands c.loop-ep-test.true c.index-endpoints-ep.is)

pub returns-in_err-tell_endpoint-clause-front : goal.returns-in_err-tell_endpoint-clause-front
returns-in_err-tell_endpoint-clause-front g c config first last cells same stands =
    let e = c.index-endpoints-ep in
    let t = table_at c.args.listing.now.spans.now config c.args.endpoints.now c.loop-ep.ep e.result first last cells same stands c.loop-ep-test.true e.is in
    anyhow c.from_residual.result
    (cut_at (endpoint_text first last cells c.args.listing.now.min c.args.listing.now.lines.now) c.args.endpoints.now c.loop-ep.ep e.result e.result _ _ _ _ _ c.loop-ep-test.true e.is
    (c.loop-ep.invariant.carried config first last cells same stands) (c.in_err-tell_endpoint.ensures.front first last cells t))

pub loop-ep-preserved : goal.loop-ep-preserved
loop-ep-preserved g c = record {
  carried = λ config first last cells same stands.
      let e = c.index-endpoints-ep in
      let t = table_at c.args.listing.now.spans.now config c.args.endpoints.now c.loop-ep.ep e.result first last cells same stands c.loop-ep-test.true e.is in
      carried_one_more (endpoint_text first last cells c.args.listing.now.min c.args.listing.now.lines.now) c.args.endpoints.now c.loop-ep.ep e.result e.result _ _ _ _ _ _ c.loop-ep-test.true e.is
      (c.loop-ep.invariant.carried config first last cells same stands) (c.in_ok-tell_endpoint.ensures.carried first last cells t);
  still = c.in_ok-tell_endpoint.ensures.cause ∙ c.loop-ep.invariant.still;
}

pub returns-clause-carried : goal.returns-clause-carried
returns-clause-carried g c config first last cells same stands =
    let past = c.loop-ep-test.false in
    subst (λ (es : List EndpointConfig). Carried (g.K.Sink.written c.args.out.now) c.args.owed.now (flat_map (endpoint_text first last cells c.args.listing.now.min c.args.listing.now.lines.now) es) (g.K.Sink.written c.loop-ep.out) c.loop-ep.owed)
    (take_all c.loop-ep.ep c.args.endpoints.now past) (c.loop-ep.invariant.carried config first last cells same stands)
