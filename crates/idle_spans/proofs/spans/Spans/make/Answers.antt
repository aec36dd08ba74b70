use Rattle.std.proofs.Common.{◌∙◌}
use Rattle.std.proofs.lemmas.List.{take_all}
use Rattle.idle_spans.proofs.TableLemmas.{rows_apart}
use Rattle.idle_spans.proofs.spans.Spans.make.Goals as goal

pub invariant_of-result : goal.invariant_of-result
invariant_of-result c = rows_apart c.loop-endpoint.rows.items c.args.config.now c.requires.config
    (c.loop-endpoint.invariant.endpoints ∙ take_all _ c.as_slice-endpoints.result.now c.loop-endpoint-test.false ∙ c.as_slice-endpoints.ensures.items)
