-- Each once, and sorted.
use Rattle.std.proofs.Common.{ap, ◌∙◌}
use Rattle.fh_base.specs.Lists.{in_order}
use Rattle.unit_model.specs.Order.{comes_before}
use Rattle.why_lines.proofs.StartLemmas.{given_once}
use Rattle.why_lines.proofs.starts.symbols_given.Goals as goal

pub returns : goal.returns
returns c =
    c.in_ok-sort_by_start.ensures ∙ ap (in_order comes_before) c.in_ok-found.ensures
    ∙ given_once c.args.endpoints.now c.args.side c.args.given.now c.requires
