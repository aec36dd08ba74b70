-- Record by record.
use Rattle.std.proofs.Common.{sym, ap, ◌∙◌, rules}
use Rattle.why_lines.specs.Starts.{IsGivenRecord, with_starts}
use Rattle.why_lines.proofs.StartLemmas.{all_found, holds_at, none_found, one_more}
use Rattle.why_lines.proofs.starts.starts_once.Goals as goal

pub loop-r-init : goal.loop-r-init
loop-r-init c = none_found c.args.endpoints.now c.args.side c.args.given.now c.new-found.result.items (search rules)

pub loop-r-preserved : goal.loop-r-preserved
loop-r-preserved c =
    one_more c.args.endpoints.now c.args.side c.args.given.now c.loop-r.r-index _ c.loop-r.found.items _ c.loop-r-test.true
    (c.in_ok-add_start.ensures ∙ sym (ap (with_starts c.loop-r.found.items) c.start_in.ensures)) c.loop-r.invariant

pub returns : goal.returns
returns c = all_found c.args.endpoints.now c.args.side c.args.given.now c.loop-r.r-index c.loop-r.found.items c.loop-r-test.false c.loop-r.invariant

pub start_in-requires : goal.start_in-requires
start_in-requires c = holds_at (IsGivenRecord c.args.endpoints.now) c.args.given.now c.loop-r.r-index _ c.loop-r-test.true c.requires.proper
