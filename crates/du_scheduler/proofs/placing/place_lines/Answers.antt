-- Line by line.
use Rattle.std.proofs.Common.{ℕ, ◌≤◌, sym, ◌∙◌, subst}
use Rattle.schedule_laws.proofs.PlacedLemmas.{follows_start, follows_more, stops_at, ends_at, placed_whole}
use Rattle.du_scheduler.proofs.placing.place_lines.Goals as goal

pub loop-index-init : goal.loop-index-init
loop-index-init c = follows_start c.args.endpoints.now c.args.lines.now c.new-placed.result.items c.new-placed.ensures.items

pub loop-index-preserved : goal.loop-index-preserved
loop-index-preserved c =
    follows_more c.args.endpoints.now c.loop-index.index c.args.lines.now c.loop-index.placed.items c.push.new.self.items c.line_at-line.result c.in-Ok.planned
    c.loop-index.invariant c.line_at-line.ensures (sym c.place.ensures ∙ c.in-Ok.is) c.in_ok-push-in-Ok.ensures.items

pub returns-in-Err-clause-lines : goal.returns-in-Err-clause-lines
returns-in-Err-clause-lines c =
    (placed_whole c.args.endpoints.now c.loop-index.index c.args.lines.now c.loop-index.placed.items _ c.loop-index.invariant
    (stops_at c.args.endpoints.now c.loop-index.index c.args.lines.now c.line_at-line.result c.in-Err.why c.line_at-line.ensures (sym c.place.ensures ∙ c.in-Err.is))).placed

pub returns-in-Err-clause-stop : goal.returns-in-Err-clause-stop
returns-in-Err-clause-stop c =
    (placed_whole c.args.endpoints.now c.loop-index.index c.args.lines.now c.loop-index.placed.items _ c.loop-index.invariant
    (stops_at c.args.endpoints.now c.loop-index.index c.args.lines.now c.line_at-line.result c.in-Err.why c.line_at-line.ensures (sym c.place.ensures ∙ c.in-Err.is))).stop

pub returns-clause-lines : goal.returns-clause-lines
returns-clause-lines c =
    (placed_whole c.args.endpoints.now c.loop-index.index c.args.lines.now c.loop-index.placed.items _ c.loop-index.invariant
    (ends_at c.args.endpoints.now c.loop-index.index c.args.lines.now (subst (λ (n : ℕ). n ≤ c.loop-index.index) c.len-index-end.ensures c.loop-index-test.false))).placed

pub returns-clause-stop : goal.returns-clause-stop
returns-clause-stop c =
    (placed_whole c.args.endpoints.now c.loop-index.index c.args.lines.now c.loop-index.placed.items _ c.loop-index.invariant
    (ends_at c.args.endpoints.now c.loop-index.index c.args.lines.now (subst (λ (n : ℕ). n ≤ c.loop-index.index) c.len-index-end.ensures c.loop-index-test.false))).stop
