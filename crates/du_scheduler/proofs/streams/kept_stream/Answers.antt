-- The parts, their messages, and what is kept of them.
use Rattle.std.proofs.Common.{◌≤◌, ◌<◌, ◌^◌, List, length, map, ap, sym, ◌∙◌, subst}
use Rattle.std.specs.List.{AllByRecursion}
use Rattle.plan_model.specs.Streams.{parts_in}
use Rattle.du_scheduler.specs.declared.parts.TimedPart.{TimedPart}
use Rattle.du_scheduler.specs.Kept.{placed_line_of}
use Rattle.schedule_laws.proofs.TabledLemmas.{placed, has_endpoint, short, few_of}
use Rattle.du_scheduler.proofs.MessageLemmas.{lines_are}
use Rattle.du_scheduler.proofs.streams.kept_stream.Goals as goal

pub parts_of-requires : goal.parts_of-requires
parts_of-requires c = placed c.args.config.now c.args.lines.now c.requires.config c.requires.plan

pub stream_messages-requires-clause-few : goal.stream_messages-requires-clause-few
stream_messages-requires-clause-few c =
    subst (λ (xs : List TimedPart). length xs ≤ 2 ^ 24) (sym c.deref.ensures.value)
    (few_of (length c.in_ok-parts.parts.items) (length c.args.lines.now) c.in_ok-parts.ensures.few (short c.args.config.now c.args.lines.now c.requires.plan).few)

pub placed_lines-requires : goal.placed_lines-requires
placed_lines-requires c =
    subst (λ (xs : List TimedPart). AllByRecursion (λ p. p.line < 2 ^ 32) xs) (sym c.deref-2.ensures.value)
    (c.in_ok-parts.ensures.lines (2 ^ 32) (short c.args.config.now c.args.lines.now c.requires.plan).below)

pub returns-clause-parts : goal.returns-clause-parts
returns-clause-parts c = λ e at.
    let ends = has_endpoint c.args.config.now c.args.lines.now c.requires.config c.requires.plan c.args.ep e at in
    record {
      parts = c.in_ok-placed_lines.ensures ∙ ap (map placed_line_of) (c.deref-2.ensures.value ∙ c.in_ok-parts.ensures.value e ends)
          ∙ lines_are c.args.stream (parts_in c.args.lines.now c.args.stream c.args.ep e);
      begins = c.in_ok-runs.ensures.begins c.args.config.now c.args.lines.now c.args.stream c.args.ep e c.of-limits.ensures.value
          (c.deref.ensures.value ∙ c.in_ok-parts.ensures.value e ends);
    }

pub returns-clause-runs : goal.returns-clause-runs
returns-clause-runs c = λ e at.
    let ends = has_endpoint c.args.config.now c.args.lines.now c.requires.config c.requires.plan c.args.ep e at in
    c.in_ok-runs.ensures.runs c.args.config.now c.args.lines.now c.args.stream c.args.ep e c.of-limits.ensures.value
    (c.deref.ensures.value ∙ c.in_ok-parts.ensures.value e ends)
