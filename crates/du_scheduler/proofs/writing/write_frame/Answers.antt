use Rattle.std.proofs.Common.{sym, ◌∙◌}
use Rattle.du_scheduler.proofs.FrameLemmas.{command_is, data_here, data_is, few_here, line_good, within}
use Rattle.sent_frames.specs.Sources.{source_of}
use Rattle.du_scheduler.proofs.writing.write_frame.Goals as goal

pub bounds-lines-parts : goal.bounds-lines-parts
bounds-lines-parts g c = let r = c.requires.frame in within r.c r.plan r.f c.args.lines.now c.args.parts.now c.args.turn.now c.args.fragment r.is

pub command_frame-requires-clause-line : goal.command_frame-requires-clause-line
command_frame-requires-clause-line g c =
    let r = c.requires.frame in (line_good r.c r.plan r.f c.args.lines.now c.args.parts.now c.args.turn.now c.args.fragment r.is c.index-lines-parts.result c.index-lines-parts.is).0

pub command_frame-requires-clause-endpoint : goal.command_frame-requires-clause-endpoint
command_frame-requires-clause-endpoint g c =
    let r = c.requires.frame in (line_good r.c r.plan r.f c.args.lines.now c.args.parts.now c.args.turn.now c.args.fragment r.is c.index-lines-parts.result c.index-lines-parts.is).1

pub write_data-requires-clause-data : goal.write_data-requires-clause-data
write_data-requires-clause-data g c =
    let r = c.requires.frame in
    (r.f.message, data_here r.c r.plan r.f c.args.lines.now c.args.parts.now c.args.turn.now c.args.fragment r.is (sym c.is_command.ensures ∙ c.if-is_command.false), few_here r.c r.plan r.f c.args.lines.now c.args.parts.now c.args.turn.now c.args.fragment r.is (sym c.is_command.ensures ∙ c.if-is_command.false))

pub returns-then-is_command-clause-bytes : goal.returns-then-is_command-clause-bytes
returns-then-is_command-clause-bytes g c k plan f h answer by =
    command_is k plan f c.args.lines.now c.args.parts.now c.args.turn.now c.args.fragment h (source_of k.endpoints answer) c.index-lines-parts.result _ c.index-lines-parts.is (sym c.is_command.ensures ∙ c.if-is_command.true) c.command_frame.ensures.bytes

pub returns-else-is_command-clause-bytes : goal.returns-else-is_command-clause-bytes
returns-else-is_command-clause-bytes g c k plan f h answer by =
    let at = data_here k plan f c.args.lines.now c.args.parts.now c.args.turn.now c.args.fragment h (sym c.is_command.ensures ∙ c.if-is_command.false) in
    data_is k plan f c.args.lines.now c.args.parts.now c.args.turn.now c.args.fragment h answer _ (sym c.is_command.ensures ∙ c.if-is_command.false) (λ a. c.write_data.ensures.bytes f.message at answer by _ a)
