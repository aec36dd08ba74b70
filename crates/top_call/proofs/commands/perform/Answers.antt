use Rattle.std.proofs.Common.{sym, subst}
use Rattle.command_words.specs.declared.commands.Command.{Command}
use Rattle.top_call.specs.Answers.{answer_of}
use Rattle.top_call.specs.Run.{Performs}
use Rattle.top_call.proofs.commands.perform.Goals as goal

pub returns-in-Generate-clause-does : goal.returns-in-Generate-clause-does
unfolding answer_of
returns-in-Generate-clause-does g c =
    let w = g.K.Sink.written in
    let f = g.K.Sink.faults in
    subst
    (λ (command : Command). Performs (answer_of command c.args.bytes.now) (w c.args.out.now) (w c.write_document.new.out) (f c.args.out.now) (f c.write_document.new.out) c.write_document.result)
    (sym c.in-Generate.is) c.write_document.ensures
