use Rattle.std.proofs.Common.{rules, ◌∙◌}
use Rattle.std.proofs.lemmas.Result.{on_ok_weaker, on_err_weaker}
use Rattle.capture_show.specs.Messages.{capture_lines}
use Rattle.capture_show.specs.Printing.{state_of}
use Rattle.capture_show.proofs.Whole.{open_part, lines_part, close_front, close_part, close_all}
use Rattle.fh_base.proofs.OwedTelling.{anyhow}
use Rattle.fh_base.proofs.Parts.{part_front}
use Rattle.capture_show.proofs.showing.show.Goals as goal

pub returns-in_err-tell_records-clause-front : goal.returns-in_err-tell_records-clause-front
returns-in_err-tell_records-clause-front g c =
    let s = state_of c.open.new.self (g.K.Sink.written c.open.new.out) in
    part_front _ _ _
    (lines_part s _ _ c.new-printer.result.owed c.args.json c.new-printer.result.json (capture_lines c.args.bytes.now) c.new-printer.ensures.owed c.new-printer.ensures.json
    (c.in_ok-open.ensures.same.0 ∙ c.new-printer.ensures.json) (c.in_ok-open.ensures.same.1 ∙ c.new-printer.ensures.later) c.in_ok-open.ensures.carried c.in_err-tell_records.ensures.part)

pub returns-in_err-tell_records-clause-part : goal.returns-in_err-tell_records-clause-part
returns-in_err-tell_records-clause-part g c =
    let s = state_of c.open.new.self (g.K.Sink.written c.open.new.out) in
    λ _.
    anyhow c.from_residual-in_err-tell_records.result
    (lines_part s _ _ c.new-printer.result.owed c.args.json c.new-printer.result.json (capture_lines c.args.bytes.now) c.new-printer.ensures.owed c.new-printer.ensures.json
    (c.in_ok-open.ensures.same.0 ∙ c.new-printer.ensures.json) (c.in_ok-open.ensures.same.1 ∙ c.new-printer.ensures.later) c.in_ok-open.ensures.carried c.in_err-tell_records.ensures.part)

pub returns-clause-ok : goal.returns-clause-ok
returns-clause-ok g c =
    let s = state_of c.open.new.self (g.K.Sink.written c.open.new.out) in
    let t = state_of c.tell_records.new.printer (g.K.Sink.written c.tell_records.new.out) in
    let told = on_ok_weaker c.close.result
    (λ h. close_all s t _ _ c.new-printer.result.owed c.args.json c.new-printer.result.json (capture_lines c.args.bytes.now) c.new-printer.ensures.owed c.new-printer.ensures.json
    (c.in_ok-open.ensures.same.0 ∙ c.new-printer.ensures.json) (c.in_ok-open.ensures.same.1 ∙ c.new-printer.ensures.later) c.in_ok-open.ensures.carried c.in_ok-tell_records.ensures.told h)
    c.close.ensures.all in
    search (rules, told)

pub returns-clause-front : goal.returns-clause-front
returns-clause-front g c =
    let s = state_of c.open.new.self (g.K.Sink.written c.open.new.out) in
    let t = state_of c.tell_records.new.printer (g.K.Sink.written c.tell_records.new.out) in
    close_front s t _ _ c.new-printer.result.owed c.args.json c.new-printer.result.json (capture_lines c.args.bytes.now) c.new-printer.ensures.owed c.new-printer.ensures.json
    (c.in_ok-open.ensures.same.0 ∙ c.new-printer.ensures.json) (c.in_ok-open.ensures.same.1 ∙ c.new-printer.ensures.later) c.in_ok-open.ensures.carried c.in_ok-tell_records.ensures.told
    c.close.ensures.front

pub returns-clause-part : goal.returns-clause-part
returns-clause-part g c =
    let s = state_of c.open.new.self (g.K.Sink.written c.open.new.out) in
    let t = state_of c.tell_records.new.printer (g.K.Sink.written c.tell_records.new.out) in
    let part = on_err_weaker c.close.result
    (λ h. close_part s t _ _ c.new-printer.result.owed c.args.json c.new-printer.result.json (capture_lines c.args.bytes.now) c.new-printer.ensures.owed c.new-printer.ensures.json
    (c.in_ok-open.ensures.same.0 ∙ c.new-printer.ensures.json) (c.in_ok-open.ensures.same.1 ∙ c.new-printer.ensures.later) c.in_ok-open.ensures.carried c.in_ok-tell_records.ensures.told h)
    c.close.ensures.part in
    λ _. search (rules, part)

pub returns-in_err-open-clause-front : goal.returns-in_err-open-clause-front
returns-in_err-open-clause-front g c =
    part_front _ _ _
    (open_part _ _ c.new-printer.result.owed c.args.json c.new-printer.result.json (capture_lines c.args.bytes.now) c.new-printer.ensures.owed c.new-printer.ensures.json c.in_err-open.ensures.part)

pub returns-in_err-open-clause-part : goal.returns-in_err-open-clause-part
returns-in_err-open-clause-part g c =
    λ _.
    anyhow c.from_residual.result
    (open_part _ _ c.new-printer.result.owed c.args.json c.new-printer.result.json (capture_lines c.args.bytes.now) c.new-printer.ensures.owed c.new-printer.ensures.json c.in_err-open.ensures.part)
