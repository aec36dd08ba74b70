use Rattle.std.proofs.Common.{◌≡◌, ◌++◌, ◌∷◌, [], ap, ap₂, ◌∙◌}
use Rattle.std.proofs.lemmas.Result.{on_ok_weaker, on_err_weaker}
use Rattle.ecpri_frames.specs.Gathering.{whole_messages}
use Rattle.ecpri_frames.specs.Messages.{pdu}
use Rattle.capture_records.specs.Records.{arrived_of}
use Rattle.capture_show.specs.Messages.{messages_lines, broken_lines, record_lines}
use Rattle.capture_show.specs.Printing.{state_of}
use Rattle.capture_show.proofs.Telling.{told_more, told_as, stopped_behind, stopped_before, stopped_as}
use Rattle.capture_show.proofs.capture_lines.tell_record.Goals as goal
use Rattle.fh_base.proofs.OwedTelling.{anyhow}

pub returns-in_err-tell-clause-part : goal.returns-in_err-tell-clause-part
returns-in_err-tell-clause-part g c =
    let w = g.K.Sink.written in
    let s = state_of c.args.printer.now (w c.args.out.now) in
    let v = w c.tell.new.out in
    let first = c.frame_line.result ∷ [] in
    let ms = messages_lines (whole_messages c.args.entry.now.frame.now) in
    let br = broken_lines (pdu c.args.entry.now.frame.now).refusal in
    let all : (c.frame_line.result ∷ ms) ++ br ≡ record_lines c.args.number (arrived_of c.args.entry.now) = ap (λ l. (l ∷ ms) ++ br) c.frame_line.ensures in
    anyhow c.from_residual.result
    (stopped_as s v (first ++ ms ++ br) _ all (stopped_before s v (first ++ ms) br (stopped_before s v first ms c.in_err-tell.ensures.part)))

pub returns-in_err-tell_messages-clause-part : goal.returns-in_err-tell_messages-clause-part
returns-in_err-tell_messages-clause-part g c =
    let w = g.K.Sink.written in
    let s = state_of c.args.printer.now (w c.args.out.now) in
    let t = state_of c.tell.new.self (w c.tell.new.out) in
    let first = c.frame_line.result ∷ [] in
    let ms = messages_lines (whole_messages c.args.entry.now.frame.now) in
    let v = w c.tell_messages.new.out in
    let br = broken_lines (pdu c.args.entry.now.frame.now).refusal in
    let all : (c.frame_line.result ∷ ms) ++ br ≡ record_lines c.args.number (arrived_of c.args.entry.now) = ap (λ l. (l ∷ ms) ++ br) c.frame_line.ensures in
    anyhow c.from_residual-in_err-tell_messages.result
    (stopped_as s v (first ++ ms ++ br) _ all
    (stopped_before s v (first ++ ms) br (stopped_behind s t v first ms c.in_ok-tell.ensures.told c.in_err-tell_messages.ensures.part)))

pub returns-clause-told : goal.returns-clause-told
returns-clause-told g c =
    let w = g.K.Sink.written in
    let s = state_of c.args.printer.now (w c.args.out.now) in
    let t = state_of c.tell.new.self (w c.tell.new.out) in
    let first = c.frame_line.result ∷ [] in
    let ms = messages_lines (whole_messages c.args.entry.now.frame.now) in
    let u = state_of c.tell_messages.new.printer (w c.tell_messages.new.out) in
    let br = broken_lines c.refusal.result in
    let fault = c.refusal.ensures ∙ ap (λ f. (pdu f).refusal) c.messages.ensures.frame in
    let all : (c.frame_line.result ∷ ms) ++ br ≡ record_lines c.args.number (arrived_of c.args.entry.now)
    = ap₂ (λ l r. (l ∷ ms) ++ broken_lines r) c.frame_line.ensures fault in
    let both = told_more s t u first ms c.in_ok-tell.ensures.told c.in_ok-tell_messages.ensures.told in
    let x = state_of c.tell_fault.new.printer (w c.tell_fault.new.out) in
    on_ok_weaker c.tell_fault.result (λ h. told_as s x (first ++ ms ++ br) _ all (told_more s u x (first ++ ms) br both h)) c.tell_fault.ensures.told

pub returns-clause-part : goal.returns-clause-part
returns-clause-part g c =
    let w = g.K.Sink.written in
    let s = state_of c.args.printer.now (w c.args.out.now) in
    let t = state_of c.tell.new.self (w c.tell.new.out) in
    let first = c.frame_line.result ∷ [] in
    let ms = messages_lines (whole_messages c.args.entry.now.frame.now) in
    let u = state_of c.tell_messages.new.printer (w c.tell_messages.new.out) in
    let br = broken_lines c.refusal.result in
    let fault = c.refusal.ensures ∙ ap (λ f. (pdu f).refusal) c.messages.ensures.frame in
    let all : (c.frame_line.result ∷ ms) ++ br ≡ record_lines c.args.number (arrived_of c.args.entry.now)
    = ap₂ (λ l r. (l ∷ ms) ++ broken_lines r) c.frame_line.ensures fault in
    let both = told_more s t u first ms c.in_ok-tell.ensures.told c.in_ok-tell_messages.ensures.told in
    let v = w c.tell_fault.new.out in
    on_err_weaker c.tell_fault.result (λ h. stopped_as s v (first ++ ms ++ br) _ all (stopped_behind s u v (first ++ ms) br both h)) c.tell_fault.ensures.part
