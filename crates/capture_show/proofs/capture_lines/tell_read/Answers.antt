use Rattle.std.proofs.Common.{◌≡◌, ◌++◌, ◌∷◌, [], Ok, ap, ap₂, sym, ◌∙◌}
use Rattle.std.proofs.lemmas.Result.{on_ok_weaker, on_err_weaker}
use Rattle.cplane_sections.specs.Tests.{checked}
use Rattle.capture_show.specs.Messages.{widest, command_line, command_read, section_lines}
use Rattle.capture_show.specs.Printing.{state_of}
use Rattle.capture_show.proofs.Telling.{told_more, told_as, stopped_behind, stopped_before, stopped_as}
use Rattle.capture_show.proofs.capture_lines.tell_read.Goals as goal
use Rattle.fh_base.proofs.OwedTelling.{anyhow}
use Rattle.ecpri_fragments.specs.Sequence.{id_of, sequence_of, application}

pub returns-in_err-tell-clause-part : goal.returns-in_err-tell-clause-part
returns-in_err-tell-clause-part g c =
    let w = g.K.Sink.written in
    let s = state_of c.args.printer.now (w c.args.out.now) in
    let payload = c.args.payload.now in
    let head = c.in-Ok.head in
    let first = c.command_line-line.result ∷ [] in
    let ss = section_lines head c.application-bytes.result.now in
    let ok : checked widest (application payload) ≡ Ok head = ap (checked widest) (sym c.application-bytes.ensures) ∙ sym c.check.ensures.value ∙ c.in-Ok.is in
    let line : c.command_line-line.result ≡ command_line c.args.place (id_of payload) (sequence_of payload) head
    = c.command_line-line.ensures ∙ ap₂ (λ i s. command_line c.args.place i s head) c.id_at.ensures c.sequence_at.ensures in
    let all : first ++ ss ≡ command_read c.args.place payload (checked widest (application payload))
    = ap₂ (λ l b. l ∷ section_lines head b) line c.application-bytes.ensures ∙ ap (command_read c.args.place payload) (sym ok) in
    let v = w c.tell-2.new.out in
    anyhow c.from_residual.result (stopped_as s v (first ++ ss) _ all (stopped_before s v first ss c.in_err-tell.ensures.part))

pub returns-clause-told : goal.returns-clause-told
returns-clause-told g c =
    let w = g.K.Sink.written in
    let s = state_of c.args.printer.now (w c.args.out.now) in
    let payload = c.args.payload.now in
    let head = c.in-Ok.head in
    let first = c.command_line-line.result ∷ [] in
    let ss = section_lines head c.application-bytes.result.now in
    let ok : checked widest (application payload) ≡ Ok head = ap (checked widest) (sym c.application-bytes.ensures) ∙ sym c.check.ensures.value ∙ c.in-Ok.is in
    let line : c.command_line-line.result ≡ command_line c.args.place (id_of payload) (sequence_of payload) head
    = c.command_line-line.ensures ∙ ap₂ (λ i s. command_line c.args.place i s head) c.id_at.ensures c.sequence_at.ensures in
    let all : first ++ ss ≡ command_read c.args.place payload (checked widest (application payload))
    = ap₂ (λ l b. l ∷ section_lines head b) line c.application-bytes.ensures ∙ ap (command_read c.args.place payload) (sym ok) in
    let t = state_of c.tell-2.new.self (w c.tell-2.new.out) in
    let u = state_of c.tell_sections.new.printer (w c.tell_sections.new.out) in
    on_ok_weaker c.tell_sections.result (λ h. told_as s u (first ++ ss) _ all (told_more s t u first ss c.in_ok-tell.ensures.told h)) c.tell_sections.ensures.told

pub returns-clause-part : goal.returns-clause-part
returns-clause-part g c =
    let w = g.K.Sink.written in
    let s = state_of c.args.printer.now (w c.args.out.now) in
    let payload = c.args.payload.now in
    let head = c.in-Ok.head in
    let first = c.command_line-line.result ∷ [] in
    let ss = section_lines head c.application-bytes.result.now in
    let ok : checked widest (application payload) ≡ Ok head = ap (checked widest) (sym c.application-bytes.ensures) ∙ sym c.check.ensures.value ∙ c.in-Ok.is in
    let line : c.command_line-line.result ≡ command_line c.args.place (id_of payload) (sequence_of payload) head
    = c.command_line-line.ensures ∙ ap₂ (λ i s. command_line c.args.place i s head) c.id_at.ensures c.sequence_at.ensures in
    let all : first ++ ss ≡ command_read c.args.place payload (checked widest (application payload))
    = ap₂ (λ l b. l ∷ section_lines head b) line c.application-bytes.ensures ∙ ap (command_read c.args.place payload) (sym ok) in
    let t = state_of c.tell-2.new.self (w c.tell-2.new.out) in
    let v = w c.tell_sections.new.out in
    on_err_weaker c.tell_sections.result (λ h. stopped_as s v (first ++ ss) _ all (stopped_behind s t v first ss c.in_ok-tell.ensures.told h)) c.tell_sections.ensures.part
