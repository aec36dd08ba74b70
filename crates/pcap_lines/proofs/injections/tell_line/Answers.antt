use Rattle.std.proofs.Common.{◌≡◌, ◌++◌, ◌∙◌}
use Rattle.std.specs.Prelude.{codes}
use Rattle.std.proofs.lemmas.Result.{on_ok_weaker, on_err_weaker}
use Rattle.fh_document.specs.LineWords.{frame_word}
use Rattle.pcap_lines.specs.Texts.{opening_text}
use Rattle.pcap_lines.proofs.Telling.{part_named, part_pair, carried_pair}
use Rattle.pcap_lines.proofs.injections.tell_line.Goals as goal
use Rattle.fh_base.proofs.OwedTelling.{anyhow}

pub returns-in_err-tell-clause-part : goal.returns-in_err-tell-clause-part
returns-in_err-tell-clause-part g c =
    let f = c.args.f.now in
    let is : c.as_slice.result.now ≡ opening_text f.side f.at = c.as_slice.ensures.bytes ∙ c.opening.ensures in
    anyhow c.from_residual.result (part_named _ _ _ _ (opening_text f.side f.at) (frame_word f.frame.now ++ codes "\n") is c.in_err-tell.ensures.part)

pub returns-clause-carried : goal.returns-clause-carried
returns-clause-carried g c =
    let f = c.args.f.now in
    let is : c.as_slice.result.now ≡ opening_text f.side f.at = c.as_slice.ensures.bytes ∙ c.opening.ensures in
    on_ok_weaker c.tell_frame.result
    (λ h. carried_pair _ _ _ _ _ _ _ (opening_text f.side f.at) (frame_word f.frame.now ++ codes "\n") is c.in_ok-tell.ensures.carried h)
    c.tell_frame.ensures.carried

pub returns-clause-part : goal.returns-clause-part
returns-clause-part g c =
    let f = c.args.f.now in
    let is : c.as_slice.result.now ≡ opening_text f.side f.at = c.as_slice.ensures.bytes ∙ c.opening.ensures in
    on_err_weaker c.tell_frame.result
    (λ h. part_pair _ _ _ _ _ _ (opening_text f.side f.at) (frame_word f.frame.now ++ codes "\n") is c.in_ok-tell.ensures.carried h)
    c.tell_frame.ensures.part
