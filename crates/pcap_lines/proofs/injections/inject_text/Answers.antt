use Rattle.std.proofs.lemmas.Result.{on_ok_weaker, on_err_weaker}
use Rattle.pcap_frames.specs.Wanted.{wanted_frames, first_time}
use Rattle.pcap_frames.proofs.Shown.{are_shown, checked_fine}
use Rattle.pcap_lines.proofs.Read.{are_bytes, read_back}
use Rattle.pcap_lines.proofs.injections.inject_text.Goals as goal
use Rattle.fh_base.proofs.OwedTelling.{last_front, all_written, anyhow}
use Rattle.fh_base.proofs.Parts.{part_front, last_part}
use Rattle.fh_base.proofs.CommonLemmas.{first_part}

pub returns-clause-front : goal.returns-clause-front
returns-clause-front g c =
    last_front _ _ _ c.new-owed.result _ _ c.new-owed.ensures c.in_ok-tell_lines.ensures.carried c.push_out.ensures.front

pub returns-clause-part : goal.returns-clause-part
returns-clause-part g c =
    on_err_weaker c.push_out.result (λ h.
    last_part _ _ _ c.new-owed.result _ _ c.new-owed.ensures c.in_ok-tell_lines.ensures.carried h) c.push_out.ensures.part

pub returns-clause-ok : goal.returns-clause-ok
returns-clause-ok g c =
    on_ok_weaker c.push_out.result (λ is. all_written _ _ _ c.new-owed.result _ _ c.new-owed.ensures c.in_ok-tell_lines.ensures.carried is) c.push_out.ensures.all

pub returns-in_err-tell_lines-clause-read : goal.returns-in_err-tell_lines-clause-read
returns-in_err-tell_lines-clause-read g c =
    let bytes = c.args.bytes.now in
    let ws = wanted_frames c.args.whose bytes in
    read_back c.args.whose bytes c.args.start (are_bytes bytes (λ k. (c.type_inv.bytes k).fits))
    (are_shown (first_time ws) c.args.start ws (checked_fine c.args.whose bytes c.args.start c.requires.passed))

pub returns-clause-read : goal.returns-clause-read
returns-clause-read g c =
    let bytes = c.args.bytes.now in
    let ws = wanted_frames c.args.whose bytes in
    read_back c.args.whose bytes c.args.start (are_bytes bytes (λ k. (c.type_inv.bytes k).fits))
    (are_shown (first_time ws) c.args.start ws (checked_fine c.args.whose bytes c.args.start c.requires.passed))

pub returns-in_err-tell_lines-clause-front : goal.returns-in_err-tell_lines-clause-front
returns-in_err-tell_lines-clause-front g c = part_front _ _ _ (first_part _ _ _ _ c.new-owed.ensures c.in_err-tell_lines.ensures.part)

pub returns-in_err-tell_lines-clause-part : goal.returns-in_err-tell_lines-clause-part
returns-in_err-tell_lines-clause-part g c = anyhow c.from_residual.result (first_part _ _ _ _ c.new-owed.ensures c.in_err-tell_lines.ensures.part)
