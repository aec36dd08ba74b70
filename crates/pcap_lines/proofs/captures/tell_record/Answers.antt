use Rattle.std.proofs.Common.{◌≡◌, ◌++◌, List, ℕ, length, subst, pos, ◌*ℤ◌}
use Rattle.std.proofs.lemmas.Result.{on_ok_weaker, on_err_weaker}
use Rattle.fh_base.specs.Told.{WritesPart}
use Rattle.capture_records.specs.Records.{head_bytes}
use Rattle.pcap_lines.proofs.Telling.{carried_pair, part_pair}
use Rattle.pcap_lines.proofs.captures.tell_record.Goals as goal
use Rattle.fh_base.proofs.OwedTelling.{anyhow}
use Rattle.fh_base.proofs.Parts.{part_before}
use Rattle.fh_base.specs.declared.nanoseconds.TheConstants.{NANOSECOND}

pub returns-in_err-tell-clause-part : goal.returns-in_err-tell-clause-part
returns-in_err-tell-clause-part g c =
    let f = c.args.f.now in
    let is : c.head_of-head.result ≡ head_bytes f.side (f.at *ℤ pos NANOSECOND) (length f.frame.now) = c.head_of-head.ensures in
    anyhow c.from_residual.result
    (part_before _ _ _ (head_bytes f.side (f.at *ℤ pos NANOSECOND) (length f.frame.now)) f.frame.now
    (subst (λ (t : List ℕ). WritesPart (g.K.Sink.written c.args.out.now) (g.K.Sink.written c.tell.new.sink) (c.args.owed.now ++ t)) is c.in_err-tell.ensures.part))

pub returns-clause-carried : goal.returns-clause-carried
returns-clause-carried g c =
    let f = c.args.f.now in
    let is : c.head_of-head.result ≡ head_bytes f.side (f.at *ℤ pos NANOSECOND) (length f.frame.now) = c.head_of-head.ensures in
    on_ok_weaker c.tell-2.result (λ h. carried_pair _ _ _ _ _ _ _ _ f.frame.now is c.in_ok-tell.ensures.carried h) c.tell-2.ensures.carried

pub returns-clause-part : goal.returns-clause-part
returns-clause-part g c =
    let f = c.args.f.now in
    let is : c.head_of-head.result ≡ head_bytes f.side (f.at *ℤ pos NANOSECOND) (length f.frame.now) = c.head_of-head.ensures in
    on_err_weaker c.tell-2.result (λ h. part_pair _ _ _ _ _ _ _ f.frame.now is c.in_ok-tell.ensures.carried h) c.tell-2.ensures.part
