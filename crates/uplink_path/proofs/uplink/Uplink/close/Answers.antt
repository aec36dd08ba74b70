use Rattle.std.proofs.Common.{ap, subst, List, ◌++◌, ◌∙◌}
use Rattle.std.proofs.lemmas.Result.{on_err_weaker, on_ok_weaker}
use Rattle.air_source.specs.declared.links.LinkFrame.{LinkFrame}
use Rattle.unit_model.specs.declared.jobs.UplinkJob.{UplinkJob as SpecJob}
use Rattle.plan_model.specs.Packs.{Message}
use Rattle.uplink_path.specs.Emitting.{AreNumbered}
use Rattle.uplink_path.specs.Sending.{SentSome}
use Rattle.uplink_path.proofs.CloseLemmas.{all_closed, all_numbered, none_is, none_numbered, none_sent, open_is}
use Rattle.uplink_path.proofs.uplink.Uplink.close.Goals as goal

pub send-requires-clause-some : goal.send-requires-clause-some
send-requires-clause-some g c =
    let (k, ms, om, n, is) = c.requires.some in
    let o = open_is k c.args.opened c.in-Some.message om c.in-Some.is is in
    (k, ms, o.message, n, o.packed, o.proper)

pub returns-in-Some-clause-sent : goal.returns-in-Some-clause-sent
returns-in-Some-clause-sent g c k answer ms om said n is =
    let o = open_is k c.args.opened c.in-Some.message om c.in-Some.is is in
    on_ok_weaker c.send.result (λ sent. sent ∙ ap (λ (l : List LinkFrame). g.L.Link.sent c.args.link.now ++ l) (all_closed k answer ms c.in-Some.message om o))
    (c.send.ensures.sent k answer ms o.message said n o.packed o.proper)

pub returns-in-Some-clause-numbered : goal.returns-in-Some-clause-numbered
returns-in-Some-clause-numbered g c k ms om n is =
    let o = open_is k c.args.opened c.in-Some.message om c.in-Some.is is in
    on_ok_weaker c.send.result (λ now. subst (λ (l : List (Message SpecJob)). AreNumbered k c.send.new.self l) (all_numbered k ms c.in-Some.message om o) now)
    (c.send.ensures.numbered k ms o.message n o.packed o.proper)

pub returns-in-Some-clause-err : goal.returns-in-Some-clause-err
returns-in-Some-clause-err g c k answer ms om said n is =
    let o = open_is k c.args.opened c.in-Some.message om c.in-Some.is is in
    on_err_weaker c.send.result (λ some. subst (λ (l : List LinkFrame). SentSome l (g.L.Link.sent c.args.link.now) (g.L.Link.sent c.send.new.link)) (all_closed k answer ms c.in-Some.message om o) some)
    (c.send.ensures.err k answer ms o.message said n o.packed o.proper)

pub returns-in-None-clause-sent : goal.returns-in-None-clause-sent
returns-in-None-clause-sent g c k answer ms om said n is =
    none_sent k answer ms om (g.L.Link.sent c.args.link.now) (none_is k c.args.opened om c.in-None.is is)

pub returns-in-None-clause-numbered : goal.returns-in-None-clause-numbered
returns-in-None-clause-numbered g c k ms om n is =
    subst (λ (l : List (Message SpecJob)). AreNumbered k c.args.self.now l) (none_numbered k ms om (none_is k c.args.opened om c.in-None.is is)) n
