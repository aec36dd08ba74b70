use Rattle.uplink_path.proofs.StepLemmas.{sender_sent, unit_sent}
use Rattle.schedule_tests.proofs.uplink_steps.send.Goals as goal

pub returns-clause-unit : goal.returns-clause-unit
returns-clause-unit g c =
    let k = c.args.config.now in
    let unit = c.requires.unit in
    let sender = c.requires.sender in
    unit_sent c.emit.result _ k unit.history sender.messages c.emit.new.self c.emit.new.ru (g.L.Link.sent c.args.link.now) (g.L.Link.sent c.emit.new.link)
    (c.emit.ensures.sent k unit.history sender.messages sender.numbered unit.stands) c.emit.ensures.given

pub returns-clause-sender : goal.returns-clause-sender
returns-clause-sender g c =
    let k = c.args.config.now in
    let unit = c.requires.unit in
    let sender = c.requires.sender in
    sender_sent c.emit.result _ _ _ k unit.history sender.messages c.args.uplink.now c.emit.new.self c.emit.new.ru (g.L.Link.sent c.args.link.now) (g.L.Link.sent c.emit.new.link)
    (c.emit.ensures.sent k unit.history sender.messages sender.numbered unit.stands) c.emit.ensures.antenna sender.kept
