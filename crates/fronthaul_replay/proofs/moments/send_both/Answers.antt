use Rattle.std.proofs.lemmas.Result.{on_ok_weaker}
use Rattle.air_source.specs.declared.events.Side.TheVariants.{Du, Ru}
use Rattle.document_traffic.specs.Replayed.{made_at}
use Rattle.document_traffic.specs.Settings.{compensation_of}
use Rattle.fronthaul_replay.proofs.DownLemmas.{down_goes_on}
use Rattle.fronthaul_replay.proofs.MeasureLemmas.{made_is_sent}
use Rattle.fronthaul_replay.proofs.UpLemmas.{up_goes_on}
use Rattle.fronthaul_replay.proofs.WayLemmas.{is_read}
use Rattle.fronthaul_replay.specs.Waiting.{on_way}
use Rattle.fronthaul_replay.proofs.moments.send_both.Goals as goal

pub send_made-requires-clause-document : goal.send_made-requires-clause-document
send_made-requires-clause-document g c = let s = c.requires.some in is_read s.0 Ru _ _ c.args.coming.now.downlink.way s.1.down.way

pub send_made-requires-clause-some : goal.send_made-requires-clause-some
send_made-requires-clause-some g c = let s = c.requires.some in (compensation_of s.0 Du, made_at s.0 Du c.args.tick.0, s.1.du)

pub send_made-requires-2-clause-document : goal.send_made-requires-2-clause-document
send_made-requires-2-clause-document g c = let s = c.requires.some in is_read s.0 Du _ _ c.args.coming.now.answers.way s.1.up.on_way

pub send_made-requires-2-clause-some : goal.send_made-requires-2-clause-some
send_made-requires-2-clause-some g c = let s = c.requires.some in (compensation_of s.0 Ru, made_at s.0 Ru c.args.tick.0, s.1.ru)

pub returns : goal.returns
returns g c d doc landed =
    let tick = c.args.tick.0 in
    let w = c.args.coming.now in
    let b = landed.begins in
    let down = c.in_ok-send_made.ensures.sent (on_way d Ru landed.down.way.sent) (compensation_of d Du) (made_at d Du tick) landed.down.way.stands landed.du in
    on_ok_weaker c.send_made-2.result (λ up. (
      record {
        down = down_goes_on d tick w.downlink.plan w.downlink.way c.send_made.new.way landed.down doc c.requires.begun c.requires.ended down.way;
        up = up_goes_on _ _ d tick w.answers.uplink w.answers.outbox.frames w.answers.queue w.answers.way c.send_made-2.new.way landed.up doc c.requires.begun c.requires.ended up.way;
      },
      record {
        waits = record { proper = b.proper; begins = b.begins; list = b.list; within = b.within };
        ru = made_is_sent d Ru tick c.send_made-2.new.meter c.requires.begun up.meter;
        du = made_is_sent d Du tick c.send_made.new.meter c.requires.begun down.meter;
      },
    )) (c.send_made-2.ensures.sent (on_way d Du landed.up.on_way.sent) (compensation_of d Ru) (made_at d Ru tick) landed.up.on_way.stands landed.ru)
