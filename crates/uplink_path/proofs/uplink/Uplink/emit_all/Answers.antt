use Rattle.std.proofs.Common.{refl, ◌∙◌}
use Rattle.fh_base.specs.Lists.{onto}
use Rattle.uplink_path.specs.Emitting.{given_too}
use Rattle.uplink_path.proofs.EmitLemmas.{all_taken, can_pack, can_take, fewer, none_taken, on_ok, one_taken, stopped_at, stopped_last}
use Rattle.uplink_path.proofs.uplink.Uplink.emit_all.Goals as goal
use Rattle.fh_base.proofs.CommonLemmas.{on_err}

pub loop-job-init : goal.loop-job-init
loop-job-init g c = record {
  antenna = refl;
  taken = λ k h ms n stands. none_taken _ k h ms c.args.self.now c.args.ru.now _ (g.L.Link.sent c.args.link.now) refl n stands;
}

pub pack-requires-clause-some : goal.pack-requires-clause-some
pack-requires-clause-some g c =
    let r = c.requires in
    let t = c.loop-job.invariant.taken r.config r.history r.messages r.numbered r.stands in
    can_pack _ r.config r.history r.messages c.loop-job.self c.loop-job.ru c.loop-job.opened c.in-Some.job (g.L.Link.sent c.args.link.now) (g.L.Link.sent c.loop-job.link) t
    (c.in-Some.ensures.proper r.config (given_too r.history t.given) t.stands)

pub returns-in_err-pack-clause-err : goal.returns-in_err-pack-clause-err
returns-in_err-pack-clause-err g c k h ms n stands =
    let t = c.loop-job.invariant.taken k h ms n stands in
    let can = can_take k (given_too h t.given) c.loop-job.ru c.in-Some.job t.stands (c.in-Some.ensures.proper k (given_too h t.given) t.stands) in
    on_err c.from_residual.result _
    (stopped_at _ k h ms c.loop-job.self c.loop-job.ru c.next_uplink.new.self c.loop-job.opened c.in-Some.job
    (g.L.Link.sent c.args.link.now) (g.L.Link.sent c.loop-job.link) (g.L.Link.sent c.pack.new.link) t (c.in-Some.ensures.given k (given_too h t.given) t.stands)
    (λ antenna said. c.in_err-pack.ensures.err k antenna (onto ms t.closed) t.message (rw c.loop-job.invariant.antenna said) t.numbered t.is_open can))

pub loop-job-smaller : goal.loop-job-smaller
loop-job-smaller g c =
    let r = c.requires in
    let t = c.loop-job.invariant.taken r.config r.history r.messages r.numbered r.stands in
    fewer r.config (given_too r.history t.given) c.loop-job.ru c.next_uplink.new.self c.in-Some.job t.stands (c.in-Some.ensures.given r.config (given_too r.history t.given) t.stands)

pub loop-job-preserved : goal.loop-job-preserved
loop-job-preserved g c = record {
  antenna = c.pack.ensures.antenna ∙ c.loop-job.invariant.antenna;
  taken = λ k h ms n stands.
      let t = c.loop-job.invariant.taken k h ms n stands in
      let can = can_take k (given_too h t.given) c.loop-job.ru c.in-Some.job t.stands (c.in-Some.ensures.proper k (given_too h t.given) t.stands) in
      one_taken _ _ k h ms c.loop-job.self c.pack.new.self c.loop-job.ru c.next_uplink.new.self c.loop-job.opened c.in_ok-pack.field-0 c.in-Some.job
      (g.L.Link.sent c.args.link.now) (g.L.Link.sent c.loop-job.link) (g.L.Link.sent c.pack.new.link) t (c.in-Some.ensures.given k (given_too h t.given) t.stands)
      (c.in_ok-pack.ensures.took k (onto ms t.closed) t.message t.numbered t.is_open can) (λ antenna said. rw c.loop-job.invariant.antenna said);
}

pub close-requires-clause-some : goal.close-requires-clause-some
close-requires-clause-some g c =
    let r = c.requires in
    let t = c.loop-job.invariant.taken r.config r.history r.messages r.numbered r.stands in
    (r.config, onto r.messages t.closed, t.message, t.numbered, t.is_open)

pub returns-clause-sent : goal.returns-clause-sent
returns-clause-sent g c k h ms n stands =
    let t = c.loop-job.invariant.taken k h ms n stands in
    all_taken c.close.result _ k h ms c.loop-job.self c.close.new.self c.loop-job.ru c.next_uplink.new.self c.loop-job.opened
    (g.L.Link.sent c.args.link.now) (g.L.Link.sent c.loop-job.link) (g.L.Link.sent c.close.new.link) t (c.in_default.ensures.none k (given_too h t.given) t.stands) c.in_default.ensures.same
    (λ antenna said. c.close.ensures.sent k antenna (onto ms t.closed) t.message (rw c.loop-job.invariant.antenna said) t.numbered t.is_open)
    (c.close.ensures.numbered k (onto ms t.closed) t.message t.numbered t.is_open)

pub returns-clause-given : goal.returns-clause-given
returns-clause-given g c =
    let r = c.requires in
    let t = c.loop-job.invariant.taken r.config r.history r.messages r.numbered r.stands in
    on_ok c.close.result _ (c.in_default.ensures.ready r.config (given_too r.history t.given) t.stands)

pub returns-clause-err : goal.returns-clause-err
returns-clause-err g c k h ms n stands =
    let t = c.loop-job.invariant.taken k h ms n stands in
    stopped_last c.close.result _ k h ms c.loop-job.self c.loop-job.ru c.next_uplink.new.self c.loop-job.opened
    (g.L.Link.sent c.args.link.now) (g.L.Link.sent c.loop-job.link) (g.L.Link.sent c.close.new.link) t (c.in_default.ensures.none k (given_too h t.given) t.stands) c.in_default.ensures.same
    (λ antenna said. c.close.ensures.err k antenna (onto ms t.closed) t.message (rw c.loop-job.invariant.antenna said) t.numbered t.is_open)
