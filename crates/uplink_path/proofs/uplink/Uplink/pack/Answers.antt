use Rattle.std.proofs.Common.{arith, sym, ap, ◌∙◌}
use Rattle.plan_model.proofs.ListLemmas.{endpoint_is}
use Rattle.plan_model.proofs.PackLemmas.{length_more}
use Rattle.plan_model.specs.Packs.{parts_of}
use Rattle.plan_model.specs.declared.sizes.MessageSize.{MessageSize}
use Rattle.uplink_path.specs.declared.rules.Rules.{Rules}
use Rattle.uplink_path.proofs.CloseLemmas.{none_is, open_is}
use Rattle.uplink_path.proofs.TakeLemmas.{job_endpoint, stopped, taking, took_anew, took_first, took_with}
use Rattle.uplink_path.proofs.uplink.Uplink.pack.Goals.{in-Some+else-takes+in_ok-send, in_default}
use Rattle.uplink_path.proofs.uplink.Uplink.pack.Goals as goal
use Rattle.fh_base.proofs.CommonLemmas.{on_err}

pub push-requires-clause-room : goal.push-requires-clause-room
push-requires-clause-room g c =
    let k = c.requires.some in
    let o = open_is k.config c.args.opened c.in-Some.message k.message c.in-Some.is k.is_open in
    let at = job_endpoint k.config c.args.self.now k.messages c.args.job.now c.index.result.now k.numbered k.can c.index.ensures in
    let is = sym (c.takes.ensures.value k.config o.message o.packed at (ap (λ (r : Rules). r.pack) k.numbered.rules)) ∙ c.if-takes.true in
    let few = (taking k.config o.message c.args.job.now is).1.parts in
    let size = ap (λ (s : MessageSize). s.parts) o.packed.size in
    omega (arith, few, size, length_more (parts_of o.message) c.args.job.now, k.numbered.config.pack_high)

pub returns-then-takes-clause-took : goal.returns-then-takes-clause-took
returns-then-takes-clause-took g c k ms om n is_open can =
    let o = open_is k c.args.opened c.in-Some.message om c.in-Some.is is_open in
    let at = job_endpoint k c.args.self.now ms c.args.job.now c.index.result.now n can c.index.ensures in
    let is = sym (c.takes.ensures.value k o.message o.packed at (ap (λ (r : Rules). r.pack) n.rules)) ∙ c.if-takes.true in
    took_with _ k ms c.in-Some.message c.push.new.self om c.args.job.now c.args.self.now (g.L.Link.sent c.args.link.now) n o can is
    (c.push.ensures k o.message o.packed at)

pub send-requires-clause-some : goal.send-requires-clause-some
send-requires-clause-some g c =
    let k = c.requires.some in
    let o = open_is k.config c.args.opened c.in-Some.message k.message c.in-Some.is k.is_open in
    (k.config, k.messages, o.message, k.numbered, o.packed, o.proper)

pub returns-in_err-send-clause-err : goal.returns-in_err-send-clause-err
returns-in_err-send-clause-err g c k answer ms om said n is_open can =
    let o = open_is k c.args.opened c.in-Some.message om c.in-Some.is is_open in
    let at = job_endpoint k c.args.self.now ms c.args.job.now c.index.result.now n can c.index.ensures in
    let is = sym (c.takes.ensures.value k o.message o.packed at (ap (λ (r : Rules). r.pack) n.rules)) ∙ c.if-takes.false in
    on_err c.from_residual.result _
    (stopped k ms answer c.in-Some.message om c.args.job.now (g.L.Link.sent c.args.link.now) (g.L.Link.sent c.send.new.link) o is
    (c.in_err-send.ensures.err k answer ms o.message said n o.packed o.proper))

pub alone-requires : goal.alone-requires
alone-requires g c =
    let k = c.requires.some in
    endpoint_is k.config.endpoints c.args.job.now.ep c.index.result.now k.numbered.config.endpoints.each (job_endpoint k.config c.args.self.now k.messages c.args.job.now c.index.result.now k.numbered k.can c.index.ensures)

pub returns-clause-took : goal.returns-clause-took
returns-clause-took g c k ms om n is_open can =
    let at = job_endpoint k c.args.self.now ms c.args.job.now c.index.result.now n can c.index.ensures in
    elim c.match-opened.branch [
      | in-Some+else-takes+in_ok-send w ↦
          let o = open_is k c.args.opened w.in-Some.message om w.in-Some.is is_open in
          let is = sym (w.takes.ensures.value k o.message o.packed at (ap (λ (r : Rules). r.pack) n.rules)) ∙ w.if-takes.false in
          rw (w.self-is, w.link-is)
          (took_anew _ k ms w.in-Some.message c.alone.result om c.args.job.now w.send.new.self (g.L.Link.sent c.args.link.now) (g.L.Link.sent w.send.new.link) o can is
          (c.alone.ensures.packed k at) c.alone.ensures.small
          (λ answer said. w.in_ok-send.ensures.sent k answer ms o.message said n o.packed o.proper) (w.in_ok-send.ensures.numbered k ms o.message n o.packed o.proper))
      | in_default w ↦
          rw (w.self-is, w.link-is)
          (took_first _ k ms c.alone.result om c.args.job.now c.args.self.now (g.L.Link.sent c.args.link.now) (none_is k c.args.opened om w.in_default.is is_open) can
          (c.alone.ensures.packed k at) c.alone.ensures.small n)
    ]
