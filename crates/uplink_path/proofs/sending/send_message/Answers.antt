use Rattle.std.proofs.Common.{◌≡◌, ℕ, ◌+◌, ◌∙◌, ap, sym, subst, arith, rules, List, ◌++◌, ◌∷◌, []}
use Rattle.air_source.specs.declared.links.LinkFrame.{LinkFrame}
use Rattle.fh_base.specs.Lists.{each}
use Rattle.uplink_model.specs.Frames.{uplink_frame_of}
use Rattle.uplink_path.specs.Sending.{SentSome, wait_behind}
use Rattle.uplink_path.proofs.FrameLemmas.{HandedUpTo, all_handed, at_start, count_as, ends_at, frame_handed, none_handed, some_handed, wait_next, wait_now}
use Rattle.uplink_path.proofs.sending.send_message.Goals as goal
use Rattle.fh_base.proofs.CommonLemmas.{on_err}

pub loop-sub-init : goal.loop-sub-init
loop-sub-init g c = record {
  capped = c.requires.wait;
  room = search rules;
  wait = λ k m n before b. at_start k before c.args.numbered.now.wait b.wait_is;
  sent = λ k answer m n before said b. none_handed (λ i. uplink_frame_of k answer c.args.endpoint.now m n before i ∷ []) c.frame_count-count.result (g.L.Link.sent c.args.link.now);
}

pub loop-sub-preserved : goal.loop-sub-preserved
loop-sub-preserved g c =
    let r = c.args.rules.now in
    let p = c.args.numbered.now.message.now in
    record {
      capped = c.later-next.ensures.small;
      room = c.write_piece-len.ensures.len ∙ c.loop-sub.invariant.room;
      wait = λ k m n before b.
          let now = c.loop-sub.invariant.wait k m n before b in
          wait_next k r p c.args.numbered.now.number c.args.numbered.now.wait m n before (before + c.loop-sub.sub) c.later-next.result b
          (c.later-next.ensures.value (before + c.loop-sub.sub) (wait_now k r p c.args.numbered.now.number c.args.numbered.now.wait m n before (before + c.loop-sub.sub) c.loop-sub.next b now))
          ∙ ap (wait_behind k) (omega arith);
      sent = λ k answer m n before said b.
          let now = c.loop-sub.invariant.wait k m n before b in
          frame_handed k answer c.args.endpoint.now r p c.args.numbered.now.number c.args.numbered.now.wait m n before c.loop-sub.sub c.frame_count-count.result c.at-at.result.0 _
          (g.L.Link.sent c.args.link.now) (g.L.Link.sent c.loop-sub.link) (g.L.Link.sent c.send.new.self) b c.frame_count-count.ensures.value
          (c.at-at.ensures.value (before + c.loop-sub.sub) (wait_now k r p c.args.numbered.now.number c.args.numbered.now.wait m n before (before + c.loop-sub.sub) c.loop-sub.next b now))
          (c.write_piece-len.ensures.bytes answer said ∙ ends_at answer c.args.endpoint.now p c.args.numbered.now.number c.loop-sub.sub c.frame_count-count.result r.fragment c.min.result c.min.ensures) c.loop-sub-test.true c.in_ok-send.ensures.ok
          (c.loop-sub.invariant.sent k answer m n before said b);
    }

pub returns-in_err-send-clause-err : goal.returns-in_err-send-clause-err
returns-in_err-send-clause-err g c k answer m n before said b =
    let f = λ (i : ℕ). uplink_frame_of k answer c.args.endpoint.now m n before i ∷ [] in
    let count = c.frame_count-count.result in
    let some = some_handed f c.loop-sub.sub count (g.L.Link.sent c.args.link.now) (g.L.Link.sent c.send.new.self)
    (subst (λ (now : List LinkFrame). HandedUpTo f c.loop-sub.sub count (g.L.Link.sent c.args.link.now) now) (sym c.in_err-send.ensures.err) (c.loop-sub.invariant.sent k answer m n before said b)) in
    on_err c.from_residual.result _
    (subst (λ (x : ℕ). SentSome (each 0 x f) (g.L.Link.sent c.args.link.now) (g.L.Link.sent c.send.new.self))
    (count_as k c.args.rules.now c.args.numbered.now.message.now c.args.numbered.now.number c.args.numbered.now.wait m n before count b c.frame_count-count.ensures.value) some)

pub returns-clause-sent : goal.returns-clause-sent
returns-clause-sent g c k answer m n before said b =
    let f = λ (i : ℕ). uplink_frame_of k answer c.args.endpoint.now m n before i ∷ [] in
    let count = c.frame_count-count.result in
    let over : c.loop-sub.sub ≡ count = omega (arith, c.loop-sub-test.false, c.loop-sub.auto.sub-end) in
    all_handed f c.loop-sub.sub count (g.L.Link.sent c.args.link.now) (g.L.Link.sent c.loop-sub.link) over (c.loop-sub.invariant.sent k answer m n before said b)
    ∙ ap (λ (x : ℕ). g.L.Link.sent c.args.link.now ++ each 0 x f)
    (count_as k c.args.rules.now c.args.numbered.now.message.now c.args.numbered.now.number c.args.numbered.now.wait m n before count b c.frame_count-count.ensures.value)

pub returns-clause-wait : goal.returns-clause-wait
returns-clause-wait g c k m n before b =
    let count = c.frame_count-count.result in
    let over : c.loop-sub.sub ≡ count = omega (arith, c.loop-sub-test.false, c.loop-sub.auto.sub-end) in
    c.loop-sub.invariant.wait k m n before b
    ∙ ap (λ (x : ℕ). wait_behind k (before + x)) (over ∙ count_as k c.args.rules.now c.args.numbered.now.message.now c.args.numbered.now.number c.args.numbered.now.wait m n before count b c.frame_count-count.ensures.value)
