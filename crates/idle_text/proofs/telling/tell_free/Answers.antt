use Rattle.std.proofs.Common.{◌≡◌, ℕ, length, refl, subst, ◌∙◌, arith}
use Rattle.fh_base.specs.Owed.{Carried}
use Rattle.fh_base.proofs.OwedTelling.{anyhow}
use Rattle.idle_text.specs.Text.{flagged_text}
use Rattle.idle_text.proofs.FreeLemmas.{none_told, slot_cut, slot_told}
use Rattle.idle_text.proofs.telling.tell_free.Goals as goal

pub loop-k-init : goal.loop-k-init
loop-k-init g c = record { carried = λ first last cells t. none_told first c.args.e.now c.args.flags.now _ _; still = refl; refused_still = refl }

pub returns-in_err-tell_slot-clause-front : goal.returns-in_err-tell_slot-clause-front
returns-in_err-tell_slot-clause-front g c first last cells t =
    anyhow c.from_residual.result
    (slot_cut first c.args.e.now c.args.flags.now c.loop-k.k (length c.args.flags.now) _ _ _ _ _ _ refl c.loop-k-test.true (c.loop-k.invariant.carried first last cells t)
    (c.in_err-tell_slot.ensures.front first last cells t))

pub loop-k-preserved : goal.loop-k-preserved
loop-k-preserved g c = record {
  carried = λ first last cells t.
      slot_told first c.args.e.now c.args.flags.now c.loop-k.k _ _ _ _ _ _ _ refl (c.loop-k.invariant.carried first last cells t) (c.in_ok-tell_slot.ensures.carried first last cells t);
  still = c.in_ok-tell_slot.ensures.cause.faults ∙ c.loop-k.invariant.still;
  refused_still = c.in_ok-tell_slot.ensures.cause.refusals ∙ c.loop-k.invariant.refused_still;
}

pub returns-clause-carried : goal.returns-clause-carried
returns-clause-carried g c first last cells t =
    let past = c.loop-k-test.false in
    let within = c.loop-k.auto.k-end in
    let all : c.loop-k.k ≡ length c.args.flags.now = omega (arith, past, within) in
    subst (λ (n : ℕ). Carried (g.K.Sink.written c.args.out.now) c.args.owed.now (flagged_text first c.args.e.now c.args.flags.now n) (g.K.Sink.written c.loop-k.out) c.loop-k.owed) all
    (c.loop-k.invariant.carried first last cells t)
