use Rattle.std.proofs.Common.{◌≡◌, ℕ, ◌++◌, List, OnOk, OnErr, subst, ◌∙◌}
use Rattle.std.proofs.lemmas.Result.{on_err_weaker, on_ok_weaker}
use Rattle.fh_base.specs.Told.{WritesFront}
use Rattle.fh_base.specs.Owed.{Carried}
use Rattle.fh_base.specs.CarriedLaws.{carried_more}
use Rattle.fh_base.proofs.Carrying.{front_behind}
use Rattle.fh_base.proofs.OwedTelling.{anyhow, front_before}
use Rattle.idle_text.specs.Text.{free_text, spans_text}
use Rattle.idle_text.proofs.FreeLemmas.{free_told}
use Rattle.idle_text.proofs.endpoints.tell_flagged.Goals as goal

pub returns-in_err-tell_spans-clause-front : goal.returns-in_err-tell_spans-clause-front
returns-in_err-tell_spans-clause-front g c first last cells t =
    anyhow c.from_residual.result
    (front_before _ _ _ (spans_text first last cells c.args.listing.now.min c.args.e.now) (free_text first last cells c.args.listing.now.min c.args.listing.now.lines.now c.args.e.now) (c.in_err-tell_spans.ensures.front first last cells t))

pub returns-clause-carried : goal.returns-clause-carried
returns-clause-carried g c first last cells t =
    let middle = c.tell_spans.auto.flags in
    let free = free_told c.args.listing.now.spans.now c.args.ep c.args.e.now first last cells c.args.listing.now.min c.args.listing.now.lines.now c.args.flags.now c.tell_spans.new.flags c.clear_touched.new.flags c.requires.ep t c.requires.size
    middle (c.clear_touched.auto.flags ∙ middle) c.requires.blank (c.in_ok-tell_spans.ensures.flags first last cells t) (c.clear_touched.ensures first last cells t) in
    on_ok_weaker c.tell_free.result
    (λ told. carried_more _ _ _ _ _ _ (spans_text first last cells c.args.listing.now.min c.args.e.now) (free_text first last cells c.args.listing.now.min c.args.listing.now.lines.now c.args.e.now)
    (c.in_ok-tell_spans.ensures.carried first last cells t) told)
    (subst (λ (x : List ℕ). OnOk c.tell_free.result (Carried (g.K.Sink.written c.tell_spans.new.out) c.tell_spans.new.owed x (g.K.Sink.written c.tell_free.new.out) c.tell_free.new.owed)) free
    (c.tell_free.ensures.carried first last cells t))

pub returns-clause-front : goal.returns-clause-front
returns-clause-front g c first last cells t =
    let middle = c.tell_spans.auto.flags in
    let free = free_told c.args.listing.now.spans.now c.args.ep c.args.e.now first last cells c.args.listing.now.min c.args.listing.now.lines.now c.args.flags.now c.tell_spans.new.flags c.clear_touched.new.flags c.requires.ep t c.requires.size
    middle (c.clear_touched.auto.flags ∙ middle) c.requires.blank (c.in_ok-tell_spans.ensures.flags first last cells t) (c.clear_touched.ensures first last cells t) in
    on_err_weaker c.tell_free.result
    (λ front. front_behind _ _ (spans_text first last cells c.args.listing.now.min c.args.e.now) _ _ (free_text first last cells c.args.listing.now.min c.args.listing.now.lines.now c.args.e.now) _
    (c.in_ok-tell_spans.ensures.carried first last cells t) front)
    (subst (λ (x : List ℕ). OnErr c.tell_free.result (WritesFront (g.K.Sink.written c.tell_spans.new.out) (g.K.Sink.written c.tell_free.new.out) (c.tell_spans.new.owed ++ x))) free
    (c.tell_free.ensures.front first last cells t))
