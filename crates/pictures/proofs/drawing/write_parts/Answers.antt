use Rattle.std.proofs.Common.{◌++◌, ℕ, List, subst}
use Rattle.std.proofs.lemmas.Result.{on_err_weaker, on_ok_weaker}
use Rattle.fh_base.specs.Told.{WritesPart}
use Rattle.fh_base.specs.Owed.{Carried}
use Rattle.fh_base.proofs.Parts.{last_part}
use Rattle.fh_base.proofs.OwedTelling.{all_written, anyhow}
use Rattle.pictures.proofs.Writing.{all_told, cells_cut, foot_cut, head_cut}
use Rattle.pictures.proofs.drawing.write_parts.Goals as goal

pub returns-in_err-tell-clause-part : goal.returns-in_err-tell-clause-part
returns-in_err-tell-clause-part g c =
    anyhow c.from_residual.result
    (head_cut c.args.span c.args.endpoints.now c.args.text.now _ _ c.new-owed.result c.new-owed.ensures
    (subst (λ (t : List ℕ). WritesPart (g.K.Sink.written c.args.out.now) (g.K.Sink.written c.tell.new.sink) (c.new-owed.result ++ t)) c.requires.head c.in_err-tell.ensures.part))

pub returns-in_err-tell_lines-clause-part : goal.returns-in_err-tell_lines-clause-part
returns-in_err-tell_lines-clause-part g c =
    let head = subst (λ (t : List ℕ). Carried (g.K.Sink.written c.args.out.now) c.new-owed.result t (g.K.Sink.written c.tell.new.sink) c.tell.new.self) c.requires.head c.in_ok-tell.ensures.carried in
    anyhow c.from_residual-in_err-tell_lines.result
    (cells_cut c.args.span c.args.endpoints.now c.args.text.now _ _ _ c.new-owed.result _ c.new-owed.ensures head c.in_err-tell_lines.ensures.front)

pub returns-in_err-tell-2-clause-part : goal.returns-in_err-tell-2-clause-part
returns-in_err-tell-2-clause-part g c =
    let head = subst (λ (t : List ℕ). Carried (g.K.Sink.written c.args.out.now) c.new-owed.result t (g.K.Sink.written c.tell.new.sink) c.tell.new.self) c.requires.head c.in_ok-tell.ensures.carried in
    let foot = subst (λ (t : List ℕ). WritesPart (g.K.Sink.written c.tell_lines.new.out) (g.K.Sink.written c.tell-2.new.sink) (c.tell_lines.new.owed ++ t)) c.requires.foot c.in_err-tell-2.ensures.part in
    anyhow c.from_residual-in_err-tell-2.result
    (foot_cut c.args.span c.args.endpoints.now c.args.text.now _ _ _ _ c.new-owed.result _ _ c.new-owed.ensures head c.in_ok-tell_lines.ensures.carried foot)

pub returns-clause-done : goal.returns-clause-done
returns-clause-done g c =
    let head = subst (λ (t : List ℕ). Carried (g.K.Sink.written c.args.out.now) c.new-owed.result t (g.K.Sink.written c.tell.new.sink) c.tell.new.self) c.requires.head c.in_ok-tell.ensures.carried in
    let foot = subst (λ (t : List ℕ). Carried (g.K.Sink.written c.tell_lines.new.out) c.tell_lines.new.owed t (g.K.Sink.written c.tell-2.new.sink) c.tell-2.new.self) c.requires.foot c.in_ok-tell-2.ensures.carried in
    let all = all_told c.args.span c.args.endpoints.now c.args.text.now _ _ _ _ c.new-owed.result _ _ _ head c.in_ok-tell_lines.ensures.carried foot in
    on_ok_weaker c.push_out.result (λ is. all_written _ _ _ c.new-owed.result _ _ c.new-owed.ensures all is) c.push_out.ensures.all

pub returns-clause-part : goal.returns-clause-part
returns-clause-part g c =
    let head = subst (λ (t : List ℕ). Carried (g.K.Sink.written c.args.out.now) c.new-owed.result t (g.K.Sink.written c.tell.new.sink) c.tell.new.self) c.requires.head c.in_ok-tell.ensures.carried in
    let foot = subst (λ (t : List ℕ). Carried (g.K.Sink.written c.tell_lines.new.out) c.tell_lines.new.owed t (g.K.Sink.written c.tell-2.new.sink) c.tell-2.new.self) c.requires.foot c.in_ok-tell-2.ensures.carried in
    let all = all_told c.args.span c.args.endpoints.now c.args.text.now _ _ _ _ c.new-owed.result _ _ _ head c.in_ok-tell_lines.ensures.carried foot in
    on_err_weaker c.push_out.result (λ part. last_part _ _ _ c.new-owed.result _ _ c.new-owed.ensures all part) c.push_out.ensures.part
