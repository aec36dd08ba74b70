use Rattle.std.proofs.Common.{List, ℕ, subst, ◌++◌}
use Rattle.fh_base.specs.Told.{WritesFront, WritesPart}
use Rattle.std.proofs.lemmas.Result.{on_err_weaker}
use Rattle.fh_base.proofs.Carrying.{front_pushed}
use Rattle.fh_base.proofs.Parts.{part_pushed}
use Rattle.capture_show.proofs.printing.Printer.close.Goals as goal

pub returns-clause-front : goal.returns-clause-front
returns-clause-front g c =
    subst (λ (t : List ℕ). WritesFront (g.K.Sink.written c.args.out.now) (g.K.Sink.written c.push_out.new.sink) (c.args.self.now.owed ++ t)) c.ending.ensures
    (front_pushed _ _ c.ending.result.now _ _ _ c.in_ok-tell.ensures.carried c.push_out.ensures.front)

pub returns-clause-part : goal.returns-clause-part
returns-clause-part g c =
    on_err_weaker c.push_out.result (λ h.
    subst (λ (t : List ℕ). WritesPart (g.K.Sink.written c.args.out.now) (g.K.Sink.written c.push_out.new.sink) (c.args.self.now.owed ++ t)) c.ending.ensures
    (part_pushed _ _ c.ending.result.now _ _ _ c.in_ok-tell.ensures.carried h)) c.push_out.ensures.part
