use Rattle.std.proofs.Common.{◌++◌, ℕ, List, subst}
use Rattle.std.proofs.lemmas.Result.{on_ok_weaker, on_err_weaker}
use Rattle.fh_base.specs.Told.{WritesPart}
use Rattle.fh_base.specs.Owed.{Carried}
use Rattle.pcap_lines.proofs.words.tell_piece.Goals as goal

pub returns-clause-carried : goal.returns-clause-carried
returns-clause-carried g c =
    on_ok_weaker c.tell.result
    (λ h. subst (λ (t : List ℕ). Carried (g.K.Sink.written c.args.out.now) c.args.owed.now t (g.K.Sink.written c.tell.new.sink) c.tell.new.self) c.spell.ensures h) c.tell.ensures.carried

pub returns-clause-part : goal.returns-clause-part
returns-clause-part g c =
    on_err_weaker c.tell.result
    (λ h. subst (λ (t : List ℕ). WritesPart (g.K.Sink.written c.args.out.now) (g.K.Sink.written c.tell.new.sink) (c.args.owed.now ++ t)) c.spell.ensures h) c.tell.ensures.part
