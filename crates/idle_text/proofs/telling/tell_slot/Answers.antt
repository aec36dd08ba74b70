use Rattle.std.proofs.Common.{◌≡◌, ℕ, ◌*◌, ◌++◌, Bool, List, OnOk, OnErr, sym, ap, subst, ◌∙◌}
use Rattle.fh_base.specs.Told.{WritesFront}
use Rattle.fh_base.specs.declared.values.Shape.{Shape}
use Rattle.fh_base.specs.Owed.{Carried}
use Rattle.fh_base.specs.CarriedLaws.{carried_none}
use Rattle.window_config.specs.declared.endpoints.EndpointConfig.{EndpointConfig}
use Rattle.idle_spans.specs.Symbols.{symbol_at}
use Rattle.idle_text.specs.Text.{flagged_slot, lines_text}
use Rattle.idle_text.proofs.FreeLemmas.{slot_line}
use Rattle.idle_text.proofs.telling.tell_slot.Goals as goal

pub returns-then-not-flag-clause-carried : goal.returns-then-not-flag-clause-carried
returns-then-not-flag-clause-carried g c first last cells t =
    subst (λ (b : Bool). Carried (g.K.Sink.written c.args.out.now) c.args.owed.now (lines_text c.args.e.now (flagged_slot first c.args.e.now b c.args.k)) (g.K.Sink.written c.args.out.now) c.args.owed.now)
    (sym c.if-not-flag.true) (carried_none _ _)

pub returns-clause-carried : goal.returns-clause-carried
returns-clause-carried g c first last cells t =
    let symbols = c.shape-symbols.result.symbols in
    let at = c.symbol.ensures t.config first last cells t.stands ∙ ap (λ (x : EndpointConfig). symbol_at x.numerology first (c.args.k * symbols)) (sym t.is) in
    let line = slot_line c.args.e.now first c.args.k symbols c.args.flag c.symbol.result c.idle_line.result c.if-not-flag.false (ap (λ (x : Shape). x.symbols) c.shape-symbols.ensures) at c.idle_line.ensures in
    subst (λ (x : List ℕ). OnOk c.tell_plan_line.result (Carried (g.K.Sink.written c.args.out.now) c.args.owed.now x (g.K.Sink.written c.tell_plan_line.new.out) c.tell_plan_line.new.owed)) line
    c.tell_plan_line.ensures.carried

pub returns-clause-front : goal.returns-clause-front
returns-clause-front g c first last cells t =
    let symbols = c.shape-symbols.result.symbols in
    let at = c.symbol.ensures t.config first last cells t.stands ∙ ap (λ (x : EndpointConfig). symbol_at x.numerology first (c.args.k * symbols)) (sym t.is) in
    let line = slot_line c.args.e.now first c.args.k symbols c.args.flag c.symbol.result c.idle_line.result c.if-not-flag.false (ap (λ (x : Shape). x.symbols) c.shape-symbols.ensures) at c.idle_line.ensures in
    subst (λ (x : List ℕ). OnErr c.tell_plan_line.result (WritesFront (g.K.Sink.written c.args.out.now) (g.K.Sink.written c.tell_plan_line.new.out) (c.args.owed.now ++ x))) line
    c.tell_plan_line.ensures.front
