use Rattle.std.proofs.Common.{◌≡◌, ℕ, ◌*◌, ◌/◌, ◌<◌, false, ap, sym, subst, ◌∙◌}
use Rattle.std.specs.Prelude.{◌==◌}
use Rattle.window_config.specs.declared.endpoints.EndpointConfig.{EndpointConfig}
use Rattle.fh_base.specs.Numbering.{symbols_of}
use Rattle.fh_base.specs.declared.values.Shape.{Shape}
use Rattle.idle_spans.specs.Silence.{same_symbol}
use Rattle.idle_spans.specs.Symbols.{symbol_at}
use Rattle.idle_spans.specs.Tables.{symbols_in}
use Rattle.idle_text.specs.Free.{slot_at}
use Rattle.idle_text.proofs.FlagLemmas.{of_slot_known}
use Rattle.idle_text.proofs.SlotLemmas.{slot_found, slot_tested}
use Rattle.idle_text.proofs.flags.touched_slot.Goals as goal

pub returns-in-Some : goal.returns-in-Some
returns-in-Some c first last cells t k below =
    let e = c.args.e.now in
    let number = c.in-Some.number in
    let told = λ (j : ℕ) (h : j < symbols_in c.args.spans.now c.args.ep).
    subst (λ (x : EndpointConfig). same_symbol c.args.line.now.slot 0 (symbol_at x.numerology first j) ≡ (number == j)) (sym t.is) (c.in-Some.ensures.place t.config first last cells t.stands j h) in
    let found = slot_found e.numerology first number k c.args.line.now.slot (told number c.in-Some.ensures.within) (told (k * symbols_of e.numerology) below) in
    of_slot_known e (slot_at e.numerology first k) c.args.line.now (number / symbols_of e.numerology == k) c.if-line-e.false (sym c.is_down.ensures ∙ c.if-not-is_down.false) found
    ∙ ap (λ (s : Shape). number / s.symbols == k) (sym c.shape.ensures)

pub returns-in-None : goal.returns-in-None
returns-in-None c first last cells t k below =
    let e = c.args.e.now in
    let told = subst (λ (x : EndpointConfig). same_symbol c.args.line.now.slot 0 (symbol_at x.numerology first (k * symbols_of e.numerology)) ≡ false) (sym t.is) (c.in-None.ensures.place t.config first last cells t.stands (k * symbols_of e.numerology) below) in
    of_slot_known e (slot_at e.numerology first k) c.args.line.now false c.if-line-e.false (sym c.is_down.ensures ∙ c.if-not-is_down.false)
    (sym (slot_tested e.numerology first k c.args.line.now.slot) ∙ told)
