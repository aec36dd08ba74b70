use Rattle.std.proofs.Common.{◌≡◌, ◌==◌, false, sym, subst, true≢false}
use Rattle.std.proofs.lemmas.Bool.{eqb-true}
use Rattle.window_config.specs.declared.endpoints.EndpointConfig.{EndpointConfig}
use Rattle.idle_spans.specs.Silence.{same_symbol}
use Rattle.idle_spans.specs.Symbols.{symbol_at}
use Rattle.idle_text.proofs.SlotLemmas.{own_index}
use Rattle.idle_text.proofs.numbers.number_of.Goals as goal

pub returns-in-Some : goal.returns-in-Some
returns-in-Some c first last cells t k below is =
    let told = subst (λ (e : EndpointConfig). same_symbol c.args.place.slot c.args.place.symbol (symbol_at e.numerology first k) ≡ (c.in-Some.k == k)) (sym t.is)
    (c.in-Some.ensures.place t.config first last cells t.stands k below) in
    eqb-true c.in-Some.k k (own_index c.args.e.now.numerology first k c.args.place (c.in-Some.k == k) is told)

pub returns-in-None : goal.returns-in-None
returns-in-None c first last cells t k below is =
    let told = subst (λ (e : EndpointConfig). same_symbol c.args.place.slot c.args.place.symbol (symbol_at e.numerology first k) ≡ false) (sym t.is)
    (c.in-None.ensures.place t.config first last cells t.stands k below) in
    absurd (true≢false (sym (own_index c.args.e.now.numerology first k c.args.place false is told)))
