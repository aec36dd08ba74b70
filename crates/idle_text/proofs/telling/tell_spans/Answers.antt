use Rattle.std.proofs.Common.{◌≡◌, ℕ, ◌+◌, ◌*◌, ◌<◌, ◌≤◌, Bool, false, ◌||◌, List, length, get_or, Some, refl, sym, ap, subst, ◌∙◌, arith}
use Rattle.std.specs.List.{list_any}
use Rattle.fh_base.specs.Numbering.{symbols_of}
use Rattle.fh_base.specs.declared.values.Shape.{Shape}
use Rattle.fh_base.specs.Owed.{Carried}
use Rattle.fh_base.proofs.OwedTelling.{anyhow}
use Rattle.window_config.specs.declared.endpoints.EndpointConfig.{EndpointConfig}
use Rattle.air_source.specs.declared.events.AirCell.{AirCell}
use Rattle.idle_spans.specs.Places.{IsNoneOrSymbol}
use Rattle.idle_spans.specs.Symbols.{symbol_count}
use Rattle.idle_spans.specs.declared.places.Place.{Place}
use Rattle.idle_spans.specs.declared.places.Span.{Span}
use Rattle.idle_text.specs.Free.{has_slot}
use Rattle.idle_text.specs.Listed.{Run}
use Rattle.idle_text.specs.Tables.{IsTableOf}
use Rattle.idle_text.proofs.NextLemmas.{IsAt, at_next, at_start}
use Rattle.idle_text.proofs.TellLemmas.{all_runs, count_is, endpoint_same, none_carried, none_flagged, runs_text, span_carried, span_cut, span_flagged, span_told}
use Rattle.idle_text.proofs.telling.tell_spans.Goals as goal

pub loop-span-init : goal.loop-span-init
loop-span-init g c = record {
  at = λ first last cells t. at_start c.args.e.now first (symbol_count c.args.e.now.numerology first last);
  carried = λ first last cells t. none_carried _ _ c.args.e.now first last cells c.args.min;
  flags = λ first last cells t k below. none_flagged (has_slot (symbols_of c.args.e.now.numerology) k) _ c.args.e.now first last cells c.args.min;
  still = refl;
  refused_still = refl;
}

pub next-requires-clause-place : goal.next-requires-clause-place
next-requires-clause-place g c =
    let s = c.requires.stands in
    subst (λ (e : EndpointConfig). IsNoneOrSymbol e.numerology c.loop-span.after) (endpoint_same c.args.spans.now c.args.ep c.args.e.now s.0 s.1 s.2 s.3)
    (c.loop-span.invariant.at s.0 s.1 s.2 s.3).place

pub set_slots-requires-clause-within : goal.set_slots-requires-clause-within
set_slots-requires-clause-within g c =
    let s = c.requires.stands in
    let told = span_told c.args.spans.now c.args.ep c.args.e.now s.0 s.1 s.2 c.loop-span.after c.args.min c.loop-span.from c.in-Some.span c.number_of-first.result c.requires.ep s.3
    (c.loop-span.invariant.at s.0 s.1 s.2 s.3) (c.in-Some.ensures s.3.config s.0 s.1 s.2 s.3.stands) (c.number_of-first.ensures s.0 s.1 s.2 s.3) in
    let symbols : c.shape-symbols.result.symbols ≡ symbols_of c.args.e.now.numerology = ap (λ (x : Shape). x.symbols) c.shape-symbols.ensures in
    subst (λ (n : ℕ). c.number_of-first.result + c.in-Some.span.symbols ≤ n)
    (sym c.requires.size ∙ ap (λ (n : ℕ). n * symbols_of c.args.e.now.numerology) (sym c.loop-span.auto.flags) ∙ ap (λ (n : ℕ). length c.loop-span.flags * n) (sym symbols)) told.within

pub set_slots-requires-clause-small : goal.set_slots-requires-clause-small
set_slots-requires-clause-small g c =
    let s = c.requires.stands in
    let told = span_told c.args.spans.now c.args.ep c.args.e.now s.0 s.1 s.2 c.loop-span.after c.args.min c.loop-span.from c.in-Some.span c.number_of-first.result c.requires.ep s.3
    (c.loop-span.invariant.at s.0 s.1 s.2 s.3) (c.in-Some.ensures s.3.config s.0 s.1 s.2 s.3.stands) (c.number_of-first.ensures s.0 s.1 s.2 s.3) in
    let within = told.within in
    let small = c.requires.small in
    omega (arith, within, small)

pub returns-in_err-tell_span-clause-front : goal.returns-in_err-tell_span-clause-front
returns-in_err-tell_span-clause-front g c first last cells t =
    let told = span_told c.args.spans.now c.args.ep c.args.e.now first last cells c.loop-span.after c.args.min c.loop-span.from c.in-Some.span c.number_of-first.result c.requires.ep t
    (c.loop-span.invariant.at first last cells t) (c.in-Some.ensures t.config first last cells t.stands) (c.number_of-first.ensures first last cells t) in
    anyhow c.from_residual.result
    (span_cut _ _ _ _ _ c.args.e.now first last cells c.args.min c.loop-span.from _ c.in-Some.span c.number_of-first.result told
    (count_is c.args.spans.now c.args.ep c.args.e.now first last cells c.requires.ep t) (c.loop-span.invariant.carried first last cells t) c.in_err-tell_span.ensures.front)

pub overflow_add-from : goal.overflow_add-from
overflow_add-from g c =
    let s = c.requires.stands in
    let told = span_told c.args.spans.now c.args.ep c.args.e.now s.0 s.1 s.2 c.loop-span.after c.args.min c.loop-span.from c.in-Some.span c.number_of-first.result c.requires.ep s.3
    (c.loop-span.invariant.at s.0 s.1 s.2 s.3) (c.in-Some.ensures s.3.config s.0 s.1 s.2 s.3.stands) (c.number_of-first.ensures s.0 s.1 s.2 s.3) in
    let within = told.within in
    let small = c.requires.small in
    omega (arith, within, small)

pub loop-span-smaller : goal.loop-span-smaller
loop-span-smaller g c =
    let s = c.requires.stands in
    let told = span_told c.args.spans.now c.args.ep c.args.e.now s.0 s.1 s.2 c.loop-span.after c.args.min c.loop-span.from c.in-Some.span c.number_of-first.result c.requires.ep s.3
    (c.loop-span.invariant.at s.0 s.1 s.2 s.3) (c.in-Some.ensures s.3.config s.0 s.1 s.2 s.3.stands) (c.number_of-first.ensures s.0 s.1 s.2 s.3) in
    let within = told.within in
    let some = told.some in
    let low = told.low in
    omega (arith, within, some, low)

pub loop-span-preserved : goal.loop-span-preserved
loop-span-preserved g c =
    let told = λ (first : ℕ) (last : ℕ) (cells : List AirCell) (t : IsTableOf c.args.spans.now c.args.ep c.args.e.now first last cells).
    span_told c.args.spans.now c.args.ep c.args.e.now first last cells c.loop-span.after c.args.min c.loop-span.from c.in-Some.span c.number_of-first.result c.requires.ep t
    (c.loop-span.invariant.at first last cells t) (c.in-Some.ensures t.config first last cells t.stands) (c.number_of-first.ensures first last cells t) in
    record {
      at = λ first last cells t.
          let x = told first last cells t in
          subst (λ (p : Place). IsAt c.args.e.now first (symbol_count c.args.e.now.numerology first last) (Some p) (c.number_of-first.result + 1)) (sym (ap (λ (y : Span). y.first) x.is))
          (at_next c.args.e.now first (symbol_count c.args.e.now.numerology first last) c.number_of-first.result
          (subst (λ (n : ℕ). c.number_of-first.result < n) (count_is c.args.spans.now c.args.ep c.args.e.now first last cells c.requires.ep t)
          (let within = x.within in let some = x.some in omega arith)));
      carried = λ first last cells t.
          span_carried _ _ _ _ _ _ c.args.e.now first last cells c.args.min c.loop-span.from _ c.in-Some.span c.number_of-first.result (told first last cells t)
          (c.loop-span.invariant.carried first last cells t) c.in_ok-tell_span.ensures.carried;
      flags = λ first last cells t k below.
          span_flagged (has_slot (symbols_of c.args.e.now.numerology) k) _ _ _ c.args.e.now first last cells c.args.min c.loop-span.from _ c.in-Some.span c.number_of-first.result (told first last cells t)
          (c.loop-span.invariant.flags first last cells t k below)
          (c.set_slots.ensures k (subst (λ (n : ℕ). k < n) (sym c.loop-span.auto.flags) below)
          ∙ ap (λ (x : Shape). get_or c.loop-span.flags k false || has_slot x.symbols k (let r : Run = record { first = c.number_of-first.result; len = c.in-Some.span.symbols } in r)) c.shape-symbols.ensures);
      still = c.in_ok-tell_span.ensures.cause.faults ∙ c.loop-span.invariant.still;
      refused_still = c.in_ok-tell_span.ensures.cause.refusals ∙ c.loop-span.invariant.refused_still;
    }

pub returns-clause-carried : goal.returns-clause-carried
returns-clause-carried g c first last cells t =
    subst (λ (rs : List Run). Carried (g.K.Sink.written c.args.out.now) c.args.owed.now (runs_text c.args.e.now first cells rs) (g.K.Sink.written c.loop-span.out) c.loop-span.owed)
    (all_runs c.args.spans.now c.args.ep c.args.e.now first last cells c.loop-span.after c.args.min c.loop-span.from t (c.loop-span.invariant.at first last cells t) (c.in_default.ensures t.config first last cells t.stands))
    (c.loop-span.invariant.carried first last cells t)

pub returns-clause-flags : goal.returns-clause-flags
returns-clause-flags g c first last cells t k below =
    c.loop-span.invariant.flags first last cells t k below
    ∙ ap (λ (rs : List Run). get_or c.args.flags.now k false || list_any (has_slot (symbols_of c.args.e.now.numerology) k) rs)
    (all_runs c.args.spans.now c.args.ep c.args.e.now first last cells c.loop-span.after c.args.min c.loop-span.from t (c.loop-span.invariant.at first last cells t) (c.in_default.ensures t.config first last cells t.stands))
