-- Listed spans hold no radiated element.
use Rattle.std.proofs.Common.{◌≡◌, ℕ, ◌+◌, ◌-◌, ◌<◌, Bool, true, false, not, ◌&&◌, is_some, if◌then◌else◌, List, [], ◌∷◌, Option, Some, None, refl, sym, ap, subst, ◌∙◌, inl, inr, true≢false, arith}
use Rattle.std.specs.Prelude.{nat_le}
use Rattle.std.proofs.lemmas.Bool.{and_from, and_parts}
use Rattle.window_config.specs.declared.endpoints.EndpointConfig.{EndpointConfig}
use Rattle.air_source.specs.declared.events.AirCell.{AirCell}
use Rattle.idle_spans.specs.Runs.{IsLongRun}
use Rattle.idle_spans.specs.Silence.{is_of_symbol, is_shown, is_silent}
use Rattle.idle_spans.specs.Symbols.{symbol_at, symbol_count}
use Rattle.idle_text.specs.Listed.{Run, begins, passing_from, run_at}
use Rattle.idle_text.proofs.RunLemmas.{listed_is, run_is}
use Rattle.idle_laws.specs.Spans.{AreSpans, Radiates, SpanStands, SpansStand}
use Rattle.fh_base.specs.Members.{IsIn}
use Rattle.fh_base.proofs.MemberLemmas.{among, any_in}
use Rattle.fh_base.proofs.MadeLists.{in_each, of_each}

module _ (e : EndpointConfig) (first last : ℕ) (cells : List AirCell) (min : ℕ) where
  abbrev silent : ℕ → Bool
  silent = is_silent e first cells

  abbrev total : ℕ
  total = symbol_count e.numerology first last

  unset : (b : Bool) → not b ≡ true → b ≡ false
  unset true h = absurd (true≢false (sym h))
  unset false h = refl

  set : (b : Bool) → not b ≡ false → b ≡ true
  set true h = refl
  set false h = absurd (true≢false h)

  -- no cell of a silent symbol has samples
  no_samples : (k : ℕ) → silent k ≡ true → (c : AirCell) → IsIn c cells → is_of_symbol e (symbol_at e.numerology first k) c ≡ true → c.block ≡ None
  no_samples k quiet c there of_symbol = go c.block refl
    where
      none : is_shown e (symbol_at e.numerology first k) cells ≡ false
      none = unset _ quiet

      go : (b : Option _) → c.block ≡ b → c.block ≡ None
      go None is = is
      go (Some x) is =
          absurd (true≢false (sym (any_in (λ d. is_of_symbol e (symbol_at e.numerology first k) d && is_some d.block) c cells there
          (and_from (is_of_symbol e (symbol_at e.numerology first k) c) (is_some c.block) of_symbol (ap is_some is))) ∙ none))

  -- one of a symbol that is not silent has
  radiates : (k : ℕ) → silent k ≡ false → Radiates e first cells k
  radiates k loud =
      let shown : is_shown e (symbol_at e.numerology first k) cells ≡ true = set _ loud in
      let a = among (λ d. is_of_symbol e (symbol_at e.numerology first k) d && is_some d.block) cells shown in
      let both = and_parts (is_of_symbol e (symbol_at e.numerology first k) a.x) (is_some a.x.block) a.is in
      record { cell = a.x; there = a.there; of_symbol = both.0; shown = both.1 }

  run_stands : (r : Run) → IsLongRun silent total min r.first r.len → SpanStands e first last cells min r
  run_stands r l = record {
    long = l.long;
    within = l.run.within;
    silent = λ k low below. no_samples k (l.run.all k low below);
    before = λ k next. radiates k (l.run.before k next);
    behind = λ less. radiates (r.first + r.len) (l.run.behind less);
  }

  run_listed : (k : ℕ) (r : Run) → k < total → IsIn r (run_at silent total min k) → IsLongRun silent total min r.first r.len
  run_listed k r inside m = go (begins silent k && nat_le min (passing_from silent k (total - k))) refl m
    where
      here : Run
      here = record { first = k; len = passing_from silent k (total - k) }

      go : (b : Bool) → (begins silent k && nat_le min (passing_from silent k (total - k))) ≡ b → IsIn r (if b then here ∷ [] else []) → IsLongRun silent total min r.first r.len
      go true is (inl same) = subst (λ (x : Run). IsLongRun silent total min x.first x.len) (sym same) (listed_is silent total min k true inside is refl)
      go true is (inr none) = absurd none
      go false is none = absurd none

  spans_are : AreSpans e first last cells min
  spans_are = record {
    stand = λ r m. (let o = of_each r 0 total (run_at silent total min) m in run_stands r (run_listed o.0 r (let below = o.2 in omega arith) o.3));
    all = λ k len listed.
        let some = listed.run.some in
        let within = listed.run.within in
        let r : Run = record { first = k; len = len } in
        in_each r 0 total k (run_at silent total min) (omega arith) (omega arith) (subst (λ (rs : List Run). IsIn r rs) (sym (run_is silent total min k len listed)) (inl refl));
  }

pub spans_stand : SpansStand
spans_stand e first last cells min = spans_are e first last cells min
