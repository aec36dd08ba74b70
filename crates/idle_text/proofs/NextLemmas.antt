-- The list of listed spans, by the first that begins after a place.
use Rattle.std.proofs.Common.{◌≡◌, ℕ, ◌+◌, ◌*◌, ◌/◌, ◌%◌, ◌<◌, ◌≤◌, ◌↔◌, min, List, [], ◌∷◌, ◌++◌, refl, sym, subst, arith}
use Rattle.std.specs.Prelude.{Option, Some, None}
use Rattle.std.proofs.lemmas.Nat.{div-add-mod', mod_below}
use Rattle.window_config.specs.declared.endpoints.EndpointConfig.{EndpointConfig}
use Rattle.air_source.specs.declared.events.AirCell.{AirCell}
use Rattle.fh_base.specs.Lists.{each}
use Rattle.idle_spans.specs.Places.{IsNoneOrSymbol}
use Rattle.idle_spans.specs.Runs.{HasNoSpan, IsNextSpan, span_of}
use Rattle.idle_spans.specs.Silence.{is_silent}
use Rattle.idle_spans.specs.Symbols.{IsAfter, frame_symbols, symbol_at, symbol_count}
use Rattle.idle_spans.specs.declared.places.Place.{Place}
use Rattle.idle_spans.specs.declared.places.Span.{Span}
use Rattle.idle_spans.proofs.NumberLemmas.{frame_at, frame_few, number_at, symbol_proper}
use Rattle.idle_spans.proofs.OrderLemmas.{among_all}
use Rattle.idle_text.specs.Listed.{Run, listed_runs, run_at}
use Rattle.idle_text.proofs.RunLemmas.{each_next, each_to, no_run, run_is}

-- the symbols from this number on are those after the place
pub record IsAt (e : EndpointConfig) (first total : ℕ) (after : Option Place) (from : ℕ) : Type 0 where
  pub each : (k : ℕ) → k < total → ((from ≤ k) ↔ IsAfter e.numerology after (symbol_at e.numerology first k))
  pub within : from ≤ total
  pub place : IsNoneOrSymbol e.numerology after

pub at_start : (e : EndpointConfig) (first total : ℕ) → IsAt e first total None 0
at_start e first total = record { each = λ k below. (λ _. tt, λ _. omega arith); within = omega arith; place = tt }

next_number : (number f : ℕ) → number % f < f → number + 1 ≡ number / f * f + min (number % f + 1) f
next_number number f below = let split = div-add-mod' number f in omega (arith, split)

pub at_next : (e : EndpointConfig) (first total number : ℕ) → number < total → IsAt e first total (Some (symbol_at e.numerology first number)) (number + 1)
at_next e first total number inside = record {
  each = λ k below.
      let n = e.numerology in
      among_all (record { endpoint = e; first = first; last = first; marks = [] }) (symbol_at n first number) k (number / frame_symbols n) (frame_symbols n) (number % frame_symbols n) (number + 1)
      (frame_at n first number) refl (sym (number_at n first number)) (next_number number (frame_symbols n) (mod_below number (frame_symbols n) (frame_few n).0));
  within = omega arith;
  place = symbol_proper e.numerology first number;
}

module _ (e : EndpointConfig) (first last : ℕ) (cells : List AirCell) (after : Option Place) (min from : ℕ) where
  abbrev total : ℕ
  total = symbol_count e.numerology first last

  abbrev listed_at : ℕ → List Run
  listed_at = run_at (is_silent e first cells) total min

  -- a span that was found
  pub record IsFound (span : Span) : Type 0 where
    pub number : ℕ
    pub len : ℕ
    pub is : span ≡ span_of e first cells number len
    pub low : from ≤ number
    pub some : 1 ≤ len
    pub within : number + len ≤ total
    pub told : each 0 (number + 1) listed_at ≡ each 0 from listed_at ++ (let r : Run = record { first = number; len = len } in r) ∷ []

  pub found : (span : Span) → IsAt e first total after from → IsNextSpan e first last cells after min span → IsFound span
  found span at next =
      let some = next.listed.run.some in
      let within = next.listed.run.within in
      let later : IsAfter e.numerology after (symbol_at e.numerology first next.number) = subst (λ (s : Span). IsAfter e.numerology after s.first) next.is next.later in
      let low : from ≤ next.number = (at.each next.number (omega arith)).1 later in
      record {
        number = next.number;
        len = next.len;
        is = next.is;
        low = low;
        some = some;
        within = within;
        told = each_next from next.number listed_at _ low
            (λ j from_low below. no_run (is_silent e first cells) total min j (omega arith) (λ m run.
            let least = next.least j m run ((at.each j (omega arith)).0 from_low) in absurd (omega arith)))
            (run_is (is_silent e first cells) total min next.number next.len next.listed);
      }

  -- no further one
  pub all_found : IsAt e first total after from → HasNoSpan e first last cells after min → listed_runs e first last cells min ≡ each 0 from listed_at
  all_found at none = each_to from total listed_at at.within (λ j low below. no_run (is_silent e first cells) total min j below (λ m run. none j m run ((at.each j below).0 low)))
