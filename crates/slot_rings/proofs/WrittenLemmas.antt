-- Which cells of a slot may have been written.
use Rattle.std.proofs.Common.{◌≡◌, ℕ, ◌+◌, ◌-◌, ◌*◌, ◌/◌, ◌%◌, ◌<◌, ◌≤◌, inl, inr, Bool, true, false, nat_le, nat_lt, List, length, get_or, refl, ap, ap₂, sym, ◌∙◌, subst, arith}
use Rattle.std.proofs.lemmas.Bool.{and_parts, cases_eq, cases_lt, leb-true, ltb-true}
use Rattle.std.proofs.lemmas.List.{get_or_past}
use Rattle.std.proofs.lemmas.Nat.{div-mul-add, mod-mul-add}
use Rattle.std.proofs.Math.Nat.{mod-add-div}
use Rattle.fh_base.proofs.Orders.{both_ways}
use Rattle.unit_model.specs.Claims.{is_from}
use Rattle.unit_model.proofs.ClaimLemmas.{from_within, is_in, starts_before}
use Rattle.slot_rings.specs.Places.{cell_number}
use Rattle.slot_rings.specs.Written.{AreBlankElsewhere, is_in_span, is_written, no_prbs}
use Rattle.slot_rings.specs.declared.rows.Span.{Span}

-- a cell by its symbol and PRB
pub written_at : (prbs : ℕ) (spans : List Span) (symbol n : ℕ) → n < prbs → is_written prbs spans (cell_number prbs symbol n) ≡ is_in_span (get_or spans symbol no_prbs) n
written_at prbs spans symbol n below = ap₂ (λ (s m : ℕ). is_in_span (get_or spans s no_prbs) m) (div-mul-add symbol prbs n below) (mod-mul-add symbol prbs n below)

span_parts : (span : Span) (n : ℕ) → is_in_span span n ≡ true → (span.first ≤ n) × (n < span.end)
span_parts span n is =
    let parts = and_parts (nat_le span.first n) (nat_lt n span.end) is in
    (leb-true span.first n parts.0, ltb-true n span.end parts.1)

-- a cell that may have been written, is of this symbol or an earlier one, and is not in its span
pub written_before : (prbs symbol k count : ℕ) (spans : List Span) → let span : Span = get_or spans symbol no_prbs in
    count ≡ span.end - span.first → is_from (symbol * prbs + span.first) count k ≡ false → is_written prbs spans k ≡ true → k / prbs < symbol + 1 → k / prbs < symbol
written_before prbs symbol k count spans is out written within = elim (cases_eq (k / prbs) symbol) [
  | inr ne ↦ omega (arith, ne, within)
  | inl e ↦
      let span : Span = get_or spans symbol no_prbs in
      let parts = span_parts span (k % prbs) (ap (λ (s : ℕ). is_in_span (get_or spans s no_prbs) (k % prbs)) (sym e) ∙ written) in
      let at = mod-add-div k prbs in
      let row : k / prbs * prbs ≡ symbol * prbs = ap (λ (s : ℕ). s * prbs) e in
      absurd (both_ways (is_from (symbol * prbs + span.first) count k) (is_in (symbol * prbs + span.first) count k (omega (arith, at, row, parts.0)) (omega (arith, at, row, parts, is))) out)
]

-- after the last symbol none is
pub written_within : (prbs k : ℕ) (spans : List Span) → is_written prbs spans k ≡ true → k / prbs < length spans
written_within prbs k spans written = elim (cases_lt (k / prbs) (length spans)) [
  | inl within ↦ within
  | inr past ↦
      let parts = span_parts no_prbs (k % prbs) (ap (λ (s : Span). is_in_span s (k % prbs)) (sym (get_or_past spans (k / prbs) no_prbs past)) ∙ written) in
      absurd (omega (arith, parts.1))
]

-- ---- PRBs of one symbol

contrary : (a b : Bool) → (a ≡ true → b ≡ true) → b ≡ false → a ≡ false
contrary true b f none = sym (f refl) ∙ none
contrary false b f none = refl

module _ (prbs symbol first count k : ℕ) (fits : first + count ≤ prbs) where
  by_prb : (P : ℕ → Type 0) → ((n : ℕ) → n < prbs → is_from first count n ≡ true → P (cell_number prbs symbol n))
      → symbol * prbs + first ≤ k → k < symbol * prbs + first + count → P k
  by_prb P each low high =
      let n : ℕ = k - symbol * prbs in
      let at : symbol * prbs + (k - symbol * prbs) ≡ k = omega (arith, low) in
      subst P at (each (k - symbol * prbs) (omega (arith, low, high, fits)) (is_in first count (k - symbol * prbs) (omega (arith, low)) (omega (arith, low, high))))

  pub unwritten_in : (spans : List Span) → ((all n : ℕ) → n < all → is_from first count n ≡ true → is_written all spans (cell_number all symbol n) ≡ false)
      → symbol * prbs + first ≤ k → k < symbol * prbs + first + count → is_written prbs spans k ≡ false
  unwritten_in spans each = by_prb (λ i. is_written prbs spans i ≡ false) (each prbs)

  written_in : (spans : List Span) → ((all n : ℕ) → n < all → is_from first count n ≡ true → is_written all spans (cell_number all symbol n) ≡ true)
      → is_from (symbol * prbs + first) count k ≡ true → is_written prbs spans k ≡ true
  written_in spans each inside = by_prb (λ i. is_written prbs spans i ≡ true) (each prbs)
      (starts_before (symbol * prbs + first) count k inside) (from_within (symbol * prbs + first) count k inside)

-- what is written in them leaves all others as they were
pub blank_still : {A : Type 0} (blank : A) (prbs symbol first count : ℕ) (old new : List A) (spans wide : List Span) → first + count ≤ prbs
    → AreBlankElsewhere blank prbs spans old
    → ((all k : ℕ) → is_written all spans k ≡ true → is_written all wide k ≡ true)
    → ((all n : ℕ) → n < all → is_from first count n ≡ true → is_written all wide (cell_number all symbol n) ≡ true)
    → ((k : ℕ) → is_from (symbol * prbs + first) count k ≡ false → get_or new k blank ≡ get_or old k blank)
    → AreBlankElsewhere blank prbs wide new
blank_still blank prbs symbol first count old new spans wide fits are own more others = record {
  each = λ k none.
      others k (contrary (is_from (symbol * prbs + first) count k) (is_written prbs wide k) (written_in prbs symbol first count k fits wide more) none)
      ∙ are.each k (contrary (is_written prbs spans k) (is_written prbs wide k) (own prbs k) none);
}
