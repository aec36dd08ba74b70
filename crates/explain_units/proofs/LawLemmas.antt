-- One judgement more, and what is kept of it.
use Rattle.std.proofs.Common.{◌≡◌, ℕ, zero, suc, ◌+◌, ◌<◌, Bool, true, false, List, [], ◌∷◌, ◌++◌, refl, sym, ap, subst, ◌∙◌, true≢false}
use Rattle.std.specs.Prelude.{◌==◌, ◌&&◌, ◌||◌, not, if◌then◌else◌}
use Rattle.std.proofs.lemmas.List.{append-nil}
use Rattle.explain_units.specs.Blocks.{fresh_count, giver_of, giver_or, gives_prb}
use Rattle.explain_units.specs.Laws.{AreKept, BlocksAreKept, kept_by, kept_of}
use Rattle.explain_units.specs.declared.blocks.Given.{Given as Kept}
use Rattle.explain_units.proofs.BlockLemmas.{giver_last}
use Rattle.explain_model.specs.Judged.{first_given, given_count, gives, gives_block, has_block, is_timely, passing}
use Rattle.explain_model.specs.Judged as judged
use Rattle.explain_model.specs.Timings.{heading_slot}
use Rattle.fh_base.specs.declared.values.Slot.{Slot}
use Rattle.unit_model.specs.declared.heading.DataHeading.{DataHeading}
use Rattle.unit_model.specs.declared.verdicts.DataVerdict.{DataVerdict}
use Rattle.unit_model.specs.Judgements.{Judgement, Met, Commanded, Fragmented, Unread, Turned, Given}
use Rattle.fh_base.proofs.Orders.{not_none}

kept_none : AreKept [] []
unfolding giver_or has_block
kept_none = record { absent = λ none id slot symbol prb h. refl; present = λ none id slot symbol prb h. absurd (true≢false (sym h)) }

has_more : (j : Judgement) (js : List Judgement) (id : ℕ) (slot : Slot) (symbol prb : ℕ) → has_block (j ∷ js) id slot symbol prb ≡ (gives_block j id slot symbol prb || has_block js id slot symbol prb)
unfolding has_block
has_more j js id slot symbol prb = refl

-- one that gives no block
kept_silent : (gs : List Kept) (js : List Judgement) (j : Judgement) → ((id : ℕ) (slot : Slot) (symbol prb : ℕ) → gives_block j id slot symbol prb ≡ false) → AreKept gs js → AreKept (gs ++ []) (j ∷ js)
kept_silent gs js j silent kept = subst (λ (xs : List Kept). AreKept xs (j ∷ js)) (sym (append-nil gs)) (record {
  absent = λ none id slot symbol prb h. kept.absent none id slot symbol prb (same id slot symbol prb ∙ h);
  present = λ none id slot symbol prb h. kept.present none id slot symbol prb (same id slot symbol prb ∙ h);
})
  where
    same : (id : ℕ) (slot : Slot) (symbol prb : ℕ) → has_block js id slot symbol prb ≡ has_block (j ∷ js) id slot symbol prb
    same id slot symbol prb = sym (has_more j js id slot symbol prb ∙ ap (λ (b : Bool). b || has_block js id slot symbol prb) (silent id slot symbol prb))

gives_same : (number : ℕ) (h : DataHeading) (id : ℕ) (slot : Slot) (symbol prb : ℕ) → gives h id slot symbol prb ≡ gives_prb (kept_of number h) id slot symbol prb
unfolding gives
gives_same number h id slot symbol prb = refl

-- one that does
kept_timely : (gs : List Kept) (js : List Judgement) (number : ℕ) (h : DataHeading) (j : Judgement)
    → ((id : ℕ) (slot : Slot) (symbol prb : ℕ) → gives_block j id slot symbol prb ≡ gives h id slot symbol prb) → 0 < number → AreKept gs js → AreKept (gs ++ kept_of number h ∷ []) (j ∷ js)
kept_timely gs js number h j is some_number kept = record {
  absent = λ none id slot symbol prb e. last none id slot symbol prb ∙ gone none id slot symbol prb (gives h id slot symbol prb) refl (has_block js id slot symbol prb) refl (sym (split id slot symbol prb) ∙ e);
  present = λ none id slot symbol prb e.
      ap (λ (n : ℕ). n == 0) (last none id slot symbol prb) ∙ there none id slot symbol prb (gives h id slot symbol prb) refl (has_block js id slot symbol prb) refl (sym (split id slot symbol prb) ∙ e);
}
  where
    split : (id : ℕ) (slot : Slot) (symbol prb : ℕ) → has_block (j ∷ js) id slot symbol prb ≡ (gives h id slot symbol prb || has_block js id slot symbol prb)
    split id slot symbol prb = has_more j js id slot symbol prb ∙ ap (λ (b : Bool). b || has_block js id slot symbol prb) (is id slot symbol prb)

    last : (none id : ℕ) (slot : Slot) (symbol prb : ℕ)
        → giver_or none (gs ++ kept_of number h ∷ []) id slot symbol prb ≡ giver_or (if gives h id slot symbol prb then number else none) gs id slot symbol prb
    last none id slot symbol prb =
        giver_last none gs (kept_of number h) id slot symbol prb
        ∙ ap (λ (b : Bool). giver_or (if b then number else none) gs id slot symbol prb) (sym (gives_same number h id slot symbol prb))

    gone : (none id : ℕ) (slot : Slot) (symbol prb : ℕ) (a : Bool) → gives h id slot symbol prb ≡ a → (b : Bool) → has_block js id slot symbol prb ≡ b → (a || b) ≡ false
        → giver_or (if a then number else none) gs id slot symbol prb ≡ none
    gone none id slot symbol prb true a_is b b_is e = absurd (true≢false e)
    gone none id slot symbol prb false a_is true b_is e = absurd (true≢false e)
    gone none id slot symbol prb false a_is false b_is e = kept.absent none id slot symbol prb b_is

    there : (none id : ℕ) (slot : Slot) (symbol prb : ℕ) (a : Bool) → gives h id slot symbol prb ≡ a → (b : Bool) → has_block js id slot symbol prb ≡ b → (a || b) ≡ true
        → (giver_or (if a then number else none) gs id slot symbol prb == 0) ≡ false
    there none id slot symbol prb a a_is true b_is e = kept.present (if a then number else none) id slot symbol prb b_is
    there none id slot symbol prb true a_is false b_is e = ap (λ (n : ℕ). n == 0) (kept.absent number id slot symbol prb b_is) ∙ not_none number some_number
    there none id slot symbol prb false a_is false b_is e = absurd (true≢false (sym e))

kept_given : (gs : List Kept) (js : List Judgement) (number : ℕ) (h : DataHeading) (v : DataVerdict) (b : Bool) → is_timely v ≡ b → 0 < number → AreKept gs js
    → AreKept (gs ++ (if b then kept_of number h ∷ [] else [])) (Given h v ∷ js)
kept_given gs js number h v true is some_number kept =
    kept_timely gs js number h (Given h v) (λ id slot symbol prb. ap (λ (b : Bool). b && gives h id slot symbol prb) is) some_number kept
kept_given gs js number h v false is some_number kept =
    kept_silent gs js (Given h v) (λ id slot symbol prb. ap (λ (b : Bool). b && gives h id slot symbol prb) is) kept

kept_more : (gs : List Kept) (js : List Judgement) (number : ℕ) (j : Judgement) → 0 < number → AreKept gs js → AreKept (gs ++ kept_by number j) (j ∷ js)
kept_more gs js number (Met m) some_number kept = kept_silent gs js (Met m) (λ id slot symbol prb. refl) kept
kept_more gs js number (Commanded s v) some_number kept = kept_silent gs js (Commanded s v) (λ id slot symbol prb. refl) kept
kept_more gs js number (Fragmented e f v) some_number kept = kept_silent gs js (Fragmented e f v) (λ id slot symbol prb. refl) kept
kept_more gs js number (Unread ep e m why) some_number kept = kept_silent gs js (Unread ep e m why) (λ id slot symbol prb. refl) kept
kept_more gs js number (Turned ep e m) some_number kept = kept_silent gs js (Turned ep e m) (λ id slot symbol prb. refl) kept
kept_more gs js number (Given h v) some_number kept = kept_given gs js number h v (is_timely v) refl some_number kept

passing_same : (from n : ℕ) (p q : ℕ → Bool) → ((k : ℕ) → p k ≡ q k) → passing from n p ≡ passing from n q
unfolding passing
passing_same from zero p q same = refl
passing_same from (suc n) p q same =
    ap (λ (b : Bool). (if b then 1 else 0) + passing (from + 1) n p) (same from) ∙ ap (λ (m : ℕ). (if q from then 1 else 0) + m) (passing_same (from + 1) n p q same)

kept_fresh : (gs : List Kept) (js : List Judgement) (number : ℕ) (h : DataHeading) → AreKept gs js → fresh_count gs (kept_of number h) ≡ judged.fresh_count js h
unfolding fresh_count judged.fresh_count
kept_fresh gs js number h kept =
    passing_same (first_given h) (given_count h) (λ prb. giver_of gs h.endpoint.id (heading_slot h) h.section.symbol prb == 0)
    (λ n. not (has_block js h.endpoint.id (heading_slot h) h.section.symbol n)) (λ k. by k (has_block js h.endpoint.id (heading_slot h) h.section.symbol k) refl)
  where
    by : (k : ℕ) (b : Bool) → has_block js h.endpoint.id (heading_slot h) h.section.symbol k ≡ b → (giver_of gs h.endpoint.id (heading_slot h) h.section.symbol k == 0) ≡ not b
    by k true is = kept.present 0 h.endpoint.id (heading_slot h) h.section.symbol k is
    by k false is = ap (λ (n : ℕ). n == 0) (kept.absent 0 h.endpoint.id (heading_slot h) h.section.symbol k is)

pub blocks_are_kept : BlocksAreKept
blocks_are_kept = record { none = kept_none; more = kept_more; fresh = kept_fresh }
