-- One more thing that a meter is told.
use Rattle.std.proofs.Common.{◌≡◌, ◌≢◌, ℕ, ℤ, ◌<◌, eqb, List, ◌∷◌, length, get_or, set, inl, inr, true, false, sym, ap, ◌∙◌, arith}
use Rattle.std.proofs.lemmas.Bool.{cases_eq, eq-eqb}
use Rattle.std.proofs.lemmas.Bool.Decides.{nat_tests}
use Rattle.delay_measure.specs.declared.states.Exchange.{Exchange}
use Rattle.std.proofs.lemmas.Grind.{common_steps}
use Rattle.delay_measure.specs.Table.{unused}
use Rattle.delay_measure.specs.After.{Told, id_of, exchange_next, exchange_after}

pub told_more : (s r : ℤ) (one : Told) (told : List Told) (old new : ℕ → Exchange)
    → new (id_of one) ≡ exchange_next s r one (old (id_of one))
    → ((i : ℕ) → i ≢ id_of one → new i ≡ old i)
    → ((i : ℕ) → i < 256 → old i ≡ exchange_after s r told i)
    → (i : ℕ) → i < 256 → new i ≡ exchange_after s r (one ∷ told) i
told_more s r one told old new here others before i h = elim (cases_eq (id_of one) i) [
  | inl same ↦
      let test : eqb (id_of one) i ≡ true = eq-eqb _ _ same in
      let next : new i ≡ exchange_next s r one (old i) = ap new (sym same) ∙ here ∙ ap (λ k. exchange_next s r one (old k)) same in
      rw test (next ∙ ap (exchange_next s r one) (before i h))
  | inr other ↦
      let test : eqb (id_of one) i ≡ false = grind (arith, nat_tests) in
      rw test (others i (λ e. other (sym e)) ∙ before i h)
]

-- the same, where the exchange of its id is replaced in a list
pub told_stored : (s r : ℤ) (one : Told) (told : List Told) (id : ℕ) (xs : List Exchange) (e : Exchange)
    → id_of one ≡ id → id < length xs
    → e ≡ exchange_next s r one (get_or xs id unused)
    → ((i : ℕ) → i < 256 → get_or xs i unused ≡ exchange_after s r told i)
    → (i : ℕ) → i < 256 → get_or (set xs id e) i unused ≡ exchange_after s r (one ∷ told) i
told_stored s r one told id xs e about room is before =
    let here : get_or (set xs id e) id unused ≡ e = grind (arith, common_steps) in
    let others : (i : ℕ) → i ≢ id → get_or (set xs id e) i unused ≡ get_or xs i unused = λ i apart. grind (arith, common_steps, apart) in
    told_more s r one told (λ i. get_or xs i unused) (λ i. get_or (set xs id e) i unused)
    (ap (λ k. get_or (set xs id e) k unused) about ∙ here ∙ is ∙ ap (λ k. exchange_next s r one (get_or xs k unused)) (sym about))
    (λ i apart. others i (λ same. apart (same ∙ sym about))) before
