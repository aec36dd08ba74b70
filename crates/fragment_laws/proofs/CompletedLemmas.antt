-- The messages that become whole are those that were sent, each once.
use Rattle.std.proofs.Common.{◌≡◌, ℕ, ℤ, ◌⊎◌, inl, inr, List, [], ◌∷◌, ◌++◌, refl, ap, ap₂, ◌∙◌, Option, Some, None, true, false, ◌==◌, ◌&&◌}
use Rattle.std.proofs.lemmas.Bool.{cases_Bool}
use Rattle.ecpri_fragments.specs.Generations.{Fragment}
use Rattle.ecpri_fragments.specs.declared.verdict.Verdict.{Verdict}
use Rattle.ecpri_fragments.specs.Verdicts.{Message, message, standing_before, verdict_on, whole_of, whole_now}
use Rattle.ecpri_fragments.specs.declared.verdict.Verdict.TheVariants.{Stored, Whole, Repeat, Stray, TooLong}
use Rattle.fragment_laws.specs.Apart.{Numbers, number_of}
use Rattle.fragment_laws.specs.Flow.{numbers_of}
use Rattle.fragment_laws.specs.Once.{Answered, answers, Completed, with_whole, wholes, numbered, WholesAreTheSent}
use Rattle.fragment_laws.proofs.FlowLemmas.{copy}
use Rattle.fragment_laws.proofs.OnceLemmas.{once_whole}
use Rattle.fh_base.specs.Members.{IsIn}

-- of answers, what became whole
abbrev kept : Verdict → Message → Option Message
kept Stored m = None
kept Whole m = Some m
kept Repeat m = None
kept Stray m = None
kept TooLong m = None

abbrev picked : List Answered → List Completed
picked [] = []
picked (x ∷ xs) = with_whole x.fragment (kept x.was x.shows) (picked xs)

whole_of-kept : (v : Verdict) (a : Fragment) (s : List Fragment) → whole_of v a s ≡ kept v (message (a ∷ s))
whole_of-kept Stored a s = refl
whole_of-kept Whole a s = refl
whole_of-kept Repeat a s = refl
whole_of-kept Stray a s = refl
whole_of-kept TooLong a s = refl

own : (num : Numbers) (ep j : ℕ) (a : Fragment) (o : Option Message) (ms : List Completed) → ((a.ep == ep) && (number_of num a == j)) ≡ true
    → numbered num ep j (with_whole a o ms) ≡ with_whole a o (numbered num ep j ms)
own num ep j a None ms e = refl
own num ep j a (Some m) ms e = rw e refl

other : (num : Numbers) (ep j : ℕ) (a : Fragment) (o : Option Message) (ms : List Completed) → ((a.ep == ep) && (number_of num a == j)) ≡ false
    → numbered num ep j (with_whole a o ms) ≡ numbered num ep j ms
other num ep j a None ms e = refl
other num ep j a (Some m) ms e = rw e refl

numbered_is : (hold : ℤ) (num : Numbers) (ep j : ℕ) (xs : List Fragment) → numbered num ep j (wholes hold xs) ≡ picked (answers hold num ep j xs)
numbered_is hold num ep j [] = refl
numbered_is hold num ep j (a ∷ xs) =
    let before = numbered_is hold num ep j xs in
    elim (cases_Bool ((a.ep == ep) && (number_of num a == j))) [
      | inl e ↦
          let k = own num ep j a (whole_now hold a xs) (wholes hold xs) e in
          let w = ap₂ (λ (o : Option Message) (ms : List Completed). with_whole a o ms) (whole_of-kept (verdict_on hold a xs) a (standing_before hold a xs)) before in
          k ∙ w ∙ rw e refl
      | inr ne ↦ other num ep j a (whole_now hold a xs) (wholes hold xs) ne ∙ before ∙ rw ne refl
    ]

rests : (x : Answered) (ms : List Completed) → (x.was ≡ Stored) ⊎ (x.was ≡ Repeat) → with_whole x.fragment (kept x.was x.shows) ms ≡ ms
rests x ms (inl e) = rw e refl
rests x ms (inr e) = rw e refl

picked_none : (xs ys : List Answered) → ((x : Answered) → IsIn x xs → (x.was ≡ Stored) ⊎ (x.was ≡ Repeat)) → picked (xs ++ ys) ≡ picked ys
picked_none [] ys h = refl
picked_none (x ∷ xs) ys h = rests x (picked (xs ++ ys)) (h x (inl refl)) ∙ picked_none xs ys (λ y m. h y (inr m))

picked_all : (xs : List Answered) → ((x : Answered) → IsIn x xs → (x.was ≡ Stored) ⊎ (x.was ≡ Repeat)) → picked xs ≡ []
picked_all [] h = refl
picked_all (x ∷ xs) h = rests x (picked xs) (h x (inl refl)) ∙ picked_all xs (λ y m. h y (inr m))

in_wholes : (hold : ℤ) (xs : List Fragment) (c : Completed) → IsIn c (wholes hold xs) → IsIn c.by xs
in_wholes hold [] c m = absurd m
in_wholes hold (a ∷ xs) c m = go (whole_now hold a xs) (in_wholes hold xs c) m
  where
    go : (o : Option Message) → (IsIn c (wholes hold xs) → IsIn c.by xs) → IsIn c (with_whole a o (wholes hold xs)) → IsIn c.by (a ∷ xs)
    go None before m = inr (before m)
    go (Some w) before (inl here) = inl (ap (λ (x : Completed). x.by) here)
    go (Some w) before (inr there) = inr (before there)

pub are_the_sent : WholesAreTheSent
are_the_sent b flow v all d = record {
  sent = λ c m. (copy b flow v all d c.by (in_wholes b.hold all c m)).below;
  once = λ ep j below.
      (let o = once_whole b flow v all d ep j below in
      let c : Completed = record { by = o.whole.fragment; message = o.whole.shows } in
      let one : picked (o.whole ∷ o.before) ≡ c ∷ [] =
      ap₂ (λ (w : Verdict) (ms : List Completed). with_whole o.whole.fragment (kept w o.whole.shows) ms) o.was (picked_all o.before o.waits) in
      (c, numbered_is b.hold (numbers_of b flow) ep j all ∙ ap picked o.is ∙ picked_none o.after (o.whole ∷ o.before) (λ x m. inr (o.repeats x m)) ∙ one, o.pieces));
}
