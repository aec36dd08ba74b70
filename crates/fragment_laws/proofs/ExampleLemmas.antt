-- The example keeps all that the laws ask for.
use Rattle.std.proofs.Common.{◌≡◌, ℕ, zero, suc, ℤ, ◌≤ℤ◌, ◌<◌, ◌≤◌, inl, inr, List, [], ◌∷◌, refl, ap, sym, ◌∙◌, subst, arith}
use Rattle.std.proofs.lemmas.Int.{ints}
use Rattle.std.proofs.lemmas.Bool.{cases_eq, eq-eqb, ne_eqb}
use Rattle.ecpri_fragments.specs.Generations.{Fragment}
use Rattle.fragment_laws.specs.Apart.{IsFalling}
use Rattle.fragment_laws.specs.Flow.{IsSound, IsCopyOf, IsDelivered}
use Rattle.fragment_laws.specs.Example.{example_bounds, example_flow, long_flow, frame, came, IsExample}
use Rattle.fh_base.specs.Members.{IsIn}

few : (ep : ℕ) → (example_flow ep).count ≤ 2
few ep = elim (cases_eq ep 0) [
  | inl e ↦ (let b = eq-eqb ep 0 e in rw b (omega arith))
  | inr ne ↦ (let b = ne_eqb ep 0 ne in rw b (omega arith))
]

only : (ep j : ℕ) → j < (example_flow ep).count → ep ≡ 0
only ep j below = elim (cases_eq ep 0) [
  | inl e ↦ e
  | inr ne ↦ (let b = ne_eqb ep 0 ne in let l : j < 0 = rw b at below in absurd (omega (arith, l)))
]

sound : (ep : ℕ) → IsSound example_bounds (example_flow ep)
sound ep = record {
  delays = omega (arith, ints);
  hold = omega (arith, ints);
  rising = λ j k le below. omega (arith, ints);
  not_dense = λ j below. absurd (let f = few ep in omega (arith, below, f));
  some = λ j below. omega arith;
  short = λ j below. omega arith;
}

long : IsSound example_bounds long_flow
long = record {
  delays = omega (arith, ints);
  hold = omega (arith, ints);
  rising = λ j k le below. omega (arith, ints);
  not_dense = λ j below. inl (omega (arith, ints));
  some = λ j below. omega arith;
  short = λ j below. omega arith;
}

copied : (j k delay : ℕ) → j < 2 → k < 2 → 10 ≤ delay → delay ≤ 30 → IsCopyOf example_bounds (example_flow 0) j (frame j k delay)
copied j k delay bj bk lo hi = record {
  below = bj;
  sub = bk;
  id = refl;
  last = refl;
  bytes = refl;
  from = omega (arith, ints);
  to = omega (arith, ints);
}

is_copy : (a : Fragment) (j k delay : ℕ) → a ≡ frame j k delay → j < 2 → k < 2 → 10 ≤ delay → delay ≤ 30 → (i : ℕ) × IsCopyOf example_bounds (example_flow a.ep) i a
is_copy a j k delay e bj bk lo hi = (j, subst (λ (x : Fragment). IsCopyOf example_bounds (example_flow x.ep) j x) (sym e) (copied j k delay bj bk lo hi))

abbrev Given : ℕ → ℕ → Type 0
Given j k = (a : Fragment) × IsIn a came × (a.ep ≡ 0) × (a.sub ≡ k) × IsCopyOf example_bounds (example_flow 0) j a

given : (j k : ℕ) → j < 2 → k < 2 → Given j k
given zero zero bj bk = (frame 0 0 28, inr (inr (inr (inl refl))), refl, refl, copied 0 0 28 (omega arith) (omega arith) (omega arith) (omega arith))
given zero (suc zero) bj bk = (frame 0 1 25, inr (inr (inl refl)), refl, refl, copied 0 1 25 (omega arith) (omega arith) (omega arith) (omega arith))
given (suc zero) zero bj bk = (frame 1 0 30, inr (inl refl), refl, refl, copied 1 0 30 (omega arith) (omega arith) (omega arith) (omega arith))
given (suc zero) (suc zero) bj bk = (frame 1 1 25, inl refl, refl, refl, copied 1 1 25 (omega arith) (omega arith) (omega arith) (omega arith))
given zero (suc (suc k)) bj bk = absurd (omega arith)
given (suc zero) (suc (suc k)) bj bk = absurd (omega arith)
given (suc (suc j)) k bj bk = absurd (omega arith)

-- each was received no later than this
abbrev AreBefore : ℤ → List Fragment → Type 0
AreBefore t xs = (b : Fragment) → IsIn b xs → b.at ≤ℤ t

none_before : (t : ℤ) → AreBefore t []
none_before t b m = absurd m

one_before : (t : ℤ) (a : Fragment) (xs : List Fragment) → a.at ≤ℤ t → AreBefore t xs → AreBefore t (a ∷ xs)
one_before t a xs le h b m = elim m [ inl here ↦ (let e = ap (λ (x : Fragment). x.at) here in omega (arith, ints)) | inr there ↦ h b there ]

next_before : (t : ℤ) (a : Fragment) (xs : List Fragment) → a.at ≤ℤ t → IsFalling (a ∷ xs) → AreBefore t (a ∷ xs)
next_before t a xs le h = one_before t a xs le (λ b m. (let x = h.0 b m in omega (arith, ints)))

falling_one : (a : Fragment) → IsFalling (a ∷ [])
falling_one a = (none_before a.at, tt)

falling_more : (a c : Fragment) (xs : List Fragment) → c.at ≤ℤ a.at → IsFalling (c ∷ xs) → IsFalling (a ∷ c ∷ xs)
falling_more a c xs le h = (next_before a.at c xs le h, h)

falling : IsFalling came
falling =
    falling_more (frame 1 1 25) (frame 1 0 30) (frame 0 1 25 ∷ frame 0 0 28 ∷ frame 1 0 15 ∷ frame 0 1 11 ∷ []) (omega (arith, ints)) (
    falling_more (frame 1 0 30) (frame 0 1 25) (frame 0 0 28 ∷ frame 1 0 15 ∷ frame 0 1 11 ∷ []) (omega (arith, ints)) (
    falling_more (frame 0 1 25) (frame 0 0 28) (frame 1 0 15 ∷ frame 0 1 11 ∷ []) (omega (arith, ints)) (
    falling_more (frame 0 0 28) (frame 1 0 15) (frame 0 1 11 ∷ []) (omega (arith, ints)) (
    falling_more (frame 1 0 15) (frame 0 1 11) [] (omega (arith, ints)) (
    falling_one (frame 0 1 11))))))

delivered : IsDelivered example_bounds example_flow came
delivered = record {
  falling = falling;
  came = λ a m. elim m [
    | inl e ↦ is_copy a 1 1 25 e (omega arith) (omega arith) (omega arith) (omega arith)
    | inr m ↦ elim m [
      | inl e ↦ is_copy a 1 0 30 e (omega arith) (omega arith) (omega arith) (omega arith)
      | inr m ↦ elim m [
        | inl e ↦ is_copy a 0 1 25 e (omega arith) (omega arith) (omega arith) (omega arith)
        | inr m ↦ elim m [
          | inl e ↦ is_copy a 0 0 28 e (omega arith) (omega arith) (omega arith) (omega arith)
          | inr m ↦ elim m [
            | inl e ↦ is_copy a 1 0 15 e (omega arith) (omega arith) (omega arith) (omega arith)
            | inr m ↦ elim m [
              | inl e ↦ is_copy a 0 1 11 e (omega arith) (omega arith) (omega arith) (omega arith)
              | inr m ↦ absurd m
            ]
          ]
        ]
      ]
    ]
  ];
  every = λ ep j k below less.
      (let z = only ep j below in
      let f = few ep in
      let g = given j k (omega (arith, below, f)) less in
      (g.0, g.1, g.2 ∙ sym z, g.3, subst (λ (i : ℕ). IsCopyOf example_bounds (example_flow i) j g.0) (sym z) g.4));
}

pub example : IsExample
example = record { long = long; sound = sound; delivered = delivered; are = refl }
