-- Sections in the order in which a radio unit sends them: by their fields alone, whatever the order in which they were accepted.
use Rattle.std.proofs.Common.{◌≡◌, ℕ, ℤ, ◌<◌, ◌≤◌, inl, inr, Bool, true, false, ◌&&◌, ◌||◌, ◌==◌, nat_lt, if◌then◌else◌, List, [], ◌∷◌, ◌++◌, map, refl, ap, ap₂, sym, ◌∙◌, true≢false, arith}
use Rattle.std.proofs.lemmas.Bool.{cases_Bool, cases_lt, cases_eq, lt-ltb, eq-eqb, ne_eqb, le-ltb, ltb-false}
use Rattle.std.proofs.lemmas.Bool.Decides.{nat_tests}
use Rattle.fh_base.specs.declared.values.Slot.{Slot}
use Rattle.fh_base.specs.Lists.{in_order, put_in}
use Rattle.unit_model.specs.Uplink.{is_before, job_of}
use Rattle.unit_model.specs.declared.allocations.Allocation.{Allocation}
use Rattle.unit_model.specs.declared.jobs.UplinkJob.{UplinkJob}
use Rattle.plan_model.proofs.AcceptedLemmas.{AreDistinct}
use Rattle.uplink_laws.proofs.MemberLemmas.{by_members}
use Rattle.fh_base.specs.Members.{IsIn}

-- ---- orders

pub record IsOrder {K : Type 0} (below : K → K → Bool) : Type 0 where
  pub against : (x y : K) → below x y ≡ true → below y x ≡ false
  pub along : (x y z : K) → below y x ≡ false → below z y ≡ false → below z x ≡ false

-- a lesser number, or an equal one and what else decides
abbrev lex : ℕ → ℕ → Bool → Bool
lex m n r = nat_lt m n || ((m == n) && r)

abbrev by : {K : Type 0} → (K → ℕ) → (K → K → Bool) → K → K → Bool
by f rest a b = lex (f a) (f b) (rest a b)

lex_less : (m n : ℕ) (r : Bool) → m < n → lex m n r ≡ true
lex_less m n r h = rw (lt-ltb m n h) refl

lex_more : (m n : ℕ) (r : Bool) → n < m → lex m n r ≡ false
lex_more m n r h = rw (le-ltb m n (omega (arith, h)), ne_eqb m n (λ e. omega (arith, h, e))) refl

lex_same : (m n : ℕ) (r : Bool) → m ≡ n → lex m n r ≡ r
lex_same m n r e = rw (le-ltb m n (omega (arith, e)), eq-eqb m n e) refl

data Three (m n : ℕ) : Type 0 where
  less : m < n → Three m n
  same : m ≡ n → Three m n
  more : n < m → Three m n

three : (m n : ℕ) → Three m n
three m n = elim (cases_lt m n) [
  | inl l ↦ less l
  | inr g ↦ elim (cases_eq m n) [ inl e ↦ same e | inr ne ↦ more (omega (arith, g, ne)) ]
]

lex_low : (m n : ℕ) (r : Bool) → lex m n r ≡ false → n ≤ m
lex_low m n r h = elim (three m n) [
  | less l ↦ absurd (true≢false (sym (lex_less m n r l) ∙ h))
  | same e ↦ omega (arith, e)
  | more g ↦ omega (arith, g)
]

by_order : {K : Type 0} (f : K → ℕ) (rest : K → K → Bool) → IsOrder rest → IsOrder (by f rest)
by_order f rest o = record {
  against = λ x y h. elim (three (f x) (f y)) [
    | less l ↦ lex_more (f y) (f x) (rest y x) l
    | same e ↦ lex_same (f y) (f x) (rest y x) (sym e) ∙ o.against x y (sym (lex_same (f x) (f y) (rest x y) e) ∙ h)
    | more g ↦ absurd (true≢false (sym h ∙ lex_more (f x) (f y) (rest x y) g))
  ];
  along = λ x y z h k.
      (let a = lex_low (f y) (f x) (rest y x) h in
      let b = lex_low (f z) (f y) (rest z y) k in
      elim (three (f z) (f x)) [
        | less l ↦ absurd (omega (arith, a, b, l))
        | same e ↦
            let ex : f y ≡ f x = omega (arith, a, b, e) in
            let ez : f z ≡ f y = omega (arith, a, b, e) in
            lex_same (f z) (f x) (rest z x) e ∙ o.along x y z (sym (lex_same (f y) (f x) (rest y x) ex) ∙ h) (sym (lex_same (f z) (f y) (rest z y) ez) ∙ k)
        | more g ↦ lex_more (f z) (f x) (rest z x) g
      ]);
}

least_order : {K : Type 0} (f : K → ℕ) → IsOrder (λ a b. nat_lt (f a) (f b))
least_order f = record {
  against = λ x y h. not_above (f x) (f y) h;
  along = λ x y z h k. (let a = ltb-false (f y) (f x) h in let b = ltb-false (f z) (f y) k in le-ltb (f z) (f x) (omega (arith, a, b)));
}
  where
    not_above : (m n : ℕ) → nat_lt m n ≡ true → nat_lt n m ≡ false
    not_above m n h = grind (arith, nat_tests)

by_ties : (m n : ℕ) (r s : Bool) → lex m n r ≡ false → lex n m s ≡ false → (m ≡ n) × (r ≡ false) × (s ≡ false)
by_ties m n r s h k = elim (three m n) [
  | less l ↦ absurd (true≢false (sym (lex_less m n r l) ∙ h))
  | same e ↦ (e, sym (lex_same m n r e) ∙ h, sym (lex_same n m s (sym e)) ∙ k)
  | more g ↦ absurd (true≢false (sym (lex_less n m s g) ∙ k))
]

-- ---- two put in, in either order

module _ {K : Type 0} (below : K → K → Bool) where
  put_none : (x : K) → put_in below x [] ≡ x ∷ []
  unfolding put_in
  put_none x = refl

  put_behind : (x y : K) (ys : List K) → below y x ≡ true → put_in below x (y ∷ ys) ≡ y ∷ put_in below x ys
  unfolding put_in
  put_behind x y ys h = ap (λ (b : Bool). if b then y ∷ put_in below x ys else x ∷ y ∷ ys) h

  put_first : (x y : K) (ys : List K) → below y x ≡ false → put_in below x (y ∷ ys) ≡ x ∷ y ∷ ys
  unfolding put_in
  put_first x y ys h = ap (λ (b : Bool). if b then y ∷ put_in below x ys else x ∷ y ∷ ys) h

module _ {K : Type 0} (below : K → K → Bool) (o : IsOrder below) where
  abbrev put : K → List K → List K
  put x ys = put_in below x ys

  -- x is not above z, and z is below y
  between : (x y z : K) → below z x ≡ false → below z y ≡ true → below x y ≡ true
  between x y z zx zy = elim (cases_Bool (below x y)) [
    | inl xy ↦ xy
    | inr xy ↦ absurd (true≢false (sym zy ∙ o.along y x z xy zx))
  ]

  -- in front of a list in which neither goes after the first
  swap_front : (x y : K) → (below x y ≡ false → below y x ≡ false → x ≡ y) → (zs : List K) → put x zs ≡ x ∷ zs → put y zs ≡ y ∷ zs → put x (y ∷ zs) ≡ put y (x ∷ zs)
  swap_front x y tie zs hx hy = elim (cases_Bool (below y x)) [
    | inl yx ↦ put_behind below x y zs yx ∙ ap (λ ws. y ∷ ws) hx ∙ sym (put_first below y x zs (o.against y x yx))
    | inr yx ↦ elim (cases_Bool (below x y)) [
      | inl xy ↦ put_first below x y zs yx ∙ ap (λ ws. x ∷ ws) (sym hy) ∙ sym (put_behind below y x zs xy)
      | inr xy ↦ (let e = tie xy yx in put_first below x y zs yx ∙ ap₂ (λ a b. a ∷ b ∷ zs) e (sym e) ∙ sym (put_first below y x zs xy))
    ]
  ]

  pub put_swap : (x y : K) → (below x y ≡ false → below y x ≡ false → x ≡ y) → (zs : List K) → put x (put y zs) ≡ put y (put x zs)
  put_swap x y tie [] = ap (put x) (put_none below y) ∙ swap_front x y tie [] (put_none below x) (put_none below y) ∙ ap (put y) (sym (put_none below x))
  put_swap x y tie (z ∷ zs) = elim (cases_Bool (below z y)) [
    | inl zy ↦ elim (cases_Bool (below z x)) [
      | inl zx ↦
          ap (put x) (put_behind below y z zs zy) ∙ put_behind below x z (put y zs) zx
          ∙ ap (λ ws. z ∷ ws) (put_swap x y tie zs)
          ∙ sym (ap (put y) (put_behind below x z zs zx) ∙ put_behind below y z (put x zs) zy)
      | inr zx ↦
          ap (put x) (put_behind below y z zs zy) ∙ put_first below x z (put y zs) zx
          ∙ sym (ap (put y) (put_first below x z zs zx) ∙ put_behind below y x (z ∷ zs) (between x y z zx zy) ∙ ap (λ ws. x ∷ ws) (put_behind below y z zs zy))
    ]
    | inr zy ↦ elim (cases_Bool (below z x)) [
      | inl zx ↦
          ap (put x) (put_first below y z zs zy) ∙ put_behind below x y (z ∷ zs) (between y x z zy zx) ∙ ap (λ ws. y ∷ ws) (put_behind below x z zs zx)
          ∙ sym (ap (put y) (put_behind below x z zs zx) ∙ put_first below y z (put x zs) zy)
      | inr zx ↦
          ap (put x) (put_first below y z zs zy) ∙ swap_front x y tie (z ∷ zs) (put_first below x z zs zx) (put_first below y z zs zy) ∙ ap (put y) (sym (put_first below x z zs zx))
    ]
  ]

-- ---- the jobs of a symbol

-- the order of jobs of one symbol: that of their sections
abbrev job_before : UplinkJob → UplinkJob → Bool
job_before = by (λ (j : UplinkJob). j.start_prb) (by (λ (j : UplinkJob). j.num_prb) (by (λ (j : UplinkJob). j.section) (λ (a b : UplinkJob). nat_lt a.filter b.filter)))

job_order : IsOrder job_before
job_order =
    by_order (λ (j : UplinkJob). j.start_prb) _ (by_order (λ (j : UplinkJob). j.num_prb) _ (by_order (λ (j : UplinkJob). j.section) _ (least_order (λ (j : UplinkJob). j.filter))))

module _ (ep : ℕ) (start : ℤ) (slot : Slot) (symbol : ℕ) where
  abbrev job : Allocation → UplinkJob
  job = job_of ep start slot symbol

  same_job : (a b : Allocation) → a.start_prb ≡ b.start_prb → a.num_prb ≡ b.num_prb → a.section ≡ b.section → a.filter ≡ b.filter → job a ≡ job b
  same_job a b e1 e2 e3 e4 = rw (e1, e2, e3, e4) refl

  -- what ties in all keys is one job
  one_job : (a b : Allocation) → job_before (job a) (job b) ≡ false → job_before (job b) (job a) ≡ false → job a ≡ job b
  one_job a b h k =
      let one = by_ties a.start_prb b.start_prb _ _ h k in
      let two = by_ties a.num_prb b.num_prb _ _ one.1 one.2 in
      let three = by_ties a.section b.section _ _ two.1 two.2 in
      let low = ltb-false a.filter b.filter three.1 in
      let high = ltb-false b.filter a.filter three.2 in
      same_job a b one.0 two.0 three.0 (omega (arith, low, high))

  put_job : (a : Allocation) (xs : List Allocation) → map job (put_in is_before a xs) ≡ put_in job_before (job a) (map job xs)
  put_job a [] = ap (map job) (put_none is_before a) ∙ sym (put_none job_before (job a))
  put_job a (x ∷ xs) = elim (cases_Bool (is_before x a)) [
    | inl is ↦ ap (map job) (put_behind is_before a x xs is) ∙ ap (λ (js : List UplinkJob). job x ∷ js) (put_job a xs) ∙ sym (put_behind job_before (job a) (job x) (map job xs) is)
    | inr other ↦ ap (map job) (put_first is_before a x xs other) ∙ sym (put_first job_before (job a) (job x) (map job xs) other)
  ]

  abbrev sorted : List Allocation → List UplinkJob
  sorted xs = map job (in_order is_before xs)

  sorted_more : (a : Allocation) (xs : List Allocation) → sorted (a ∷ xs) ≡ put_in job_before (job a) (sorted xs)
  unfolding in_order
  sorted_more a xs = put_job a (in_order is_before xs)

  -- one that is anywhere
  sorted_any : (x : Allocation) (before after : List Allocation) → sorted (before ++ x ∷ after) ≡ put_in job_before (job x) (sorted (before ++ after))
  sorted_any x [] after = sorted_more x after
  sorted_any x (a ∷ before) after =
      sorted_more a (before ++ x ∷ after)
      ∙ ap (λ (js : List UplinkJob). put_in job_before (job a) js) (sorted_any x before after)
      ∙ put_swap job_before job_order (job a) (job x) (one_job a x) (sorted (before ++ after))
      ∙ ap (λ (js : List UplinkJob). put_in job_before (job x) js) (sym (sorted_more a (before ++ after)))

  -- the jobs are told by which sections there are
  pub sorted_same : (xs ys : List Allocation) → AreDistinct xs → AreDistinct ys → ((a : Allocation) → IsIn a xs → IsIn a ys) → ((a : Allocation) → IsIn a ys → IsIn a xs) → sorted xs ≡ sorted ys
  sorted_same =
      by_members (λ xs ys. sorted xs ≡ sorted ys) refl (λ x xs before after e.
      sorted_more x xs ∙ ap (λ (js : List UplinkJob). put_in job_before (job x) js) e ∙ sym (sorted_any x before after))
