-- Messages in lists.
use Rattle.std.proofs.Common.{◌≡◌, suc, true, false, List, [], ◌∷◌, ◌++◌, refl, sym, subst, arith, inl, inr}
use Rattle.std.specs.Prelude.{Contains, All}
use Rattle.std.proofs.lemmas.Bool.{cases_Bool, both_ways}
use Rattle.std.proofs.lemmas.List.Elements.{All-cons, All-head, All-nil, All-tail, All-contains, All-weaker, filter-append}
use Rattle.delay_laws.specs.Nodes.{Timed, is_request, requests}

pub none_in : (x : Timed) → Contains [] x → ⊥
none_in x h = let lt = h.1 in omega arith

-- where none is a request
pub no_requests : (xs : List Timed) → All (λ x. is_request x ≡ false) xs → requests xs ≡ []
no_requests [] all = refl
no_requests (x ∷ xs) all =
    let here = All-head (λ x. is_request x ≡ false) x xs all in
    let rest = no_requests xs (All-tail (λ x. is_request x ≡ false) x xs all) in
    rw here rest

-- what holds of each request holds of a message that is one
passing : (P : Timed → Type 0) (xs : List Timed) → All P (requests xs) → All (λ x. is_request x ≡ true → P x) xs
passing P [] all = All-nil (λ x. is_request x ≡ true → P x)
passing P (x ∷ xs) all = elim (cases_Bool (is_request x)) [
  | inl is ↦
      let kept : requests (x ∷ xs) ≡ x ∷ requests xs = rw is refl in
      let all' = subst (All P) kept all in
      All-cons (λ x. is_request x ≡ true → P x) x xs (λ same. All-head P x (requests xs) all') (passing P xs (All-tail P x (requests xs) all'))
  | inr other ↦
      let kept : requests (x ∷ xs) ≡ requests xs = rw other refl in
      let all' = subst (All P) kept all in
      All-cons (λ x. is_request x ≡ true → P x) x xs (λ same. absurd (both_ways (is_request x) other same)) (passing P xs all')
]

-- a request among messages of which one is a request
pub the_request : (xs : List Timed) (x r : Timed) → requests xs ≡ r ∷ [] → Contains xs x → is_request x ≡ true → x ≡ r
the_request xs x r alone h is =
    let all = All-cons (λ (y : Timed). y ≡ r) r [] refl (All-nil (λ (y : Timed). y ≡ r)) in
    All-contains (λ (y : Timed). is_request y ≡ true → y ≡ r) xs x (passing (λ y. y ≡ r) xs (subst (All (λ (y : Timed). y ≡ r)) (sym alone) all)) h is

pub requests_append : (xs ys : List Timed) → requests (xs ++ ys) ≡ requests xs ++ requests ys
requests_append xs ys = filter-append is_request xs ys

-- where there is no request, no message is one
pub none_among : (xs : List Timed) (x : Timed) → requests xs ≡ [] → Contains xs x → is_request x ≡ true → ⊥
none_among xs x none h is = All-contains (λ (y : Timed). is_request y ≡ true → ⊥) xs x (passing (λ y. ⊥) xs (subst (All (λ (y : Timed). ⊥)) (sym none) (All-nil (λ (y : Timed). ⊥)))) h is

behind : (y : Timed) (xs : List Timed) (x : Timed) → Contains xs x → Contains (y ∷ xs) x
behind y xs x h = (suc h.0, (let lt = h.1 in omega arith), h.2)

-- each request is one of the messages
abbrev pub IsOneOf : List Timed → Timed → Type 0
IsOneOf xs x = Contains xs x × (is_request x ≡ true)

requests_among : (xs : List Timed) → All (IsOneOf xs) (requests xs)
requests_among [] = All-nil (IsOneOf [])
requests_among (x ∷ xs) =
    let rest = All-weaker (IsOneOf xs) (IsOneOf (x ∷ xs)) (λ y h. (behind x xs y h.0, h.1)) (requests xs) (requests_among xs) in
    elim (cases_Bool (is_request x)) [
      | inl is ↦ let both = All-cons (IsOneOf (x ∷ xs)) x (requests xs) ((0, omega arith, refl), is) rest in rw is both
      | inr other ↦ rw other rest
    ]

pub the_first : (xs : List Timed) (r : Timed) → requests xs ≡ r ∷ [] → Contains xs r × (is_request r ≡ true)
the_first xs r alone = All-head (IsOneOf xs) r [] (subst (All (IsOneOf xs)) alone (requests_among xs))
