-- What is known of the claims of a symbol.
use Rattle.std.proofs.Common.{◌≡◌, ℕ, zero, suc, ◌+◌, ◌-◌, ◌*◌, ◌<◌, ◌≤◌, inl, inr, Bool, true, false, not, ◌&&◌, ◌||◌, ◌==◌, nat_le, nat_lt, min, max, if◌then◌else◌, is_some, List, [], ◌∷◌, length, get_or, replicate, set, get_or-set_same, get_or-set_other, refl, ap, sym, ◌∙◌, subst, arith, Option, Some, None}
use Rattle.std.proofs.lemmas.Bool.{and_from, and_parts, cases_Bool, cases_eq, cases_lt, le-leb, leb-true, lt-ltb, ltb-false, ltb-true}
use Rattle.unit_model.specs.Claims.{claim_of, first_prb, in_mask, is_claimed, is_from, is_other, is_overlapped, is_under, prb_count}
use Rattle.fh_base.specs.Lists.{every, some}
use Rattle.unit_model.specs.declared.allocations.Allocation.{Allocation}
use Rattle.unit_model.specs.declared.cells.Claim.{Claim}
use Rattle.slot_rings.specs.Places.{cell_number, claim_in, no_claims, unreported}
use Rattle.slot_rings.specs.Rows.{AreRows, Grows, IsRow, IsRun, empty_row, claim_id, id_with, row_claims, row_at, run_claims, claimed_run}
use Rattle.slot_rings.specs.declared.claims.CellClaims.{CellClaims}
use Rattle.slot_rings.specs.declared.rows.Row.{Row}
use Rattle.slot_rings.specs.declared.rows.Row.TheVariants.{Known, Mixed}
use Rattle.slot_rings.specs.declared.rows.Run.{Run}
use Rattle.slot_rings.proofs.JudgeLemmas.{from_above, from_below}
use Rattle.slot_rings.proofs.PlaceLemmas.{no_claim}
use Rattle.slot_rings.proofs.RangeLemmas.{every_not, some_from}
use Rattle.fh_base.specs.declared.symbols.TheConstants.{SLOT_SYMBOLS}
use Rattle.unit_model.proofs.ClaimLemmas.{is_in as from_in, every_same, some_same, every_at, every_one as every_from, some_one}

-- ---- tests of claims go by their ids alone

abbrev under_id : ℕ → Option ℕ → Bool
under_id id None = false
under_id id (Some i) = i == id

abbrev has_id : Option ℕ → Bool
has_id None = false
has_id (Some i) = true

abbrev other_id : ℕ → Option ℕ → Bool
other_id id None = false
other_id id (Some i) = not (i == id)

under_is : (id : ℕ) (o : Option Claim) → is_under id o ≡ under_id id (claim_id o)
under_is id None = refl
under_is id (Some c) = refl

overlap_is : (id : ℕ) (m : Bool) (o : Option Claim) → ((m && is_some o) || is_other id o) ≡ ((m && has_id (claim_id o)) || other_id id (claim_id o))
overlap_is id m None = refl
overlap_is id m (Some c) = refl

pub claimed_ids : (id mask : ℕ) (f g : ℕ → Option Claim) → ((re : ℕ) → re < 12 → claim_id (f re) ≡ claim_id (g re)) → is_claimed id mask f ≡ is_claimed id mask g
claimed_ids id mask f g same = every_same 0 12 _ _ (λ re low high.
    ap (λ b. not (in_mask mask re) || b) (under_is id (f re) ∙ ap (under_id id) (same re (omega arith)) ∙ sym (under_is id (g re))))

pub overlapped_ids : (id mask : ℕ) (f g : ℕ → Option Claim) → ((re : ℕ) → re < 12 → claim_id (f re) ≡ claim_id (g re)) → is_overlapped id mask f ≡ is_overlapped id mask g
overlapped_ids id mask f g same = some_same 0 12 _ _ (λ re low high.
    overlap_is id (in_mask mask re) (f re)
    ∙ ap (λ o. (in_mask mask re && has_id o) || other_id id o) (same re (omega arith))
    ∙ sym (overlap_is id (in_mask mask re) (g re)))

-- ---- a run

in_run : (r : Run) (n : ℕ) → r.first ≤ n → n < r.first + r.count → row_claims r n ≡ run_claims r
in_run r n low high = let e = from_in r.first r.count n low high in rw e refl

before_run : (r : Run) (n : ℕ) → n < r.first → row_claims r n ≡ no_claims
before_run r n below = let e = from_below r.first r.count n below in rw e refl

behind_run : (r : Run) (n : ℕ) → r.first + r.count ≤ n → row_claims r n ≡ no_claims
behind_run r n above = let e = from_above r.first r.count n above in rw e refl

-- where a cell without claims has what is asked for, every cell has
unclaimed_all : (id mask : ℕ) (f : ℕ → Option Claim) → is_claimed id mask (claim_in no_claims) ≡ true → is_claimed id mask f ≡ true
unclaimed_all id mask f all = every_from 0 12 _ (λ re low high.
    free (in_mask mask re) _ _ (no_claim re) (every_at 0 12 (λ re. not (in_mask mask re) || is_under id (claim_in no_claims re)) re all low high))
  where
    free : (m : Bool) (o : Option Claim) (p : Option Claim) → p ≡ None → (not m || is_under id p) ≡ true → (not m || is_under id o) ≡ true
    free true o p e is = cc
    free false o p e is = refl

pub all_in_run : (r : Run) (first count id mask : ℕ) → (nat_le r.first first && nat_le (first + count) (r.first + r.count)) ≡ true → 0 < count
    → is_claimed id mask (claim_in (run_claims r)) ≡ every first count (λ n. is_claimed id mask (claim_in (row_claims r n)))
all_in_run r first count id mask is any =
    let low : r.first ≤ first = leb-true r.first first (and_parts (nat_le r.first first) (nat_le (first + count) (r.first + r.count)) is).0 in
    let high : first + count ≤ r.first + r.count = leb-true (first + count) (r.first + r.count) (and_parts (nat_le r.first first) (nat_le (first + count) (r.first + r.count)) is).1 in
    elim (cases_Bool (is_claimed id mask (claim_in (run_claims r)))) [
      | inl is_so ↦ is_so ∙ sym (every_from first count _ (λ n left right. ap (λ m. is_claimed id mask (claim_in m)) (in_run r n (omega (arith, low, left)) (omega (arith, high, right))) ∙ is_so))
      | inr none ↦ none ∙ sym (every_not first count (λ n. is_claimed id mask (claim_in (row_claims r n))) first (omega arith) (omega (arith, any))
          (ap (λ m. is_claimed id mask (claim_in m)) (in_run r first low (omega (arith, high, any))) ∙ none))
    ]

-- a cell of the range that the run does not reach
not_in_run : (r : Run) (first count id mask n : ℕ) → first ≤ n → n < first + count → row_claims r n ≡ no_claims
    → is_claimed id mask (claim_in no_claims) ≡ every first count (λ n. is_claimed id mask (claim_in (row_claims r n)))
not_in_run r first count id mask n left right out = elim (cases_Bool (is_claimed id mask (claim_in no_claims))) [
  | inl is_so ↦ is_so ∙ sym (every_from first count _ (λ k low high. unclaimed_all id mask (claim_in (row_claims r k)) is_so))
  | inr none ↦ none ∙ sym (every_not first count (λ n. is_claimed id mask (claim_in (row_claims r n))) n left right
      (ap (λ m. is_claimed id mask (claim_in m)) out ∙ none))
]

pub not_all_in_run : (r : Run) (first count id mask : ℕ) → 0 < count → (nat_le r.first first && nat_le (first + count) (r.first + r.count)) ≡ false
    → is_claimed id mask (claim_in no_claims) ≡ every first count (λ n. is_claimed id mask (claim_in (row_claims r n)))
not_all_in_run r first count id mask some out = elim (cases_lt first r.first) [
  | inl below ↦ not_in_run r first count id mask first (omega arith) (omega (arith, some)) (before_run r first below)
  | inr low ↦ elim (cases_lt first (r.first + r.count)) [
    | inr more ↦ not_in_run r first count id mask first (omega arith) (omega (arith, some)) (behind_run r first more)
    | inl less ↦ elim (cases_lt (r.first + r.count) (first + count)) [
      | inl above ↦ not_in_run r first count id mask (r.first + r.count) (omega (arith, less)) above (behind_run r (r.first + r.count) (omega arith))
      | inr within ↦ absurd (differ _ (and_from _ _ (le-leb r.first first low) (le-leb (first + count) (r.first + r.count) within)) out)
    ]
  ]
]
  where
    differ : (b : Bool) → b ≡ true → b ≡ false → ⊥
    differ b p q = cc

-- nothing clashes with a cell without claims
unclaimed_free : (id mask : ℕ) → is_overlapped id mask (claim_in no_claims) ≡ false
unclaimed_free id mask = some_from 0 12 _ (λ re low high. none (in_mask mask re) (claim_in no_claims re) (no_claim re))
  where
    none : (m : Bool) (o : Option Claim) → o ≡ None → ((m && is_some o) || is_other id o) ≡ false
    none true None e = refl
    none false None e = refl
    none m (Some c) e = cc

pub meets_run : (r : Run) (first count id mask : ℕ) → nat_lt (max r.first first) (min (r.first + r.count) (first + count)) ≡ true
    → is_overlapped id mask (claim_in (run_claims r)) ≡ some first count (λ n. is_overlapped id mask (claim_in (row_claims r n)))
meets_run r first count id mask is =
    let less = ltb-true _ _ is in
    elim (cases_Bool (is_overlapped id mask (claim_in (run_claims r)))) [
      | inl is_so ↦ is_so ∙ sym (some_one first count (λ n. is_overlapped id mask (claim_in (row_claims r n))) (max r.first first) (omega (arith, less)) (omega (arith, less))
          (ap (λ m. is_overlapped id mask (claim_in m)) (in_run r (max r.first first) (omega (arith, less)) (omega (arith, less))) ∙ is_so))
      | inr none ↦ none ∙ sym (some_from first count _ (λ k a b. each k none))
    ]
  where
    each : (k : ℕ) → is_overlapped id mask (claim_in (run_claims r)) ≡ false → is_overlapped id mask (claim_in (row_claims r k)) ≡ false
    each k none = elim (cases_Bool (is_from r.first r.count k)) [
      | inl own ↦ rw own none
      | inr other ↦ let e = unclaimed_free id mask in rw other e
    ]

pub misses_run : (r : Run) (first count id mask : ℕ) → nat_lt (max r.first first) (min (r.first + r.count) (first + count)) ≡ false
    → false ≡ some first count (λ n. is_overlapped id mask (claim_in (row_claims r n)))
misses_run r first count id mask is =
    let more = ltb-false _ _ is in
    sym (some_from first count _ (λ n left right. elim (cases_lt n r.first) [
      | inl below ↦ ap (λ m. is_overlapped id mask (claim_in m)) (before_run r n below) ∙ unclaimed_free id mask
      | inr low ↦ elim (cases_lt n (r.first + r.count)) [
        | inl high ↦ absurd (omega (arith, more, left, right, low, high))
        | inr above ↦ ap (λ m. is_overlapped id mask (claim_in m)) (behind_run r n above) ∙ unclaimed_free id mask
      ]
    ]))

-- ---- a symbol by its row

pub run_at : (prbs : ℕ) (claims : List CellClaims) (rows : List Row) (symbol : ℕ) (r : Run) → AreRows prbs claims rows → Known r ≡ row_at rows symbol → IsRun prbs claims symbol r
run_at prbs claims rows symbol r are is = subst (λ (x : Row). IsRow prbs claims symbol x) (sym is) (are.each symbol)

pub every_in_run : (prbs : ℕ) (claims : List CellClaims) (symbol : ℕ) (r : Run) (first count id mask : ℕ) → IsRun prbs claims symbol r → first + count ≤ prbs
    → every first count (λ n. is_claimed id mask (claim_in (row_claims r n)))
    ≡ every first count (λ n. is_claimed id mask (claim_in (get_or claims (cell_number prbs symbol n) no_claims)))
every_in_run prbs claims symbol r first count id mask is fits = every_same first count _ _ (λ n low high.
    claimed_ids id mask _ _ (λ re below. sym (is.each n re (omega (arith, high, fits)) below)))

pub some_in_run : (prbs : ℕ) (claims : List CellClaims) (symbol : ℕ) (r : Run) (first count id mask : ℕ) → IsRun prbs claims symbol r → first + count ≤ prbs
    → some first count (λ n. is_overlapped id mask (claim_in (row_claims r n)))
    ≡ some first count (λ n. is_overlapped id mask (claim_in (get_or claims (cell_number prbs symbol n) no_claims)))
some_in_run prbs claims symbol r first count id mask is fits = some_same first count _ _ (λ n low high.
    overlapped_ids id mask _ _ (λ re below. sym (is.each n re (omega (arith, high, fits)) below)))

-- ---- after claims

id_claimed : (a : Allocation) (b : Bool) (o : Option Claim) → claim_id (if b then Some (claim_of a) else o) ≡ (if b then Some a.section else claim_id o)
id_claimed a true o = refl
id_claimed a false o = refl

row_grown : (prbs : ℕ) (old new : List CellClaims) (symbol : ℕ) (a : Allocation) (r s : Row) → IsRow prbs old symbol r → Grows (claimed_run a) r s
    → ((n re : ℕ) → n < prbs → re < 12 → claim_in (get_or new (cell_number prbs symbol n) no_claims) re
    ≡ (if is_from (first_prb a) (prb_count a) n && in_mask a.mask re then Some (claim_of a) else claim_in (get_or old (cell_number prbs symbol n) no_claims) re))
    → IsRow prbs new symbol s
row_grown prbs old new symbol a Mixed (Known s) is grows each = absurd grows
row_grown prbs old new symbol a r Mixed is grows each = tt
row_grown prbs old new symbol a (Known r) (Known s) is grows each = record {
  each = λ n re low below.
      ap claim_id (each n re low below) ∙ id_claimed a (is_from (first_prb a) (prb_count a) n && in_mask a.mask re) _
      ∙ ap (id_with (claimed_run a) n re) (is.each n re low below) ∙ sym (grows n re below);
}

row_kept : (prbs : ℕ) (old new : List CellClaims) (symbol : ℕ) (r : Row) → IsRow prbs old symbol r
    → ((n re : ℕ) → n < prbs → re < 12 → claim_in (get_or new (cell_number prbs symbol n) no_claims) re ≡ claim_in (get_or old (cell_number prbs symbol n) no_claims) re)
    → IsRow prbs new symbol r
row_kept prbs old new symbol Mixed is same = tt
row_kept prbs old new symbol (Known r) is same = record { each = λ n re low below. ap claim_id (same n re low below) ∙ is.each n re low below }

pub rows_grown : (prbs : ℕ) (old new : List CellClaims) (rows after : List Row) (a : Allocation) → AreRows prbs old rows
    → ((s : ℕ) → is_from a.symbol a.num_symbol s ≡ true → Grows (claimed_run a) (row_at rows s) (row_at after s))
    → ((s : ℕ) → is_from a.symbol a.num_symbol s ≡ false → row_at after s ≡ row_at rows s)
    → ((symbol prb re : ℕ) → prb < prbs → re < 12 → claim_in (get_or new (symbol * prbs + prb) no_claims) re
    ≡ (if (is_from a.symbol a.num_symbol symbol && is_from (first_prb a) (prb_count a) prb) && in_mask a.mask re then Some (claim_of a) else claim_in (get_or old (symbol * prbs + prb) no_claims) re))
    → AreRows prbs new after
rows_grown prbs old new rows after a are grown others each = record {
  each = λ s. elim (cases_Bool (is_from a.symbol a.num_symbol s)) [
    | inl inside ↦ row_grown prbs old new s a (row_at rows s) (row_at after s) (are.each s) (grown s inside) (λ n re low below. rw inside at (each s n re low below))
    | inr out ↦ subst (λ (r : Row). IsRow prbs new s r) (sym (others s out))
        (row_kept prbs old new s (row_at rows s) (are.each s) (λ n re low below. rw out at (each s n re low below)))
  ];
}

-- ---- rows of which nothing is claimed

row_empty : (n s : ℕ) → get_or (replicate n empty_row) s empty_row ≡ empty_row
row_empty zero s = refl
row_empty (suc n) zero = refl
row_empty (suc n) (suc s) = row_empty n s

pub rows_none : (prbs : ℕ) (claims : List CellClaims) → ((k : ℕ) → get_or claims k no_claims ≡ no_claims) → AreRows prbs claims (replicate SLOT_SYMBOLS empty_row)
rows_none prbs claims none = record {
  each = λ s. elim (cases_Bool (nat_lt s SLOT_SYMBOLS)) [
    | inr past ↦ rw past tt
    | inl within ↦
        let at : row_at (replicate SLOT_SYMBOLS empty_row) s ≡ empty_row = rw within (row_empty SLOT_SYMBOLS s) in
        subst (IsRow prbs claims s) (sym at) (record {
          each = λ n re low below.
              let out = from_above 0 0 n (omega arith) in
              rw out (ap (λ (m : CellClaims). claim_id (claim_in m re)) (none (cell_number prbs s n)));
        })
  ];
}

-- ---- rows as they are noted

any_default : (rows : List Row) (k : ℕ) (d e : Row) → k < length rows → get_or rows k d ≡ get_or rows k e
any_default [] k d e within = absurd (omega (arith, within))
any_default (r ∷ rows) zero d e within = refl
any_default (r ∷ rows) (suc k) d e within = any_default rows k d e (omega (arith, within))

row_set : (rows : List Row) (k : ℕ) (x : Row) → length rows ≡ SLOT_SYMBOLS → k < SLOT_SYMBOLS → row_at (set rows k x) k ≡ x
row_set rows k x len below =
    let l = lt-ltb k SLOT_SYMBOLS below in
    let e = get_or-set_same rows k x empty_row (omega (arith, len, below)) in
    rw (l, e) refl

row_unset : (rows : List Row) (k s : ℕ) (x : Row) → (s ≡ k → ⊥) → row_at (set rows k x) s ≡ row_at rows s
row_unset rows k s x ne = ap (λ (r : Row). if nat_lt s SLOT_SYMBOLS then r else Mixed) (get_or-set_other rows k s x empty_row ne)

row_read : (rows : List Row) (k : ℕ) (d : Row) → length rows ≡ SLOT_SYMBOLS → k < SLOT_SYMBOLS → row_at rows k ≡ get_or rows k d
row_read rows k d len below =
    let l = lt-ltb k SLOT_SYMBOLS below in
    let e = any_default rows k empty_row d (omega (arith, len, below)) in
    rw (l, e) refl

pub note_grown : (more : Run) (was rows : List Row) (first k : ℕ) (d x : Row) → length rows ≡ SLOT_SYMBOLS → first ≤ k → k < SLOT_SYMBOLS
    → ((s : ℕ) → first ≤ s → s < k → Grows more (row_at was s) (row_at rows s)) → ((s : ℕ) → is_from first (k - first) s ≡ false → row_at rows s ≡ row_at was s)
    → Grows more (get_or rows k d) x → (s : ℕ) → first ≤ s → s < k + 1 → Grows more (row_at was s) (row_at (set rows k x) s)
note_grown more was rows first k d x len low below grown others is s from to = elim (cases_eq s k) [
  | inl e ↦ subst (λ (i : ℕ). Grows more (row_at was i) (row_at (set rows k x) i)) (sym e)
      (subst (λ (r : Row). Grows more (row_at was k) r) (sym (row_set rows k x len below))
      (subst (λ (r : Row). Grows more r x) (sym (row_read rows k d len below) ∙ others k (from_above first (k - first) k (omega arith))) is))
  | inr ne ↦ subst (λ (r : Row). Grows more (row_at was s) r) (sym (row_unset rows k s x ne)) (grown s from (omega (arith, ne, to)))
]

pub note_others : (was rows : List Row) (first k : ℕ) (x : Row) → first ≤ k
    → ((s : ℕ) → is_from first (k - first) s ≡ false → row_at rows s ≡ row_at was s)
    → (s : ℕ) → is_from first (k + 1 - first) s ≡ false → row_at (set rows k x) s ≡ row_at was s
note_others was rows first k x low others s out = elim (cases_eq s k) [
  | inl e ↦ absurd (differ _ (from_in first (k + 1 - first) s (omega (arith, e, low)) (omega (arith, e, low))) out)
  | inr ne ↦ row_unset rows k s x ne ∙ others s (elim (cases_lt s first) [
    | inl less ↦ from_below first (k - first) s less
    | inr more ↦ elim (cases_lt s k) [
      | inl inside ↦ absurd (differ _ (from_in first (k + 1 - first) s more (omega (arith, inside, low))) out)
      | inr above ↦ from_above first (k - first) s (omega (arith, above, low))
    ]
  ])
]
  where
    differ : (b : Bool) → b ≡ true → b ≡ false → ⊥
    differ b p q = cc

-- ---- what is reported is no matter of the claims

row_same : (prbs : ℕ) (old new : List CellClaims) (symbol : ℕ) (row : Row)
    → ((i : ℕ) → unreported (get_or new i no_claims) ≡ unreported (get_or old i no_claims)) → IsRow prbs old symbol row → IsRow prbs new symbol row
row_same prbs old new symbol (Known r) same is = record {
  each = λ n re below under.
      ap (λ (m : CellClaims). claim_id (claim_in m re)) (same (cell_number prbs symbol n)) ∙ is.each n re below under;
}
row_same prbs old new symbol Mixed same is = tt

pub rows_same : (prbs : ℕ) (old new : List CellClaims) (rows : List Row)
    → ((i : ℕ) → unreported (get_or new i no_claims) ≡ unreported (get_or old i no_claims)) → AreRows prbs old rows → AreRows prbs new rows
rows_same prbs old new rows same are = record {
  each = λ symbol. row_same prbs old new symbol (row_at rows symbol) same (are.each symbol);
}
