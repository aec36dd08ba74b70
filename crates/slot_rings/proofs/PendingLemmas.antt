-- Where the flag of a symbol is not set, none of its cells is due.
use Rattle.std.proofs.Common.{◌≡◌, ◌≢◌, ℕ, zero, suc, ◌+◌, ◌*◌, ◌<◌, inl, inr, Bool, true, false, not, ◌&&◌, ◌==◌, if◌then◌else◌, List, length, get_or, set, refl, ap, sym, ◌∙◌, subst, arith, length-set, get_or-set_same, get_or-set_other, Option, None}
use Rattle.std.specs.Prelude.{◌||◌}
use Rattle.std.proofs.lemmas.Bool.{cases_eq, cases_Bool, and_parts, eq-eqb, eqb-true}
use Rattle.std.proofs.lemmas.List.{get_or_read}
use Rattle.fh_base.specs.declared.values.Slot.{Slot}
use Rattle.fh_base.specs.Numbering.{symbols_of}
use Rattle.unit_model.specs.Claims.{cell_at, is_from, names, same_way}
use Rattle.unit_model.specs.Radiated.{is_used, used_below, used_mask}
use Rattle.unit_model.specs.declared.allocations.Allocation.{Allocation}
use Rattle.unit_model.specs.declared.cells.Cell.{Cell}
use Rattle.unit_model.specs.declared.cells.Claim.{Claim}
use Rattle.unit_model.specs.declared.verdicts.CommandVerdict.TheVariants.{Accepted}
use Rattle.slot_rings.specs.Pending.{IsFlagged, due_in, flag_at}
use Rattle.slot_rings.specs.Places.{PlaceValue, blank, cell_number, IsOpened, claim_in, is_due, is_in_use, is_place_of, is_reported, claims_seen, no_claims, unreported, place_claim}
use Rattle.slot_rings.specs.Rings.{IsRing, RingValue, has_slot, place_index, place_of}
use Rattle.slot_rings.specs.Starts.{ring_due}
use Rattle.slot_rings.specs.Verdicts.{claim_after}
use Rattle.slot_rings.specs.declared.claims.CellClaims.{CellClaims}
use Rattle.slot_rings.proofs.PlaceLemmas.{no_claim}
use Rattle.slot_rings.proofs.RangeLemmas.{some_from}
use Rattle.slot_rings.proofs.SeenLemmas.{due_seen}
use Rattle.slot_rings.proofs.RingLemmas.{index_within, put, symbols_are}
use Rattle.fh_base.specs.declared.symbols.TheConstants.{SLOT_SYMBOLS}
use Rattle.unit_model.proofs.ClaimLemmas.{some_same, some_not as some_at}
use Rattle.fh_base.proofs.Orders.{both_ways as unequal}

-- ---- cells in use

used_none : (n u : ℕ) (b : Bool) → (2 * u + (if b then 1 else 0)) ≡ 0 → (u ≡ 0) × (b ≡ false)
used_none n u true e = absurd (omega (arith, e))
used_none n u false e = (omega (arith, e), refl)

no_use : (u : ℕ) (b : Bool) → u ≡ 0 → b ≡ false → (2 * u + (if b then 1 else 0)) ≡ 0
no_use u b e is = rw (e, is) refl

-- what uses no more than nothing uses nothing
used_less : (f g : ℕ → Option Claim) (n : ℕ) → ((re : ℕ) → re < n → is_used (f re) ≡ false → is_used (g re) ≡ false) → used_below f n ≡ 0 → used_below g n ≡ 0
unfolding used_below
used_less f g zero less e = refl
used_less f g (suc n) less e =
    let p = used_none n (used_below f n) (is_used (f n)) e in
    no_use (used_below g n) (is_used (g n)) (used_less f g n (λ re below. less re (omega arith)) p.0) (less n (omega arith) p.1)

due_parts : (a b d : Bool) → (a ≡ true → b ≡ true) → (not a && not d) ≡ false → (not b && not d) ≡ false
due_parts true b d less is = let e = less refl in rw e refl
due_parts false true d less is = refl
due_parts false false d less is = is

due_less : (f g : ℕ → Option Claim) (d : Bool) → ((re : ℕ) → re < 12 → is_used (f re) ≡ false → is_used (g re) ≡ false) → is_due f d ≡ false → is_due g d ≡ false
due_less f g d less is = due_parts (used_mask f == 0) (used_mask g == 0) d
    (λ e. eq-eqb (used_mask g) 0 (used_less f g 12 less (eqb-true (used_mask f) 0 e))) is

pub no_due : (g : ℕ → Option Claim) (d : Bool) → ((re : ℕ) → re < 12 → g re ≡ None) → is_due g d ≡ false
unfolding used_below
no_due g d none = due_less (λ re. None) g d (λ re below off. ap is_used (none re below)) refl

-- ---- the cells of a symbol, as a place changes

pub due_wiped : (prbs s : ℕ) (p : PlaceValue) → ((k : ℕ) → get_or p.down k no_claims ≡ no_claims) → due_in prbs p s ≡ false
due_wiped prbs s p none = some_from 0 prbs _ (λ n low high.
    no_due _ _ (λ re below. ap (λ (m : CellClaims). claim_in m re) (none (cell_number prbs s 0 + n)) ∙ no_claim re))

pub filled_quiet : (prbs s : ℕ) (p q : PlaceValue) → q.down ≡ p.down → due_in prbs p s ≡ false → due_in prbs q s ≡ false
filled_quiet prbs s p q down off = some_same 0 prbs _ _ (λ n low high.
    ap (λ (ms : List CellClaims). is_due (claim_in (get_or ms (cell_number prbs s 0 + n) no_claims)) (is_reported ms (cell_number prbs s 0 + n))) down) ∙ off

pub opened_quiet : (prbs s : ℕ) (slot : Slot) (p q : PlaceValue) → IsOpened slot p q → due_in prbs p s ≡ false → due_in prbs q s ≡ false
opened_quiet prbs s slot p q is off = elim (cases_Bool (is_place_of p.slot slot)) [
  | inl own ↦ ap (λ (x : PlaceValue). due_in prbs x s) (is.own own) ∙ off
  | inr other ↦ due_wiped prbs s q (is.other other).down
]

unused_due : (g : ℕ → Option Claim) (c d : Bool) → is_due g c ≡ false → (c ≡ true → d ≡ true) → is_due g d ≡ false
unused_due g c d off more = parts (is_in_use g) c d off more
  where
    parts : (u c d : Bool) → (u && not c) ≡ false → (c ≡ true → d ≡ true) → (u && not d) ≡ false
    parts false c d off more = refl
    parts true true d off more = let e = more refl in rw e refl
    parts true false d off more = cc

-- what is reported stays reported
pub reported_quiet : (prbs s : ℕ) (p q : PlaceValue) → ((i : ℕ) → unreported (get_or q.down i no_claims) ≡ unreported (get_or p.down i no_claims)) → ((i : ℕ) → is_reported p.down i ≡ true → is_reported q.down i ≡ true)
    → due_in prbs p s ≡ false → due_in prbs q s ≡ false
reported_quiet prbs s p q same more off = some_from 0 prbs _ (λ n low high.
    ap (λ (m : CellClaims). is_due (claim_in m) (is_reported q.down (cell_number prbs s 0 + n))) (same (cell_number prbs s 0 + n))
    ∙ unused_due (claim_in (get_or p.down (cell_number prbs s 0 + n) no_claims)) (is_reported p.down (cell_number prbs s 0 + n)) (is_reported q.down (cell_number prbs s 0 + n))
    (some_at 0 prbs (λ n. is_due (claim_in (get_or p.down (cell_number prbs s 0 + n) no_claims)) (is_reported p.down (cell_number prbs s 0 + n))) n off low high)
    (more (cell_number prbs s 0 + n)))

reported_due : (g : ℕ → Option Claim) (c d : Bool) → d ≡ (c || is_in_use g) → is_due g d ≡ false
reported_due g c d is = ap (is_due g) is ∙ parts (is_in_use g) c
  where
    parts : (u c : Bool) → (u && not (c || u)) ≡ false
    parts false c = refl
    parts true true = refl
    parts true false = refl

-- all cells in use of a symbol are reported
pub all_quiet : (prbs s : ℕ) (p q : PlaceValue) → ((i : ℕ) → unreported (get_or q.down i no_claims) ≡ unreported (get_or p.down i no_claims))
    → ((k : ℕ) → k < prbs → is_reported q.down (cell_number prbs s 0 + k)
    ≡ (is_reported p.down (cell_number prbs s 0 + k) || is_in_use (claim_in (get_or p.down (cell_number prbs s 0 + k) no_claims))))
    → due_in prbs q s ≡ false
all_quiet prbs s p q same here = some_from 0 prbs _ (λ n low high.
    ap (λ (m : CellClaims). is_due (claim_in m) (is_reported q.down (cell_number prbs s 0 + n))) (same (cell_number prbs s 0 + n))
    ∙ reported_due (claim_in (get_or p.down (cell_number prbs s 0 + n) no_claims)) (is_reported p.down (cell_number prbs s 0 + n)) (is_reported q.down (cell_number prbs s 0 + n))
    (here n (omega (arith, high))))

-- ---- a claim

way_is : (b : Bool) → same_way b true ≡ true → b ≡ true
way_is true e = refl
way_is false e = cc

names_down : (a : Allocation) (cell : Cell) (re : ℕ) → cell.down ≡ true → names a cell re ≡ true → (a.down ≡ true) × (is_from a.symbol a.num_symbol cell.symbol ≡ true)
names_down a cell re down is =
    let all = and_parts _ _ (and_parts _ _ is).0 in
    let way = and_parts _ _ all.1 in
    let within = and_parts _ _ (and_parts _ _ way.1).1 in
    (way_is a.down (ap (λ (b : Bool). same_way a.down b) (sym down) ∙ way.0), within.0)

used_after : (a : Allocation) (cell : Cell) (re : ℕ) (o : Option Claim) → cell.down ≡ true
    → (a.down ≡ true → a.idle ≡ false → is_from a.symbol a.num_symbol cell.symbol ≡ true → ⊥) → is_used o ≡ false → is_used (claim_after Accepted a cell re o) ≡ false
used_after a cell re o down never off = elim (cases_Bool (names a cell re)) [
  | inr none ↦ rw none off
  | inl named ↦
      let p = names_down a cell re down named in
      elim (cases_Bool a.idle) [
        | inl idle ↦ rw (named, idle) refl
        | inr radiates ↦ absurd (never p.0 radiates p.1)
      ]
]

place_claims : (prbs : ℕ) (p : PlaceValue) (ep : ℕ) (slot : Slot) (s n re : ℕ) → is_place_of p.slot slot ≡ true
    → place_claim prbs p (cell_at ep true slot s n) re ≡ claim_in (get_or p.down (cell_number prbs s 0 + n) no_claims) re
place_claims prbs p ep slot s n re own =
    let at : cell_number prbs s n ≡ cell_number prbs s 0 + n = omega arith in
    rw own (ap (λ (k : ℕ). claim_in (get_or p.down k no_claims) re) at)

pub claimed_quiet : (prbs m s : ℕ) (p q : PlaceValue) (a : Allocation) → m ≡ prbs → is_place_of p.slot a.slot ≡ true → q.slot ≡ p.slot → ((k : ℕ) → is_reported q.down k ≡ is_reported p.down k)
    → ((cell : Cell) (re : ℕ) → cell.ep ≡ a.ep → cell.slot ≡ a.slot → cell.prb < m → re < 12
    → place_claim m q cell re ≡ claim_after Accepted a cell re (place_claim m p cell re))
    → (a.down ≡ true → a.idle ≡ false → is_from a.symbol a.num_symbol s ≡ true → ⊥) → due_in prbs p s ≡ false → due_in prbs q s ≡ false
claimed_quiet prbs m s p q a same own slot reported claims never off =
    subst (λ (w : ℕ). due_in w q s ≡ false) same (go (subst (λ (w : ℕ). due_in w p s ≡ false) (sym same) off))
  where
    q_own : is_place_of q.slot a.slot ≡ true
    q_own = ap (λ (o : Option Slot). is_place_of o a.slot) slot ∙ own

    go : due_in m p s ≡ false → due_in m q s ≡ false
    go off = some_from 0 m _ (λ n low high.
        ap (is_due (claim_in (get_or q.down (cell_number m s 0 + n) no_claims))) (reported (cell_number m s 0 + n))
        ∙ due_less (claim_in (get_or p.down (cell_number m s 0 + n) no_claims)) (claim_in (get_or q.down (cell_number m s 0 + n) no_claims))
        (is_reported p.down (cell_number m s 0 + n))
        (λ re below unused.
        let cell = cell_at a.ep true a.slot s n in
        ap is_used (sym (place_claims m q a.ep a.slot s n re q_own) ∙ claims cell re refl refl (omega (arith, high)) below)
        ∙ used_after a cell re _ refl never (ap is_used (place_claims m p a.ep a.slot s n re own) ∙ unused))
        (some_at 0 m (λ n. is_due (claim_in (get_or p.down (cell_number m s 0 + n) no_claims)) (is_reported p.down (cell_number m s 0 + n))) n off low high))

-- ---- the flags of all places

pub flagged_put : (r : RingValue) (flags new : List (List Bool)) (i : ℕ) (p q : PlaceValue) → IsFlagged r flags → i < length r.places → p ≡ get_or r.places i p
    → length new ≡ length flags → ((j s : ℕ) → flag_at new j s ≡ false → flag_at flags j s ≡ false)
    → ((s : ℕ) → flag_at new i s ≡ false → due_in r.endpoint.prbs p s ≡ false → due_in r.endpoint.prbs q s ≡ false) → IsFlagged (put r i q) new
flagged_put r flags new i p q flagged within read size kept changed = record {
  size = size ∙ flagged.size ∙ sym (length-set r.places i q);
  quiet = λ j s off. elim (cases_eq j i) [
    | inl e ↦
        let there : p ≡ get_or r.places i blank = get_or_read r.places i p within read blank in
        let flag : flag_at new i s ≡ false = ap (λ (k : ℕ). flag_at new k s) (sym e) ∙ off in
        let was : due_in r.endpoint.prbs p s ≡ false = ap (λ (x : PlaceValue). due_in r.endpoint.prbs x s) there ∙ flagged.quiet i s (kept i s flag) in
        let now : get_or (set r.places i q) j blank ≡ q = ap (λ (k : ℕ). get_or (set r.places i q) k blank) e ∙ get_or-set_same r.places i q blank within in
        ap (λ (x : PlaceValue). due_in r.endpoint.prbs x s) now ∙ changed s flag was
    | inr ne ↦ ap (λ (x : PlaceValue). due_in r.endpoint.prbs x s) (get_or-set_other r.places i j q blank ne) ∙ flagged.quiet j s (kept j s off)
  ];
}

-- cells set as reported in a place, and the flag of a symbol cleared if all of its cells are reported
pub flagged_told : (r : RingValue) (flags new : List (List Bool)) (i symbol : ℕ) (p q : PlaceValue) (all : Bool) → IsFlagged r flags → i < length r.places
    → p ≡ get_or r.places i p → length new ≡ length flags → ((j s : ℕ) → (all ≡ true → j ≡ i → s ≢ symbol) → flag_at new j s ≡ flag_at flags j s)
    → ((i : ℕ) → unreported (get_or q.down i no_claims) ≡ unreported (get_or p.down i no_claims)) → ((k : ℕ) → is_reported p.down k ≡ true → is_reported q.down k ≡ true) → (all ≡ true → due_in r.endpoint.prbs q symbol ≡ false)
    → IsFlagged (put r i q) new
flagged_told r flags new i symbol p q all flagged within read size others claims more settled = record {
  size = size ∙ flagged.size ∙ sym (length-set r.places i q);
  quiet = λ j s off. elim (cases_eq j i) [
    | inr ne ↦
        ap (λ (x : PlaceValue). due_in r.endpoint.prbs x s) (get_or-set_other r.places i j q blank ne)
        ∙ flagged.quiet j s (sym (others j s (λ told e. absurd (ne e))) ∙ off)
    | inl e ↦
        ap (λ (k : ℕ). due_in r.endpoint.prbs (get_or (set r.places i q) k blank) s) e
        ∙ ap (λ (x : PlaceValue). due_in r.endpoint.prbs x s) (get_or-set_same r.places i q blank within)
        ∙ elim (cases_eq s symbol) [
          | inr ne ↦ still s (sym (others i s (λ told same. ne)) ∙ ap (λ (k : ℕ). flag_at new k s) (sym e) ∙ off)
          | inl own ↦ elim (cases_Bool all) [
            | inl told ↦ ap (λ (k : ℕ). due_in r.endpoint.prbs q k) own ∙ settled told
            | inr part ↦ still s (sym (others i s (λ told. absurd (unequal all told part))) ∙ ap (λ (k : ℕ). flag_at new k s) (sym e) ∙ off)
          ]
        ]
  ];
}
  where
    there : p ≡ get_or r.places i blank
    there = get_or_read r.places i p within read blank

    still : (s : ℕ) → flag_at flags i s ≡ false → due_in r.endpoint.prbs q s ≡ false
    still s off = reported_quiet r.endpoint.prbs s p q claims more (ap (λ (x : PlaceValue). due_in r.endpoint.prbs x s) there ∙ flagged.quiet i s off)

-- ---- a symbol of a slot

pub due_elsewhere : (r : RingValue) (ep : ℕ) (slot : Slot) (s : ℕ) → has_slot r slot ≡ false → ring_due r ep slot s ≡ false
due_elsewhere r ep slot s none = some_from 0 r.endpoint.prbs _ (λ n low high. no_due _ _ (λ re below. rw none refl))

-- a symbol that is not flagged
pub unflagged : (r : RingValue) (ep : ℕ) (slot : Slot) (s : ℕ) → (has_slot r slot ≡ true → ring_due r ep slot s ≡ false) → false ≡ ring_due r ep slot s
unflagged r ep slot s quiet = sym (elim (cases_Bool (has_slot r slot)) [
  | inl has ↦ quiet has
  | inr none ↦ due_elsewhere r ep slot s none
])

-- a symbol of a slot that has its place
pub due_has : (r : RingValue) (ep : ℕ) (slot : Slot) (s : ℕ) → has_slot r slot ≡ true → ring_due r ep slot s ≡ due_in r.endpoint.prbs (place_of r slot) s
due_has r ep slot s has =
    sym (due_seen r slot s (cell_number r.endpoint.prbs s 0) ep (claims_seen (place_of r slot) slot true) refl refl)
    ∙ rw has refl

quiet_has : (r : RingValue) (ep : ℕ) (slot : Slot) (s : ℕ) → has_slot r slot ≡ true → due_in r.endpoint.prbs (place_of r slot) s ≡ false → ring_due r ep slot s ≡ false
quiet_has r ep slot s has off = due_has r ep slot s has ∙ off

-- a ring without a flag
pub no_flags : (r v : RingValue) (flags : List (List Bool)) (ep : ℕ) (slot : Slot) (s : ℕ) → r ≡ v → IsRing r → IsFlagged r flags
    → ((j k : ℕ) → j < length flags → k < SLOT_SYMBOLS → flag_at flags j k ≡ false) → s < symbols_of v.endpoint.numerology → ring_due v ep slot s ≡ false
no_flags r v flags ep slot s same ring flagged none within =
    subst (λ (x : RingValue). ring_due x ep slot s ≡ false) same (elim (cases_Bool (has_slot r slot)) [
      | inr other ↦ due_elsewhere r ep slot s other
      | inl has ↦ quiet_has r ep slot s has (flagged.quiet (place_index r slot) s off)
    ])
  where
    below : s < symbols_of r.endpoint.numerology
    below = subst (λ (x : RingValue). s < symbols_of x.endpoint.numerology) (sym same) within

    off : flag_at flags (place_index r slot) s ≡ false
    off = none (place_index r slot) s (omega (arith, index_within r slot ring.some, flagged.size)) (omega (arith, symbols_are r.endpoint.numerology, below))

-- a place without a flag
pub no_flags_at : (r v : RingValue) (flags : List (List Bool)) (ep : ℕ) (slot : Slot) (s i : ℕ) → r ≡ v → IsRing r → IsFlagged r flags → place_index v slot ≡ i
    → ((k : ℕ) → k < SLOT_SYMBOLS → flag_at flags i k ≡ false) → s < symbols_of v.endpoint.numerology → ring_due v ep slot s ≡ false
no_flags_at r v flags ep slot s i same ring flagged at none within =
    subst (λ (x : RingValue). ring_due x ep slot s ≡ false) same (elim (cases_Bool (has_slot r slot)) [
      | inr other ↦ due_elsewhere r ep slot s other
      | inl has ↦ quiet_has r ep slot s has (flagged.quiet (place_index r slot) s off)
    ])
  where
    below : s < symbols_of r.endpoint.numerology
    below = subst (λ (x : RingValue). s < symbols_of x.endpoint.numerology) (sym same) within

    off : flag_at flags (place_index r slot) s ≡ false
    off =
        ap (λ (k : ℕ). flag_at flags k s) (ap (λ (x : RingValue). place_index x slot) same ∙ at)
        ∙ none s (omega (arith, symbols_are r.endpoint.numerology, below))
