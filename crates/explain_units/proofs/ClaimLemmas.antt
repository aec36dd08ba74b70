-- The search for a claim, along a chain.
use Rattle.std.proofs.Common.{◌≡◌, ℕ, suc, ◌-◌, arith, ◌<◌, ◌≤◌, Bool, true, false, List, [], ◌∷◌, ◌++◌, length, map, take, refl, sym, ap, subst, ◌∙◌, true≢false, inl, inr, ◌⊎◌}
use Rattle.std.specs.Prelude.{◌==◌, if◌then◌else◌, slice_get, Option, Some, None}
use Rattle.std.proofs.Math.ListN.{get_or}
use Rattle.std.proofs.Math.Seq.{take-length, take-suc}
use Rattle.std.proofs.lemmas.Bool.{and_parts, eq-eqb}
use Rattle.std.proofs.lemmas.List.{get_or-map, length-map}
use Rattle.std.specs.Option.{option_map}
use Rattle.std.proofs.lemmas.Option.{get_or_from_slice_get, slice_get_cases, slice_get_within}
use Rattle.explain_units.specs.Chains.{chain_at, last_in}
use Rattle.explain_units.specs.Claims.{allocation_chain, slot_chain}
use Rattle.explain_units.proofs.ChainLemmas.{last_in_itself, last_in_most, skip_others, stands_in}
use Rattle.unit_model.specs.Claims.{claim_at, claim_of, covers, names, same_slot, same_way}
use Rattle.fh_base.specs.Lists.{onto}
use Rattle.unit_model.specs.declared.allocations.Allocation.{Allocation}
use Rattle.unit_model.specs.declared.cells.Cell.{Cell}
use Rattle.unit_model.specs.declared.cells.Claim.{Claim}
use Rattle.unit_model.proofs.ClaimLemmas.{same_slot_is}

-- what claims a cell is in the chain of its slot
names_chain : (a : Allocation) (cell : Cell) (re : ℕ) → names a cell re ≡ true → allocation_chain a ≡ slot_chain cell.slot
names_chain a cell re h =
    let p1 = and_parts (covers a cell) _ h in
    let p2 = and_parts (a.ep == cell.ep) _ p1.0 in
    let p3 = and_parts (same_way a.down cell.down) _ p2.1 in
    let p4 = and_parts (same_slot a.slot cell.slot) _ p3.1 in
    ap slot_chain (same_slot_is a.slot cell.slot p4.0)

other_names : (a : Allocation) (cell : Cell) (re : ℕ) → (allocation_chain a == slot_chain cell.slot) ≡ false → names a cell re ≡ false
other_names a cell re apart = by (names a cell re) refl
  where
    by : (b : Bool) → names a cell re ≡ b → b ≡ false
    by true is = absurd (true≢false (sym (eq-eqb (allocation_chain a) (slot_chain cell.slot) (names_chain a cell re is)) ∙ apart))
    by false is = refl

-- the last of some is first where the newest is
onto_last : (earlier xs : List Allocation) (x : Allocation) → onto earlier (xs ++ x ∷ []) ≡ x ∷ onto earlier xs
unfolding onto
onto_last earlier [] x = refl
onto_last earlier (y ∷ xs) x = onto_last (y ∷ earlier) xs x

pub onto_one : (xs : List Allocation) (x : Allocation) → onto [] (xs ++ x ∷ []) ≡ x ∷ onto [] xs
onto_one xs x = onto_last [] xs x

-- the claim by the first n
abbrev pub claimed : List Allocation → Cell → ℕ → ℕ → Option Claim
claimed accepted cell re n = claim_at (onto [] (take n accepted)) cell re

claimed_next : (accepted : List Allocation) (cell : Cell) (re n : ℕ) (a : Allocation) → slice_get accepted n ≡ Some a
    → claimed accepted cell re (suc n) ≡ (if names a cell re then Some (claim_of a) else claimed accepted cell re n)
unfolding claim_at
claimed_next accepted cell re n a is =
    ap (λ (xs : List Allocation). claim_at (onto [] xs) cell re)
    (take-suc accepted n a (slice_get_within accepted n a is) ∙ ap (λ (x : Allocation). take n accepted ++ x ∷ []) (get_or_from_slice_get accepted n a a is))
    ∙ ap (λ (xs : List Allocation). claim_at xs cell re) (onto_last [] (take n accepted) a)

abbrev pub chains_of : List Allocation → List ℕ
chains_of accepted = map allocation_chain accepted

chain_is : (accepted : List Allocation) (n : ℕ) (a : Allocation) → slice_get accepted n ≡ Some a → chain_at (chains_of accepted) n ≡ allocation_chain a
chain_is accepted n a is = get_or-map allocation_chain accepted n a 0 (slice_get_within accepted n a is) ∙ ap allocation_chain (get_or_from_slice_get accepted n a a is)

same_claimed : (accepted : List Allocation) (cell : Cell) (re k : ℕ) → k < length accepted → (chain_at (chains_of accepted) k == slot_chain cell.slot) ≡ false
    → claimed accepted cell re (suc k) ≡ claimed accepted cell re k
same_claimed accepted cell re k within apart = from (slice_get_cases accepted k).1
  where
    from : ((a : Allocation) × (k < length accepted) × (slice_get accepted k ≡ Some a) × (get_or accepted k a ≡ a)) ⊎ ((length accepted ≤ k) × (slice_get accepted k ≡ None))
        → claimed accepted cell re (suc k) ≡ claimed accepted cell re k
    from (inl (a, inside, is, at)) =
        claimed_next accepted cell re k a is
        ∙ ap (λ (b : Bool). if b then Some (claim_of a) else claimed accepted cell re k)
        (other_names a cell re (ap (λ (x : ℕ). x == slot_chain cell.slot) (sym (chain_is accepted k a is)) ∙ apart))
    from (inr (past, is)) = absurd (omega (arith, past))

-- The claim by the first `at` is that by all; and the last of these is in the chain.
pub record ClaimsAt (accepted : List Allocation) (cell : Cell) (re at : ℕ) : Type 0 where
  pub within : at ≤ length accepted
  pub found : claimed accepted cell re at ≡ claim_at (onto [] accepted) cell re
  pub chain : last_in (chains_of accepted) (slot_chain cell.slot) at ≡ at

pub claim_begins : (accepted : List Allocation) (cell : Cell) (re : ℕ) → ClaimsAt accepted cell re (last_in (chains_of accepted) (slot_chain cell.slot) (length accepted))
claim_begins accepted cell re = record {
  within = last_in_most (chains_of accepted) (slot_chain cell.slot) (length accepted);
  found = sym (skip_others (claimed accepted cell re) (chains_of accepted) (slot_chain cell.slot) (length accepted) (λ k below apart. same_claimed accepted cell re k below apart))
      ∙ ap (λ (xs : List Allocation). claim_at (onto [] xs) cell re) (take-length accepted);
  chain = last_in_itself (chains_of accepted) (slot_chain cell.slot) (length accepted);
}

pub claim_goes : (accepted : List Allocation) (cell : Cell) (re k : ℕ) (a : Allocation) → ClaimsAt accepted cell re (suc k) → slice_get accepted k ≡ Some a → names a cell re ≡ false
    → ClaimsAt accepted cell re (last_in (chains_of accepted) (chain_at (chains_of accepted) k) k)
claim_goes accepted cell re k a s is not_named =
    subst (λ (c : ℕ). ClaimsAt accepted cell re (last_in (chains_of accepted) c k)) (sym (stands_in (chains_of accepted) (slot_chain cell.slot) k s.chain)) (record {
      within = omega (arith, last_in_most (chains_of accepted) (slot_chain cell.slot) k, slice_get_within accepted k a is);
      found = sym (skip_others (claimed accepted cell re) (chains_of accepted) (slot_chain cell.slot) k
          (λ j below apart. same_claimed accepted cell re j (omega (arith, below, slice_get_within accepted k a is)) apart))
          ∙ sym (claimed_next accepted cell re k a is ∙ ap (λ (b : Bool). if b then Some (claim_of a) else claimed accepted cell re k) not_named) ∙ s.found;
      chain = last_in_itself (chains_of accepted) (slot_chain cell.slot) k;
    })

pub claim_found : (accepted : List Allocation) (cell : Cell) (re k : ℕ) (a : Allocation) → ClaimsAt accepted cell re (suc k) → slice_get accepted k ≡ Some a → names a cell re ≡ true
    → claim_at (onto [] accepted) cell re ≡ Some (claim_of a)
claim_found accepted cell re k a s is named = sym s.found ∙ claimed_next accepted cell re k a is ∙ ap (λ (b : Bool). if b then Some (claim_of a) else claimed accepted cell re k) named

pub claim_ends : (accepted : List Allocation) (cell : Cell) (re : ℕ) → ClaimsAt accepted cell re 0 → claim_at (onto [] accepted) cell re ≡ None
unfolding claim_at onto
claim_ends accepted cell re s = sym s.found

-- ---- as the code has them

pub claim_begins_at : (accepted : List Allocation) (cs : List ℕ) (cell : Cell) (re chain at : ℕ) → cs ≡ chains_of accepted → chain ≡ slot_chain cell.slot → at ≡ last_in cs chain (length cs)
    → ClaimsAt accepted cell re at
claim_begins_at accepted cs cell re chain at cs_is chain_is_it at_is =
    subst (λ (n : ℕ). ClaimsAt accepted cell re n)
    (sym (at_is ∙ ap (λ (xs : List ℕ). last_in xs chain (length xs)) cs_is ∙ ap (λ (r : ℕ). last_in (chains_of accepted) r (length (chains_of accepted))) chain_is_it
    ∙ ap (λ (n : ℕ). last_in (chains_of accepted) (slot_chain cell.slot) n) (length-map accepted allocation_chain)))
    (claim_begins accepted cell re)

pub claim_goes_at : (accepted : List Allocation) (cs : List ℕ) (cell : Cell) (re at back : ℕ) (a : Allocation) → cs ≡ chains_of accepted → ClaimsAt accepted cell re at → suc (at - 1) ≡ at
    → slice_get accepted (at - 1) ≡ Some a → names a cell re ≡ false → back ≡ last_in cs (chain_at cs (at - 1)) (at - 1) → ClaimsAt accepted cell re back
claim_goes_at accepted cs cell re at back a cs_is s there is not_named back_is =
    subst (λ (n : ℕ). ClaimsAt accepted cell re n) (sym (back_is ∙ ap (λ (xs : List ℕ). last_in xs (chain_at xs (at - 1)) (at - 1)) cs_is))
    (claim_goes accepted cell re (at - 1) a (subst (λ (n : ℕ). ClaimsAt accepted cell re n) (sym there) s) is not_named)

pub claim_found_at : (accepted : List Allocation) (cell : Cell) (re at : ℕ) (a : Allocation) → ClaimsAt accepted cell re at → suc (at - 1) ≡ at → slice_get accepted (at - 1) ≡ Some a → names a cell re ≡ true
    → Some a.section ≡ option_map (λ (c : Claim). c.id) (claim_at (onto [] accepted) cell re)
claim_found_at accepted cell re at a s there is named =
    sym (ap (λ (c : Option Claim). option_map (λ (d : Claim). d.id) c)
    (claim_found accepted cell re (at - 1) a (subst (λ (n : ℕ). ClaimsAt accepted cell re n) (sym there) s) is named))
