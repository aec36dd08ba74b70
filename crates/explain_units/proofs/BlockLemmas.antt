-- The search for what gave a block, along a chain.
use Rattle.std.proofs.Common.{◌≡◌, ℕ, zero, suc, ◌-◌, arith, ◌<◌, ◌≤◌, Bool, true, false, List, [], ◌∷◌, ◌++◌, length, map, take, refl, sym, ap, subst, ◌∙◌, true≢false, inl, inr, ◌⊎◌}
use Rattle.std.specs.Prelude.{◌==◌, if◌then◌else◌, slice_get, Some, None}
use Rattle.std.proofs.Math.ListN.{get_or}
use Rattle.std.proofs.Math.Seq.{take-length, take-suc}
use Rattle.std.proofs.lemmas.Bool.{and_parts, eqb-true, eq-eqb}
use Rattle.std.proofs.lemmas.List.{get_or-map, length-map}
use Rattle.std.proofs.lemmas.Option.{get_or_from_slice_get, slice_get_cases, slice_get_within}
use Rattle.explain_units.specs.Blocks.{chain_of, given_chain, giver_of, giver_or, gives_prb}
use Rattle.explain_units.specs.Chains.{chain_at, last_in}
use Rattle.explain_units.specs.declared.blocks.Given.{Given}
use Rattle.explain_units.proofs.ChainLemmas.{last_in_itself, last_in_most, stands_in}
use Rattle.fh_base.specs.declared.values.Slot.{Slot}
use Rattle.unit_model.specs.Claims.{same_slot}
use Rattle.unit_model.proofs.ClaimLemmas.{same_slot_is}

-- what gives a block to a symbol is in its chain
gives_chain : (g : Given) (id : ℕ) (slot : Slot) (symbol prb : ℕ) → gives_prb g id slot symbol prb ≡ true → given_chain g ≡ chain_of slot symbol
gives_chain g id slot symbol prb h =
    let p1 = and_parts (g.id == id) _ h in
    let p2 = and_parts (same_slot g.slot slot) _ p1.1 in
    let p3 = and_parts (g.symbol == symbol) _ p2.1 in
    ap (λ (s : Slot). chain_of s g.symbol) (same_slot_is g.slot slot p2.0) ∙ ap (λ (y : ℕ). chain_of slot y) (eqb-true g.symbol symbol p3.0)

-- so what is in another chain gives none
other_gives : (g : Given) (id : ℕ) (slot : Slot) (symbol prb : ℕ) → (given_chain g == chain_of slot symbol) ≡ false → gives_prb g id slot symbol prb ≡ false
other_gives g id slot symbol prb apart = by (gives_prb g id slot symbol prb) refl
  where
    by : (b : Bool) → gives_prb g id slot symbol prb ≡ b → b ≡ false
    by true is = absurd (true≢false (sym (eq-eqb (given_chain g) (chain_of slot symbol) (gives_chain g id slot symbol prb is)) ∙ apart))
    by false is = refl

-- the last of some is asked where none before it gives
pub giver_last : (none : ℕ) (gs : List Given) (g : Given) (id : ℕ) (slot : Slot) (symbol prb : ℕ)
    → giver_or none (gs ++ g ∷ []) id slot symbol prb ≡ giver_or (if gives_prb g id slot symbol prb then g.number else none) gs id slot symbol prb
unfolding giver_or
giver_last none [] g id slot symbol prb = refl
giver_last none (x ∷ gs) g id slot symbol prb = ap (λ (n : ℕ). if gives_prb x id slot symbol prb then x.number else n) (giver_last none gs g id slot symbol prb)

giver_take : (none : ℕ) (gs : List Given) (n : ℕ) (g : Given) (id : ℕ) (slot : Slot) (symbol prb : ℕ) → n < length gs → get_or gs n g ≡ g
    → giver_or none (take (suc n) gs) id slot symbol prb ≡ giver_or (if gives_prb g id slot symbol prb then g.number else none) (take n gs) id slot symbol prb
giver_take none gs n g id slot symbol prb within is =
    ap (λ (xs : List Given). giver_or none xs id slot symbol prb) (take-suc gs n g within ∙ ap (λ (x : Given). take n gs ++ x ∷ []) is)
    ∙ giver_last none (take n gs) g id slot symbol prb

-- ---- along a chain

abbrev pub chains_of : List Given → List ℕ
chains_of gs = map given_chain gs

chain_is : (gs : List Given) (n : ℕ) (g : Given) → slice_get gs n ≡ Some g → chain_at (chains_of gs) n ≡ given_chain g
chain_is gs n g is = get_or-map given_chain gs n g 0 (slice_get_within gs n g is) ∙ ap given_chain (get_or_from_slice_get gs n g g is)

skip_one : (none : ℕ) (gs : List Given) (id : ℕ) (slot : Slot) (symbol prb n : ℕ) (g : Given) → slice_get gs n ≡ Some g
    → giver_or none (take n gs) id slot symbol prb ≡ giver_or none (take (last_in (chains_of gs) (chain_of slot symbol) n) gs) id slot symbol prb
    → (b : Bool) → (chain_at (chains_of gs) n == chain_of slot symbol) ≡ b
    → giver_or none (take (suc n) gs) id slot symbol prb ≡ giver_or none (take (if b then suc n else last_in (chains_of gs) (chain_of slot symbol) n) gs) id slot symbol prb
skip_one none gs id slot symbol prb n g is before true at = refl
skip_one none gs id slot symbol prb n g is before false at =
    giver_take none gs n g id slot symbol prb (slice_get_within gs n g is) (get_or_from_slice_get gs n g g is)
    ∙ ap (λ (b : Bool). giver_or (if b then g.number else none) (take n gs) id slot symbol prb)
    (other_gives g id slot symbol prb (ap (λ (x : ℕ). x == chain_of slot symbol) (sym (chain_is gs n g is)) ∙ at))
    ∙ before

-- what is after the last one of the chain gives nothing
skip : (none : ℕ) (gs : List Given) (id : ℕ) (slot : Slot) (symbol prb n : ℕ) → n ≤ length gs
    → giver_or none (take n gs) id slot symbol prb ≡ giver_or none (take (last_in (chains_of gs) (chain_of slot symbol) n) gs) id slot symbol prb
unfolding last_in
skip none gs id slot symbol prb zero within = refl
skip none gs id slot symbol prb (suc n) within = from (skip none gs id slot symbol prb n (omega (arith))) (slice_get_cases gs n).1
  where
    from : giver_or none (take n gs) id slot symbol prb ≡ giver_or none (take (last_in (chains_of gs) (chain_of slot symbol) n) gs) id slot symbol prb
        → ((g : Given) × (n < length gs) × (slice_get gs n ≡ Some g) × (get_or gs n g ≡ g)) ⊎ ((length gs ≤ n) × (slice_get gs n ≡ None))
        → giver_or none (take (suc n) gs) id slot symbol prb ≡ giver_or none (take (last_in (chains_of gs) (chain_of slot symbol) (suc n)) gs) id slot symbol prb
    from before (inl (g, inside, is, at)) = skip_one none gs id slot symbol prb n g is before (chain_at (chains_of gs) n == chain_of slot symbol) refl
    from before (inr (past, is)) = absurd (omega (arith, past))

-- Of the first `at` what gives the block, or else this number, is what gives it of all; and the last of these is in the chain.
pub record SearchesAt (gs : List Given) (id : ℕ) (slot : Slot) (symbol prb giver at : ℕ) : Type 0 where
  pub within : at ≤ length gs
  pub found : giver_or giver (take at gs) id slot symbol prb ≡ giver_of gs id slot symbol prb
  pub chain : last_in (chains_of gs) (chain_of slot symbol) at ≡ at

pub search_begins : (gs : List Given) (id : ℕ) (slot : Slot) (symbol prb : ℕ) → SearchesAt gs id slot symbol prb 0 (last_in (chains_of gs) (chain_of slot symbol) (length gs))
search_begins gs id slot symbol prb = record {
  within = last_in_most (chains_of gs) (chain_of slot symbol) (length gs);
  found = sym (skip 0 gs id slot symbol prb (length gs) (omega (arith))) ∙ ap (λ (xs : List Given). giver_or 0 xs id slot symbol prb) (take-length gs);
  chain = last_in_itself (chains_of gs) (chain_of slot symbol) (length gs);
}

pub search_goes : (gs : List Given) (id : ℕ) (slot : Slot) (symbol prb giver k : ℕ) (g : Given) → SearchesAt gs id slot symbol prb giver (suc k) → slice_get gs k ≡ Some g
    → SearchesAt gs id slot symbol prb (if gives_prb g id slot symbol prb then g.number else giver) (last_in (chains_of gs) (chain_at (chains_of gs) k) k)
search_goes gs id slot symbol prb giver k g s is =
    subst (λ (c : ℕ). SearchesAt gs id slot symbol prb next (last_in (chains_of gs) c k)) (sym in_chain) (record {
      within = omega (arith, last_in_most (chains_of gs) (chain_of slot symbol) k, slice_get_within gs k g is);
      found = sym (skip next gs id slot symbol prb k (omega (arith, slice_get_within gs k g is)))
          ∙ sym (giver_take giver gs k g id slot symbol prb (slice_get_within gs k g is) (get_or_from_slice_get gs k g g is)) ∙ s.found;
      chain = last_in_itself (chains_of gs) (chain_of slot symbol) k;
    })
  where
    next : ℕ
    next = if gives_prb g id slot symbol prb then g.number else giver

    in_chain : chain_at (chains_of gs) k ≡ chain_of slot symbol
    in_chain = stands_in (chains_of gs) (chain_of slot symbol) k s.chain

pub search_ends : (gs : List Given) (id : ℕ) (slot : Slot) (symbol prb giver : ℕ) → SearchesAt gs id slot symbol prb giver 0 → giver ≡ giver_of gs id slot symbol prb
unfolding giver_or
search_ends gs id slot symbol prb giver s = s.found

-- ---- as the code has them

pub search_begins_at : (gs : List Given) (cs : List ℕ) (id : ℕ) (slot : Slot) (symbol prb chain at : ℕ) → cs ≡ chains_of gs → chain ≡ chain_of slot symbol → at ≡ last_in cs chain (length cs)
    → SearchesAt gs id slot symbol prb 0 at
search_begins_at gs cs id slot symbol prb chain at cs_is chain_is_it at_is =
    subst (λ (n : ℕ). SearchesAt gs id slot symbol prb 0 n)
    (sym (at_is ∙ ap (λ (xs : List ℕ). last_in xs chain (length xs)) cs_is ∙ ap (λ (r : ℕ). last_in (chains_of gs) r (length (chains_of gs))) chain_is_it
    ∙ ap (λ (n : ℕ). last_in (chains_of gs) (chain_of slot symbol) n) (length-map gs given_chain)))
    (search_begins gs id slot symbol prb)

pub search_goes_at : (gs : List Given) (cs : List ℕ) (id : ℕ) (slot : Slot) (symbol prb giver next at back : ℕ) (g : Given) → cs ≡ chains_of gs → SearchesAt gs id slot symbol prb giver at → suc (at - 1) ≡ at
    → slice_get gs (at - 1) ≡ Some g → next ≡ (if gives_prb g id slot symbol prb then g.number else giver) → back ≡ last_in cs (chain_at cs (at - 1)) (at - 1)
    → SearchesAt gs id slot symbol prb next back
search_goes_at gs cs id slot symbol prb giver next at back g cs_is s there is next_is back_is =
    subst (λ (n : ℕ). SearchesAt gs id slot symbol prb n back) (sym next_is)
    (subst (λ (n : ℕ). SearchesAt gs id slot symbol prb (if gives_prb g id slot symbol prb then g.number else giver) n)
    (sym (back_is ∙ ap (λ (xs : List ℕ). last_in xs (chain_at xs (at - 1)) (at - 1)) cs_is))
    (search_goes gs id slot symbol prb giver (at - 1) g (subst (λ (n : ℕ). SearchesAt gs id slot symbol prb giver n) (sym there) s) is))
