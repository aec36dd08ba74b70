-- What one more leaves of the links of chains.
use Rattle.std.proofs.Common.{◌≡◌, ℕ, zero, suc, ◌-◌, ◌<◌, ◌≤◌, arith, Bool, true, false, List, [], ◌∷◌, ◌++◌, length, map, refl, sym, ap, subst, ◌∙◌, true≢false, length-append, inl, inr, ◌⊎◌}
use Rattle.std.specs.Prelude.{◌==◌, if◌then◌else◌, slice_index_or, slice_set}
use Rattle.std.proofs.Math.Dec.{leb}
use Rattle.std.proofs.Math.ListN.{get_or-append}
use Rattle.std.proofs.Math.Seq.{get_or-append_right, get_or-append_seam}
use Rattle.std.proofs.lemmas.Bool.{eqb-true, eq-eqb}
use Rattle.std.proofs.lemmas.Bool.Decides.{leb_tells}
use Rattle.std.proofs.lemmas.Grind.{get_or-set_at}
use Rattle.std.proofs.lemmas.List.{get_or-set_other, length-set}
use Rattle.explain_units.specs.Chains.{AreLinked, chain_at, last_in}
use Rattle.explain_units.specs.declared.chains.Link.{Link}
use Rattle.explain_units.proofs.ChainLemmas.{last_in_front, step_by}

no_rest : (j : ℕ) → ◌≡◌ {A = ℕ} (slice_index_or (0 ∷ []) j 0) 0
no_rest zero = refl
no_rest (suc j) = refl

-- a list of zeros with one more
pub zeros_more : (xs : List ℕ) → ((k : ℕ) → slice_index_or xs k 0 ≡ 0) → (k : ℕ) → slice_index_or (xs ++ 0 ∷ []) k 0 ≡ 0
zeros_more xs zeros k = from (leb_tells (length xs) k)
  where
    from : ((leb (length xs) k ≡ true) × (length xs ≤ k)) ⊎ ((leb (length xs) k ≡ false) × (k < length xs)) → slice_index_or (xs ++ 0 ∷ []) k 0 ≡ 0
    from (inl (t, over)) = get_or-append_right xs (0 ∷ []) k 0 over ∙ no_rest (k - length xs)
    from (inr (f, below)) = get_or-append xs (0 ∷ []) 0 k below ∙ zeros k

seam : (xs : List ℕ) (x n : ℕ) → length xs ≡ n → slice_index_or (xs ++ x ∷ []) n 0 ≡ x
seam xs x n is = subst (λ (j : ℕ). slice_index_or (xs ++ x ∷ []) j 0 ≡ x) is (get_or-append_seam xs x [] 0)

module _ (cs bs ends : List ℕ) (c : ℕ) (same : length bs ≡ length cs) (within : c < length ends) (linked : AreLinked cs bs ends) where
  at_end : slice_index_or (bs ++ slice_index_or ends c 0 ∷ []) (length cs) 0 ≡ last_in (cs ++ c ∷ []) (chain_at (cs ++ c ∷ []) (length cs)) (length cs)
  at_end =
      seam bs (slice_index_or ends c 0) (length cs) same ∙ linked.last c within ∙ sym (last_in_front cs c c (length cs) (omega (arith)))
      ∙ ap (λ (x : ℕ). last_in (cs ++ c ∷ []) x (length cs)) (sym (seam cs c (length cs) refl))

  before_end : (k : ℕ) → k < length cs → slice_index_or (bs ++ slice_index_or ends c 0 ∷ []) k 0 ≡ last_in (cs ++ c ∷ []) (chain_at (cs ++ c ∷ []) k) k
  before_end k below =
      get_or-append bs (slice_index_or ends c 0 ∷ []) 0 k (omega (arith, below, same)) ∙ linked.before k below
      ∙ sym (last_in_front cs c (chain_at cs k) k (omega (arith, below))) ∙ ap (λ (x : ℕ). last_in (cs ++ c ∷ []) x k) (sym (get_or-append cs (c ∷ []) 0 k below))

  each_before : (k : ℕ) → k < length (cs ++ c ∷ []) → slice_index_or (bs ++ slice_index_or ends c 0 ∷ []) k 0 ≡ last_in (cs ++ c ∷ []) (chain_at (cs ++ c ∷ []) k) k
  each_before k inside = from (leb_tells (length cs) k)
    where
      from : ((leb (length cs) k ≡ true) × (length cs ≤ k)) ⊎ ((leb (length cs) k ≡ false) × (k < length cs))
          → slice_index_or (bs ++ slice_index_or ends c 0 ∷ []) k 0 ≡ last_in (cs ++ c ∷ []) (chain_at (cs ++ c ∷ []) k) k
      from (inl (t, over)) =
          let end : length cs ≡ k = omega (arith, over, inside, length-append cs (c ∷ [])) in
          subst (λ (j : ℕ). slice_index_or (bs ++ slice_index_or ends c 0 ∷ []) j 0 ≡ last_in (cs ++ c ∷ []) (chain_at (cs ++ c ∷ []) j) j) end at_end
      from (inr (f, below)) = before_end k below

  last_next : (chain : ℕ) → chain < length ends → (b : Bool) → (c == chain) ≡ b
      → slice_index_or (slice_set ends c (suc (length cs))) chain 0 ≡ (if b then suc (length cs) else last_in (cs ++ c ∷ []) chain (length cs))
  last_next chain there true is = get_or-set_at ends c chain (suc (length cs)) 0 (sym (eqb-true c chain is)) within
  last_next chain there false is =
      get_or-set_other ends c chain (suc (length cs)) 0 (λ same_chain. absurd (true≢false (sym (eq-eqb c chain (sym same_chain)) ∙ is)))
      ∙ linked.last chain there ∙ sym (last_in_front cs c chain (length cs) (omega (arith)))

  last_is : (chain : ℕ) → last_in (cs ++ c ∷ []) chain (suc (length cs)) ≡ (if c == chain then suc (length cs) else last_in (cs ++ c ∷ []) chain (length cs))
  last_is chain =
      step_by (cs ++ c ∷ []) chain (length cs)
      ∙ ap (λ (x : ℕ). if x == chain then suc (length cs) else last_in (cs ++ c ∷ []) chain (length cs)) (seam cs c (length cs) refl)

  -- one more in a chain
  pub linked_more : AreLinked (cs ++ c ∷ []) (bs ++ slice_index_or ends c 0 ∷ []) (slice_set ends c (suc (length cs)))
  linked_more = record {
    before = each_before;
    last = λ chain there.
        last_next chain (subst (λ (n : ℕ). chain < n) (length-set ends c (suc (length cs))) there) (c == chain) refl
        ∙ sym (last_is chain) ∙ ap (last_in (cs ++ c ∷ []) chain) (omega (arith, length-append cs (c ∷ [])));
  }

-- nothing in any chain
pub linked_none : (ends : List ℕ) → ((k : ℕ) → slice_index_or ends k 0 ≡ 0) → AreLinked [] [] ends
unfolding last_in
linked_none ends zeros = record { before = λ k inside. absurd (omega (arith, inside)); last = λ chain there. zeros chain }

map_last : {A B : Type 0} (f : A → B) (xs : List A) (x : A) → map f (xs ++ x ∷ []) ≡ map f xs ++ f x ∷ []
map_last f [] x = refl
map_last f (y ∷ xs) x = ap (λ rest. f y ∷ rest) (map_last f xs x)

map_long : {A B C : Type 0} (f : A → B) (g : A → C) (xs : List A) → length (map f xs) ≡ length (map g xs)
map_long f g [] = refl
map_long f g (x ∷ xs) = ap suc (map_long f g xs)

map_same : {A B : Type 0} (f : A → B) (xs : List A) → length (map f xs) ≡ length xs
map_same f [] = refl
map_same f (x ∷ xs) = ap suc (map_same f xs)

module _ {T : Type 0} where
  abbrev chains_in : List (Link T) → List ℕ
  chains_in ls = map (λ l. l.chain) ls

  abbrev befores_in : List (Link T) → List ℕ
  befores_in ls = map (λ l. l.before) ls

  -- one more link
  pub pushed : (links : List (Link T)) (ends : List ℕ) (link : Link T) → link.before ≡ slice_index_or ends link.chain 0 → link.chain < length ends
      → AreLinked (chains_in links) (befores_in links) ends
      → AreLinked (chains_in (links ++ link ∷ [])) (befores_in (links ++ link ∷ [])) (slice_set ends link.chain (length (links ++ link ∷ [])))
  pushed links ends link is within linked =
      let more = linked_more (chains_in links) (befores_in links) ends link.chain (map_long (λ l. l.before) (λ l. l.chain) links) within linked in
      let long : suc (length (chains_in links)) ≡ length (links ++ link ∷ []) = omega (arith, map_same (λ l. l.chain) links, length-append links (link ∷ [])) in
      subst (λ (cs : List ℕ). AreLinked cs (befores_in (links ++ link ∷ [])) (slice_set ends link.chain (length (links ++ link ∷ [])))) (sym (map_last (λ l. l.chain) links link))
      (subst (λ (bs : List ℕ). AreLinked (chains_in links ++ link.chain ∷ []) bs (slice_set ends link.chain (length (links ++ link ∷ [])))) (sym (map_last (λ l. l.before) links link))
      (subst (λ (b : ℕ). AreLinked (chains_in links ++ link.chain ∷ []) (befores_in links ++ b ∷ []) (slice_set ends link.chain (length (links ++ link ∷ [])))) (sym is)
      (subst (λ (n : ℕ). AreLinked (chains_in links ++ link.chain ∷ []) (befores_in links ++ slice_index_or ends link.chain 0 ∷ []) (slice_set ends link.chain n)) long more)))
