-- What a finder knows, through each change of the list of combined cells.
use Rattle.std.proofs.Common.{◌≡◌, nat_lt, ℕ, suc, zero, ◌+◌, ◌<◌, ◌≤◌, Bool, true, false, cond, not, List, [], ◌∷◌, ◌++◌, length, take, get_or, set, length-set, Option, Some, None, refl, ap, sym, ◌∙◌, arith, subst, All}
use Rattle.std.specs.BTreeMap.{get}
use Rattle.std.specs.Cmp.{IsTotalOrder, then_total, on_total, nat_cmp_total, int_cmp_total, tied_itself, upto}
use Rattle.std.specs.List.{position, position_or_len}
use Rattle.std.specs.Option.{option_map}
use Rattle.std.specs.Ordering.{is_eq, is_gt, ordering_reverse}
use Rattle.std.specs.declared.cmp.Ordering.{Ordering}
use Rattle.std.specs.declared.cmp.Ordering.TheVariants.{Less, Equal, Greater}
use Rattle.std.proofs.Math.Seq.{take-suc}
use Rattle.std.proofs.lemmas.Bool.Decides.{nat_tests}
use Rattle.std.proofs.lemmas.List.{take-append-le, take_all, length_push, length-take-le}
use Rattle.std.proofs.lemmas.List.Elements.{All-head, All-tail, All-push, All-set}
use Rattle.shared_cell.specs.declared.finding.Finder.{Finder}
use Rattle.shared_cell.specs.declared.places.CellPlace.{CellPlace}
use Rattle.shared_cell.specs.declared.values.Mixed.{Mixed}
use Rattle.shared_cell.specs.Finding.{Finds, index_of, is_beyond}
use Rattle.shared_cell.specs.Places.{is_mixed_at, is_same, place_cmp, place_in}
use Rattle.shared_cell.proofs.Apart.{apart_pushed, apart_set}
use Rattle.shared_cell.proofs.Found.{found_after_push}
use Rattle.shared_cell.proofs.Same.{same_is}

-- ---- the order of places

places_ordered : IsTotalOrder place_cmp
places_ordered =
    then_total (on_total (λ (p : CellPlace). p.frame) int_cmp_total)
    (then_total (on_total (λ (p : CellPlace). p.subframe) nat_cmp_total)
    (then_total (on_total (λ (p : CellPlace). p.slot) nat_cmp_total)
    (then_total (on_total (λ (p : CellPlace). p.symbol) nat_cmp_total)
    (then_total (on_total (λ (p : CellPlace). p.id) nat_cmp_total) (on_total (λ (p : CellPlace). p.prb) nat_cmp_total)))))

-- no place is beyond itself
not_beyond_itself : (p : CellPlace) → is_beyond (Some p) p ≡ false
not_beyond_itself p = ap is_gt (tied_itself places_ordered p)

turned : (o : Ordering) → is_gt o ≡ true → is_gt (ordering_reverse o) ≡ false
turned Less h = cc
turned Equal h = cc
turned Greater h = refl

-- a place that is not beyond the greatest is not beyond one that is
still_below : (greatest : Option CellPlace) (p q : CellPlace) → is_beyond greatest p ≡ true → is_beyond greatest q ≡ false → is_beyond (Some p) q ≡ false
still_below None p q beyond below = cc
still_below (Some g) p q beyond below =
    upto places_ordered q g p below (ap is_gt (places_ordered.antisymm g p) ∙ turned (place_cmp p g) beyond)

-- a place beyond the greatest has no combined cell
pub new_beyond : (greatest : Option CellPlace) (p : CellPlace) (ms : List Mixed) → is_beyond greatest p ≡ true → All (λ m. is_beyond greatest (place_in m) ≡ false) ms → index_of p ms ≡ None
new_beyond greatest p [] beyond below = refl
new_beyond greatest p (m ∷ ms) beyond below =
    go (is_mixed_at p m) refl (new_beyond greatest p ms beyond (All-tail (λ x. is_beyond greatest (place_in x) ≡ false) m ms below))
  where
    go : (b : Bool) → is_mixed_at p m ≡ b → index_of p ms ≡ None → cond b (Some 0) (option_map suc (index_of p ms)) ≡ None
    go true e rest =
        let here : is_beyond greatest p ≡ false =
        ap (is_beyond greatest) (same_is p (place_in m) e) ∙ All-head (λ x. is_beyond greatest (place_in x) ≡ false) m ms below in
        cc
    go false e rest = ap (option_map suc) rest

-- ---- the map of the first combined cells

-- none of those before it has its place
before_none : (p : CellPlace) (ms : List Mixed) (k : ℕ) → index_of p ms ≡ Some k → index_of p (take k ms) ≡ None
before_none p [] k h = cc
before_none p (m ∷ ms) zero h = refl
before_none p (m ∷ ms) (suc k) h = go (is_mixed_at p m) (index_of p ms) refl h (before_none p ms k)
  where
    go : (b : Bool) (o : Option ℕ) → index_of p ms ≡ o → cond b (Some 0) (option_map suc o) ≡ Some (suc k) → (index_of p ms ≡ Some k → index_of p (take k ms) ≡ None)
        → cond b (Some 0) (option_map suc (index_of p (take k ms))) ≡ None
    go true o e h rest = cc
    go false None e h rest = cc
    go false (Some j) e h rest = let is : j ≡ k = cc in ap (option_map suc) (rest (e ∙ ap (λ (n : ℕ). Some n) is))

-- one more of them was put into the map
pub mapped_more : (f g : Finder) (ms : List Mixed) (k : ℕ) (d : Mixed) → Finds f ms → f.mapped ≡ k → k < length ms
    → ((q : CellPlace) → get place_cmp g.map q ≡ cond (is_eq (place_cmp (place_in (get_or ms k d)) q)) (Some k) (get place_cmp f.map q)) → g.mapped ≡ k + 1 → g.greatest ≡ f.greatest → Finds g ms
mapped_more f g ms k d finds at less now more same = record {
  within = omega (arith, less, more);
  found = λ q.
      found_after_push (place_in (get_or ms k d)) q (get_or ms k d) (take k ms) (get place_cmp f.map q) (get place_cmp g.map q) refl
      (before_none (place_in (get_or ms k d)) ms k (finds.apart k d less))
      (finds.found q ∙ ap (λ (n : ℕ). index_of q (take n ms)) at)
      (now q ∙ ap (λ (n : ℕ). cond (is_eq (place_cmp (place_in (get_or ms k d)) q)) (Some n) (get place_cmp f.map q)) (sym (length-take-le k ms weak)))
      ∙ ap (index_of q) (sym (take-suc ms k d less)) ∙ ap (λ (n : ℕ). index_of q (take n ms)) next;
  below = subst (λ (o : Option CellPlace). All (λ m. is_beyond o (place_in m) ≡ false) ms) (sym same) finds.below;
  apart = finds.apart;
}
  where
    weak : k ≤ length ms
    weak = omega (arith, less)

    next : suc k ≡ g.mapped
    next = omega (arith, more)

-- the complete map finds each of them
pub found_in_all : (f : Finder) (ms : List Mixed) (p : CellPlace) → Finds f ms → f.mapped ≡ length ms → get place_cmp f.map p ≡ index_of p ms
found_in_all f ms p finds all = finds.found p ∙ ap (index_of p) (take_all f.mapped ms (omega (arith, all)))

-- ---- a search one by one

shifted : (n l : ℕ) → nat_lt (1 + n) (suc l) ≡ nat_lt n l
shifted n l = grind (arith, nat_tests)

first_of : (l : ℕ) → nat_lt 0 (suc l) ≡ true
first_of l = grind (arith, nat_tests)

next_of : (b : Bool) (n : ℕ) → cond b (Some (1 + n)) None ≡ option_map suc (cond b (Some n) None)
next_of true n = let is : 1 + n ≡ suc n = omega arith in ap (λ (k : ℕ). Some k) is
next_of false n = refl

position_next : (b : Bool) (n l : ℕ) → cond (nat_lt (cond (not b) (1 + n) 0) (suc l)) (Some (cond (not b) (1 + n) 0)) None ≡ cond b (Some 0) (option_map suc (cond (nat_lt n l) (Some n) None))
position_next true n l = ap (λ (t : Bool). cond t (Some 0) None) (first_of l)
position_next false n l = ap (λ (t : Bool). cond t (Some (1 + n)) None) (shifted n l) ∙ next_of (nat_lt n l) n

pub position_is : (p : CellPlace) (ms : List Mixed) → position (is_mixed_at p) ms ≡ index_of p ms
position_is p [] = refl
position_is p (m ∷ ms) =
    position_next (is_mixed_at p m) (position_or_len (is_mixed_at p) ms) (length ms)
    ∙ ap (λ (o : Option ℕ). cond (is_mixed_at p m) (Some 0) (option_map suc o)) (position_is p ms)

-- ---- the list changes

-- one more at the end, of a new place
pub finds_pushed : (f g : Finder) (ms : List Mixed) (m : Mixed) → Finds f ms → index_of (place_in m) ms ≡ None → g.map ≡ f.map → g.mapped ≡ f.mapped
    → g.greatest ≡ cond (is_beyond f.greatest (place_in m)) (Some (place_in m)) f.greatest → Finds g (ms ++ m ∷ [])
finds_pushed f g ms m finds new map mapped greatest = record {
  within = omega (arith, finds.within, mapped, length_push ms m);
  found = λ q.
      ap (λ x. get place_cmp x q) map ∙ finds.found q
      ∙ ap (index_of q) (sym (take-append-le f.mapped ms (m ∷ []) finds.within)) ∙ ap (λ (n : ℕ). index_of q (take n (ms ++ m ∷ []))) (sym mapped);
  below = subst (λ (o : Option CellPlace). All (λ x. is_beyond o (place_in x) ≡ false) (ms ++ m ∷ [])) (sym greatest) (go (is_beyond f.greatest (place_in m)) refl);
  apart = apart_pushed ms m finds.apart new;
}
  where
    go : (b : Bool) → is_beyond f.greatest (place_in m) ≡ b → All (λ x. is_beyond (cond b (Some (place_in m)) f.greatest) (place_in x) ≡ false) (ms ++ m ∷ [])
    go true e =
        All-push (λ x. is_beyond (Some (place_in m)) (place_in x) ≡ false) ms m
        (λ k d less. still_below f.greatest (place_in m) (place_in (get_or ms k d)) e (finds.below k d less)) (not_beyond_itself (place_in m))
    go false e = All-push (λ x. is_beyond f.greatest (place_in x) ≡ false) ms m finds.below e

index_of-take_set : (q : CellPlace) (n : ℕ) (ms : List Mixed) (k : ℕ) (m d : Mixed) → place_in m ≡ place_in (get_or ms k d) → index_of q (take n (set ms k m)) ≡ index_of q (take n ms)
index_of-take_set q n [] k m d h = refl
index_of-take_set q zero (x ∷ xs) zero m d h = refl
index_of-take_set q zero (x ∷ xs) (suc k) m d h = refl
index_of-take_set q (suc n) (x ∷ xs) zero m d h = ap (λ (p : CellPlace). cond (is_same q p) (Some 0) (option_map suc (index_of q (take n xs)))) h
index_of-take_set q (suc n) (x ∷ xs) (suc k) m d h = ap (λ (o : Option ℕ). cond (is_mixed_at q x) (Some 0) (option_map suc o)) (index_of-take_set q n xs k m d h)

-- one of them is replaced by one of its place
pub finds_set : (f : Finder) (ms : List Mixed) (k : ℕ) (m d : Mixed) → Finds f ms → k < length ms → place_in m ≡ place_in (get_or ms k d) → Finds f (set ms k m)
finds_set f ms k m d finds less at = record {
  within = omega (arith, finds.within, length-set ms k m);
  found = λ q. finds.found q ∙ sym (index_of-take_set q f.mapped ms k m d at);
  below = All-set (λ x. is_beyond f.greatest (place_in x) ≡ false) ms k m (ap (is_beyond f.greatest) at ∙ finds.below k d less) finds.below;
  apart = apart_set ms k m d at finds.apart;
}
