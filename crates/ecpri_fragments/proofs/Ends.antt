-- Where a fragment with E = 1 is stored, no greater subsequence is: what is stored of a complete message is its pieces alone.
use Rattle.std.proofs.Common.{◌≡◌, ℕ, ◌≤◌, Bool, true, false, cond, ◌&&◌, ◌||◌, ltb, List, [], ◌∷◌, Option, Some, None, refl, sym, ap, ◌∙◌, arith}
use Rattle.std.proofs.lemmas.Bool.{ltb-false, le-ltb, or_parts, or_from}
use Rattle.std.proofs.lemmas.Option.{same_Some}
use Rattle.ecpri_fragments.specs.declared.verdict.Verdict.{Verdict}
use Rattle.ecpri_fragments.specs.Generations.{Fragment}
use Rattle.ecpri_fragments.specs.Verdicts.{end_of, is_past_end, has_greater, is_stray, refused, with_one, standing}
use Rattle.ecpri_fragments.proofs.Tables.{passed}

not_past : (s : List Fragment) (e k : ℕ) → end_of s ≡ Some e → is_past_end s k ≡ false → k ≤ e
not_past [] e k h p = absurd (cc)
not_past (b ∷ s) e k h p = go b.last h (or_parts (b.last && ltb b.sub k) (is_past_end s k) p) (not_past s e k)
  where
    go : (last : Bool) → cond last (Some b.sub) (end_of s) ≡ Some e → ((last && ltb b.sub k) ≡ false) × (is_past_end s k ≡ false) →
        (end_of s ≡ Some e → is_past_end s k ≡ false → k ≤ e) → k ≤ e
    go true h p r = let i : b.sub ≡ e = same_Some b.sub e h in let l = ltb-false b.sub k p.0 in omega (arith, i, l)
    go false h p r = r h p.1

one_more : (s : List Fragment) (a : Fragment) (e : ℕ) → ((n : ℕ) → end_of s ≡ Some n → has_greater s n ≡ false) → is_stray s a ≡ false → end_of (a ∷ s) ≡ Some e → has_greater (a ∷ s) e ≡ false
one_more s a e before stray h = go a.last h (or_parts (is_past_end s a.sub) (a.last && has_greater s a.sub) stray)
  where
    go : (last : Bool) → cond last (Some a.sub) (end_of s) ≡ Some e → (is_past_end s a.sub ≡ false) × ((last && has_greater s a.sub) ≡ false) → (ltb e a.sub || has_greater s e) ≡ false
    go true h p =
        let i : a.sub ≡ e = same_Some a.sub e h in
        or_from (ltb e a.sub) (has_greater s e) (le-ltb e a.sub (omega (arith, i))) (ap (has_greater s) (sym i) ∙ p.1)
    go false h p = or_from (ltb e a.sub) (has_greater s e) (le-ltb e a.sub (not_past s e a.sub h p.0)) (before e h)

pub none_beyond : (held : List Fragment) (e : ℕ) → end_of (standing held) ≡ Some e → has_greater (standing held) e ≡ false
none_beyond [] e h = absurd (cc)
none_beyond (a ∷ held) e h = go (refused (standing held) a) refl (none_beyond held) h
  where
    go : (o : Option Verdict) → refused (standing held) a ≡ o → ((n : ℕ) → end_of (standing held) ≡ Some n → has_greater (standing held) n ≡ false) → end_of (with_one o a (standing held)) ≡ Some e → has_greater (with_one o a (standing held)) e ≡ false
    go (Some v) r i h = i e h
    go None r i h = one_more (standing held) a e i (passed _ (is_stray (standing held) a) _ r) h
