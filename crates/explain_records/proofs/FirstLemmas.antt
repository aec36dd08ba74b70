-- Whether two fragments begin alike, by their first eight bytes and how many of them there are.
use Rattle.std.proofs.Common.{◌≡◌, ℕ, ℤ, Bool, true, false, List, [], ◌∷◌, length, take, min, Decides, refl, sym, ap, ap₂, ◌∙◌, arith}
use Rattle.std.specs.Prelude.{if◌then◌else◌, ◌&&◌, ◌==◌, not, option_map, Option, Some, None}
use Rattle.std.specs.Str.{bytes_eq}
use Rattle.std.proofs.lemmas.Bool.{and_from, and_parts, eq-eqb, eqb-true}
use Rattle.std.proofs.lemmas.Bool.Decides.{same_from_decides}
use Rattle.std.proofs.lemmas.List.{length-take}
use Rattle.std.proofs.lemmas.Slice.Eq.{bytes_eq-Decides}
use Rattle.fh_base.specs.declared.values.Slot.{Slot}
use Rattle.ecpri_fragments.specs.Generations.{Fragment}
use Rattle.ecpri_fragments.specs.Verdicts.{piece_at, standing_before}
use Rattle.air_source.specs.declared.events.Side.{Side}
use Rattle.explain_model.specs.declared.headers.RepeatedRecord.{RepeatedRecord}
use Rattle.explain_heard.specs.Heard.{first_eight}
use Rattle.explain_model.specs.Fragments.{NumberedFragment, differs_from, first_named, is_of_another, is_repeat, repeated_in, repeated_with}
use Rattle.explain_records.specs.declared.told.FirstBytes.{FirstBytes}
use Rattle.explain_records.specs.declared.generations.LastGeneration.{LastGeneration}
use Rattle.explain_records.specs.Turns.{first_of, repeated_by, repeated_of, repeats, same_first, told_by}

-- ---- eight bytes

front : (a : List ℕ) → take 8 a ≡ take (min (length a) 8) (first_eight a)
front [] = refl
front (a ∷ []) = refl
front (a ∷ b ∷ []) = refl
front (a ∷ b ∷ c ∷ []) = refl
front (a ∷ b ∷ c ∷ d ∷ []) = refl
front (a ∷ b ∷ c ∷ d ∷ e ∷ []) = refl
front (a ∷ b ∷ c ∷ d ∷ e ∷ f ∷ []) = refl
front (a ∷ b ∷ c ∷ d ∷ e ∷ f ∷ g ∷ []) = refl
front (a ∷ b ∷ c ∷ d ∷ e ∷ f ∷ g ∷ h ∷ rest) =
    let full : min (length (a ∷ b ∷ c ∷ d ∷ e ∷ f ∷ g ∷ h ∷ rest)) 8 ≡ 8 = omega arith in
    sym (ap (λ (n : ℕ). take n (a ∷ b ∷ c ∷ d ∷ e ∷ f ∷ g ∷ h ∷ [])) full)

cut : (a : List ℕ) → first_eight a ≡ first_eight (take 8 a)
cut [] = refl
cut (a ∷ []) = refl
cut (a ∷ b ∷ []) = refl
cut (a ∷ b ∷ c ∷ []) = refl
cut (a ∷ b ∷ c ∷ d ∷ []) = refl
cut (a ∷ b ∷ c ∷ d ∷ e ∷ []) = refl
cut (a ∷ b ∷ c ∷ d ∷ e ∷ f ∷ []) = refl
cut (a ∷ b ∷ c ∷ d ∷ e ∷ f ∷ g ∷ []) = refl
cut (a ∷ b ∷ c ∷ d ∷ e ∷ f ∷ g ∷ h ∷ rest) = refl

counts_same : (a b : List ℕ) → take 8 a ≡ take 8 b → min (length a) 8 ≡ min (length b) 8
counts_same a b e =
    let n : length (take 8 a) ≡ length (take 8 b) = ap (λ (xs : List ℕ). length xs) e in
    omega (arith, length-take 8 a, length-take 8 b, n)

first_decides : (a b : List ℕ) → Decides (same_first (first_of a) (first_of b)) (take 8 a ≡ take 8 b)
first_decides a b = (
  λ is.
      let p = and_parts (bytes_eq (first_eight a) (first_eight b)) (min (length a) 8 == min (length b) 8) is in
      front a
      ∙ ap₂ (λ (n : ℕ) (xs : List ℕ). take n xs) (eqb-true (min (length a) 8) (min (length b) 8) p.1) ((bytes_eq-Decides (first_eight a) (first_eight b)).0 p.0)
      ∙ sym (front b),
  λ e.
      and_from (bytes_eq (first_eight a) (first_eight b)) (min (length a) 8 == min (length b) 8)
      ((bytes_eq-Decides (first_eight a) (first_eight b)).1 (cut a ∙ ap (λ (xs : List ℕ). first_eight xs) e ∙ sym (cut b)))
      (eq-eqb (min (length a) 8) (min (length b) 8) (counts_same a b e)),
)

pub same_beginning : (a b : List ℕ) → same_first (first_of a) (first_of b) ≡ bytes_eq (take 8 a) (take 8 b)
same_beginning a b =
    same_from_decides (same_first (first_of a) (first_of b)) (bytes_eq (take 8 a) (take 8 b)) (first_decides a b) (bytes_eq-Decides (take 8 a) (take 8 b))

-- ---- a fragment that is received under a used sequence id

module _ (side : Side) (x : NumberedFragment) where
  named_same : (named : Option (Slot × ℕ)) → repeated_of side (told_by side x) named ≡ repeated_with side x named
  named_same None = refl
  named_same (Some (slot, symbol)) = refl

  alike_by : (same : Bool) (rs : List RepeatedRecord) → (let l : List RepeatedRecord = if same then [] else rs in l) ≡ (let l : List RepeatedRecord = if not same then rs else [] in l)
  alike_by true rs = refl
  alike_by false rs = refl

  repeats_by : (again : Bool) (o : Option (List ℕ))
      → (let l : List RepeatedRecord = if again then repeated_by side (told_by side x) (option_map first_of o) else [] in l)
      ≡ (let l : List RepeatedRecord = if again && differs_from o x.fragment.bytes then repeated_with side x (first_named side x.endpoint x.fragment) else [] in l)
  repeats_by false o = refl
  repeats_by true None = refl
  repeats_by true (Some stood) =
      ap (λ (b : Bool). let l : List RepeatedRecord = if b then [] else repeated_of side (told_by side x) (told_by side x).named in l) (same_beginning stood x.fragment.bytes)
      ∙ ap (λ (rs : List RepeatedRecord). let l : List RepeatedRecord = if bytes_eq (take 8 stood) (take 8 x.fragment.bytes) then [] else rs in l) (named_same (first_named side x.endpoint x.fragment))
      ∙ alike_by (bytes_eq (take 8 stood) (take 8 x.fragment.bytes)) (repeated_with side x (first_named side x.endpoint x.fragment))

  pub repeats_are : (hold : ℤ) (fs : List Fragment) (l : LastGeneration) → l.first ≡ option_map first_of (piece_at (standing_before hold x.fragment fs) 0)
      → repeats side (told_by side x) l ≡ repeated_in side hold fs x
  unfolding is_of_another
  repeats_are hold fs l first =
      ap (λ (o : Option FirstBytes). let l : List RepeatedRecord = if is_repeat x.verdict then repeated_by side (told_by side x) o else [] in l) first
      ∙ repeats_by (is_repeat x.verdict) (piece_at (standing_before hold x.fragment fs) 0)
