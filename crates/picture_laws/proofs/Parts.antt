-- Texts that are made of parts, each in its panel.
use Rattle.std.proofs.Common.{◌≡◌, ℕ, zero, suc, ◌+◌, ◌/◌, ◌%◌, ◌<◌, ◌≤◌, List, [], ◌∷◌, ◌++◌, Bool, true, false, ◌&&◌, ◌==◌, nat_lt, ℤ, pos, negsuc, refl, sym, ap, ap₂, ◌∙◌, arith, append-nil, codes, decimal, rules, tests}
use Rattle.std.specs.Prelude.{if◌then◌else◌}
use Rattle.std.specs.Fmt.{digits_onto, digits, signed_decimal, digit_glyph}
use Rattle.std.specs.List.{list_all, flat_map}
use Rattle.std.proofs.lemmas.Bool.Decides.{nat_tests}
use Rattle.std.proofs.lemmas.Grind.{flat_map-append}
use Rattle.std.proofs.lemmas.List.Elements.{All-append, All-cons, All-nil}
use Rattle.std.proofs.lemmas.List.Folds.{list_all-append}
use Rattle.fh_base.specs.Words.{spaced_text}
use Rattle.line_words.specs.Each.{each}
use Rattle.picture_laws.specs.Parts.{IsIn, IsMadeOf, IsMere, Panel, Part, is_mere_byte, part_text}

-- ---- texts without marks

pub mere : {text : List ℕ} → list_all is_mere_byte text ≡ true → IsMere text
mere e = record { is = e }

infixl 60 ◌⊙◌
pub ◌⊙◌ : {a b : List ℕ} → IsMere a → IsMere b → IsMere (a ++ b)
◌⊙◌ {a = a} {b = b} p q = record { is = list_all-append is_mere_byte a b ∙ ap₂ (λ (x y : Bool). x && y) p.is q.is }

pub mere_if : (t : Bool) (a b : List ℕ) → IsMere a → IsMere b → IsMere (if t then a else b)
mere_if true a b p q = p
mere_if false a b p q = q

mere_cons : (b : ℕ) (text : List ℕ) → is_mere_byte b ≡ true → IsMere text → IsMere (b ∷ text)
mere_cons b text e p = record { is = ap₂ (λ (x y : Bool). x && y) e p.is }

digit_byte : (b : ℕ) → 48 ≤ b → b ≤ 57 → is_mere_byte b ≡ true
digit_byte b low high = search (rules, tests)

digit_mere : (d : ℕ) → d < 10 → is_mere_byte (digit_glyph false d) ≡ true
digit_mere d small = go (nat_lt d 10) refl
  where
    go : (t : Bool) → nat_lt d 10 ≡ t → is_mere_byte (if t then 48 + d else 87 + d) ≡ true
    go true is = digit_byte (48 + d) (omega arith) (omega arith)
    go false is = let test : nat_lt d 10 ≡ true = grind (arith, nat_tests) in cc

digits_mere : (k n : ℕ) (acc : List ℕ) → IsMere acc → IsMere (digits_onto k 10 false n acc)
digits_mere zero n acc p = p
digits_mere (suc k) n acc p =
    let less : n % 10 < 10 = omega arith in
    let more = mere_cons (digit_glyph false (n % 10)) acc (digit_mere (n % 10) less) p in
    mere_if (n / 10 == 0) _ _ more (digits_mere k (n / 10) (digit_glyph false (n % 10) ∷ acc) more)

pub number_mere : (n : ℕ) → IsMere (decimal n)
unfolding digits
number_mere n = digits_mere 64 n [] (mere refl)

pub signed_mere : (z : ℤ) → IsMere (signed_decimal z)
signed_mere (pos n) = number_mere n
signed_mere (negsuc n) = mere_cons 45 (decimal (suc n)) refl (number_mere (suc n))

pub spaced_mere : (n : ℕ) → IsMere (spaced_text n)
spaced_mere n = mere {text = codes " "} refl ⊙ number_mere n

-- ---- parts one after another

pub made_none : (panel : Part → Panel) → IsMadeOf panel []
made_none panel = record { parts = []; is = refl; inside = All-nil (λ part. IsIn (panel part) part) }

pub made_one : (panel : Part → Panel) (part : Part) → IsIn (panel part) part → IsMadeOf panel (part_text part)
made_one panel part within = record {
  parts = part ∷ [];
  is = sym (append-nil (part_text part));
  inside = All-cons (λ part. IsIn (panel part) part) part [] within (All-nil (λ part. IsIn (panel part) part));
}

infixl 60 ◌⊗◌
pub ◌⊗◌ : {panel : Part → Panel} {a b : List ℕ} → IsMadeOf panel a → IsMadeOf panel b → IsMadeOf panel (a ++ b)
◌⊗◌ {panel = panel} p q = record {
  parts = p.parts ++ q.parts;
  is = ap₂ (λ (x y : List ℕ). x ++ y) p.is q.is ∙ sym (flat_map-append part_text p.parts q.parts);
  inside = All-append (λ part. IsIn (panel part) part) p.parts q.parts p.inside q.inside;
}

pub each_made : (panel : Part → Panel) (text : ℕ → List ℕ) (n : ℕ) → ((k : ℕ) → k < n → IsMadeOf panel (text k)) → IsMadeOf panel (each text n)
unfolding each
each_made panel text zero p = made_none panel
each_made panel text (suc n) p = each_made panel text n (λ k lt. p k (omega arith)) ⊗ p n (omega arith)
