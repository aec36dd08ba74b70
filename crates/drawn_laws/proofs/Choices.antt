-- Choices that were made, and what follows on values.
use Rattle.std.proofs.Common.{◌≡◌, ℕ, ◌≤◌, List, ◌∷◌, length, Bool, true, false, ◌&&◌, ◌||◌, ◌==◌, refl, ap, ap₂, ◌∙◌, arith, codes}
use Rattle.std.specs.Prelude.{Option, Some, Result, if◌then◌else◌}
use Rattle.std.specs.Str.{bytes_eq}
use Rattle.std.proofs.lemmas.Bool.Decides.{nat_tests}
use Rattle.pictures.specs.Numbers.{taking}
use Rattle.pictures.specs.Refusals.{is_end, or_line}
use Rattle.pictures.specs.declared.faults.TextWhy.{TextWhy}

pub chosen : {A : Type 0} (t : Bool) (x y z : A) → t ≡ true → x ≡ z → (if t then x else y) ≡ z
chosen t x y z e f = ap (λ (b : Bool). if b then x else y) e ∙ f

pub passed_by : {A : Type 0} (t : Bool) (x y z : A) → t ≡ false → y ≡ z → (if t then x else y) ≡ z
passed_by t x y z e f = ap (λ (b : Bool). if b then x else y) e ∙ f

pub taken : {A B : Type 0} (o : Option A) (x : A) (next : A → Option B) (z : Option B) → o ≡ Some x → next x ≡ z → taking o next ≡ z
taken o x next z e f = ap (λ (p : Option _). taking p next) e ∙ f

pub followed : {A B : Type 0} (o : Option A) (x : A) (next : A → Result B TextWhy) (z : Result B TextWhy) → o ≡ Some x → next x ≡ z → or_line o next ≡ z
followed o x next z e f = ap (λ (p : Option _). or_line p next) e ∙ f

pub and_true : {a b : Bool} → a ≡ true → b ≡ true → (a && b) ≡ true
and_true e f = ap₂ (λ (x y : Bool). x && y) e f

pub and_false : (a : Bool) {b : Bool} → b ≡ false → (a && b) ≡ false
and_false true e = e
and_false false e = refl

pub or_false : {a b : Bool} → a ≡ false → b ≡ false → (a || b) ≡ false
or_false e f = ap₂ (λ (x y : Bool). x || y) e f

-- a line with another first word is no end
pub no_end : (w : List ℕ) (rest : List (List ℕ)) → bytes_eq w (codes "end") ≡ false → is_end (w ∷ rest) ≡ false
no_end w rest e = and_false (length (w ∷ rest) == 1) e

pub not_first : (n : ℕ) → 2 ≤ n → (n == 1) ≡ false
not_first n low = grind (arith, nat_tests)
