-- The first row with a frame's number is that of the first line that speaks of the frame.
use Rattle.std.proofs.Common.{◌≡◌, ℕ, suc, ◌+◌, ◌*◌, ◌<◌, ◌==◌, Bool, true, false, cond, ◌&&◌, List, [], ◌∷◌, refl, ap, sym, ◌∙◌, subst, arith, Option, Some, None, inl, inr}
use Rattle.std.specs.Prelude.{MatchOption, slice_get}
use Rattle.std.proofs.lemmas.Bool.{cases_Bool, eq-eqb, eqb-true, eqb-false, and_parts, and_from, false≢true}
use Rattle.air_source.specs.declared.events.Side.{Side}
use Rattle.air_source.specs.declared.events.Side.TheVariants.{Ru, Du}
use Rattle.fh_document.specs.declared.delivered.TrafficClass.{TrafficClass}
use Rattle.fh_document.specs.declared.delivered.TrafficClass.TheVariants.{C, U, M}
use Rattle.fh_document.specs.declared.delivered.Delivery.{Delivery}
use Rattle.fh_document.specs.Delivered.{way_number, class_number, number_of, frame_number}
use Rattle.frame_ways.specs.Copies.{speaks_of, line_of}
use Rattle.frame_ways.specs.Rows.{first_place, is_of, numbered, numbered_from, row_of}
use Rattle.frame_ways.specs.declared.rows.Row.{Row}

-- ---- a number is that of one frame

way_small : (s : Side) → way_number s < 2
way_small Ru = omega arith
way_small Du = omega arith

class_small : (c : TrafficClass) → class_number c < 3
class_small C = omega arith
class_small U = omega arith
class_small M = omega arith

same_parts : (a b c d e f : ℕ) → a < 2 → d < 2 → b < 3 → e < 3 → 6 * c + (3 * a + b) ≡ 6 * f + (3 * d + e) → (a ≡ d) × (b ≡ e) × (c ≡ f)
same_parts a b c d e f la ld lb le is = (omega arith, omega arith, omega arith)

from_parts : (a b c d e f : ℕ) → a ≡ d → b ≡ e → c ≡ f → 6 * c + (3 * a + b) ≡ 6 * f + (3 * d + e)
from_parts a b c d e f p q r = omega arith

pub same_test : (side : Side) (class : TrafficClass) (k : ℕ) (d : Delivery) → (frame_number d == number_of side class k) ≡ speaks_of side class k d
same_test side class k d = elim (cases_Bool (frame_number d == number_of side class k)) [
  | inl is ↦
      let parts = same_parts (way_number d.side) (class_number d.class) d.k (way_number side) (class_number class) k (way_small d.side) (way_small side) (class_small d.class) (class_small class) (eqb-true (frame_number d) (number_of side class k) is) in
      is ∙ sym (and_from (way_number side == way_number d.side) ((class_number class == class_number d.class) && (k == d.k)) (eq-eqb (way_number side) (way_number d.side) (sym parts.0))
      (and_from (class_number class == class_number d.class) (k == d.k) (eq-eqb (class_number class) (class_number d.class) (sym parts.1)) (eq-eqb k d.k (sym parts.2))))
  | inr other ↦ other ∙ sym (unlike (speaks_of side class k d) refl other)
]
  where
    unlike : (b : Bool) → speaks_of side class k d ≡ b → (frame_number d == number_of side class k) ≡ false → speaks_of side class k d ≡ false
    unlike true is other =
        let both = and_parts (way_number side == way_number d.side) ((class_number class == class_number d.class) && (k == d.k)) is in
        let rest = and_parts (class_number class == class_number d.class) (k == d.k) both.1 in
        absurd (eqb-false (frame_number d) (number_of side class k) other
        (from_parts (way_number d.side) (class_number d.class) d.k (way_number side) (class_number class) k (sym (eqb-true (way_number side) (way_number d.side) both.0))
        (sym (eqb-true (class_number class) (class_number d.class) rest.0)) (sym (eqb-true k d.k rest.1))))
    unlike false is other = is

-- ---- the first line

-- the rows of the lines from this one on, of which only those have this number that speak of the frame
first_of : (n m place : ℕ) (own said : Bool) (rs : List Row) → (m == n) ≡ said → (said ≡ true → own ≡ true) → first_place n (cond own (row_of m place ∷ rs) rs) ≡ cond said (Some place) (first_place n rs)
first_of n m place true said rs test are = ap (λ b. cond b (Some place) (first_place n rs)) test
first_of n m place false true rs test are = absurd (false≢true (are refl))
first_of n m place false false rs test are = refl

abbrev pub Says : List Delivery → Side → TrafficClass → ℕ → ℕ → Option ℕ → Type 0
Says ds side class k from place = MatchOption place (None ≡ line_of ds side class k) (λ p. (i : ℕ) × (p ≡ from + i) × (slice_get ds i ≡ line_of ds side class k))

says_from : (side : Side) (class : TrafficClass) (k from : ℕ) (ds : List Delivery) → Says ds side class k from (first_place (number_of side class k) (numbered_from side from ds))
says_from side class k from [] = refl
says_from side class k from (d ∷ ds) = subst (Says (d ∷ ds) side class k from) (sym first) (elim (cases_Bool (speaks_of side class k d)) [
  | inl here ↦ rw here (0, omega arith, refl)
  | inr there ↦ rw there (later (first_place (number_of side class k) (numbered_from side (suc from) ds)) (says_from side class k (suc from) ds))
])
  where
    first : first_place (number_of side class k) (numbered_from side from (d ∷ ds)) ≡ cond (speaks_of side class k d) (Some from) (first_place (number_of side class k) (numbered_from side (suc from) ds))
    first = first_of (number_of side class k) (frame_number d) from (is_of side d) (speaks_of side class k d) (numbered_from side (suc from) ds) (same_test side class k d)
        (λ said. (and_parts (is_of side d) ((class_number class == class_number d.class) && (k == d.k)) said).0)

    later : (o : Option ℕ) → Says ds side class k (suc from) o → MatchOption o (None ≡ line_of ds side class k) (λ p. (i : ℕ) × (p ≡ from + i) × (slice_get (d ∷ ds) i ≡ line_of ds side class k))
    later None h = h
    later (Some p) h = (suc h.0, (let at = h.1 in omega (arith, at)), h.2)

-- what rows with the same first places answer
module _ (side : Side) (class : TrafficClass) (k : ℕ) (ds : List Delivery) (rows : List Row) (same : (n : ℕ) → first_place n rows ≡ first_place n (numbered side ds)) where
  says : (place : Option ℕ) → place ≡ first_place (number_of side class k) rows → Says ds side class k 0 place
  says place is = subst (Says ds side class k 0) (sym (is ∙ same (number_of side class k))) (says_from side class k 0 ds)

  pub no_line : None ≡ first_place (number_of side class k) rows → None ≡ line_of ds side class k
  no_line is = says None is

  pub line_found : (p : ℕ) → Some p ≡ first_place (number_of side class k) rows → slice_get ds p ≡ line_of ds side class k
  line_found p is =
      let h = says (Some p) is in
      let at : p ≡ h.0 = (let e = h.1 in omega (arith, e)) in
      ap (slice_get ds) at ∙ h.2
