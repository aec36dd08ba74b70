-- Texts of line feeds and printable ASCII, and the elements that are made of them.
use Rattle.std.proofs.Common.{◌≡◌, ℕ, zero, suc, ◌+◌, ◌/◌, ◌%◌, ◌<◌, ◌≤◌, List, [], ◌∷◌, ◌++◌, Bool, true, false, ◌&&◌, ◌||◌, ◌==◌, nat_le, nat_lt, ℤ, pos, negsuc, refl, ap₂, ◌∙◌, arith, codes, decimal}
use Rattle.std.specs.Prelude.{if◌then◌else◌}
use Rattle.std.specs.Fmt.{digits_onto, digits, signed_decimal, digit_glyph}
use Rattle.std.specs.List.{list_all}
use Rattle.std.proofs.lemmas.Bool.Decides.{nat_tests}
use Rattle.std.proofs.lemmas.List.Folds.{list_all-append}
use Rattle.fh_base.specs.Words.{spaced_text}
use Rattle.line_words.specs.Each.{each}
use Rattle.pictures.specs.Elements.{across_text, anchor_text, area_text, attribute_text, class_text, down_text, grey_text, hatched_text, path_text, rect_text, text_text, titled_text}
use Rattle.pictures.specs.Opening.{closing_text, ground_text, hatching_text, head_text, opening_text, style_text}
use Rattle.pictures.specs.declared.rects.Area.{Area}
use Rattle.pictures.specs.declared.texts.Anchor.{Anchor}
use Rattle.pictures.specs.declared.texts.Anchor.TheVariants.{Start, Middle, End}
use Rattle.picture_laws.specs.Plain.{IsPlain, is_plain_byte}

pub lit : {text : List ℕ} → list_all is_plain_byte text ≡ true → IsPlain text
lit e = record { is = e }

infixl 60 ◌⊕◌
pub ◌⊕◌ : {a b : List ℕ} → IsPlain a → IsPlain b → IsPlain (a ++ b)
◌⊕◌ {a = a} {b = b} p q = record { is = list_all-append is_plain_byte a b ∙ ap₂ (λ (x y : Bool). x && y) p.is q.is }

pub plain_if : (t : Bool) (a b : List ℕ) → IsPlain a → IsPlain b → IsPlain (if t then a else b)
plain_if true a b p q = p
plain_if false a b p q = q

pub plain_cons : (b : ℕ) (text : List ℕ) → is_plain_byte b ≡ true → IsPlain text → IsPlain (b ∷ text)
plain_cons b text e p = record { is = ap₂ (λ (x y : Bool). x && y) e p.is }

-- ---- numbers

pub byte_plain : (b : ℕ) → (nat_le 32 b && nat_le b 126) ≡ true → is_plain_byte b ≡ true
byte_plain b e = go (b == 10) (nat_le 32 b && nat_le b 126) e
  where
    go : (x y : Bool) → y ≡ true → (x || y) ≡ true
    go true y e = refl
    go false y e = e

pub byte_within : (b : ℕ) → 32 ≤ b → b ≤ 126 → is_plain_byte b ≡ true
byte_within b low high =
    let least : nat_le 32 b ≡ true = grind (arith, nat_tests) in
    let most : nat_le b 126 ≡ true = grind (arith, nat_tests) in
    byte_plain b (ap₂ (λ (x y : Bool). x && y) least most)

digit_plain : (d : ℕ) → d < 10 → is_plain_byte (digit_glyph false d) ≡ true
digit_plain d small = go (nat_lt d 10) refl
  where
    go : (t : Bool) → nat_lt d 10 ≡ t → is_plain_byte (if t then 48 + d else 87 + d) ≡ true
    go true is = byte_within (48 + d) (omega arith) (omega arith)
    go false is = let test : nat_lt d 10 ≡ true = grind (arith, nat_tests) in cc

digits_plain : (k n : ℕ) (acc : List ℕ) → IsPlain acc → IsPlain (digits_onto k 10 false n acc)
digits_plain zero n acc p = p
digits_plain (suc k) n acc p =
    let less : n % 10 < 10 = omega arith in
    let more = plain_cons (digit_glyph false (n % 10)) acc (digit_plain (n % 10) less) p in
    plain_if (n / 10 == 0) _ _ more (digits_plain k (n / 10) (digit_glyph false (n % 10) ∷ acc) more)

pub number_plain : (n : ℕ) → IsPlain (decimal n)
unfolding digits
number_plain n = digits_plain 64 n [] (lit refl)

pub signed_plain : (z : ℤ) → IsPlain (signed_decimal z)
signed_plain (pos n) = number_plain n
signed_plain (negsuc n) = plain_cons 45 (decimal (suc n)) refl (number_plain (suc n))

pub spaced_plain : (n : ℕ) → IsPlain (spaced_text n)
spaced_plain n = lit {text = codes " "} refl ⊕ number_plain n

-- ---- texts one after another

pub each_plain : (text : ℕ → List ℕ) (n : ℕ) → ((k : ℕ) → IsPlain (text k)) → IsPlain (each text n)
unfolding each
each_plain text zero p = lit refl
each_plain text (suc n) p = each_plain text n p ⊕ p n

-- ---- elements

attribute_plain : (name : List ℕ) (n : ℕ) → IsPlain name → IsPlain (attribute_text name n)
attribute_plain name n p = lit {text = codes " "} refl ⊕ p ⊕ lit {text = codes "=\""} refl ⊕ number_plain n ⊕ lit {text = codes "\""} refl

class_plain : (name : List ℕ) → IsPlain name → IsPlain (class_text name)
class_plain name p = lit {text = codes " class=\""} refl ⊕ p ⊕ lit {text = codes "\""} refl

area_plain : (a : Area) → IsPlain (area_text a)
area_plain a = attribute_plain (codes "x") a.x (lit refl) ⊕ attribute_plain (codes "y") a.y (lit refl) ⊕ attribute_plain (codes "width") a.width (lit refl) ⊕ attribute_plain (codes "height") a.height (lit refl)

pub rect_plain : (name : List ℕ) (a : Area) → IsPlain name → IsPlain (rect_text name a)
unfolding rect_text
rect_plain name a p = lit {text = codes "<rect"} refl ⊕ class_plain name p ⊕ area_plain a ⊕ lit {text = codes "/>\n"} refl

pub titled_plain : (name : List ℕ) (a : Area) (title : List ℕ) → IsPlain name → IsPlain title → IsPlain (titled_text name a title)
unfolding titled_text
titled_plain name a title p q =
    lit {text = codes "<rect"} refl ⊕ class_plain name p ⊕ area_plain a ⊕ lit {text = codes "><title>"} refl ⊕ q ⊕ lit {text = codes "</title></rect>\n"} refl

pub hatched_plain : (a : Area) → IsPlain (hatched_text a)
unfolding hatched_text
hatched_plain a = lit {text = codes "<rect"} refl ⊕ area_plain a ⊕ lit {text = codes " fill=\"url(#z)\" pointer-events=\"none\"/>\n"} refl

path_plain : (name : List ℕ) (x y : ℕ) (direction : List ℕ) (by : ℕ) → IsPlain name → IsPlain direction → IsPlain (path_text name x y direction by)
path_plain name x y direction by p q =
    lit {text = codes "<path"} refl ⊕ class_plain name p ⊕ lit {text = codes " d=\"M"} refl ⊕ number_plain x ⊕ spaced_plain y ⊕ q ⊕ number_plain by ⊕ lit {text = codes "\"/>\n"} refl

pub down_plain : (name : List ℕ) (x y height : ℕ) → IsPlain name → IsPlain (down_text name x y height)
unfolding down_text
down_plain name x y height p = path_plain name x y (codes "v") height p (lit refl)

pub across_plain : (name : List ℕ) (x y width : ℕ) → IsPlain name → IsPlain (across_text name x y width)
unfolding across_text
across_plain name x y width p = path_plain name x y (codes "h") width p (lit refl)

grey_plain : (grey : Bool) → IsPlain (grey_text grey)
grey_plain true = class_plain (codes "g") (lit refl)
grey_plain false = lit refl

anchor_plain : (anchor : Anchor) → IsPlain (anchor_text anchor)
anchor_plain Start = lit refl
anchor_plain Middle = lit refl
anchor_plain End = lit refl

pub text_plain : (x y : ℕ) (grey : Bool) (anchor : Anchor) (t : List ℕ) → IsPlain t → IsPlain (text_text x y grey anchor t)
unfolding text_text
text_plain x y grey anchor t p =
    lit {text = codes "<text"} refl ⊕ attribute_plain (codes "x") x (lit refl) ⊕ attribute_plain (codes "y") y (lit refl) ⊕ grey_plain grey ⊕ anchor_plain anchor
    ⊕ lit {text = codes ">"} refl ⊕ p ⊕ lit {text = codes "</text>\n"} refl

style_plain : IsPlain style_text
unfolding style_text
style_plain = lit refl

hatching_plain : IsPlain hatching_text
unfolding hatching_text
hatching_plain = lit refl

pub closing_plain : IsPlain closing_text
unfolding closing_text
closing_plain = lit refl

head_plain : (width height : ℕ) → IsPlain (head_text width height)
unfolding head_text
head_plain width height =
    lit {text = codes "<svg xmlns=\"http://www.w3.org/2000/svg\""} refl ⊕ attribute_plain (codes "width") width (lit refl) ⊕ attribute_plain (codes "height") height (lit refl)
    ⊕ lit {text = codes " viewBox=\"0 0"} refl ⊕ spaced_plain width ⊕ spaced_plain height ⊕ lit {text = codes "\"><style>"} refl

ground_plain : (width height : ℕ) → IsPlain (ground_text width height)
unfolding ground_text
ground_plain width height =
    lit {text = codes "<rect"} refl ⊕ attribute_plain (codes "width") width (lit refl) ⊕ attribute_plain (codes "height") height (lit refl) ⊕ lit {text = codes " fill=\"#fff\"/>\n"} refl

pub opening_plain : (width height : ℕ) (title : List ℕ) → IsPlain title → IsPlain (opening_text width height title)
unfolding opening_text
opening_plain width height title p =
    head_plain width height ⊕ style_plain ⊕ hatching_plain ⊕ ground_plain width height ⊕ lit {text = codes "<text class=\"t\" x=\"10\" y=\"22\">"} refl ⊕ p ⊕ lit {text = codes "</text>\n"} refl
