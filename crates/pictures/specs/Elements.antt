-- The elements of a picture, each a line (W3C Scalable Vector Graphics 1.1: rect, section 9.2; path, section 8; text, section 10.4).
use Rattle.std.specs.Prelude.{ℕ, List, [], ◌++◌, Bool, true, false, codes, decimal}
use Rattle.fh_base.specs.Words.{spaced_text}
use Rattle.pictures.specs.declared.rects.Area.{Area}
use Rattle.pictures.specs.declared.texts.Anchor.{Anchor}
use Rattle.pictures.specs.declared.texts.Anchor.TheVariants.{Start, Middle, End}

-- an attribute with a number
abbrev pub attribute_text : List ℕ → ℕ → List ℕ
attribute_text name n = codes " " ++ name ++ codes "=\"" ++ decimal n ++ codes "\""

abbrev pub class_text : List ℕ → List ℕ
class_text name = codes " class=\"" ++ name ++ codes "\""

-- a corner and a size
abbrev pub area_text : Area → List ℕ
area_text a = attribute_text (codes "x") a.x ++ attribute_text (codes "y") a.y ++ attribute_text (codes "width") a.width ++ attribute_text (codes "height") a.height

-- a rectangle of a class
unfoldable pub rect_text : List ℕ → Area → List ℕ
rect_text name a = codes "<rect" ++ class_text name ++ area_text a ++ codes "/>\n"

-- one with a title
unfoldable pub titled_text : List ℕ → Area → List ℕ → List ℕ
titled_text name a title = codes "<rect" ++ class_text name ++ area_text a ++ codes "><title>" ++ title ++ codes "</title></rect>\n"

-- a rectangle of the hatching, which takes no part in pointing
unfoldable pub hatched_text : Area → List ℕ
hatched_text a = codes "<rect" ++ area_text a ++ codes " fill=\"url(#z)\" pointer-events=\"none\"/>\n"

-- a straight line from a point on, `v` down or `h` to the right
abbrev pub path_text : List ℕ → ℕ → ℕ → List ℕ → ℕ → List ℕ
path_text name x y direction by = codes "<path" ++ class_text name ++ codes " d=\"M" ++ decimal x ++ spaced_text y ++ direction ++ decimal by ++ codes "\"/>\n"

unfoldable pub down_text : List ℕ → ℕ → ℕ → ℕ → List ℕ
down_text name x y height = path_text name x y (codes "v") height

unfoldable pub across_text : List ℕ → ℕ → ℕ → ℕ → List ℕ
across_text name x y width = path_text name x y (codes "h") width

-- the class of a grey text
abbrev pub grey_text : Bool → List ℕ
grey_text true = class_text (codes "g")
grey_text false = []

-- where a text is anchored; the start goes without saying
abbrev pub anchor_text : Anchor → List ℕ
anchor_text Start = []
anchor_text Middle = codes " text-anchor=\"middle\""
anchor_text End = codes " text-anchor=\"end\""

-- a text at a point
unfoldable pub text_text : ℕ → ℕ → Bool → Anchor → List ℕ → List ℕ
text_text x y grey anchor t =
    codes "<text" ++ attribute_text (codes "x") x ++ attribute_text (codes "y") y ++ grey_text grey ++ anchor_text anchor ++ codes ">" ++ t ++ codes "</text>\n"
