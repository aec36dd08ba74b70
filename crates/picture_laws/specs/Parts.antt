-- The parts of the picture of windows, and where each is.
use Rattle.std.specs.Prelude.{◌≡◌, ℕ, ◌+◌, ◌≤◌, List, ◌++◌, Bool, true, not, ◌&&◌, ◌||◌, ◌==◌, nat_le, codes}
use Rattle.std.specs.List.{All, flat_map, list_all}
use Rattle.pictures.specs.declared.arrivals.Kind.{Kind}
use Rattle.pictures.specs.declared.arrivals.Kind.TheVariants.{OnTime, Late, Early}
use Rattle.pictures.specs.Elements.{across_text, down_text, rect_text, text_text}
use Rattle.pictures.specs.Opening.{closing_text, opening_text}
use Rattle.pictures.specs.declared.rects.Area.{Area}
use Rattle.pictures.specs.declared.texts.Anchor.{Anchor}

-- a window, a bar of arrivals of a kind, a straight line of a class from a point downwards or to the right, or a text at a point
pub data Part : Type 0 where
  Window : Area → Part
  Bar : Kind → Area → Part
  Down : List ℕ → ℕ → ℕ → ℕ → Part
  Across : List ℕ → ℕ → ℕ → ℕ → Part
  Words : ℕ → ℕ → Bool → Anchor → List ℕ → Part

abbrev pub bar_name : Kind → List ℕ
bar_name OnTime = codes "ok"
bar_name Late = codes "late"
bar_name Early = codes "early"

abbrev pub part_text : Part → List ℕ
part_text (Window a) = rect_text (codes "win") a
part_text (Bar kind a) = rect_text (bar_name kind) a
part_text (Down name x y by) = down_text name x y by
part_text (Across name x y by) = across_text name x y by
part_text (Words x y grey anchor t) = text_text x y grey anchor t

-- ---- places

-- the pixels from left to right and from top to bottom, without the right and the bottom one
pub record Panel : Type 0 where
  pub left : ℕ
  pub right : ℕ
  pub top : ℕ
  pub bottom : ℕ

-- one pixel or more, all of them in the panel
pub record IsWithin (p : Panel) (x y width height : ℕ) : Type 0 where
  pub wide : 1 ≤ width
  pub high : 1 ≤ height
  pub left : p.left ≤ x
  pub right : x + width ≤ p.right
  pub top : p.top ≤ y
  pub bottom : y + height ≤ p.bottom

-- printable ASCII, and none of the characters `<`, `>`, `&` and `"`, which begin and end elements and attributes
abbrev pub is_mere_byte : ℕ → Bool
is_mere_byte b = nat_le 32 b && nat_le b 126 && not ((b == 60) || (b == 62) || (b == 38) || (b == 34))

pub record IsMere (text : List ℕ) : Type 0 where
  pub is : list_all is_mere_byte text ≡ true

-- a text is measured by its point
abbrev pub IsIn : Panel → Part → Type 0
IsIn p (Window a) = IsWithin p a.x a.y a.width a.height
IsIn p (Bar kind a) = IsWithin p a.x a.y a.width a.height
IsIn p (Down name x y by) = IsWithin p x y 1 by × IsMere name
IsIn p (Across name x y by) = IsWithin p x y by 1 × IsMere name
IsIn p (Words x y grey anchor t) = IsWithin p x y 1 1 × IsMere t

-- a text is made of parts, each in its panel
pub record IsMadeOf (panel : Part → Panel) (text : List ℕ) : Type 0 where
  pub parts : List Part
  pub is : text ≡ flat_map part_text parts
  pub inside : All (λ part. IsIn (panel part) part) parts

-- ---- the picture of windows

-- the picture, and no pixel of it
abbrev pub page : Panel
page = record { left = 0; right = 1284; top = 0; bottom = 652 }

abbrev pub nowhere : Panel
nowhere = record { left = 0; right = 0; top = 0; bottom = 0 }

-- outside of the rows are lines and texts alone
abbrev pub whole : Part → Panel
whole (Window a) = nowhere
whole (Bar kind a) = nowhere
whole (Down name x y by) = page
whole (Across name x y by) = page
whole (Words x y grey anchor t) = page

-- Of a row from y on: its windows and their names above, its bars below the windows and on the base line, which ends it. Bars are where
-- times are, from 214 to 1254, and reach a pixel farther.
abbrev pub row_panel : ℕ → Part → Panel
row_panel y (Window a) = record { left = 214; right = 1255; top = y + 23; bottom = y + 57 }
row_panel y (Bar kind a) = record { left = 213; right = 1256; top = y + 57; bottom = y + 122 }
row_panel y (Down name x at by) = record { left = 0; right = 1284; top = y; bottom = y + 132 }
row_panel y (Across name x at by) = record { left = 0; right = 1284; top = y; bottom = y + 132 }
row_panel y (Words x at grey anchor t) = record { left = 0; right = 1284; top = y; bottom = y + 132 }

-- the axis, four rows one below the other, and the line of the symbol's start
pub record HasPanels (picture : List ℕ) : Type 0 where
  pub axis : List ℕ
  pub downlink_commands : List ℕ
  pub uplink_commands : List ℕ
  pub downlink_data : List ℕ
  pub uplink_data : List ℕ
  pub start : List ℕ
  pub is : picture ≡ opening_text 1284 652 (codes "Windows, and what arrived in them")
      ++ axis ++ downlink_commands ++ uplink_commands ++ downlink_data ++ uplink_data ++ start ++ closing_text
  pub on_axis : IsMadeOf whole axis
  pub in_downlink_commands : IsMadeOf (row_panel 84) downlink_commands
  pub in_uplink_commands : IsMadeOf (row_panel 216) uplink_commands
  pub in_downlink_data : IsMadeOf (row_panel 348) downlink_data
  pub in_uplink_data : IsMadeOf (row_panel 480) uplink_data
  pub at_start : IsMadeOf whole start
