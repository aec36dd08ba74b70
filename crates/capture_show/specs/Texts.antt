-- The two texts of shown lines (this project's profile): a line of text for each, or one array of JSON with an object for each.
use Rattle.std.specs.Prelude.{ℕ, Bool, true, false, List, [], ◌∷◌, ◌++◌, map, codes, if◌then◌else◌}
use Rattle.std.specs.List.{flat_map}
use Rattle.serde_json.specs.Data.{Data, number, unsigned, string, object, array, Members, no_members, put}
use Rattle.serde_json.specs.Find.{of_integer}
use Rattle.serde_json.specs.View.{items_of}
use Rattle.serde_json.specs.Written.{compact_text, comma_if}
use Rattle.capture_show.specs.declared.values.Field.{Field}
use Rattle.capture_show.specs.declared.values.Field.TheVariants.{Count, Signed, Word}
use Rattle.capture_show.specs.declared.values.Member.{Member}
use Rattle.member_lines.specs.Members.{member_text as with_name}
use Rattle.capture_show.specs.Lines.{ShownLine, kind_text, is_bare, name_text, word_text, field_text}

-- ---- text

-- a member after a space, with its name but for the line of a record
abbrev pub member_text : Bool → Member → List ℕ
member_text bare m = if bare then codes " " ++ field_text m.field else with_name (name_text m.name) (field_text m.field)

unfoldable pub line_text : ShownLine → List ℕ
line_text l = kind_text l.kind ++ flat_map (member_text (is_bare l.kind)) l.members ++ codes "\n"

-- ---- JSON

-- what a member says: a number, or a string
abbrev pub data_of : Field → Data
data_of (Count n) = number (unsigned n)
data_of (Signed z) = number (of_integer z)
data_of (Word w) = string (word_text w)

abbrev pub shown_members : List Member → List (List ℕ × Data)
shown_members ms = map (λ m. (name_text m.name, data_of m.field)) ms

-- the members put one after the other, each at the place of its name
abbrev pub put_all : List (List ℕ × Data) → Members → Members
put_all [] ms = ms
put_all (x ∷ rest) ms = put_all rest (put x.0 x.1 ms)

-- the object of a line, whose first word is the member `line`
unfoldable pub object_of : ShownLine → Data
object_of l = object (put_all (shown_members l.members) (put (codes "line") (string (kind_text l.kind)) no_members))

-- ---- both

-- a line of text; or an object, after a comma where another precedes it
abbrev pub piece : Bool → Bool → ShownLine → List ℕ
piece true later l = comma_if later ++ compact_text (object_of l)
piece false later l = line_text l

-- the pieces of some lines, where `later` says whether others are before them
unfoldable pub pieces : Bool → Bool → List ShownLine → List ℕ
pieces json later [] = []
pieces json later (l ∷ ls) = piece json later l ++ pieces json true ls

-- the compact text of one array, and a line feed; or the lines
abbrev pub lines_text : Bool → List ShownLine → List ℕ
lines_text true ls = compact_text (array (items_of (map object_of ls))) ++ codes "\n"
lines_text false ls = flat_map line_text ls

-- what is before and after the pieces
abbrev pub front_text : Bool → List ℕ
front_text true = codes "["
front_text false = []

abbrev pub end_text : Bool → List ℕ
end_text true = codes "]\n"
end_text false = []
