-- How a picture begins and ends.
use Rattle.std.specs.Prelude.{ℕ, List, ◌++◌, codes}
use Rattle.fh_base.specs.Words.{spaced_text}
use Rattle.pictures.specs.Elements.{attribute_text}

-- the style of all classes, one line
unfoldable pub style_text : List ℕ
style_text = codes "text{font:11px sans-serif;fill:#222}.t{font-size:15px;font-weight:bold}.g{fill:#777}.shown-dl{fill:#0072b2}.shown-ul{fill:#009e73}.late{fill:#d55e00}.early{fill:#e69f00}.unfinished{fill:#cc79a7}.other{fill:#f0e442}.refused{fill:#882255}.repeated{fill:#000}.command{fill:#56b4e9}.nodata{fill:#888}.panel{fill:#fafafa;stroke:#bbb}.slot{stroke:#ddd}.frame{stroke:#999}.win{fill:#dde7f2;stroke:#0072b2}.ok{fill:#0072b2}.zero{stroke:#111;stroke-width:2}"

-- the element of the picture, of a size (section 5.1.2 of SVG 1.1), up to its style
unfoldable pub head_text : ℕ → ℕ → List ℕ
head_text width height =
    codes "<svg xmlns=\"http://www.w3.org/2000/svg\"" ++ attribute_text (codes "width") width ++ attribute_text (codes "height") height
    ++ codes " viewBox=\"0 0" ++ spaced_text width ++ spaced_text height ++ codes "\"><style>"

-- the end of the style, and the hatching (patterns, section 13.3)
unfoldable pub hatching_text : List ℕ
hatching_text = codes "</style>\n<defs><pattern id=\"z\" width=\"4\" height=\"4\" patternUnits=\"userSpaceOnUse\" patternTransform=\"rotate(45)\"><rect width=\"2\" height=\"4\" fill=\"#fff\" fill-opacity=\"0.75\"/></pattern></defs>\n"

-- the ground of the picture
unfoldable pub ground_text : ℕ → ℕ → List ℕ
ground_text width height = codes "<rect" ++ attribute_text (codes "width") width ++ attribute_text (codes "height") height ++ codes " fill=\"#fff\"/>\n"

-- four lines: size and style, hatching, ground, title
unfoldable pub opening_text : ℕ → ℕ → List ℕ → List ℕ
opening_text width height title =
    head_text width height ++ style_text ++ hatching_text ++ ground_text width height ++ codes "<text class=\"t\" x=\"10\" y=\"22\">" ++ title ++ codes "</text>\n"

-- the last line
unfoldable pub closing_text : List ℕ
closing_text = codes "</svg>\n"
