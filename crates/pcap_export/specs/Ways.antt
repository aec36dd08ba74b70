-- Which frames of a capture are written (this project's profile).
use Rattle.std.specs.Prelude.{ℕ, Bool, true, false, List, [], ◌∷◌, Option, Some, None, if◌then◌else◌, codes}
use Rattle.std.specs.Str.{bytes_eq}
use Rattle.air_source.specs.declared.events.Side.{Side}
use Rattle.air_source.specs.declared.events.Side.TheVariants.{Ru, Du}
use Rattle.pcap_export.specs.declared.ways.Ways.{Ways}
use Rattle.pcap_export.specs.declared.ways.Ways.TheVariants.{Both, To}

-- whether frames to a unit are written
abbrev pub is_wanted : Ways → Side → Bool
is_wanted Both side = true
is_wanted (To Ru) Ru = true
is_wanted (To Ru) Du = false
is_wanted (To Du) Ru = false
is_wanted (To Du) Du = true

-- the ways that one word is
abbrev pub one_way : List ℕ → Option Ways
one_way word = if bytes_eq word (codes "dl") then Some (To Ru) else (if bytes_eq word (codes "ul") then Some (To Du) else None)

-- the ways that the words are: both without a word
abbrev pub ways_of : List (List ℕ) → Option Ways
ways_of [] = Some Both
ways_of (word ∷ []) = one_way word
ways_of (word ∷ more ∷ words) = None
