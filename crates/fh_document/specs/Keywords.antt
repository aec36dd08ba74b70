-- The keywords of lines, and the order of their kinds.
use Rattle.std.specs.Prelude.{ℕ, List, Bool, true, false, Option, Some, None, if◌then◌else◌, codes}
use Rattle.std.specs.Option.{option_map, option_or}
use Rattle.std.specs.Str.{bytes_eq}
use Rattle.fh_document.specs.declared.document.Version.{Version}
use Rattle.fh_document.specs.declared.document.Version.TheVariants.{One, Two, Three}
use Rattle.fh_document.specs.declared.keywords.Setting.{Setting}
use Rattle.fh_document.specs.declared.keywords.Setting.TheVariants.{Widths, T1a, T2a, Advance, Ta3, Ta4, T12, T34, Hold, Gap, Fragment, Source, Antenna, Comp, TransitDl, TransitUl, TransitM, Pack}
use Rattle.fh_document.specs.declared.keywords.Keyword.{Keyword}
use Rattle.fh_document.specs.declared.keywords.Keyword.TheVariants as keyword
use Rattle.fh_base.specs.Numbers.{word_at}

-- the grammar has `pack` and extended endpoints: version 2 and every later one
abbrev pub is_after_one : Version → Bool
is_after_one One = false
is_after_one Two = true
is_after_one Three = true

-- the grammar has `lost`: version 3
abbrev pub is_three : Version → Bool
is_three One = false
is_three Two = false
is_three Three = true

-- the windows of the units
abbrev pub window_setting_of : List ℕ → Option Setting
window_setting_of w =
    if bytes_eq w (codes "t1a") then Some T1a
    else (if bytes_eq w (codes "t2a") then Some T2a
    else (if bytes_eq w (codes "ta3") then Some Ta3
    else (if bytes_eq w (codes "ta4") then Some Ta4
    else None)))

-- the times that are no window of a unit
abbrev pub delay_setting_of : List ℕ → Option Setting
delay_setting_of w =
    if bytes_eq w (codes "advance") then Some Advance
    else (if bytes_eq w (codes "t12") then Some T12
    else (if bytes_eq w (codes "t34") then Some T34
    else (if bytes_eq w (codes "hold") then Some Hold
    else (if bytes_eq w (codes "gap") then Some Gap
    else (if bytes_eq w (codes "comp") then Some Comp
    else None)))))

-- the frames: the widths of their eAxC ids, their size, and the samples in them
abbrev pub frame_setting_of : List ℕ → Option Setting
frame_setting_of w =
    if bytes_eq w (codes "widths") then Some Widths
    else (if bytes_eq w (codes "fragment") then Some Fragment
    else (if bytes_eq w (codes "source") then Some Source
    else (if bytes_eq w (codes "antenna") then Some Antenna
    else None)))

-- what a first word configures in every version
abbrev pub common_setting_of : List ℕ → Option Setting
common_setting_of w = option_or (option_or (window_setting_of w) (delay_setting_of w)) (frame_setting_of w)

-- what a first word configures
abbrev pub setting_of : Version → List ℕ → Option Setting
setting_of version w =
    if bytes_eq w (codes "pack") then (if is_after_one version then Some Pack else None)
    else common_setting_of w

-- what the second word of `transit` configures
abbrev pub transit_of : List ℕ → Option Setting
transit_of w =
    if bytes_eq w (codes "dl") then Some TransitDl
    else (if bytes_eq w (codes "ul") then Some TransitUl
    else (if bytes_eq w (codes "m") then Some TransitM
    else None))

abbrev pub configuring : Option Setting → Option Keyword
configuring s = option_map (λ x. keyword.Configure x) s

-- the keyword that the words begin with
abbrev pub keyword_of : Version → List (List ℕ) → Option Keyword
keyword_of version ws =
    if bytes_eq (word_at ws 0) (codes "endpoint") then Some keyword.Endpoint
    else (if bytes_eq (word_at ws 0) (codes "plan") then Some keyword.Plan
    else (if bytes_eq (word_at ws 0) (codes "deliver") then Some keyword.Deliver
    else (if bytes_eq (word_at ws 0) (codes "inject") then Some keyword.Inject
    else (if bytes_eq (word_at ws 0) (codes "measure") then Some keyword.Measure
    else (if bytes_eq (word_at ws 0) (codes "transit") then configuring (transit_of (word_at ws 1))
    else configuring (setting_of version (word_at ws 0)))))))

-- the place of a kind of lines in their order
abbrev pub rank_of : Keyword → ℕ
rank_of (keyword.Configure s) = 0
rank_of keyword.Endpoint = 1
rank_of keyword.Plan = 2
rank_of keyword.Deliver = 3
rank_of keyword.Inject = 4
rank_of keyword.Measure = 5

-- a number for each configuration keyword
abbrev pub number_of : Setting → ℕ
number_of Widths = 0
number_of T1a = 1
number_of T2a = 2
number_of Advance = 3
number_of Ta3 = 4
number_of Ta4 = 5
number_of T12 = 6
number_of T34 = 7
number_of Hold = 8
number_of Gap = 9
number_of Fragment = 10
number_of Source = 11
number_of Antenna = 12
number_of Comp = 13
number_of TransitDl = 14
number_of TransitUl = 15
number_of TransitM = 16
number_of Pack = 17
