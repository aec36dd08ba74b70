-- A line: what it makes of what the lines before it say, or its first reason.
use Rattle.std.specs.Prelude.{ℕ, List, [], length, replicate, Bool, true, false, ◌||◌, nat_lt, ◌==◌, if◌then◌else◌, Option, Some, None, Result, Ok, Err, codes, slice_index, slice_set}
use Rattle.std.specs.List.{slice_index_or}
use Rattle.std.specs.Str.{bytes_eq}
use Rattle.fh_document.specs.declared.document.Reading.{Reading}
use Rattle.fh_document.specs.declared.document.Settings.{Settings}
use Rattle.fh_document.specs.declared.document.Version.{Version}
use Rattle.fh_document.specs.declared.document.Version.TheVariants.{One, Two, Three}
use Rattle.fh_document.specs.declared.keywords.Setting.{Setting}
use Rattle.fh_document.specs.declared.keywords.Keyword.{Keyword}
use Rattle.fh_document.specs.declared.keywords.Keyword.TheVariants as keyword
use Rattle.fh_document.specs.declared.refusals.DocWhy.{DocWhy}
use Rattle.fh_document.specs.declared.refusals.DocWhy.TheVariants as why
use Rattle.fh_document.specs.Refusals.{or_refuse, ◌>>=◌}
use Rattle.fh_document.specs.Words.{is_text, words_of}
use Rattle.fh_document.specs.Keywords.{keyword_of, rank_of, number_of}
use Rattle.fh_document.specs.ConfigLines.{set_of, defaults}
use Rattle.fh_document.specs.EndpointLines.{endpoint_line}
use Rattle.fh_document.specs.PlanLines.{plan_line}
use Rattle.fh_document.specs.DeliverLines.{deliver_line}
use Rattle.fh_document.specs.InjectLines.{inject_line}
use Rattle.fh_document.specs.MeasureLines.{measure_line}
use Rattle.fh_base.specs.Numbers.{word_at}

-- before any line but the first
abbrev pub start : Reading
start = record {
  version = One;
  settings = defaults;
  seen = replicate 18 false;
  endpoints = [];
  plan = [];
  plan_lines = [];
  deliveries = [];
  injections = [];
  measures = [];
}

-- an earlier line has this configuration keyword
abbrev pub is_seen : Reading → Setting → Bool
is_seen r s = slice_index_or r.seen (number_of s) false

-- with these settings, and this keyword seen
abbrev pub configured : Reading → Setting → Settings → Reading
configured r s settings = record r { settings = settings; seen = slice_set r.seen (number_of s) true }

abbrev pub setting_line : Reading → Setting → List (List ℕ) → Result Reading DocWhy
setting_line r s ws =
    if is_seen r s then Err why.Twice
    else set_of r.version r.settings s ws >>= (λ settings. Ok (configured r s settings))

-- the latest kind of the lines that were read
abbrev pub reached : Reading → ℕ
reached r =
    if nat_lt 0 (length r.measures) then 5
    else (if nat_lt 0 (length r.injections) then 4
    else (if nat_lt 0 (length r.deliveries) then 3
    else (if nat_lt 0 (length r.plan) then 2
    else (if nat_lt 0 (length r.endpoints) then 1
    else 0))))

-- a line of a later kind was read already
abbrev pub comes_late : Reading → Keyword → Bool
comes_late r k = nat_lt (rank_of k) (reached r)

-- the line by its keyword
abbrev pub keyword_line : Reading → ℕ → Keyword → List (List ℕ) → Result Reading DocWhy
keyword_line r n (keyword.Configure s) ws = setting_line r s ws
keyword_line r n keyword.Endpoint ws = endpoint_line r ws
keyword_line r n keyword.Plan ws = plan_line r n ws
keyword_line r n keyword.Deliver ws = deliver_line r ws
keyword_line r n keyword.Inject ws = inject_line r ws
keyword_line r n keyword.Measure ws = measure_line r ws

abbrev pub ordered_line : Reading → ℕ → Keyword → List (List ℕ) → Result Reading DocWhy
ordered_line r n k ws =
    if comes_late r k then Err why.Order
    else keyword_line r n k ws

-- the line has no word, or its first begins with `#`
abbrev pub is_skipped : List (List ℕ) → Bool
is_skipped ws = (length ws == 0) || (slice_index (word_at ws 0) 0 == 35)

-- the version that a word names
abbrev pub version_at : List ℕ → Option Version
version_at w =
    if bytes_eq w (codes "1") then Some One
    else (if bytes_eq w (codes "2") then Some Two
    else (if bytes_eq w (codes "3") then Some Three
    else None))

-- the words are `fronthaul` and a version
abbrev pub version_of : List (List ℕ) → Option Version
version_of ws =
    if length ws == 2 then (if bytes_eq (word_at ws 0) (codes "fronthaul") then version_at (word_at ws 1) else None)
    else None

abbrev pub first_line : Reading → List (List ℕ) → Result Reading DocWhy
first_line r ws = or_refuse (version_of ws) why.FirstLine >>= (λ version. Ok (record r { version = version }))

abbrev pub later_line : Reading → ℕ → List (List ℕ) → Result Reading DocWhy
later_line r n ws =
    if is_skipped ws then Ok r
    else or_refuse (keyword_of r.version ws) why.UnknownWord >>= (λ k. ordered_line r n k ws)

abbrev pub words_line : Reading → ℕ → List (List ℕ) → Result Reading DocWhy
words_line r n ws = if n == 1 then first_line r ws else later_line r n ws

-- the line with the number n, where the lines before it say r
unfoldable pub line_of : Reading → ℕ → List ℕ → Result Reading DocWhy
line_of r n line = if is_text line then words_line r n (words_of line) else Err why.NotText
