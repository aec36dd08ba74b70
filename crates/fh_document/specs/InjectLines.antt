-- `inject WAY NS HEX`
use Rattle.std.specs.Prelude.{ℕ, List, [], ◌∷◌, ◌++◌, if◌then◌else◌, Option, Some, None, Result, Ok, codes}
use Rattle.std.specs.Str.{bytes_eq}
use Rattle.air_source.specs.declared.events.Side.{Side}
use Rattle.air_source.specs.declared.events.Side.TheVariants.{Ru, Du}
use Rattle.fh_document.specs.declared.document.Injection.{Injection}
use Rattle.fh_document.specs.declared.document.Reading.{Reading}
use Rattle.fh_document.specs.declared.refusals.DocWhy.{DocWhy}
use Rattle.fh_document.specs.declared.refusals.DocWhy.TheVariants as why
use Rattle.fh_document.specs.Refusals.{or_refuse, ◌>>=◌}
use Rattle.fh_document.specs.Hex.{frame_of}
use Rattle.fh_document.specs.ConfigLines.{counted, time_at}
use Rattle.fh_base.specs.declared.nanoseconds.TheConstants.{LAST_TIME}
use Rattle.fh_base.specs.Numbers.{word_at}

-- downlink frames arrive at the radio unit, uplink frames at the distributed unit
abbrev pub side_of : List ℕ → Option Side
side_of w =
    if bytes_eq w (codes "dl") then Some Ru
    else (if bytes_eq w (codes "ul") then Some Du
    else None)

-- one injection more
abbrev pub injected : Reading → Injection → Result Reading DocWhy
injected r i = Ok (record r { injections = r.injections ++ i ∷ [] })

abbrev pub inject_line : Reading → List (List ℕ) → Result Reading DocWhy
inject_line r ws = counted 4 ws (do
  side ← or_refuse (side_of (word_at ws 1)) why.Number
  at ← time_at 0 LAST_TIME ws 2
  frame ← or_refuse (frame_of (word_at ws 3)) why.Number
  injected r (record { side = side; at = at; frame = frame }))
