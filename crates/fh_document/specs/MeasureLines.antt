-- `measure SIDE ID KIND NS`
use Rattle.std.specs.Prelude.{ℕ, pos, List, [], ◌∷◌, ◌++◌, Bool, ◌==◌, if◌then◌else◌, Option, Some, None, Result, Ok, Err, codes}
use Rattle.std.specs.List.{list_any}
use Rattle.std.specs.Str.{bytes_eq}
use Rattle.air_source.specs.declared.events.Side.{Side}
use Rattle.air_source.specs.declared.events.Side.TheVariants.{Ru, Du}
use Rattle.delay_measure.specs.declared.steps.Kind.{Kind}
use Rattle.delay_measure.specs.declared.steps.Kind.TheVariants as way
use Rattle.fh_document.specs.declared.document.Measure.{Measure}
use Rattle.fh_document.specs.declared.document.Reading.{Reading}
use Rattle.fh_document.specs.declared.refusals.DocWhy.{DocWhy}
use Rattle.fh_document.specs.declared.refusals.DocWhy.TheVariants as why
use Rattle.fh_document.specs.Refusals.{or_refuse, ◌>>=◌}
use Rattle.fh_document.specs.Words.{number_in}
use Rattle.fh_document.specs.ConfigLines.{counted}
use Rattle.fh_document.specs.EndpointLines.{taking}
use Rattle.fh_base.specs.declared.nanoseconds.TheConstants.{LAST_TIME}
use Rattle.fh_base.specs.Numbers.{word_at}

-- the unit that begins the measurement
abbrev pub unit_of : List ℕ → Option Side
unit_of w =
    if bytes_eq w (codes "du") then Some Du
    else (if bytes_eq w (codes "ru") then Some Ru
    else None)

-- the way to begin it
abbrev pub kind_of : List ℕ → Option Kind
kind_of w =
    if bytes_eq w (codes "one") then Some way.One
    else (if bytes_eq w (codes "two") then Some way.Two
    else (if bytes_eq w (codes "remote-one") then Some way.RemoteOne
    else (if bytes_eq w (codes "remote-two") then Some way.RemoteTwo
    else None)))

-- the measurement that the words describe, where each has its form and range
abbrev pub measure_of : List (List ℕ) → Option Measure
measure_of ws =
    taking (unit_of (word_at ws 1)) (λ side.
    taking (number_in 0 255 (word_at ws 2)) (λ id.
    taking (kind_of (word_at ws 3)) (λ kind.
    taking (number_in 1000000 LAST_TIME (word_at ws 4)) (λ at.
    Some (record { side = side; id = id; kind = kind; at = pos at })))))

-- a measurement has this id, at whichever unit it begins
abbrev pub has_measure : ℕ → List Measure → Bool
has_measure id = list_any (λ m. m.id == id)

-- one measurement more, where its id is new
abbrev pub measured : Reading → Measure → Result Reading DocWhy
measured r m =
    if has_measure m.id r.measures then Err why.Twice
    else Ok (record r { measures = r.measures ++ m ∷ [] })

abbrev pub measure_line : Reading → List (List ℕ) → Result Reading DocWhy
measure_line r ws = counted 5 ws (or_refuse (measure_of ws) why.Number >>= (λ m. measured r m))
