-- Endpoint lines: `endpoint ID ordinary SCS PRBS MODE METHOD`, `endpoint ID extended 60 PRBS MODE METHOD` and
-- `endpoint ID offset SCS PRBS MODE METHOD TIMEOFFSET CPLENGTH`
use Rattle.std.specs.Prelude.{ℕ, List, length, Bool, ◌&&◌, ◌||◌, ◌==◌, if◌then◌else◌, Option, Some, None, codes}
use Rattle.std.specs.Option.{is_some}
use Rattle.std.specs.List.{position}
use Rattle.std.specs.Str.{bytes_eq}
use Rattle.fh_base.specs.Numbering.{ordinary_of, offset_of, extended_of}
use Rattle.fh_base.specs.declared.carrier.TheConstants.{CARRIER_PRBS}
use Rattle.fh_base.specs.declared.numerology.Numerology.{Numerology}
use Rattle.fh_base.specs.Numbers.{word_at, number_in}
use Rattle.pictures.specs.Numbers.{taking, numeral, after, is_id}
use Rattle.pictures.specs.declared.endpoints.Endpoint.{Endpoint}

-- the code of a spacing in kHz that ordinary and offset endpoints may have
abbrev pub spacing_of : List ℕ → Option ℕ
spacing_of w =
    if bytes_eq w (codes "15") then Some 0
    else (if bytes_eq w (codes "30") then Some 1
    else (if bytes_eq w (codes "60") then Some 2
    else (if bytes_eq w (codes "120") then Some 3
    else (if bytes_eq w (codes "240") then Some 4
    else None))))

-- that of any spacing, as an offset endpoint may have it
abbrev pub offset_spacing_of : List ℕ → Option ℕ
offset_spacing_of w =
    if bytes_eq w (codes "1.25") then Some 12
    else (if bytes_eq w (codes "5") then Some 14
    else spacing_of w)

abbrev pub is_mode : List ℕ → Bool
is_mode w = bytes_eq w (codes "static") || bytes_eq w (codes "dynamic")

-- `none`, or `bfp` and one or two digits
abbrev pub is_method : List ℕ → Bool
is_method w = bytes_eq w (codes "none") || is_some (number_in 2 0 99 (after (codes "bfp") w))

abbrev pub ordinary_numerology : List (List ℕ) → Option Numerology
ordinary_numerology ws = if length ws == 7 then taking (spacing_of (word_at ws 3)) ordinary_of else None

abbrev pub offset_numerology : List (List ℕ) → Option Numerology
offset_numerology ws =
    if length ws == 9
    then taking (offset_spacing_of (word_at ws 3)) (λ code. taking (numeral 0 65535 (word_at ws 7)) (λ offset. taking (numeral 0 65535 (word_at ws 8)) (λ prefix. offset_of code offset prefix)))
    else None

abbrev pub extended_numerology : List (List ℕ) → Option Numerology
extended_numerology ws = if (length ws == 7) && bytes_eq (word_at ws 3) (codes "60") then Some extended_of else None

-- the numerology, by the kind of the endpoint
abbrev pub numerology_in : List (List ℕ) → Option Numerology
numerology_in ws =
    if bytes_eq (word_at ws 2) (codes "ordinary") then ordinary_numerology ws
    else (if bytes_eq (word_at ws 2) (codes "offset") then offset_numerology ws
    else (if bytes_eq (word_at ws 2) (codes "extended") then extended_numerology ws
    else None))

abbrev pub id_of : List ℕ → Option (List ℕ)
id_of w = if is_id w then Some w else None

-- the endpoint that a line says
abbrev pub endpoint_in : List (List ℕ) → Option Endpoint
endpoint_in ws =
    if is_mode (word_at ws 5) && is_method (word_at ws 6)
    then taking (id_of (word_at ws 1)) (λ id. taking (numerology_in ws) (λ n. taking (numeral 1 CARRIER_PRBS (word_at ws 4)) (λ prbs.
    Some (record { id = id; numerology = n; prbs = prbs }))))
    else None

-- the index of the first endpoint with an id
unfoldable pub with_id : List Endpoint → List ℕ → Option ℕ
with_id es id = position (λ e. bytes_eq e.id id) es
