-- `endpoint ID ordinary SCS PRBS MODE METHOD`, `endpoint ID offset SCS PRBS MODE METHOD TIMEOFFSET CPLENGTH`, and from
-- version 2 on `endpoint ID extended 60 PRBS MODE METHOD`
use Rattle.std.specs.Prelude.{ℕ, List, [], ◌∷◌, ◌++◌, length, take, drop, Bool, true, false, ◌&&◌, ◌||◌, ◌==◌, if◌then◌else◌, Option, Some, None, Result, Ok, Err, codes, slice_index}
use Rattle.std.specs.Option.{option_map}
use Rattle.std.specs.List.{list_any}
use Rattle.std.specs.Str.{bytes_eq}
use Rattle.bfp_codec.specs.declared.methods.Method.{Method}
use Rattle.bfp_codec.specs.declared.methods.Method.TheVariants.{Plain, Bfp}
use Rattle.fh_base.specs.declared.numerology.Numerology.{Numerology}
use Rattle.fh_base.specs.Numbering.{ordinary_of, offset_of, extended_of}
use Rattle.window_config.specs.declared.endpoints.EndpointConfig.{EndpointConfig}
use Rattle.fh_document.specs.declared.document.Reading.{Reading}
use Rattle.fh_document.specs.declared.document.Version.{Version}
use Rattle.fh_document.specs.declared.refusals.DocWhy.{DocWhy}
use Rattle.fh_document.specs.declared.refusals.DocWhy.TheVariants as why
use Rattle.fh_document.specs.Refusals.{or_refuse, ◌>>=◌}
use Rattle.fh_document.specs.Words.{number_in}
use Rattle.fh_document.specs.Hex.{hex_of}
use Rattle.fh_document.specs.Keywords.{is_after_one}
use Rattle.fh_base.specs.Numbers.{word_at}
use Rattle.fh_base.specs.declared.carrier.TheConstants.{CARRIER_PRBS}

-- what follows on a value, and nothing where there is none
abbrev pub taking : {A B : Type 0} → Option A → (A → Option B) → Option B
taking None next = None
taking (Some x) next = next x

abbrev pub is_ordinary : List (List ℕ) → Bool
is_ordinary ws = bytes_eq (word_at ws 2) (codes "ordinary")

abbrev pub is_offset : List (List ℕ) → Bool
is_offset ws = bytes_eq (word_at ws 2) (codes "offset")

-- a kind that version 1 has not
abbrev pub is_extended : Version → List (List ℕ) → Bool
is_extended version ws = is_after_one version && bytes_eq (word_at ws 2) (codes "extended")

-- 9 words for an offset endpoint, 7 for the other kinds, and one of these where the third word is no kind
abbrev pub has_endpoint_count : Version → List (List ℕ) → Bool
has_endpoint_count version ws =
    if is_ordinary ws then length ws == 7
    else (if is_offset ws then length ws == 9
    else (if is_extended version ws then length ws == 7
    else ((length ws == 7) || (length ws == 9))))

-- the spacing code of a spacing in kHz that both kinds may have
abbrev pub spacing_of : List ℕ → Option ℕ
spacing_of w =
    if bytes_eq w (codes "15") then Some 0
    else (if bytes_eq w (codes "30") then Some 1
    else (if bytes_eq w (codes "60") then Some 2
    else (if bytes_eq w (codes "120") then Some 3
    else (if bytes_eq w (codes "240") then Some 4
    else None))))

-- that of any spacing, as an offset endpoint may have it
abbrev pub offset_spacing_of : List ℕ → Option ℕ
offset_spacing_of w =
    if bytes_eq w (codes "1.25") then Some 12
    else (if bytes_eq w (codes "5") then Some 14
    else spacing_of w)

-- whether the sections have compression headers of their own
abbrev pub dynamic_of : List ℕ → Option Bool
dynamic_of w =
    if bytes_eq w (codes "static") then Some false
    else (if bytes_eq w (codes "dynamic") then Some true
    else None)

-- a width from 1 to 16, without leading zeros
abbrev pub width_of : List ℕ → Option ℕ
width_of w = if slice_index w 0 == 48 then None else number_in 1 16 w

-- no compression, or block floating point with a width
abbrev pub method_of : List ℕ → Option Method
method_of w =
    if bytes_eq w (codes "none") then Some Plain
    else (if bytes_eq (take 3 w) (codes "bfp") then option_map (λ n. Bfp n) (width_of (drop 3 w))
    else None)

abbrev pub ordinary_numerology : List (List ℕ) → Option Numerology
ordinary_numerology ws = taking (spacing_of (word_at ws 3)) (λ code. ordinary_of code)

abbrev pub offset_numerology : List (List ℕ) → Option Numerology
offset_numerology ws =
    taking (offset_spacing_of (word_at ws 3)) (λ code.
    taking (number_in 0 65535 (word_at ws 7)) (λ time_offset.
    taking (number_in 0 65535 (word_at ws 8)) (λ cp_length.
    offset_of code time_offset cp_length)))

-- 60 kHz is the one spacing that has the extended cyclic prefix
abbrev pub extended_numerology : List (List ℕ) → Option Numerology
extended_numerology ws = if bytes_eq (word_at ws 3) (codes "60") then Some extended_of else None

abbrev pub numerology_of : Version → List (List ℕ) → Option Numerology
numerology_of version ws =
    if is_ordinary ws then ordinary_numerology ws
    else (if is_offset ws then offset_numerology ws
    else (if is_extended version ws then extended_numerology ws
    else None))

-- the endpoint that the words describe, where each has its form and range
abbrev pub endpoint_of : Version → List (List ℕ) → Option EndpointConfig
endpoint_of version ws =
    taking (hex_of 4 (word_at ws 1)) (λ id.
    taking (numerology_of version ws) (λ numerology.
    taking (number_in 1 CARRIER_PRBS (word_at ws 4)) (λ prbs.
    taking (dynamic_of (word_at ws 5)) (λ dynamic.
    taking (method_of (word_at ws 6)) (λ method.
    Some (record { id = id; numerology = numerology; prbs = prbs; format = record { dynamic = dynamic; method = method } }))))))

-- an endpoint has this id
abbrev pub has_id : ℕ → List EndpointConfig → Bool
has_id id = list_any (λ e. e.id == id)

-- one endpoint more, where its id is new and there are fewer than 16
abbrev pub added : Reading → EndpointConfig → Result Reading DocWhy
added r e =
    if has_id e.id r.endpoints then Err why.Twice
    else (if length r.endpoints == 16 then Err why.TooMany
    else Ok (record r { endpoints = r.endpoints ++ e ∷ [] }))

abbrev pub endpoint_line : Reading → List (List ℕ) → Result Reading DocWhy
endpoint_line r ws =
    if has_endpoint_count r.version ws then or_refuse (endpoint_of r.version ws) why.Number >>= (λ e. added r e)
    else Err why.Words
