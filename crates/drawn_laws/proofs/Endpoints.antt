-- Endpoint lines, read again.
use Rattle.std.proofs.Common.{◌≡◌, ℕ, zero, suc, ◌+◌, ◌^◌, ◌<◌, ◌≤◌, List, [], ◌∷◌, ◌++◌, length, map, get_or, Bool, true, false, ◌&&◌, not, ◌==◌, nat_lt, refl, sym, ap, ap₂, ◌∙◌, subst, arith, codes, decimal, length-append}
use Rattle.std.specs.Prelude.{Option, Some, None, if◌then◌else◌, slice_get}
use Rattle.std.specs.Option.{is_some, option_map}
use Rattle.std.specs.List.{All, position_or_len}
use Rattle.std.specs.Str.{bytes_eq}
use Rattle.std.proofs.lemmas.Bool.Decides.{nat_tests}
use Rattle.std.proofs.lemmas.List.{get_or_append_left, length-map, map-append}
use Rattle.std.proofs.lemmas.List.Elements.{All-head, All-tail}
use Rattle.std.proofs.lemmas.List.Quantifiers.{position-Some}
use Rattle.bfp_codec.specs.Layout.{HasWidth}
use Rattle.bfp_codec.specs.declared.methods.Method.{Method}
use Rattle.bfp_codec.specs.declared.methods.Method.TheVariants.{Plain, Bfp}
use Rattle.eaxc_map.specs.Endpoints.{AppearOnce, index_of}
use Rattle.fh_base.specs.Kinds.{cp_length_of, kind_code, kind_offsets, kind_slots, kind_symbols, time_offset_of}
use Rattle.fh_base.specs.Numbering.{extended_of, offset_at, offset_of, ordinary_at, slots_of, symbols_of}
use Rattle.fh_base.specs.Spacing.{code_of_spacing, is_normal_code}
use Rattle.fh_base.specs.declared.kind.Kind.{Kind}
use Rattle.fh_base.specs.declared.kind.Kind.TheVariants.{Ordinary, Offset, Extended}
use Rattle.fh_base.specs.declared.numerology.Numerology.{Numerology}
use Rattle.fh_base.specs.declared.spacing.Spacing.{Spacing}
use Rattle.fh_base.specs.declared.spacing.Spacing.TheVariants.{Khz15, Khz30, Khz60, Khz120, Khz240, Khz1x25, Khz5}
use Rattle.fh_base.specs.Words.{hex4_text}
use Rattle.window_config.specs.Endpoints.{ids_of}
use Rattle.window_config.specs.declared.endpoints.EndpointConfig.{EndpointConfig}
use Rattle.explain_model.specs.Lines.{endpoint_text, kind_by, line_text, method_text, mode_text, offsets_text, spacing_text}
use Rattle.explain_model.specs.declared.values.ExplainLine.TheVariants as line
use Rattle.pictures.specs.Numbers.{numeral, taking}
use Rattle.pictures.specs.Endpoints.{endpoint_in, id_of, is_method, is_mode, numerology_in, with_id}
use Rattle.pictures.specs.declared.endpoints.Endpoint.{Endpoint}
use Rattle.drawn_laws.specs.Drawable.{IsDrawnEndpoint}
use Rattle.drawn_laws.proofs.Choices.{and_true, chosen, taken}
use Rattle.drawn_laws.proofs.Lines.{IsWritten, written}
use Rattle.drawn_laws.proofs.Numbers.{hex4_id, hex4_word, ids_compare, name_word, numeral_again, two_again}
use Rattle.drawn_laws.proofs.Words.{AreWords, IsWord, ◌⊕◌, no_words, one_word}
use Rattle.drawn_laws.proofs.Written.{also, lit, literal, number}

-- ---- the words of an endpoint

abbrev kind_name : Kind → List ℕ
kind_name k = kind_by (kind_symbols k) (kind_offsets k)

kind_word : (k : Kind) → IsWord (kind_name k)
kind_word (Ordinary spacing) = literal (codes "ordinary") refl
kind_word (Offset spacing time_offset cp_length) = literal (codes "offset") refl
kind_word Extended = literal (codes "extended") refl

spacing_word : (s : Spacing) → IsWord (spacing_text (code_of_spacing s))
spacing_word Khz15 = literal _ refl
spacing_word Khz30 = literal _ refl
spacing_word Khz60 = literal _ refl
spacing_word Khz120 = literal _ refl
spacing_word Khz240 = literal _ refl
spacing_word Khz1x25 = literal _ refl
spacing_word Khz5 = literal _ refl

code_word : (k : Kind) → IsWord (spacing_text (kind_code k))
code_word (Ordinary spacing) = spacing_word spacing
code_word (Offset spacing time_offset cp_length) = spacing_word spacing
code_word Extended = literal _ refl

abbrev mode_name : Bool → List ℕ
mode_name false = codes "static"
mode_name true = codes "dynamic"

mode_words : (dynamic : Bool) → AreWords (mode_text dynamic) (mode_name dynamic ∷ [])
mode_words false = lit (codes "static") refl
mode_words true = lit (codes "dynamic") refl

abbrev method_name : Method → List ℕ
method_name Plain = codes "none"
method_name (Bfp width) = codes "bfp" ++ decimal width

method_words : (m : Method) → AreWords (method_text m) (method_name m ∷ [])
method_words Plain = lit (codes "none") refl
method_words (Bfp width) = one_word (codes "bfp" ++ decimal width) (name_word (codes "bfp") width refl)

abbrev offset_list : Kind → List (List ℕ)
offset_list (Ordinary spacing) = []
offset_list (Offset spacing time_offset cp_length) = decimal time_offset ∷ decimal cp_length ∷ []
offset_list Extended = []

offset_words : (k : Kind) → AreWords (offsets_text (kind_offsets k)) (offset_list k)
offset_words (Ordinary spacing) = no_words
offset_words (Offset spacing time_offset cp_length) = number time_offset ⊕ number cp_length
offset_words Extended = no_words

abbrev pub endpoint_list : EndpointConfig → List (List ℕ)
endpoint_list e =
    codes "endpoint" ∷ hex4_text e.id ∷ kind_name e.numerology.kind ∷ spacing_text (kind_code e.numerology.kind) ∷ decimal e.prbs
    ∷ mode_name e.format.dynamic ∷ method_name e.format.method ∷ offset_list e.numerology.kind

pub endpoint_written : (e : EndpointConfig) → IsWritten (line.Endpoint e) (endpoint_list e)
unfolding line_text endpoint_text
endpoint_written e =
    written (also (also (also (lit (codes "endpoint") refl) (hex4_text e.id) (hex4_word e.id)) (kind_name e.numerology.kind) (kind_word e.numerology.kind))
    (spacing_text (kind_code e.numerology.kind)) (code_word e.numerology.kind)
    ⊕ number e.prbs ⊕ mode_words e.format.dynamic ⊕ method_words e.format.method ⊕ offset_words e.numerology.kind)
    (line.Endpoint e) refl

-- ---- the endpoint that is read

abbrev pub read_numerology : Kind → Numerology
read_numerology (Ordinary spacing) = ordinary_at spacing
read_numerology (Offset spacing time_offset cp_length) = offset_at time_offset cp_length spacing
read_numerology Extended = extended_of

abbrev pub read_endpoint : EndpointConfig → Endpoint
read_endpoint e = record { id = hex4_text e.id; numerology = read_numerology e.numerology.kind; prbs = e.prbs }

pub slots_same : (k : Kind) → slots_of (read_numerology k) ≡ kind_slots k
slots_same (Ordinary spacing) = refl
slots_same (Offset spacing time_offset cp_length) = refl
slots_same Extended = refl

pub symbols_same : (k : Kind) → symbols_of (read_numerology k) ≡ kind_symbols k
symbols_same (Ordinary spacing) = refl
symbols_same (Offset spacing time_offset cp_length) = refl
symbols_same Extended = refl

spacing_slots : (s : Spacing) → kind_slots (Ordinary s) ≤ 16
spacing_slots Khz15 = omega arith
spacing_slots Khz30 = omega arith
spacing_slots Khz60 = omega arith
spacing_slots Khz120 = omega arith
spacing_slots Khz240 = omega arith
spacing_slots Khz1x25 = omega arith
spacing_slots Khz5 = omega arith

pub few_slots : (k : Kind) → kind_slots k ≤ 16
few_slots (Ordinary spacing) = spacing_slots spacing
few_slots (Offset spacing time_offset cp_length) = spacing_slots spacing
few_slots Extended = omega arith

pub few_symbols : (k : Kind) → kind_symbols k ≤ 14
few_symbols (Ordinary spacing) = omega arith
few_symbols (Offset spacing time_offset cp_length) = omega arith
few_symbols Extended = omega arith

-- ---- reading

offset_read : (code time_offset cp_length : ℕ) → time_offset < 2 ^ 16 → cp_length < 2 ^ 16
    → taking (numeral 0 65535 (decimal time_offset)) (λ offset. taking (numeral 0 65535 (decimal cp_length)) (λ prefix. offset_of code offset prefix)) ≡ offset_of code time_offset cp_length
offset_read code time_offset cp_length low high =
    taken (numeral 0 65535 (decimal time_offset)) time_offset _ _ (numeral_again 0 65535 time_offset (omega arith) (omega arith) (omega arith))
    (taken (numeral 0 65535 (decimal cp_length)) cp_length _ _ (numeral_again 0 65535 cp_length (omega arith) (omega arith) (omega arith)) refl)

ordinary_again : (s : Spacing) (a b c d : List ℕ) → is_normal_code (code_of_spacing s) ≡ true
    → numerology_in (codes "endpoint" ∷ a ∷ codes "ordinary" ∷ spacing_text (code_of_spacing s) ∷ b ∷ c ∷ d ∷ []) ≡ Some (ordinary_at s)
ordinary_again Khz15 a b c d e = refl
ordinary_again Khz30 a b c d e = refl
ordinary_again Khz60 a b c d e = refl
ordinary_again Khz120 a b c d e = refl
ordinary_again Khz240 a b c d e = refl
ordinary_again Khz1x25 a b c d e = cc
ordinary_again Khz5 a b c d e = cc

offset_again : (s : Spacing) (a b c d : List ℕ) (x y : ℕ) → x < 2 ^ 16 → y < 2 ^ 16
    → numerology_in (codes "endpoint" ∷ a ∷ codes "offset" ∷ spacing_text (code_of_spacing s) ∷ b ∷ c ∷ d ∷ decimal x ∷ decimal y ∷ []) ≡ Some (offset_at x y s)
offset_again Khz15 a b c d x y low high = offset_read 0 x y low high
offset_again Khz30 a b c d x y low high = offset_read 1 x y low high
offset_again Khz60 a b c d x y low high = offset_read 2 x y low high
offset_again Khz120 a b c d x y low high = offset_read 3 x y low high
offset_again Khz240 a b c d x y low high = offset_read 4 x y low high
offset_again Khz1x25 a b c d x y low high = offset_read 12 x y low high
offset_again Khz5 a b c d x y low high = offset_read 14 x y low high

numerology_again : (k : Kind) (a b c d : List ℕ) → (kind_offsets k ≡ None → is_normal_code (kind_code k) ≡ true) → time_offset_of k < 2 ^ 16 → cp_length_of k < 2 ^ 16
    → numerology_in (codes "endpoint" ∷ a ∷ kind_name k ∷ spacing_text (kind_code k) ∷ b ∷ c ∷ d ∷ offset_list k) ≡ Some (read_numerology k)
numerology_again (Ordinary spacing) a b c d normal low high = ordinary_again spacing a b c d (normal refl)
numerology_again (Offset spacing time_offset cp_length) a b c d normal low high = offset_again spacing a b c d time_offset cp_length low high
numerology_again Extended a b c d normal low high = refl

mode_again : (dynamic : Bool) → is_mode (mode_name dynamic) ≡ true
mode_again false = refl
mode_again true = refl

method_again : (m : Method) → HasWidth m → is_method (method_name m) ≡ true
method_again Plain fits = refl
method_again (Bfp width) fits =
    let high : width ≤ 16 = fits.1 in
    ap is_some (two_again width (omega arith))

pub endpoint_again : (e : EndpointConfig) → IsDrawnEndpoint e → endpoint_in (endpoint_list e) ≡ Some (read_endpoint e)
endpoint_again e is =
    let most : e.prbs ≤ 273 = is.most in
    chosen (is_mode (mode_name e.format.dynamic) && is_method (method_name e.format.method)) _ _ _ (and_true (mode_again e.format.dynamic) (method_again e.format.method is.width))
    (taken (id_of (hex4_text e.id)) (hex4_text e.id) _ _ (chosen _ _ _ _ (hex4_id e.id) refl)
    (taken (numerology_in (endpoint_list e)) (read_numerology e.numerology.kind) _ _
    (numerology_again e.numerology.kind (hex4_text e.id) (decimal e.prbs) (mode_name e.format.dynamic) (method_name e.format.method) is.spacing e.numerology.short_offset e.numerology.short_prefix)
    (taken (numeral 1 273 (decimal e.prbs)) e.prbs _ _ (numeral_again 1 273 e.prbs (omega arith) is.some is.most) refl)))

-- ---- ids

ids_low : (es : List EndpointConfig) → All IsDrawnEndpoint es → (k : ℕ) → k < length es → get_or (ids_of es) k 0 < 2 ^ 16
ids_low [] each k lt = absurd (omega arith)
ids_low (e ∷ es) each zero lt = let first : IsDrawnEndpoint e = All-head IsDrawnEndpoint e es each in first.id
ids_low (e ∷ es) each (suc k) lt = ids_low es (All-tail IsDrawnEndpoint e es each) k (omega arith)

place_again : (es : List EndpointConfig) (id : ℕ) → All IsDrawnEndpoint es → id < 2 ^ 16
    → position_or_len (λ (g : Endpoint). bytes_eq g.id (hex4_text id)) (map read_endpoint es) ≡ position_or_len (λ x. x == id) (ids_of es)
place_again [] id each low = refl
place_again (e ∷ es) id each low =
    let first : IsDrawnEndpoint e = All-head IsDrawnEndpoint e es each in
    ap₂ (λ (t : Bool) (n : ℕ). if not t then 1 + n else 0) (ids_compare e.id id first.id low) (place_again es id (All-tail IsDrawnEndpoint e es each) low)

pub id_again : (es : List EndpointConfig) (id : ℕ) → All IsDrawnEndpoint es → id < 2 ^ 16 → with_id (map read_endpoint es) (hex4_text id) ≡ index_of (ids_of es) id
unfolding with_id
id_again es id each low =
    let same : length (map read_endpoint es) ≡ length (ids_of es) = length-map es read_endpoint ∙ sym (length-map es (λ (e : EndpointConfig). e.id)) in
    ap₂ (λ (n m : ℕ). if nat_lt n m then Some n else None) (place_again es id each low) same

-- an id that is there has 16 bits
pub id_low : (es : List EndpointConfig) (id k : ℕ) → All IsDrawnEndpoint es → index_of (ids_of es) id ≡ Some k → id < 2 ^ 16
id_low es id k each is =
    let found = position-Some (λ x. x == id) (ids_of es) k 0 is in
    let within : k < length (ids_of es) = found.0 in
    let lt : k < length es = omega (arith, within, length-map es (λ (e : EndpointConfig). e.id)) in
    let low : get_or (ids_of es) k 0 < 2 ^ 16 = ids_low es each k lt in
    let test : (get_or (ids_of es) k 0 == id) ≡ true = found.1 in
    let same : get_or (ids_of es) k 0 ≡ id = grind (arith, nat_tests) in
    subst (λ (n : ℕ). n < 2 ^ 16) same low

pub got_again : (es : List EndpointConfig) (k : ℕ) (e : EndpointConfig) → slice_get es k ≡ Some e → slice_get (map read_endpoint es) k ≡ Some (read_endpoint e)
got_again [] k e is = cc
got_again (x ∷ es) zero e is = ap (option_map read_endpoint) is
got_again (x ∷ es) (suc k) e is = got_again es k e is

-- an id is at one place
at_end : (xs ys : List ℕ) (x : ℕ) → get_or (xs ++ x ∷ ys) (length xs) 0 ≡ x
at_end [] ys x = refl
at_end (y ∷ xs) ys x = at_end xs ys x

apart : (xs ys : List ℕ) (x : ℕ) → AppearOnce (xs ++ x ∷ ys) → (k : ℕ) → k < length xs → get_or xs k 0 ≡ x → ⊥
apart xs ys x once k lt is =
    let total : length (xs ++ x ∷ ys) ≡ length xs + (length ys + 1) = omega (arith, length-append xs (x ∷ ys)) in
    let same : k ≡ length xs = once k (length xs) (omega (arith, total, lt)) (omega (arith, total)) (get_or_append_left xs (x ∷ ys) 0 k lt ∙ is ∙ sym (at_end xs ys x)) in
    omega (arith, same, lt)

pub no_id : (before after : List EndpointConfig) (e : EndpointConfig) → All IsDrawnEndpoint before → e.id < 2 ^ 16 → AppearOnce (ids_of (before ++ e ∷ after))
    → is_some (with_id (map read_endpoint before) (hex4_text e.id)) ≡ false
no_id before after e each low once = ap is_some (id_again before e.id each low) ∙ go (index_of (ids_of before) e.id) refl
  where
    go : (o : Option ℕ) → index_of (ids_of before) e.id ≡ o → is_some o ≡ false
    go None is = refl
    go (Some k) is =
        let found = position-Some (λ x. x == e.id) (ids_of before) k 0 is in
        let test : (get_or (ids_of before) k 0 == e.id) ≡ true = found.1 in
        let same : get_or (ids_of before) k 0 ≡ e.id = grind (arith, nat_tests) in
        absurd (apart (ids_of before) (ids_of after) e.id (subst AppearOnce (map-append (λ (x : EndpointConfig). x.id) before (e ∷ after)) once) k found.0 same)
