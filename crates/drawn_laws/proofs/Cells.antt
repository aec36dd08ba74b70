-- Lines of cells and of reasons, read again.
use Rattle.std.proofs.Common.{◌≡◌, ℕ, zero, suc, ◌+◌, ◌-◌, ◌^◌, ◌<◌, ◌≤◌, List, [], ◌∷◌, ◌++◌, length, Bool, true, false, ◌&&◌, nat_le, ℤ, refl, ap, ◌∙◌, subst, arith, codes, decimal, length-append, map}
use Rattle.std.specs.Prelude.{Option, Some, None, if◌then◌else◌, slice_get}
use Rattle.std.specs.Fmt.{signed_decimal}
use Rattle.std.specs.List.{All, list_all, slice_index_or}
use Rattle.std.specs.Option.{is_some}
use Rattle.std.specs.Str.{bytes_eq}
use Rattle.std.proofs.lemmas.Bool.Decides.{nat_tests}
use Rattle.std.proofs.lemmas.List.Elements.{All-cons, All-head, All-nil, All-tail}
use Rattle.std.proofs.lemmas.List.Folds.{list_all-append}
use Rattle.air_source.specs.Units.{way_text}
use Rattle.air_source.specs.declared.events.Side.{Side}
use Rattle.air_source.specs.declared.events.Side.TheVariants.{Ru, Du}
use Rattle.fh_base.specs.Kinds.{kind_slots, kind_symbols}
use Rattle.fh_base.specs.Numbering.{slots_of, symbols_of}
use Rattle.fh_base.specs.Numbers.{word_at}
use Rattle.fh_base.specs.Words.{hex3_text, hex4_text}
use Rattle.window_config.specs.declared.endpoints.EndpointConfig.{EndpointConfig}
use Rattle.explain_model.specs.Reasons.{word_of, word_text}
use Rattle.explain_model.specs.declared.places.PrbRun.{PrbRun}
use Rattle.explain_model.specs.declared.reasons.Reason.{Reason}
use Rattle.explain_model.specs.declared.reasons.Reason.TheVariants as reason
use Rattle.explain_model.specs.declared.reasons.ReasonWord.{ReasonWord}
use Rattle.explain_model.specs.declared.reasons.ReasonWord.TheVariants as word
use Rattle.explain_model.specs.declared.values.CellWord.{CellWord}
use Rattle.explain_model.specs.declared.values.CellWord.TheVariants as cell
use Rattle.pictures.specs.Numbers.{digit, integer, is_free, is_mask, is_name, is_name_byte, keyed, most, numeral}
use Rattle.pictures.specs.Cells.{cell_at, cell_of, endpoint_at, first_look, has_names, is_cell_word, is_up_in, look_of_cell, look_of_why, prbs_in, start_at, symbol_in, why_missing, why_silent}
use Rattle.pictures.specs.Classes.{missing_class, silent_class}
use Rattle.pictures.specs.Endpoints.{with_id}
use Rattle.pictures.specs.declared.cells.Cell.{Cell}
use Rattle.pictures.specs.declared.cells.Look.{Look}
use Rattle.pictures.specs.declared.cells.Look.TheVariants.{Shown, Missing, Why}
use Rattle.pictures.specs.declared.classes.Class.{Class}
use Rattle.pictures.specs.declared.classes.Class.TheVariants as looks
use Rattle.pictures.specs.declared.endpoints.Endpoint.{Endpoint}
use Rattle.drawn_laws.specs.Drawable.{IsDrawnEndpoint, IsDrawnReason, IsDrawnRun, IsDrawnWord, is_silent_word}
use Rattle.drawn_laws.proofs.Choices.{and_true, chosen, taken}
use Rattle.drawn_laws.proofs.Endpoints.{few_slots, few_symbols, got_again, id_again, id_low, read_endpoint, slots_same, symbols_same}
use Rattle.drawn_laws.proofs.Lines.{shown_list}
use Rattle.drawn_laws.proofs.Numbers.{decimal_few, decimal_name, digit_again, integer_again, mask_again, numeral_again, short_again}
use Rattle.drawn_laws.proofs.Written.{rest_list, run_list}
use Rattle.fh_base.proofs.Orders.{nat_le_true}

-- ---- where cells are

-- what the words from an index on say
record AreCellWords (gs : List Endpoint) (ws : List (List ℕ)) (at : ℕ) : Type 0 where
  up : Bool
  start : ℤ
  ep : ℕ
  endpoint : Endpoint
  slot : ℕ
  symbol : ℕ
  prb : ℕ
  num : ℕ
  names : has_names ws at ≡ true
  way : is_up_in ws at ≡ Some up
  begins : integer (word_at ws (at + 1)) ≡ Some start
  id : with_id gs (word_at ws (at + 2)) ≡ Some ep
  got : slice_get gs ep ≡ Some endpoint
  its_slot : numeral 0 (slots_of endpoint.numerology - 1) (word_at ws (at + 5)) ≡ Some slot
  its_symbol : numeral 0 (symbols_of endpoint.numerology - 1) (word_at ws (at + 6)) ≡ Some symbol
  its_num : keyed (codes "num=") 1 endpoint.prbs (word_at ws (at + 8)) ≡ Some num
  its_prb : keyed (codes "prb=") 0 (endpoint.prbs - num) (word_at ws (at + 7)) ≡ Some prb

cell_read : (gs : List Endpoint) (ws : List (List ℕ)) (at : ℕ) (look : Look) → AreCellWords gs ws at → (c : Cell) × (cell_at gs ws at look ≡ Some c)
cell_read gs ws at look p = (
  record { up = p.up; at = p.start; ep = p.ep; endpoint = p.endpoint; slot = p.slot; symbol = p.symbol; prb = p.prb; num = p.num; look = look },
  taken (start_at ws at) (p.up, p.start) _ _
      (chosen (has_names ws at) _ _ _ p.names (taken (is_up_in ws at) p.up _ _ p.way (taken (integer (word_at ws (at + 1))) p.start _ _ p.begins refl)))
      (taken (endpoint_at gs ws at) (p.ep, p.endpoint) _ _
      (taken (with_id gs (word_at ws (at + 2))) p.ep _ _ p.id (taken (slice_get gs p.ep) p.endpoint _ _ p.got refl))
      (taken (symbol_in p.endpoint ws at) (p.slot, p.symbol) _ _
      (taken (numeral 0 (slots_of p.endpoint.numerology - 1) (word_at ws (at + 5))) p.slot _ _ p.its_slot
      (taken (numeral 0 (symbols_of p.endpoint.numerology - 1) (word_at ws (at + 6))) p.symbol _ _ p.its_symbol refl))
      (taken (prbs_in p.endpoint ws at) (p.prb, p.num) _ _
      (taken (keyed (codes "num=") 1 p.endpoint.prbs (word_at ws (at + 8))) p.num _ _ p.its_num
      (taken (keyed (codes "prb=") 0 (p.endpoint.prbs - p.num) (word_at ws (at + 7))) p.prb _ _ p.its_prb refl))
      refl))),
)

abbrev is_up : Side → Bool
is_up Ru = false
is_up Du = true

up_again : (side : Side) → (if bytes_eq (way_text side) (codes "dl") then Some false else (if bytes_eq (way_text side) (codes "ul") then Some true else None)) ≡ Some (is_up side)
up_again Ru = refl
up_again Du = refl

-- ---- a run's words

names_again : (es : List EndpointConfig) (r : PrbRun) (mask : ℕ) → IsDrawnRun es r
    → (is_some (integer (signed_decimal r.place.slot.frame)) && is_some (digit (decimal r.place.slot.subframe))
    && is_some (keyed (codes "section=") 0 most (codes "section=" ++ decimal r.section)) && is_mask (codes "mask=" ++ hex3_text mask)) ≡ true
names_again es r mask is =
    and_true (and_true (and_true (ap is_some (integer_again r.place.slot.frame is.frame)) (ap is_some (digit_again r.place.slot.subframe is.subframe)))
    (ap is_some (short_again r.section is.section))) (mask_again mask)

slot_again : (es : List EndpointConfig) (r : PrbRun) (is : IsDrawnRun es r)
    → numeral 0 (slots_of (read_endpoint is.endpoint).numerology - 1) (decimal r.place.slot.slot) ≡ Some r.place.slot.slot
slot_again es r is =
    let k = is.endpoint.numerology.kind in
    let same : slots_of (read_endpoint is.endpoint).numerology ≡ kind_slots k = slots_same k in
    let few : kind_slots k ≤ 16 = few_slots k in
    let below : r.place.slot.slot < kind_slots k = is.slot in
    numeral_again 0 _ r.place.slot.slot (omega (arith, few, below)) (omega arith) (omega (arith, same, below))

symbol_again : (es : List EndpointConfig) (r : PrbRun) (is : IsDrawnRun es r)
    → numeral 0 (symbols_of (read_endpoint is.endpoint).numerology - 1) (decimal r.place.symbol) ≡ Some r.place.symbol
symbol_again es r is =
    let k = is.endpoint.numerology.kind in
    let same : symbols_of (read_endpoint is.endpoint).numerology ≡ kind_symbols k = symbols_same k in
    let few : kind_symbols k ≤ 14 = few_symbols k in
    let below : r.place.symbol < kind_symbols k = is.symbol in
    numeral_again 0 _ r.place.symbol (omega (arith, few, below)) (omega arith) (omega (arith, same, below))

found_low : (es : List EndpointConfig) → All IsDrawnEndpoint es → (k : ℕ) (e : EndpointConfig) → slice_get es k ≡ Some e → e.prbs ≤ 273
found_low [] each k e is = absurd (cc is)
found_low (x ∷ es) each zero e is =
    let first : IsDrawnEndpoint x = All-head IsDrawnEndpoint x es each in
    let same : x ≡ e = cc is in
    subst (λ (y : EndpointConfig). y.prbs ≤ 273) same first.most
found_low (x ∷ es) each (suc k) e is = found_low es (All-tail IsDrawnEndpoint x es each) k e is

num_again : (es : List EndpointConfig) → All IsDrawnEndpoint es → (r : PrbRun) (is : IsDrawnRun es r) → numeral 1 is.endpoint.prbs (decimal r.num) ≡ Some r.num
num_again es each r is =
    let most : is.endpoint.prbs ≤ 273 = found_low es each is.ep is.endpoint is.is in
    let within : r.prb + r.num ≤ is.endpoint.prbs = is.within in
    numeral_again 1 is.endpoint.prbs r.num (omega (arith, most, within)) is.some (omega (arith, within))

prb_again : (es : List EndpointConfig) → All IsDrawnEndpoint es → (r : PrbRun) (is : IsDrawnRun es r) → numeral 0 (is.endpoint.prbs - r.num) (decimal r.prb) ≡ Some r.prb
prb_again es each r is =
    let most : is.endpoint.prbs ≤ 273 = found_low es each is.ep is.endpoint is.is in
    let within : r.prb + r.num ≤ is.endpoint.prbs = is.within in
    numeral_again 0 (is.endpoint.prbs - r.num) r.prb (omega (arith, most, within)) (omega arith) (omega (arith, within))

run_id : (es : List EndpointConfig) → All IsDrawnEndpoint es → (r : PrbRun) (is : IsDrawnRun es r) → with_id (map read_endpoint es) (hex4_text r.place.id) ≡ Some is.ep
run_id es each r is = id_again es r.place.id each (id_low es r.place.id is.ep each is.named) ∙ is.named

run_first : (es : List EndpointConfig) → All IsDrawnEndpoint es → (r : PrbRun) (mask : ℕ) → IsDrawnRun es r → (tail : List (List ℕ))
    → AreCellWords (map read_endpoint es) (way_text r.side ∷ (run_list r mask ++ tail)) 0
run_first es each r mask is tail = record {
  up = is_up r.side;
  start = r.at.0;
  ep = is.ep;
  endpoint = read_endpoint is.endpoint;
  slot = r.place.slot.slot;
  symbol = r.place.symbol;
  prb = r.prb;
  num = r.num;
  names = names_again es r mask is;
  way = up_again r.side;
  begins = integer_again r.at.0 is.at;
  id = run_id es each r is;
  got = got_again es is.ep is.endpoint is.is;
  its_slot = slot_again es r is;
  its_symbol = symbol_again es r is;
  its_num = num_again es each r is;
  its_prb = prb_again es each r is;
}

run_second : (es : List EndpointConfig) → All IsDrawnEndpoint es → (r : PrbRun) (mask : ℕ) → IsDrawnRun es r → (tail : List (List ℕ))
    → AreCellWords (map read_endpoint es) (codes "why" ∷ way_text r.side ∷ (run_list r mask ++ tail)) 1
run_second es each r mask is tail = record {
  up = is_up r.side;
  start = r.at.0;
  ep = is.ep;
  endpoint = read_endpoint is.endpoint;
  slot = r.place.slot.slot;
  symbol = r.place.symbol;
  prb = r.prb;
  num = r.num;
  names = names_again es r mask is;
  way = up_again r.side;
  begins = integer_again r.at.0 is.at;
  id = run_id es each r is;
  got = got_again es is.ep is.endpoint is.is;
  its_slot = slot_again es r is;
  its_symbol = symbol_again es r is;
  its_num = num_again es each r is;
  its_prb = prb_again es each r is;
}

-- ---- cells

look_again : (r : PrbRun) (mask : ℕ) (said : CellWord) → IsDrawnWord said → (look : Look) × (look_of_cell (way_text r.side ∷ (run_list r mask ++ shown_list said)) ≡ Some look)
look_again r mask (cell.Shown from) short = (Shown, taken (numeral 0 most (decimal from)) from _ _ (short_again from short) refl)
look_again r mask cell.Missing short = (Missing, refl)

first_cell : (side : Side) (rest : List (List ℕ)) → is_cell_word (way_text side ∷ rest) ≡ true
first_cell Ru rest = refl
first_cell Du rest = refl

pub cells_again : (es : List EndpointConfig) → All IsDrawnEndpoint es → (r : PrbRun) (mask : ℕ) (said : CellWord) → IsDrawnRun es r → IsDrawnWord said
    → (c : Cell) × (cell_of (map read_endpoint es) (way_text r.side ∷ (run_list r mask ++ shown_list said)) ≡ Some c)
unfolding cell_of
cells_again es each r mask said is short =
    let ws = way_text r.side ∷ (run_list r mask ++ shown_list said) in
    let look = look_again r mask said short in
    let read = cell_read (map read_endpoint es) ws 0 look.0 (run_first es each r mask is (shown_list said)) in
    (read.0, chosen (is_cell_word ws) _ _ _ (first_cell r.side (run_list r mask ++ shown_list said)) (taken (look_of_cell ws) look.0 _ _ look.1 read.1))

-- ---- reasons

abbrev IsFree : List ℕ → Type 0
IsFree w = (nat_le 1 (length w) && nat_le (length w) 40 && is_name w) ≡ true

free_of : (ws : List (List ℕ)) (i : ℕ) → (i < length ws → IsFree (word_at ws i)) → is_free ws i ≡ true
free_of ws i free = go (nat_le (length ws) i) refl
  where
    go : (t : Bool) → nat_le (length ws) i ≡ t → (if t then true else (nat_le 1 (length (word_at ws i)) && nat_le (length (word_at ws i)) 40 && is_name (word_at ws i))) ≡ true
    go true is = refl
    go false is = free (grind (arith, nat_tests))

record AreFree (rest : List (List ℕ)) : Type 0 where
  few : length rest ≤ 3
  each : All IsFree rest

free_key : (key : List ℕ) (n : ℕ) → n < 10 ^ 16 → list_all is_name_byte key ≡ true → 1 ≤ length key → length key ≤ 20 → IsFree (key ++ decimal n)
free_key key n short name some few =
    let all : length (key ++ decimal n) ≡ length key + length (decimal n) = length-append key (decimal n) in
    let digits : length (decimal n) ≤ 16 = decimal_few n short in
    and_true (and_true (nat_le_true 1 (length (key ++ decimal n)) (omega (arith, all, some))) (nat_le_true (length (key ++ decimal n)) 40 (omega (arith, all, few, digits))))
    (list_all-append is_name_byte key (decimal n) ∙ and_true name (decimal_name n))

none_free : AreFree []
none_free = record { few = omega arith; each = All-nil IsFree }

one_free : (a : List ℕ) → IsFree a → AreFree (a ∷ [])
one_free a p = record { few = omega arith; each = All-cons IsFree a [] p (All-nil IsFree) }

two_free : (a b : List ℕ) → IsFree a → IsFree b → AreFree (a ∷ b ∷ [])
two_free a b p q = record { few = omega arith; each = All-cons IsFree a (b ∷ []) p (All-cons IsFree b [] q (All-nil IsFree)) }

three_free : (a b c : List ℕ) → IsFree a → IsFree b → IsFree c → AreFree (a ∷ b ∷ c ∷ [])
three_free a b c p q r =
    record { few = omega arith; each = All-cons IsFree a (b ∷ c ∷ []) p (All-cons IsFree b (c ∷ []) q (All-cons IsFree c [] r (All-nil IsFree))) }

from_free : (from : ℕ) → from < 10 ^ 16 → IsFree (codes "from=" ++ decimal from)
from_free from short = free_key (codes "from=") from short refl (omega arith) (omega arith)

by_free : (by from : ℕ) → by < 10 ^ 16 → from < 10 ^ 16 → AreFree ((codes "by=" ++ decimal by) ∷ (codes "from=" ++ decimal from) ∷ [])
by_free by from p q = two_free (codes "by=" ++ decimal by) (codes "from=" ++ decimal from) (free_key (codes "by=") by p refl (omega arith) (omega arith)) (from_free from q)

lone_free : (from : ℕ) → from < 10 ^ 16 → AreFree ((codes "from=" ++ decimal from) ∷ [])
lone_free from p = one_free (codes "from=" ++ decimal from) (from_free from p)

rest_free : (why : Reason) → IsDrawnReason why → AreFree (rest_list why)
rest_free (reason.Other section from) is = two_free (codes "with=" ++ decimal section) (codes "from=" ++ decimal from) (free_key (codes "with=") section is.0 refl (omega arith) (omega arith)) (from_free from is.1)
rest_free (reason.Late by from) is = by_free by from is.0 is.1
rest_free (reason.Early by from) is = by_free by from is.0 is.1
rest_free (reason.Refused from) is = lone_free from is
rest_free (reason.WrongWay from) is = lone_free from is
rest_free (reason.Repeated seq from) is = two_free (codes "seq=" ++ decimal seq) (codes "from=" ++ decimal from) (free_key (codes "seq=") seq is.0 refl (omega arith) (omega arith)) (from_free from is.1)
rest_free (reason.Unfinished seq pieces from) is =
    three_free (codes "seq=" ++ decimal seq) (codes "pieces=" ++ decimal pieces) (codes "from=" ++ decimal from)
    (free_key (codes "seq=") seq is.0 refl (omega arith) (omega arith)) (free_key (codes "pieces=") pieces is.1 refl (omega arith) (omega arith)) (from_free from is.2)
rest_free (reason.CommandMismatch from) is = lone_free from is
rest_free (reason.CommandLate by from) is = by_free by from is.0 is.1
rest_free (reason.CommandEarly by from) is = by_free by from is.0 is.1
rest_free (reason.CommandRange from) is = lone_free from is
rest_free (reason.CommandRepeat from) is = lone_free from is
rest_free (reason.CommandOverlap from) is = lone_free from is
rest_free (reason.CommandFull from) is = lone_free from is
rest_free (reason.NoData None) is = none_free
rest_free (reason.NoData (Some from)) is = lone_free from is
rest_free reason.NoCommand is = none_free

missing_again : (w : ReasonWord) → (class : Class) × (missing_class (word_text w) ≡ Some class)
missing_again word.Other = (looks.Other, refl)
missing_again word.Late = (looks.Late, refl)
missing_again word.Early = (looks.Early, refl)
missing_again word.Refused = (looks.Refused, refl)
missing_again word.WrongWay = (looks.Refused, refl)
missing_again word.Repeated = (looks.Repeated, refl)
missing_again word.Unfinished = (looks.Unfinished, refl)
missing_again word.CommandMismatch = (looks.Command, refl)
missing_again word.CommandLate = (looks.Late, refl)
missing_again word.CommandEarly = (looks.Early, refl)
missing_again word.CommandRange = (looks.Command, refl)
missing_again word.CommandRepeat = (looks.Command, refl)
missing_again word.CommandOverlap = (looks.Command, refl)
missing_again word.CommandFull = (looks.Command, refl)
missing_again word.NoData = (looks.NoData, refl)
missing_again word.NoCommand = (looks.NoData, refl)

silent_again : (w : ReasonWord) → is_silent_word w ≡ true → (class : Class) × (silent_class (word_text w) ≡ Some class)
silent_again word.Other e = absurd (cc e)
silent_again word.Late e = absurd (cc e)
silent_again word.Early e = absurd (cc e)
silent_again word.Refused e = absurd (cc e)
silent_again word.WrongWay e = absurd (cc e)
silent_again word.Repeated e = absurd (cc e)
silent_again word.Unfinished e = absurd (cc e)
silent_again word.CommandMismatch e = (looks.Command, refl)
silent_again word.CommandLate e = (looks.Late, refl)
silent_again word.CommandEarly e = (looks.Early, refl)
silent_again word.CommandRange e = (looks.Command, refl)
silent_again word.CommandRepeat e = (looks.Command, refl)
silent_again word.CommandOverlap e = (looks.Command, refl)
silent_again word.CommandFull e = (looks.Command, refl)
silent_again word.NoData e = absurd (cc e)
silent_again word.NoCommand e = (looks.NoData, refl)

-- a word of the rest of a line is free
rest_at : (rest : List (List ℕ)) (k : ℕ) → AreFree rest → k < length rest → IsFree (slice_index_or rest k [])
rest_at rest k p lt = p.each k [] lt

missing_read : (way : List ℕ) (r : PrbRun) (mask : ℕ) (w : List ℕ) (class : Class) (rest : List (List ℕ)) → missing_class w ≡ Some class → AreFree rest
    → why_missing (codes "why" ∷ way ∷ (run_list r mask ++ codes "missing" ∷ w ∷ rest)) ≡ Some (Why class false)
missing_read way r mask w class rest is p =
    let ws = codes "why" ∷ way ∷ (run_list r mask ++ codes "missing" ∷ w ∷ rest) in
    let few : length rest ≤ 3 = p.few in
    let size : length ws ≡ 14 + length rest = omega arith in
    chosen (nat_le (length ws) 17) _ _ _ (nat_le_true (length ws) 17 (omega (arith, few, size)))
    (taken (missing_class w) class _ _ is
    (chosen (is_free ws 14 && is_free ws 15 && is_free ws 16) _ _ _
    (and_true (and_true (free_of ws 14 (λ lt. rest_at rest 0 p (omega (arith, size, lt)))) (free_of ws 15 (λ lt. rest_at rest 1 p (omega (arith, size, lt)))))
    (free_of ws 16 (λ lt. rest_at rest 2 p (omega (arith, size, lt)))))
    refl))

silent_read : (way : List ℕ) (r : PrbRun) (mask : ℕ) (w : List ℕ) (number : ℕ) (class : Class) (rest : List (List ℕ)) → number < 10 ^ 16 → silent_class w ≡ Some class → AreFree rest
    → why_silent (codes "why" ∷ way ∷ (run_list r mask ++ (codes "line=" ++ decimal number) ∷ codes "silent" ∷ w ∷ rest)) ≡ Some (Why class true)
silent_read way r mask w number class rest short is p =
    let ws = codes "why" ∷ way ∷ (run_list r mask ++ (codes "line=" ++ decimal number) ∷ codes "silent" ∷ w ∷ rest) in
    let few : length rest ≤ 3 = p.few in
    let size : length ws ≡ 15 + length rest = omega arith in
    chosen (nat_le (length ws) 18) _ _ _ (nat_le_true (length ws) 18 (omega (arith, few, size)))
    (taken (numeral 0 most (decimal number)) number _ _ (short_again number short)
    (taken (silent_class w) class _ _ is
    (chosen (is_free ws 15 && is_free ws 16 && is_free ws 17) _ _ _
    (and_true (and_true (free_of ws 15 (λ lt. rest_at rest 0 p (omega (arith, size, lt)))) (free_of ws 16 (λ lt. rest_at rest 1 p (omega (arith, size, lt)))))
    (free_of ws 17 (λ lt. rest_at rest 2 p (omega (arith, size, lt)))))
    refl)))

pub why_missing_again : (es : List EndpointConfig) → All IsDrawnEndpoint es → (r : PrbRun) (mask : ℕ) (why : Reason) → IsDrawnRun es r → IsDrawnReason why
    → (c : Cell) × (cell_of (map read_endpoint es) (codes "why" ∷ way_text r.side ∷ (run_list r mask ++ codes "missing" ∷ word_text (word_of why) ∷ rest_list why)) ≡ Some c)
unfolding cell_of
why_missing_again es each r mask why is short =
    let tail = codes "missing" ∷ word_text (word_of why) ∷ rest_list why in
    let ws = codes "why" ∷ way_text r.side ∷ (run_list r mask ++ tail) in
    let class = missing_again (word_of why) in
    let look : why_missing ws ≡ Some (Why class.0 false) = missing_read (way_text r.side) r mask (word_text (word_of why)) class.0 (rest_list why) class.1 (rest_free why short) in
    let read = cell_read (map read_endpoint es) ws 1 (Why class.0 false) (run_second es each r mask is tail) in
    (read.0, taken (look_of_why ws) (Why class.0 false) _ _ (ap (λ (o : Option Look). first_look o (why_silent ws)) look) read.1)

pub why_silent_again : (es : List EndpointConfig) → All IsDrawnEndpoint es → (r : PrbRun) (mask number : ℕ) (why : Reason) → IsDrawnRun es r → number < 10 ^ 16
    → IsDrawnReason why → is_silent_word (word_of why) ≡ true
    → (c : Cell) × (cell_of (map read_endpoint es)
    (codes "why" ∷ way_text r.side ∷ (run_list r mask ++ (codes "line=" ++ decimal number) ∷ codes "silent" ∷ word_text (word_of why) ∷ rest_list why)) ≡ Some c)
unfolding cell_of
why_silent_again es each r mask number why is line short of_command =
    let tail = (codes "line=" ++ decimal number) ∷ codes "silent" ∷ word_text (word_of why) ∷ rest_list why in
    let ws = codes "why" ∷ way_text r.side ∷ (run_list r mask ++ tail) in
    let class = silent_again (word_of why) of_command in
    let look : why_silent ws ≡ Some (Why class.0 true) = silent_read (way_text r.side) r mask (word_text (word_of why)) number class.0 (rest_list why) line class.1 (rest_free why short) in
    let read = cell_read (map read_endpoint es) ws 1 (Why class.0 true) (run_second es each r mask is tail) in
    (read.0, taken (look_of_why ws) (Why class.0 true) _ _ look read.1)
