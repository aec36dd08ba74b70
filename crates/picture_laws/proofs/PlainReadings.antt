-- A text that is not refused has lines of printable ASCII, and its endpoints have ids of it.
use Rattle.std.proofs.Common.{◌≡◌, ℕ, ◌+◌, ◌≤◌, List, [], ◌∷◌, ◌++◌, Bool, true, false, ◌&&◌, ◌||◌, ◌==◌, nat_le, length, refl, subst, arith, codes}
use Rattle.std.specs.Prelude.{Option, Some, None, Result, Ok, Err, if◌then◌else◌}
use Rattle.std.specs.Str.{bytes_eq}
use Rattle.fh_base.specs.declared.carrier.TheConstants.{CARRIER_PRBS}
use Rattle.fh_base.proofs.Orders.{left_true, right_true}
use Rattle.fh_base.specs.Numbers.{word_at}
use Rattle.line_words.specs.Words.{is_text, words_of}
use Rattle.pictures.specs.Numbers.{is_id, is_lower_hex, numeral, taking}
use Rattle.pictures.specs.Refusals.{going_on, head_line, is_end, or_line}
use Rattle.pictures.specs.declared.faults.TextWhy.{TextWhy}
use Rattle.pictures.specs.declared.faults.TextWhy.TheVariants as why
use Rattle.pictures.specs.Cells.{cell_of, is_cell_word, is_why_word}
use Rattle.pictures.specs.Endpoints.{endpoint_in, id_of, is_method, is_mode, numerology_in}
use Rattle.pictures.specs.Text.{cell_line, endpoint_line, grid_of, has_id, later_line, line_of, read_from, same_after, start, used_line, words_line}
use Rattle.pictures.specs.declared.endpoints.Endpoint.{Endpoint}
use Rattle.pictures.specs.declared.list.TheConstants.{MOST_ENDPOINTS}
use Rattle.picture_laws.specs.Laws.{parts_of}
use Rattle.picture_laws.specs.Plain.{IsPlain, is_plain_byte}
use Rattle.picture_laws.proofs.Cells.{took}
use Rattle.picture_laws.proofs.PlainGrids.{AreNamed, AreText}
use Rattle.picture_laws.proofs.PlainTexts.{byte_within, lit, plain_cons}
use Rattle.fh_base.proofs.CommonLemmas.{at_least}

-- what the lines before a line say, whose type has no name here
abbrev type_of : {A : Type 0} → A → Type 0
type_of {A = A} x = A

abbrev Reading : Type 0
Reading = type_of start

-- ---- ids

hex_byte : (b : ℕ) → ((nat_le 48 b && nat_le b 57) || (nat_le 97 b && nat_le b 102)) ≡ true → is_plain_byte b ≡ true
hex_byte b e = go (nat_le 48 b) (nat_le b 57) (nat_le 97 b) (nat_le b 102) refl refl refl refl e
  where
    go : (x y z w : Bool) → nat_le 48 b ≡ x → nat_le b 57 ≡ y → nat_le 97 b ≡ z → nat_le b 102 ≡ w → ((x && y) || (z && w)) ≡ true → is_plain_byte b ≡ true
    go true true z w low high l h e = let low : 48 ≤ b = at_least 48 b low in let high : b ≤ 57 = at_least b 57 high in byte_within b (omega arith) (omega arith)
    go true false true true l h low high e = let low : 97 ≤ b = at_least 97 b low in let high : b ≤ 102 = at_least b 102 high in byte_within b (omega arith) (omega arith)
    go false y true true l h low high e = let low : 97 ≤ b = at_least 97 b low in let high : b ≤ 102 = at_least b 102 high in byte_within b (omega arith) (omega arith)
    go true false true false l h low high e = cc
    go true false false w l h low high e = cc
    go false y true false l h low high e = cc
    go false y false w l h low high e = cc

hex_plain : (w : List ℕ) → is_lower_hex w ≡ true → IsPlain w
hex_plain [] e = lit refl
hex_plain (b ∷ bs) e =
    plain_cons b bs (hex_byte b (left_true ((nat_le 48 b && nat_le b 57) || (nat_le 97 b && nat_le b 102)) (is_lower_hex bs) e))
    (hex_plain bs (right_true ((nat_le 48 b && nat_le b 57) || (nat_le 97 b && nat_le b 102)) (is_lower_hex bs) e))

id_plain : (w id : List ℕ) → id_of w ≡ Some id → IsPlain id
id_plain w id e = go (is_id w) refl e
  where
    go : (t : Bool) → is_id w ≡ t → (if t then Some w else None) ≡ Some id → IsPlain id
    go true is e = let same : w ≡ id = cc e in subst IsPlain same (hex_plain w (right_true (length w == 4) (is_lower_hex w) is))
    go false is e = cc

endpoint_named : (ws : List (List ℕ)) (e : Endpoint) → endpoint_in ws ≡ Some e → IsPlain e.id
endpoint_named ws e h = go (is_mode (word_at ws 5) && is_method (word_at ws 6)) h
  where
    go : (t : Bool) → (if t then taking (id_of (word_at ws 1)) (λ id. taking (numerology_in ws) (λ n. taking (numeral 1 CARRIER_PRBS (word_at ws 4)) (λ prbs.
        Some (record { id = id; numerology = n; prbs = prbs })))) else None) ≡ Some e → IsPlain e.id
    go true h =
        let id = took (id_of (word_at ws 1)) _ e h in
        let n = took (numerology_in ws) _ e id.2 in
        let prbs = took (numeral 1 CARRIER_PRBS (word_at ws 4)) _ e n.2 in
        let same : record { id = id.0; numerology = n.0; prbs = prbs.0 } ≡ e = cc prbs.2 in
        subst (λ (x : Endpoint). IsPlain x.id) same (id_plain (word_at ws 1) id.0 id.1)
    go false h = cc

-- ---- lines

named_more : (es : List Endpoint) (e : Endpoint) → AreNamed es → IsPlain e.id → AreNamed (es ++ e ∷ [])
named_more [] e p q = (q, tt)
named_more (x ∷ xs) e p q = (p.0, named_more xs e p.1 q)

-- what follows on a value that is there
lined : {A B : Type 0} (o : Option A) (next : A → Result B TextWhy) (y : B) → or_line o next ≡ Ok y → (x : A) × (o ≡ Some x) × (next x ≡ Ok y)
lined None next y e = cc
lined (Some x) next y e = (x, refl, e)

endpoint_keeps : (r next : Reading) (ws : List (List ℕ)) → AreNamed r.endpoints → endpoint_line r ws ≡ Ok next → AreNamed next.endpoints
endpoint_keeps r next ws named h = go r.begun h
  where
    pick : (e : Endpoint) (t : Bool) → IsPlain e.id → (if t then Err why.Line else Ok (record r { endpoints = r.endpoints ++ e ∷ [] })) ≡ Ok next → AreNamed next.endpoints
    pick e true p h = cc
    pick e false p h = let same : record r { endpoints = r.endpoints ++ e ∷ [] } ≡ next = cc h in subst (λ (x : Reading). AreNamed x.endpoints) same (named_more r.endpoints e named p)

    go : (t : Bool)
        → (if t then Err why.Line
        else or_line (endpoint_in ws) (λ e. if nat_le MOST_ENDPOINTS (length r.endpoints) || has_id r.endpoints (word_at ws 1) then Err why.Line
        else Ok (record r { endpoints = r.endpoints ++ e ∷ [] }))) ≡ Ok next → AreNamed next.endpoints
    go true h = cc
    go false h =
        let found = lined (endpoint_in ws) _ next h in
        pick found.0 (nat_le MOST_ENDPOINTS (length r.endpoints) || has_id r.endpoints (word_at ws 1)) (endpoint_named ws found.0 found.1) found.2

cell_keeps : (r next : Reading) (ws : List (List ℕ)) → AreNamed r.endpoints → cell_line r ws ≡ Ok next → AreNamed next.endpoints
cell_keeps r next ws named h =
    let found = lined (cell_of r.endpoints ws) _ next h in
    let same : record r { begun = true } ≡ next = cc found.2 in
    subst (λ (x : Reading). AreNamed x.endpoints) same named

used_keeps : (r next : Reading) (ws : List (List ℕ)) → AreNamed r.endpoints → used_line r ws ≡ Ok next → AreNamed next.endpoints
used_keeps r next ws named h = go (bytes_eq (word_at ws 0) (codes "endpoint")) (is_cell_word ws || is_why_word ws) h
  where
    go : (x y : Bool) → (if x then endpoint_line r ws else (if y then cell_line r ws else Ok r)) ≡ Ok next → AreNamed next.endpoints
    go true y h = endpoint_keeps r next ws named h
    go false true h = cell_keeps r next ws named h
    go false false h = let same : r ≡ next = cc h in subst (λ (x : Reading). AreNamed x.endpoints) same named

later_keeps : (r next : Reading) (ws : List (List ℕ)) → AreNamed r.endpoints → later_line r ws ≡ Ok next → AreNamed next.endpoints
later_keeps r next ws named h = go r.ended (is_end ws) h
  where
    go : (x y : Bool) → (if x then Err why.End else (if y then Ok (record r { ended = true }) else used_line r ws)) ≡ Ok next → AreNamed next.endpoints
    go true y h = cc
    go false true h = let same : record r { ended = true } ≡ next = cc h in subst (λ (x : Reading). AreNamed x.endpoints) same named
    go false false h = used_keeps r next ws named h

head_keeps : (r next : Reading) (x : Result (Unit {0}) TextWhy) → AreNamed r.endpoints → same_after r x ≡ Ok next → AreNamed next.endpoints
head_keeps r next (Ok u) named h = let same : r ≡ next = cc h in subst (λ (x : Reading). AreNamed x.endpoints) same named
head_keeps r next (Err w) named h = cc

words_keep : (r next : Reading) (n : ℕ) (ws : List (List ℕ)) → AreNamed r.endpoints → words_line r n ws ≡ Ok next → AreNamed next.endpoints
words_keep r next n ws named h = go (n == 1) h
  where
    go : (t : Bool) → (if t then same_after r (head_line ws) else later_line r ws) ≡ Ok next → AreNamed next.endpoints
    go true h = head_keeps r next (head_line ws) named h
    go false h = later_keeps r next ws named h

line_keeps : (r next : Reading) (n : ℕ) (line : List ℕ) → AreNamed r.endpoints → line_of r n line ≡ Ok next → (is_text line ≡ true) × AreNamed next.endpoints
unfolding line_of
line_keeps r next n line named h = go (is_text line) refl h
  where
    go : (t : Bool) → is_text line ≡ t → (if t then words_line r n (words_of line) else Err why.NotText) ≡ Ok next → (is_text line ≡ true) × AreNamed next.endpoints
    go true is h = (is, words_keep r next n (words_of line) named h)
    go false is h = cc

-- the answer that a line fails
abbrev failed : ℕ → TextWhy → Result (List Endpoint) (ℕ × TextWhy)
failed n w = Err (n, w)

read_plain : (lines : List (List ℕ)) (n : ℕ) (r : Reading) (es : List Endpoint) → AreNamed r.endpoints → read_from n r lines ≡ Ok es → AreNamed es × AreText lines
read_plain [] n r es named h = go r.ended h
  where
    go : (t : Bool) → (if t then Ok r.endpoints else failed n why.End) ≡ Ok es → AreNamed es × AreText []
    go true h = let same : r.endpoints ≡ es = cc h in (subst AreNamed same named, tt)
    go false h = cc
read_plain (line ∷ lines) n r es named h = go (line_of r n line) refl h (λ next kept rest. read_plain lines (n + 1) next es kept rest)
  where
    go : (x : Result Reading TextWhy) → line_of r n line ≡ x → going_on x (λ next. read_from (n + 1) next lines) (failed n) ≡ Ok es
        → ((next : Reading) → AreNamed next.endpoints → read_from (n + 1) next lines ≡ Ok es → AreNamed es × AreText lines) → AreNamed es × AreText (line ∷ lines)
    go (Ok next) is h more =
        let kept = line_keeps r next n line named is in
        let rest = more next kept.1 h in
        (rest.0, (kept.0, rest.1))
    go (Err w) is h more = cc

pub grid_read : (text : List ℕ) (es : List Endpoint) → grid_of text ≡ Ok es → AreNamed es × AreText (parts_of text)
grid_read text es h = go (length text == 0) h
  where
    go : (t : Bool) → (if t then failed 1 why.Head else read_from 1 start (parts_of text)) ≡ Ok es → AreNamed es × AreText (parts_of text)
    go true h = cc
    go false h = read_plain (parts_of text) 1 start es tt h
