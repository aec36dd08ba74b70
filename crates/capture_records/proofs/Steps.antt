-- From one record to the next.
use Rattle.std.proofs.Common.{◌≡◌, ℕ, ℤ, zero, suc, ◌+◌, ◌-◌, ◌*◌, ◌<◌, ◌≤◌, Bool, true, false, cond, eqb, ltb, List, [], ◌∷◌, length, take, drop, length-drop, Result, Ok, Err, is_ok, refl, sym, ap, ◌∙◌, arith, add-zero, slice_index}
use Rattle.std.specs.List.{starts_with}
use Rattle.std.proofs.lemmas.Bool.{eqb-true, ltb-false}
use Rattle.std.proofs.lemmas.List.{drop-drop, drop_all, length-take-le, take_rest, nil_from_length}
use Rattle.air_source.specs.declared.events.Side.{Side}
use Rattle.capture_records.specs.declared.layout.TheConstants.{MAGIC}
use Rattle.capture_records.specs.declared.refusals.CaptureRefusal.{CaptureRefusal}
use Rattle.capture_records.specs.declared.refusals.CaptureWhy.{CaptureWhy}
use Rattle.capture_records.specs.declared.refusals.CaptureWhy.TheVariants.{Magic, Cut, Way}
use Rattle.capture_records.specs.Records.{Arrived}
use Rattle.capture_records.specs.Reading.{side_at, ticks_at, length_at, arrived_at, size_checked, passed_by, checked_from, records_from, checked}

-- a size or a reason
abbrev Sized : Type 0
Sized = Result ℕ CaptureWhy

-- three tests that passed
tested : (b c d : Bool) (n size : ℕ) (r : Sized) → r ≡ cond b (Err Cut) (cond c (Err Way) (cond d (Err Cut) (Ok n))) → r ≡ Ok size → (b ≡ false) × (d ≡ false) × (n ≡ size)
tested true c d n size r e f = absurd cc
tested false true d n size r e f = absurd cc
tested false false true n size r e f = absurd cc
tested false false false n size r e f = (refl, refl, cc)

-- a record that passes has the size that its head says, and is whole
pub record IsWhole (bytes : List ℕ) (size : ℕ) : Type 0 where
  pub is : size ≡ 13 + length_at bytes
  pub within : size ≤ length bytes

pub whole : (bytes : List ℕ) (size : ℕ) → size_checked bytes ≡ Ok size → IsWhole bytes size
whole bytes size e =
    let t = tested (ltb (length bytes) 13) (ltb 1 (slice_index bytes 0)) (ltb (length bytes - 13) (length_at bytes)) (13 + length_at bytes) size (size_checked bytes) refl e in
    let head : 13 ≤ length bytes = ltb-false _ _ t.0 in
    let frame : length_at bytes ≤ length bytes - 13 = ltb-false _ _ t.1 in
    record { is = sym t.2; within = omega (arith, t.2) }

-- the first bytes belong to a record that passed
pub checked_skip : (place skip : ℕ) (bytes : List ℕ) → skip ≤ length bytes → checked_from place skip bytes ≡ checked_from (place + skip) 0 (drop skip bytes)
unfolding checked_from
checked_skip place zero [] h = refl
checked_skip place zero (b ∷ bytes) h = ap (λ p. checked_from p 0 (b ∷ bytes)) (sym (add-zero place))
checked_skip place (suc skip) [] h = absurd (omega arith)
checked_skip place (suc skip) (b ∷ bytes) h =
    let sum : (place + 1) + skip ≡ place + suc skip = omega arith in
    checked_skip (place + 1) skip bytes (omega arith) ∙ ap (λ p. checked_from p 0 (drop skip bytes)) sum

pub records_skip : (skip : ℕ) (bytes : List ℕ) → skip ≤ length bytes → records_from skip bytes ≡ records_from 0 (drop skip bytes)
unfolding records_from
records_skip zero [] h = refl
records_skip zero (b ∷ bytes) h = refl
records_skip (suc skip) [] h = absurd (omega arith)
records_skip (suc skip) (b ∷ bytes) h = records_skip skip bytes (omega arith)

-- after a record that passes, the tests go on
pub checked_next : (place : ℕ) (bytes : List ℕ) (size : ℕ) → size_checked bytes ≡ Ok size → checked_from place 0 bytes ≡ checked_from (place + size) 0 (drop size bytes)
unfolding checked_from
checked_next place [] size e = absurd cc
checked_next place (b ∷ bytes) size e =
    let w = whole (b ∷ bytes) size e in
    let skip = 12 + length_at (b ∷ bytes) in
    let more : size ≡ suc skip = w.is ∙ omega arith in
    let inside : skip ≤ length bytes = omega (arith, w.within, more) in
    let sum : (place + 1) + skip ≡ place + size = omega (arith, more) in
    ap (λ r. passed_by r place (checked_from (place + 1) skip bytes)) e
    ∙ checked_skip (place + 1) skip bytes inside
    ∙ ap (λ p. checked_from p 0 (drop skip bytes)) sum
    ∙ ap (λ n. checked_from (place + size) 0 (drop n (b ∷ bytes))) (sym more)

-- a record that fails is the first refusal
pub checked_stop : (place : ℕ) (bytes : List ℕ) (why : CaptureWhy) → 0 < length bytes → size_checked bytes ≡ Err why → checked_from place 0 bytes ≡ Err (record { place = place; why = why })
unfolding checked_from
checked_stop place [] why some e = absurd (omega arith)
checked_stop place (b ∷ bytes) why some e = ap (λ r. passed_by r place (checked_from (place + 1) (12 + length_at (b ∷ bytes)) bytes)) e

-- a record that passes is the first, and the others are after it
pub records_next : (bytes : List ℕ) (size : ℕ) → size_checked bytes ≡ Ok size → records_from 0 bytes ≡ arrived_at bytes ∷ records_from 0 (drop size bytes)
unfolding records_from
records_next [] size e = absurd cc
records_next (b ∷ bytes) size e =
    let w = whole (b ∷ bytes) size e in
    let skip = 12 + length_at (b ∷ bytes) in
    let more : size ≡ suc skip = w.is ∙ omega arith in
    let inside : skip ≤ length bytes = omega (arith, w.within, more) in
    ap (λ rs. arrived_at (b ∷ bytes) ∷ rs) (records_skip skip bytes inside ∙ ap (λ n. records_from 0 (drop n (b ∷ bytes))) (sym more))

-- whether a record passes does not go by its place
same_pass : (r : Sized) (p q : ℕ) (x y : Result (Unit {0}) CaptureRefusal) → is_ok x ≡ is_ok y → is_ok (passed_by r p x) ≡ is_ok (passed_by r q y)
same_pass (Ok n) p q x y e = e
same_pass (Err why) p q x y e = refl

pub pass_anywhere : (p q skip : ℕ) (bytes : List ℕ) → is_ok (checked_from p skip bytes) ≡ is_ok (checked_from q skip bytes)
unfolding checked_from
pass_anywhere p q skip [] = refl
pass_anywhere p q (suc skip) (b ∷ bytes) = pass_anywhere (p + 1) (q + 1) skip bytes
pass_anywhere p q zero (b ∷ bytes) =
    same_pass (size_checked (b ∷ bytes)) p q (checked_from (p + 1) (12 + length_at (b ∷ bytes)) bytes) (checked_from (q + 1) (12 + length_at (b ∷ bytes)) bytes)
    (pass_anywhere (p + 1) (q + 1) (12 + length_at (b ∷ bytes)) bytes)

-- what passed had a size
has_size : (r : Sized) (p : ℕ) (x : Result (Unit {0}) CaptureRefusal) → is_ok (passed_by r p x) ≡ true → (n : ℕ) × (r ≡ Ok n)
has_size (Ok n) p x e = (n, refl)
has_size (Err why) p x e = absurd cc

-- the size of the first of some records that pass
pub first_size : (place : ℕ) (bytes : List ℕ) → 0 < length bytes → is_ok (checked_from place 0 bytes) ≡ true → size_checked bytes ≡ Ok (13 + length_at bytes)
unfolding checked_from
first_size place [] some e = absurd (omega arith)
first_size place (b ∷ bytes) some e =
    let h = has_size (size_checked (b ∷ bytes)) place (checked_from (place + 1) (12 + length_at (b ∷ bytes)) bytes) e in
    h.1 ∙ ap Ok (whole (b ∷ bytes) h.0 h.1).is

-- the records after the first of some that pass, pass
pub rest_passes : (bytes : List ℕ) → 0 < length bytes → is_ok (checked_from 0 0 bytes) ≡ true → is_ok (checked_from 0 0 (drop (13 + length_at bytes) bytes)) ≡ true
rest_passes bytes some e =
    let size = 13 + length_at bytes in
    pass_anywhere 0 (0 + size) 0 (drop size bytes) ∙ sym (ap is_ok (checked_next 0 bytes size (first_size 0 bytes some e))) ∙ e

-- each record has 13 bytes before its frame
pub few : (place skip : ℕ) (bytes : List ℕ) → skip ≤ length bytes → is_ok (checked_from place skip bytes) ≡ true → length (records_from skip bytes) * 13 + skip ≤ length bytes
unfolding checked_from records_from
few place skip [] h e = omega arith
few place (suc skip) (b ∷ bytes) h e = omega (arith, few (place + 1) skip bytes (omega arith) e)
few place zero (b ∷ bytes) h e =
    let size = has_size (size_checked (b ∷ bytes)) place (checked_from (place + 1) (12 + length_at (b ∷ bytes)) bytes) e in
    let w = whole (b ∷ bytes) size.0 size.1 in
    let inside : 12 + length_at (b ∷ bytes) ≤ length bytes = omega (arith, w.is, w.within) in
    let behind : is_ok (checked_from (place + 1) (12 + length_at (b ∷ bytes)) bytes) ≡ true = rw size.1 at e in
    omega (arith, few (place + 1) (12 + length_at (b ∷ bytes)) bytes inside behind)

-- ---- the loop over a whole capture

-- a record that passes moves the loop on
pub goes_on : (bytes : List ℕ) (place size : ℕ) → size_checked (take (length bytes - place) (drop place bytes)) ≡ Ok size → checked bytes ≡ checked_from place 0 (drop place bytes)
    → checked bytes ≡ checked_from (place + size) 0 (drop (place + size) bytes)
goes_on bytes place size e so_far =
    so_far
    ∙ checked_next place (drop place bytes) size (rw (take_rest bytes place) at e)
    ∙ ap (checked_from (place + size) 0) (drop-drop size place bytes)

-- one that fails ends it
pub stops : (bytes : List ℕ) (place : ℕ) (why : CaptureWhy) → place < length bytes → size_checked (take (length bytes - place) (drop place bytes)) ≡ Err why
    → checked bytes ≡ checked_from place 0 (drop place bytes) → Err (record { place = place; why = why }) ≡ checked bytes
stops bytes place why lt e so_far =
    sym (so_far ∙ checked_stop place (drop place bytes) why (omega (arith, length-drop place bytes)) (rw (take_rest bytes place) at e))

-- at the end all has passed
pub ends : (bytes : List ℕ) (place : ℕ) → length bytes ≤ place → checked bytes ≡ checked_from place 0 (drop place bytes) → Ok tt ≡ checked bytes
unfolding checked_from
ends bytes place ge so_far = sym (so_far ∙ ap (checked_from place 0) (drop_all place bytes ge))

-- after a magic that was found, the records pass
is_taken : (b : Bool) (x : Result (Unit {0}) CaptureRefusal) (r : CaptureRefusal) → cond b x (Err r) ≡ Ok tt → x ≡ Ok tt
is_taken true x r e = e
is_taken false x r e = absurd cc

pub behind_magic : (bytes : List ℕ) → checked bytes ≡ Ok tt → is_ok (checked_from 0 0 (drop 8 bytes)) ≡ true
behind_magic bytes e =
    pass_anywhere 0 8 0 (drop 8 bytes) ∙ ap is_ok (is_taken (starts_with eqb bytes MAGIC) (checked_from 8 0 (drop 8 bytes)) (record { place = 0; why = Magic }) e)

-- ---- the first record

-- what is cut out of the bytes for a frame
pub frame_is : (bytes : List ℕ) (size : ℕ) → size ≡ length_at bytes → take (13 + size - 13) (drop 13 bytes) ≡ take (length_at bytes) (drop 13 bytes)
frame_is bytes size is = ap (λ n. take n (drop 13 bytes)) (omega (arith, is))

-- how long it is, where the record passes
pub frame_long : (bytes : List ℕ) (size : ℕ) → 0 < length bytes → is_ok (checked_from 0 0 bytes) ≡ true → size ≡ length_at bytes
    → length (take (13 + size - 13) (drop 13 bytes)) ≡ length_at bytes
frame_long bytes size some e is =
    let w = whole bytes (13 + length_at bytes) (first_size 0 bytes some e) in
    ap length (frame_is bytes size is) ∙ length-take-le (length_at bytes) (drop 13 bytes) (omega (arith, w.within, length-drop 13 bytes))

-- there is room for it
pub room : (bytes : List ℕ) → 0 < length bytes → is_ok (checked_from 0 0 bytes) ≡ true → 13 + length_at bytes ≤ length bytes
room bytes some e = (whole bytes (13 + length_at bytes) (first_size 0 bytes some e)).within

-- an arrival by its parts
abbrev pub made : Side → ℤ → List ℕ → Arrived
made side at frame = record { side = side; at = record { 0 = at }; frame = frame }

-- the first of some records that pass, by what was read of its head, and the others
pub first_is : (bytes : List ℕ) (size : ℕ) (side : Side) (at : ℤ) → 0 < length bytes → is_ok (checked_from 0 0 bytes) ≡ true → side ≡ side_at bytes → at ≡ ticks_at bytes → size ≡ length_at bytes
    → records_from 0 bytes ≡ made side at (take (13 + size - 13) (drop 13 bytes)) ∷ records_from 0 (drop (13 + length (take (13 + size - 13) (drop 13 bytes))) bytes)
first_is bytes size side at some e s t l =
    let frame = take (13 + size - 13) (drop 13 bytes) in
    let rest = records_from 0 (drop (13 + length frame) bytes) in
    records_next bytes (13 + length_at bytes) (first_size 0 bytes some e)
    ∙ ap (λ n. arrived_at bytes ∷ records_from 0 (drop (13 + n) bytes)) (sym (frame_long bytes size some e l))
    ∙ ap (λ x. made x (ticks_at bytes) (take (length_at bytes) (drop 13 bytes)) ∷ rest) (sym s)
    ∙ ap (λ z. made side z (take (length_at bytes) (drop 13 bytes)) ∷ rest) (sym t)
    ∙ ap (λ f. made side at f ∷ rest) (sym (frame_is bytes size l))

-- where no byte is left, no record is
pub nothing_left : (bytes : List ℕ) → true ≡ eqb (length bytes) 0 → records_from 0 bytes ≡ []
unfolding records_from
nothing_left bytes is = ap (records_from 0) (nil_from_length bytes (eqb-true (length bytes) 0 (sym is)))
