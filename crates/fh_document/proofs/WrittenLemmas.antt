-- What a text gives a document, line by line.
use Rattle.std.proofs.Common.{◌≡◌, ℕ, ◌+◌, ◌-◌, ◌<◌, ◌≤◌, ◌==◌, Bool, true, false, List, [], ◌∷◌, ◌++◌, length, take, Option, Some, None, refl, subst, arith, codes}
use Rattle.std.specs.Prelude.{cond, Result, Ok, Err, IfOk, IfSome, nat_le, if◌then◌else◌, slice_index}
use Rattle.std.specs.List.{AllByRecursion, onto_first, slice_split}
use Rattle.std.specs.Option.{option_map}
use Rattle.std.specs.Str.{bytes_eq}
use Rattle.std.proofs.lemmas.Bool.{eqb-true, leb-true}
use Rattle.std.proofs.lemmas.List.{length-take}
use Rattle.fh_base.specs.Numbering.{code_of, extended_of, offset_at, offset_of, offsets_of, ordinary_at, ordinary_of}
use Rattle.fh_base.specs.Spacing.{code_of_spacing, is_normal_code, spacing_of}
use Rattle.fh_base.specs.declared.numerology.Numerology.{Numerology}
use Rattle.fh_base.specs.declared.spacing.Spacing.{Spacing}
use Rattle.fh_base.specs.declared.spacing.Spacing.TheVariants.{Khz120, Khz15, Khz1x25, Khz240, Khz30, Khz5, Khz60}
use Rattle.fh_base.specs.declared.carrier.TheConstants.{CARRIER_PRBS}
use Rattle.fh_base.specs.declared.nanoseconds.TheConstants.{LAST_TIME}
use Rattle.fh_base.specs.Numbers.{word_at}
use Rattle.window_config.specs.declared.plan.TheConstants.{PLAN_LINES}
use Rattle.fh_document.specs.ConfigLines.{set_of, time_at}
use Rattle.fh_document.specs.DeliverLines.{deliver_line, delivery_of, has_deliver_count}
use Rattle.fh_document.specs.Delivered.{has_like}
use Rattle.fh_document.specs.Document.{after_line, document_of, read_from}
use Rattle.fh_document.specs.EndpointLines.{dynamic_of, endpoint_line, endpoint_of, extended_numerology, has_endpoint_count, has_id, is_extended, is_offset, is_ordinary, method_of, numerology_of, offset_numerology, offset_spacing_of, ordinary_numerology, spacing_of as spacing_in}
use Rattle.fh_document.specs.Hex.{frame_of, hex_of}
use Rattle.fh_document.specs.InjectLines.{inject_line, side_of}
use Rattle.fh_document.specs.Keywords.{configuring, keyword_of, setting_of, transit_of}
use Rattle.fh_document.specs.Lines.{comes_late, first_line, is_seen, is_skipped, keyword_line, later_line, line_of, setting_line, start, version_of, words_line}
use Rattle.fh_document.specs.MeasureLines.{has_measure, measure_line, measure_of}
use Rattle.fh_document.specs.PlanLines.{plan_line, plan_of}
use Rattle.fh_document.specs.Refusals.{or_refuse}
use Rattle.fh_document.specs.Steps.{Kind, Said}
use Rattle.fh_document.specs.Words.{is_text, number_in, without_last_feed, words_of}
use Rattle.fh_document.specs.declared.document.Document.{Document}
use Rattle.fh_document.specs.declared.refusals.DocWhy.{DocWhy}
use Rattle.fh_document.specs.declared.refusals.DocWhy.TheVariants as why
use Rattle.fh_document.proofs.Bounds.{counted_within, ok_any, ok_if, ok_or, ok_then, some_any, some_if, some_then}
use Rattle.fh_document.specs.Written.{DocumentsAreWritten, IsSpaced, IsWritten}
use Rattle.fh_base.proofs.MemberLemmas.{all_map as all_weaker}

-- ---- lists

all_behind : {A : Type 0} (P : A → Type 0) (xs : List A) (x : A) → AllByRecursion P xs → P x → AllByRecursion P (xs ++ x ∷ [])
all_behind P [] x h p = (p, tt)
all_behind P (y ∷ ys) x h p = (h.0, all_behind P ys x h.1 p)

-- ---- what the grammar's own types are, which have no names here

abbrev first_of : {A B : Type 0} → (A → B) → Type 0
first_of {A = A} f = A

abbrev second_of : {A B C : Type 0} → (A → B → C) → Type 0
second_of {B = B} f = B

abbrev Version : Type 0
Version = first_of numerology_of

abbrev Setting : Type 0
Setting = second_of is_seen

-- ---- numerologies

abbrev IsSpacing : Numerology → Type 0
IsSpacing n = offsets_of n ≡ None → is_normal_code (code_of n) ≡ true

abbrev IsNormal : Spacing → Type 0
IsNormal s = is_normal_code (code_of_spacing s) ≡ true

too_great : (code k : ℕ) → nat_le code 4 ≡ true → (code == k) ≡ true → 5 ≤ k → ⊥
too_great code k h t low = let few = leb-true code 4 h in let same = eqb-true code k t in absurd (omega (arith, few, same, low))

spacing_normal : (code : ℕ) → is_normal_code code ≡ true → IfSome (spacing_of code) IsNormal
spacing_normal code h =
    some_if IsNormal (code == 0) (Some Khz15) _ (λ t. refl)
    (λ f. some_if IsNormal (code == 1) (Some Khz30) _ (λ t. refl)
    (λ f. some_if IsNormal (code == 2) (Some Khz60) _ (λ t. refl)
    (λ f. some_if IsNormal (code == 3) (Some Khz120) _ (λ t. refl)
    (λ f. some_if IsNormal (code == 4) (Some Khz240) _ (λ t. refl)
    (λ f. some_if IsNormal (code == 12) (Some Khz1x25) _ (λ t. absurd (too_great code 12 h t (omega arith)))
    (λ f. some_if IsNormal (code == 14) (Some Khz5) None (λ t. absurd (too_great code 14 h t (omega arith))) (λ f. tt)))))))

some_map : {A B : Type 0} (P : A → Type 0) (Q : B → Type 0) (f : A → B) (o : Option A) → IfSome o P → ((a : A) → P a → Q (f a)) → IfSome (option_map f o) Q
some_map P Q f None h g = tt
some_map P Q f (Some x) h g = g x h

ordinary_spaced : (code : ℕ) → IfSome (ordinary_of code) IsSpacing
ordinary_spaced code =
    some_if IsSpacing (is_normal_code code) (option_map ordinary_at (spacing_of code)) None
    (λ t. some_map IsNormal IsSpacing ordinary_at (spacing_of code) (spacing_normal code t) (λ s normal none. normal)) (λ f. tt)

offset_spaced : (code time_offset cp_length : ℕ) → IfSome (offset_of code time_offset cp_length) IsSpacing
offset_spaced code time_offset cp_length =
    some_map (λ _. Unit {0}) IsSpacing (offset_at time_offset cp_length) (spacing_of code) (some_any (spacing_of code)) (λ s u none. absurd (cc none))

numerology_spaced : (version : Version) (ws : List (List ℕ)) → IfSome (numerology_of version ws) IsSpacing
numerology_spaced version ws =
    some_if IsSpacing (is_ordinary ws) (ordinary_numerology ws) _
    (λ t. some_then (λ _. Unit {0}) IsSpacing (spacing_in (word_at ws 3)) (λ code. ordinary_of code) (some_any (spacing_in (word_at ws 3))) (λ code u. ordinary_spaced code))
    (λ f. some_if IsSpacing (is_offset ws) (offset_numerology ws) _
    (λ t. some_then (λ _. Unit {0}) IsSpacing (offset_spacing_of (word_at ws 3)) _ (some_any (offset_spacing_of (word_at ws 3))) (λ code u.
    some_then (λ _. Unit {0}) IsSpacing (number_in 0 65535 (word_at ws 7)) _ (some_any (number_in 0 65535 (word_at ws 7))) (λ time_offset v.
    some_then (λ _. Unit {0}) IsSpacing (number_in 0 65535 (word_at ws 8)) _ (some_any (number_in 0 65535 (word_at ws 8))) (λ cp_length w. offset_spaced code time_offset cp_length))))
    (λ g. some_if IsSpacing (is_extended version ws) (extended_numerology ws) None
    (λ t. some_if IsSpacing (bytes_eq (word_at ws 3) (codes "60")) (Some extended_of) None (λ u none. refl) (λ u. tt)) (λ k. tt)))

endpoint_spaced : (version : Version) (ws : List (List ℕ)) → IfSome (endpoint_of version ws) IsSpaced
endpoint_spaced version ws =
    some_then (λ _. Unit {0}) IsSpaced (hex_of 4 (word_at ws 1)) _ (some_any (hex_of 4 (word_at ws 1))) (λ id i.
    some_then IsSpacing IsSpaced (numerology_of version ws) _ (numerology_spaced version ws) (λ numerology spaced.
    some_then (λ _. Unit {0}) IsSpaced (number_in 1 CARRIER_PRBS (word_at ws 4)) _ (some_any (number_in 1 CARRIER_PRBS (word_at ws 4))) (λ prbs p.
    some_then (λ _. Unit {0}) IsSpaced (dynamic_of (word_at ws 5)) _ (some_any (dynamic_of (word_at ws 5))) (λ dynamic x.
    some_then (λ _. Unit {0}) IsSpaced (method_of (word_at ws 6)) _ (some_any (method_of (word_at ws 6))) (λ method m. spaced)))))

-- ---- what the lines before number n say

record IsSoFar (n : ℕ) (r : Said) : Type 0 where
  spaced : AllByRecursion IsSpaced r.endpoints
  numbers : AllByRecursion (λ m. m < n) r.plan_lines

next_number : (n : ℕ) (r : Said) → IsSoFar n r → IsSoFar (n + 1) r
next_number n r h = record { spaced = h.spaced; numbers = all_weaker (λ m. m < n) (λ m. m < n + 1) (λ m low. omega (arith, low)) r.plan_lines h.numbers }

module _ (n : ℕ) (r : Said) (h : IsSoFar (n + 1) r) where
  abbrev Q : Said → Type 0
  Q = IsSoFar (n + 1)

  endpoint_says : (ws : List (List ℕ)) → IfOk (endpoint_line r ws) (IsSoFar (n + 1))
  endpoint_says ws =
      ok_if Q (has_endpoint_count r.version ws) _ (Err why.Words)
      (λ t. ok_then IsSpaced Q (or_refuse (endpoint_of r.version ws) why.Number) _ (ok_or IsSpaced (endpoint_of r.version ws) why.Number (endpoint_spaced r.version ws)) (λ e spaced.
      ok_if Q (has_id e.id r.endpoints) (Err why.Twice) _ (λ u. tt)
      (λ f. ok_if Q (length r.endpoints == 16) (Err why.TooMany) _ (λ u. tt) (λ g. record { spaced = all_behind IsSpaced r.endpoints e h.spaced spaced; numbers = h.numbers }))))
      (λ f. tt)

  plan_says : (ws : List (List ℕ)) → IfOk (plan_line r n ws) (IsSoFar (n + 1))
  plan_says ws =
      counted_within Q 13 ws _
      (ok_then (λ _. Unit {0}) Q (or_refuse (plan_of ws) why.Number) _ (ok_any (or_refuse (plan_of ws) why.Number)) (λ line u.
      ok_if Q (length r.plan == PLAN_LINES) (Err why.TooMany) _ (λ t. tt)
      (λ f. record { spaced = h.spaced; numbers = all_behind (λ m. m < n + 1) r.plan_lines n h.numbers (omega arith) })))

  deliver_says : (ws : List (List ℕ)) → IfOk (deliver_line r ws) (IsSoFar (n + 1))
  deliver_says ws =
      ok_if Q (has_deliver_count ws) _ (Err why.Words)
      (λ t. ok_then (λ _. Unit {0}) Q (or_refuse (delivery_of ws) why.Number) _ (ok_any (or_refuse (delivery_of ws) why.Number)) (λ d u.
      ok_if Q (has_like d r.deliveries) (Err why.Twice) _ (λ v. tt) (λ f. record { spaced = h.spaced; numbers = h.numbers })))
      (λ f. tt)

  inject_says : (ws : List (List ℕ)) → IfOk (inject_line r ws) (IsSoFar (n + 1))
  inject_says ws =
      counted_within Q 4 ws _
      (ok_then (λ _. Unit {0}) Q (or_refuse (side_of (word_at ws 1)) why.Number) _ (ok_any (or_refuse (side_of (word_at ws 1)) why.Number)) (λ side u.
      ok_then (λ _. Unit {0}) Q (time_at 0 LAST_TIME ws 2) _ (ok_any (time_at 0 LAST_TIME ws 2)) (λ at v.
      ok_then (λ _. Unit {0}) Q (or_refuse (frame_of (word_at ws 3)) why.Number) _ (ok_any (or_refuse (frame_of (word_at ws 3)) why.Number)) (λ frame w.
      record { spaced = h.spaced; numbers = h.numbers }))))

  measure_says : (ws : List (List ℕ)) → IfOk (measure_line r ws) (IsSoFar (n + 1))
  measure_says ws =
      counted_within Q 5 ws _
      (ok_then (λ _. Unit {0}) Q (or_refuse (measure_of ws) why.Number) _ (ok_any (or_refuse (measure_of ws) why.Number)) (λ m u.
      ok_if Q (has_measure m.id r.measures) (Err why.Twice) _ (λ t. tt) (λ f. record { spaced = h.spaced; numbers = h.numbers })))

  setting_says : (s : Setting) (ws : List (List ℕ)) → IfOk (setting_line r s ws) (IsSoFar (n + 1))
  setting_says s ws =
      ok_if Q (is_seen r s) (Err why.Twice) _ (λ t. tt)
      (λ f. ok_then (λ _. Unit {0}) Q (set_of r.version r.settings s ws) _ (ok_any (set_of r.version r.settings s ws)) (λ settings u. record { spaced = h.spaced; numbers = h.numbers }))

  abbrev IsSaid : List (List ℕ) → Kind → Type 0
  IsSaid ws k = IfOk (keyword_line r n k ws) Q

  configured_says : (ws : List (List ℕ)) (o : Option Setting) → IfSome (configuring o) (IsSaid ws)
  configured_says ws None = tt
  configured_says ws (Some s) = setting_says s ws

  keyword_says : (version : Version) (ws : List (List ℕ)) → IfSome (keyword_of version ws) (IsSaid ws)
  keyword_says version ws =
      some_if (IsSaid ws) (bytes_eq (word_at ws 0) (codes "endpoint")) _ _ (λ t. endpoint_says ws)
      (λ f. some_if (IsSaid ws) (bytes_eq (word_at ws 0) (codes "plan")) _ _ (λ t. plan_says ws)
      (λ f. some_if (IsSaid ws) (bytes_eq (word_at ws 0) (codes "deliver")) _ _ (λ t. deliver_says ws)
      (λ f. some_if (IsSaid ws) (bytes_eq (word_at ws 0) (codes "inject")) _ _ (λ t. inject_says ws)
      (λ f. some_if (IsSaid ws) (bytes_eq (word_at ws 0) (codes "measure")) _ _ (λ t. measure_says ws)
      (λ f. some_if (IsSaid ws) (bytes_eq (word_at ws 0) (codes "transit")) _ _ (λ t. configured_says ws (transit_of (word_at ws 1)))
      (λ f. configured_says ws (setting_of version (word_at ws 0))))))))

  later_says : (ws : List (List ℕ)) → IfOk (later_line r n ws) (IsSoFar (n + 1))
  later_says ws =
      ok_if Q (is_skipped ws) (Ok r) _ (λ t. h)
      (λ f. ok_then (IsSaid ws) Q (or_refuse (keyword_of r.version ws) why.UnknownWord) _ (ok_or (IsSaid ws) (keyword_of r.version ws) why.UnknownWord (keyword_says r.version ws)) (λ k said.
      ok_if Q (comes_late r k) (Err why.Order) _ (λ t. tt) (λ g. said)))

  first_says : (ws : List (List ℕ)) → IfOk (first_line r ws) (IsSoFar (n + 1))
  first_says ws =
      ok_then (λ _. Unit {0}) Q (or_refuse (version_of ws) why.FirstLine) _ (ok_any (or_refuse (version_of ws) why.FirstLine)) (λ version u. record { spaced = h.spaced; numbers = h.numbers })

  line_says : (line : List ℕ) → IfOk (line_of r n line) (IsSoFar (n + 1))
  unfolding line_of
  line_says line =
      ok_if Q (is_text line) (words_line r n (words_of line)) (Err why.NotText)
      (λ t. ok_if Q (n == 1) (first_line r (words_of line)) (later_line r n (words_of line)) (λ u. first_says (words_of line)) (λ u. later_says (words_of line)))
      (λ f. tt)

-- ---- all lines

after_says : (x : Result Said DocWhy) (next : Said → Result Document (ℕ × DocWhy)) (m n : ℕ) (P : Document → Type 0) → IfOk x (IsSoFar m)
    → ((r : Said) → IsSoFar m r → IfOk (next r) P) → IfOk (after_line x next (λ why. Err (n, why))) P
after_says (Ok r) next m n P h f = f r h
after_says (Err w) next m n P h f = tt

lines_say : (lines : List (List ℕ)) (n most : ℕ) (r : Said) → n + length lines ≤ most + 1 → IsSoFar n r → IfOk (read_from n r lines) (IsWritten most)
lines_say [] n most r room h =
    record { spaced = h.spaced; numbers = all_weaker (λ m. m < n) (λ m. m ≤ most) (λ m low. omega (arith, room, low)) r.plan_lines h.numbers }
lines_say (line ∷ lines) n most r room h =
    after_says (line_of r n line) (λ next. read_from (n + 1) next lines) (n + 1) n (IsWritten most) (line_says n r (next_number n r h) line)
    (λ next p. lines_say lines (n + 1) most next (omega (arith, room)) p)

-- ---- how many lines there are

first_length : (x : ℕ) (ls : List (List ℕ)) → length (onto_first x ls) ≤ length ls + 1
first_length x [] = omega arith
first_length x (l ∷ ls) = omega arith

cut_length : (b : Bool) (x : ℕ) (ls : List (List ℕ)) → length (cond b ([] ∷ ls) (onto_first x ls)) ≤ length ls + 1
cut_length true x ls = omega arith
cut_length false x ls = first_length x ls

split_length : (p : ℕ → Bool) (xs : List ℕ) → length (slice_split p xs) ≤ length xs + 1
split_length p [] = omega arith
split_length p (x ∷ xs) = let one = cut_length (p x) x (slice_split p xs) in let more = split_length p xs in omega (arith, one, more)

without_by : (b : Bool) (n : ℕ) (text : List ℕ) → length (if b then take n text else text) ≤ length text
without_by true n text = let is = length-take n text in omega (arith, is)
without_by false n text = omega arith

empty_or : (b : Bool) (w : ℕ × DocWhy) (x : Result Document (ℕ × DocWhy)) (P : Document → Type 0) → IfOk x P → IfOk (if b then Err w else x) P
empty_or true w x P h = tt
empty_or false w x P h = h

all_says : (text : List ℕ) → IfOk (document_of text) (IsWritten (length text + 1))
all_says text =
    let cut = without_last_feed text in
    let shorter = without_by (slice_index text (length text - 1) == 10) (length text - 1) text in
    let few = split_length (λ b. b == 10) cut in
    empty_or (length text == 0) (1, why.FirstLine) _ (IsWritten (length text + 1))
    (lines_say (slice_split (λ b. b == 10) cut) 1 (length text + 1) start (omega (arith, shorter, few)) (record { spaced = tt; numbers = tt }))

pub documents_are_written : DocumentsAreWritten
documents_are_written text d is = subst (λ (x : Result Document (ℕ × DocWhy)). IfOk x (IsWritten (length text + 1))) is (all_says text)
