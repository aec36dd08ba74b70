-- A generated text is read as the document that it says.
use Rattle.std.proofs.Common.{◌≡◌, ℕ, pos, zero, suc, ◌+◌, ◌*◌, ◌%◌, ◌<◌, ◌≤◌, ◌^◌, true, ◌==◌, List, [], ◌∷◌, ◌++◌, length, map, refl, ap, ◌∙◌, arith}
use Rattle.std.specs.Prelude.{codes, decimal, Option, Result, Ok, Err, All}
use Rattle.std.specs.Fmt.{digits}
use Rattle.std.specs.List.{list_all, slice_set}
use Rattle.air_source.specs.declared.tones.Tone.{Tone}
use Rattle.std.proofs.lemmas.Int.{ints}
use Rattle.std.proofs.lemmas.List.Elements.{All-cons, All-head, All-nil, All-tail}
use Rattle.std.proofs.lemmas.List.Folds.{list_all-append}
use Rattle.fh_base.proofs.Orders.{both_true, if_not, not_none}
use Rattle.window_config.specs.declared.plan.PlanLine.{PlanLine}
use Rattle.fh_document.specs.declared.refusals.DocWhy.{DocWhy}
use Rattle.fh_document.specs.declared.refusals.DocWhy.TheVariants as why
use Rattle.fh_document.specs.Document.{after_line, document_of, finished, read_from}
use Rattle.fh_document.specs.Lines.{line_of, start}
use Rattle.fh_document.specs.Proper.{IsDelivery, IsFrom}
use Rattle.fh_document.specs.declared.config_lines.TheConstants.{MOST_TRANSIT}
use Rattle.fh_document.specs.Refusals.{or_refuse, ◌>>=◌}
use Rattle.fh_document.specs.Steps.{Said}
use Rattle.fh_document.specs.Words.{is_text, number_in}
use Rattle.fh_document.specs.Joined.{fed, is_word}
use Rattle.fh_document.specs.LineWords.{deliver_words, plan_words}
use Rattle.fh_document.proofs.JoinLemmas.{lines_are, words_text}
use Rattle.fh_document.proofs.LineLemmas.{line_is}
use Rattle.fh_document.proofs.NumberLemmas.{decimal_word, number_is}
use Rattle.fh_document.proofs.PlanLemmas.{plan_visible}
use Rattle.generated_laws.specs.Plans.{four, line_of as plan_line_of, lines_from}
use Rattle.generated_laws.specs.Documents.{deliveries_from, delivery_of, numbers_from, GeneratedAreRead}
use Rattle.generated_laws.proofs.Steps.{AreRising, CanRead, deliveries_read, plans_read}
use Rattle.generated_laws.proofs.Texts.{all_lines, deliver_line, endpoint_line, opening, plan_line, text_is, tone_line}
use Rattle.fh_document.proofs.InjectLemmas.{first_read}

-- ---- the lines of the plan

can_read : (n e : ℕ) → n < 400 → e < 4 → CanRead (plan_line_of n e)
can_read n e few is = record {
  is = record {
    frame = record { low = omega (arith, ints); high = omega (arith, ints, few) };
    subframe = omega arith;
    slot = omega arith;
    symbol = omega arith;
    count = omega arith;
    start_prb = omega arith;
    num_prb = omega arith;
    mask = omega arith;
    section = omega arith;
    beam = omega arith;
  };
  id = omega (arith, is);
  prbs = omega arith;
}

all_can : (n count : ℕ) → n + count ≤ 400 → All CanRead (lines_from n count)
unfolding lines_from
all_can n zero fits = All-nil CanRead
all_can n (suc count) fits =
    let here : n < 400 = omega (arith, fits) in
    let later : n + 1 + count ≤ 400 = omega (arith, fits) in
    let l3 = plan_line_of n 3 ∷ lines_from (n + 1) count in
    let l2 = plan_line_of n 2 ∷ l3 in
    let l1 = plan_line_of n 1 ∷ l2 in
    All-cons CanRead (plan_line_of n 0) l1 (can_read n 0 here (omega arith)) (All-cons CanRead (plan_line_of n 1) l2 (can_read n 1 here (omega arith))
    (All-cons CanRead (plan_line_of n 2) l3 (can_read n 2 here (omega arith)) (All-cons CanRead (plan_line_of n 3) (lines_from (n + 1) count) (can_read n 3 here (omega arith)) (all_can (n + 1) count later))))

how_many : (n count : ℕ) → length (lines_from n count) ≡ 4 * count
unfolding lines_from
how_many n zero = refl
how_many n (suc count) = (let e = how_many (n + 1) count in omega (arith, e))

-- ---- the deliver lines

is_delivery : (seed j : ℕ) → j < 400 → IsDelivery (delivery_of seed j)
is_delivery seed j few = record {
  some = omega arith;
  most = omega (arith, few);
  few = omega arith;
  times = All-cons (IsFrom 0 MOST_TRANSIT) (pos 50000) (pos 60000 ∷ []) (record { low = omega (arith, ints); high = omega (arith, ints) })
      (All-cons (IsFrom 0 MOST_TRANSIT) (pos 60000) [] (record { low = omega (arith, ints); high = omega (arith, ints) }) (All-nil (IsFrom 0 MOST_TRANSIT)));
}

all_deliveries : (seed j count : ℕ) → j + count ≤ 400 → All IsDelivery (deliveries_from seed j count)
unfolding deliveries_from
all_deliveries seed j zero fits = All-nil IsDelivery
all_deliveries seed j (suc count) fits =
    All-cons IsDelivery (delivery_of seed j) (deliveries_from seed (j + 1) count) (is_delivery seed j (omega (arith, fits))) (all_deliveries seed (j + 1) count (omega (arith, fits)))

are_rising : (seed j count low : ℕ) → low < 1 + 10 * j + seed % 10 → AreRising low (deliveries_from seed j count)
unfolding deliveries_from
are_rising seed j zero low h = tt
are_rising seed j (suc count) low h = (h, are_rising seed (j + 1) count (1 + 10 * j + seed % 10) (omega arith))

-- ---- all lines are text

plan_texts : (lines : List PlanLine) → All CanRead lines → list_all is_text (map plan_line lines) ≡ true
plan_texts [] h = refl
plan_texts (l ∷ lines) h =
    let this = All-head CanRead l lines h in
    both_true _ _ (words_text (plan_words l) (plan_visible l this.is this.prbs)) (plan_texts lines (All-tail CanRead l lines h))

deliver_text : (seed j : ℕ) → j < 400 → is_text (deliver_line (delivery_of seed j)) ≡ true
unfolding digits
deliver_text seed j few = words_text (deliver_words (delivery_of seed j)) (both_true (is_word (decimal (1 + 10 * j + seed % 10))) _ (decimal_word (1 + 10 * j + seed % 10) (omega (arith, few))) refl)

deliver_texts : (seed j count : ℕ) → j + count ≤ 400 → list_all is_text (map deliver_line (deliveries_from seed j count)) ≡ true
unfolding deliveries_from
deliver_texts seed j zero fits = refl
deliver_texts seed j (suc count) fits = both_true _ _ (deliver_text seed j (omega (arith, fits))) (deliver_texts seed (j + 1) count (omega (arith, fits)))

tone_words : (keyword : List ℕ) (seed : ℕ) → seed < 2 ^ 32 → is_word keyword ≡ true → list_all is_word (keyword ∷ decimal seed ∷ codes "1000" ∷ []) ≡ true
tone_words keyword seed small h = both_true _ _ h (both_true _ _ (decimal_word seed (omega (arith, small))) refl)

-- ---- the first seven lines

abbrev tone_of_seed : ℕ → Tone
tone_of_seed seed = record { seed = seed; amplitude = 1000 }

-- what they say
abbrev sourced : ℕ → Said
sourced seed = record start { settings = record start.settings { source = tone_of_seed seed }; seen = slice_set start.seen 11 true }

abbrev toned : ℕ → Said
toned seed = record (sourced seed) { settings = record (sourced seed).settings { antenna = tone_of_seed seed }; seen = slice_set (sourced seed).seen 12 true }

abbrev opened : ℕ → Said
opened seed = record (toned seed) { endpoints = four }

abbrev toned_by : {A : Type 0} → (Tone → Result A DocWhy) → (A → Result Said DocWhy) → Option ℕ → Result Said DocWhy
toned_by set next o =
    ((or_refuse o why.Number >>= (λ s. or_refuse (number_in 1 32768 (codes "1000")) why.Number >>= (λ a. let t : Tone = record { seed = s; amplitude = a } in Ok t))) >>= set) >>= next

source_read : (seed : ℕ) → seed < 2 ^ 32 → line_of start 2 (tone_line (codes "source") seed) ≡ Ok (sourced seed)
source_read seed small =
    line_is start 2 _ (codes "source" ∷ decimal seed ∷ codes "1000" ∷ []) (λ e. cc) (tone_words (codes "source") seed small refl) refl refl (omega arith)
    ∙ ap (λ o. toned_by (λ t. Ok (record start.settings { source = t })) (λ s. Ok (record start { settings = s; seen = slice_set start.seen 11 true })) o)
    (number_is 0 4294967295 seed (omega arith) (omega (arith, small)) (omega (arith, small)))

antenna_read : (seed : ℕ) → seed < 2 ^ 32 → line_of (sourced seed) 3 (tone_line (codes "antenna") seed) ≡ Ok (toned seed)
antenna_read seed small =
    line_is (sourced seed) 3 _ (codes "antenna" ∷ decimal seed ∷ codes "1000" ∷ []) (λ e. cc) (tone_words (codes "antenna") seed small refl) refl refl (omega arith)
    ∙ ap (λ o. toned_by (λ t. Ok (record (sourced seed).settings { antenna = t })) (λ s. Ok (record (sourced seed) { settings = s; seen = slice_set (sourced seed).seen 12 true })) o)
    (number_is 0 4294967295 seed (omega arith) (omega (arith, small)) (omega (arith, small)))

endpoints_read : (seed : ℕ) (rest : List (List ℕ)) → read_from 4 (toned seed) (endpoint_line 0 ∷ endpoint_line 1 ∷ endpoint_line 2 ∷ endpoint_line 3 ∷ rest) ≡ read_from 8 (opened seed) rest
unfolding line_of
endpoints_read seed rest = refl

opening_read : (seed : ℕ) (rest : List (List ℕ)) → seed < 2 ^ 32 → read_from 1 start (opening seed rest) ≡ read_from 8 (opened seed) rest
opening_read seed rest small =
    let endpoints = endpoint_line 0 ∷ endpoint_line 1 ∷ endpoint_line 2 ∷ endpoint_line 3 ∷ rest in
    first_read (tone_line (codes "source") seed ∷ tone_line (codes "antenna") seed ∷ endpoints)
    ∙ ap (λ x. after_line x (λ s. read_from 3 s (tone_line (codes "antenna") seed ∷ endpoints)) (λ w. Err (2, w))) (source_read seed small)
    ∙ ap (λ x. after_line x (λ s. read_from 4 s endpoints) (λ w. Err (3, w))) (antenna_read seed small)
    ∙ endpoints_read seed rest

opening_texts : (seed : ℕ) (rest : List (List ℕ)) → seed < 2 ^ 32 → list_all is_text rest ≡ true → list_all is_text (opening seed rest) ≡ true
opening_texts seed rest small h =
    both_true _ _ (words_text (codes "source" ∷ decimal seed ∷ codes "1000" ∷ []) (tone_words (codes "source") seed small refl))
    (both_true _ _ (words_text (codes "antenna" ∷ decimal seed ∷ codes "1000" ∷ []) (tone_words (codes "antenna") seed small refl)) h)

-- ---- all lines

pub are_read : GeneratedAreRead
are_read seed slots small some most =
    let lines = lines_from 0 slots in
    let ds = deliveries_from seed 0 slots in
    let can = all_can 0 slots (omega (arith, most)) in
    let deliveries = all_deliveries seed 0 slots (omega (arith, most)) in
    let rest = map plan_line lines ++ map deliver_line ds in
    let many = how_many 0 slots in
    let fits : 0 + length lines ≤ 65536 = omega (arith, many, most) in
    let texts = opening_texts seed rest small (list_all-append is_text (map plan_line lines) (map deliver_line ds) ∙ both_true _ _ (plan_texts lines can) (deliver_texts seed 0 slots (omega (arith, most)))) in
    ap document_of (text_is seed slots)
    ∙ if_not (length (fed (all_lines seed slots)) == 0) (Err (1, why.FirstLine)) _ (not_none (length (fed (all_lines seed slots))) (omega arith))
    ∙ ap (read_from 1 start) (lines_are (all_lines seed slots) (omega arith) texts)
    ∙ opening_read seed rest small
    ∙ plans_read (opened seed) 8 lines (map deliver_line ds) (omega arith) refl refl refl can fits
    ∙ deliveries_read (record (opened seed) { plan = lines; plan_lines = numbers_from 8 (length lines) }) (8 + length lines) 0 ds (omega arith) refl refl deliveries (λ x m. absurd m) (are_rising seed 0 slots 0 (omega arith))
    ∙ ap (λ k. Ok (finished (record (opened seed) { plan = lines; plan_lines = numbers_from 8 k; deliveries = ds }))) many
