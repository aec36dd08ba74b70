-- A generated text is lines, each of words with one space between two.
use Rattle.std.proofs.Common.{◌≡◌, ℕ, zero, suc, ◌+◌, ◌*◌, ◌/◌, ◌%◌, ◌==◌, Bool, true, false, if◌then◌else◌, List, [], ◌∷◌, ◌++◌, map, refl, ap, ap₂, sym, ◌∙◌, arith, append_assoc}
use Rattle.std.specs.Prelude.{codes, decimal}
use Rattle.std.specs.Fmt.{digits}
use Rattle.std.proofs.lemmas.List.{map-append}
use Rattle.fh_base.specs.Words.{hex4_text}
use Rattle.window_config.specs.declared.plan.PlanKind.TheVariants.{Down, Up}
use Rattle.window_config.specs.declared.plan.PlanLine.{PlanLine}
use Rattle.fh_document.specs.declared.delivered.Delivery.{Delivery}
use Rattle.line_words.specs.Each.{each}
use Rattle.fh_document.specs.Generated as text
use Rattle.fh_document.specs.Joined.{fed, spaced}
use Rattle.fh_document.specs.LineWords.{deliver_words, plan_kind_word, plan_words}
use Rattle.generated_laws.specs.Plans.{line_of, lines_from}
use Rattle.generated_laws.specs.Documents.{deliveries_from, delivery_of}

-- ---- lines

abbrev pub plan_line : PlanLine → List ℕ
plan_line line = spaced (plan_words line)

abbrev pub deliver_line : Delivery → List ℕ
deliver_line d = spaced (deliver_words d)

abbrev pub tone_line : List ℕ → ℕ → List ℕ
tone_line keyword seed = spaced (keyword ∷ decimal seed ∷ codes "1000" ∷ [])

abbrev pub endpoint_line : ℕ → List ℕ
endpoint_line e = spaced (codes "endpoint" ∷ hex4_text e ∷ codes "ordinary" ∷ codes "30" ∷ codes "106" ∷ codes "static" ∷ codes "bfp9" ∷ [])

abbrev pub opening : ℕ → List (List ℕ) → List (List ℕ)
opening seed rest =
    codes "fronthaul 1" ∷ tone_line (codes "source") seed ∷ tone_line (codes "antenna") seed ∷ endpoint_line 0 ∷ endpoint_line 1 ∷ endpoint_line 2 ∷ endpoint_line 3 ∷ rest

abbrev pub all_lines : ℕ → ℕ → List (List ℕ)
all_lines seed slots = opening seed (map plan_line (lines_from 0 slots) ++ map deliver_line (deliveries_from seed 0 slots))

-- ---- each text is its line

tone_is : (keyword : List ℕ) (seed : ℕ) → text.tone_text keyword seed ≡ tone_line keyword seed ++ 10 ∷ []
tone_is keyword seed = grouped keyword (32 ∷ decimal seed) (codes " 1000") (10 ∷ [])
  where
    grouped : (k s e n : List ℕ) → (k ++ s) ++ (e ++ n) ≡ (k ++ (s ++ e)) ++ n
    grouped k s e n = simp append_assoc

kind_is : (b : Bool) → (if b then codes "ul " else codes "dl ") ≡ plan_kind_word (if b then Up else Down) ++ 32 ∷ []
kind_is true = refl
kind_is false = refl

plan_grouped : (p w o h a b c l s e n : List ℕ) → (((((p ++ (w ++ o)) ++ h) ++ ((a ++ b) ++ c)) ++ l) ++ s) ++ (e ++ n)
    ≡ (p ++ (w ++ (o ++ (h ++ (a ++ (b ++ (c ++ (l ++ (s ++ e))))))))) ++ n
plan_grouped p w o h a b c l s e n = simp append_assoc

plan_is : (n e : ℕ) → text.plan_text n e ≡ plan_line (line_of n e) ++ 10 ∷ []
unfolding text.kind_words text.slot_text digits
plan_is n e =
    ap (λ (k : List ℕ). ((((codes "plan " ++ k) ++ hex4_text e) ++ (((32 ∷ decimal (1 + n / 20)) ++ (32 ∷ decimal (n / 2 % 10))) ++ (32 ∷ decimal (n % 2)))) ++ codes " 0 14 0 106 fff" ++ (32 ∷ decimal (1 + n % 4000))) ++ codes " 0\n")
    (kind_is (n % 4 == 3))
    ∙ plan_grouped (codes "plan ") (plan_kind_word (line_of n e).kind) (32 ∷ []) (hex4_text e) (32 ∷ decimal (1 + n / 20)) (32 ∷ decimal (n / 2 % 10)) (32 ∷ decimal (n % 2))
    (codes " 0 14 0 106 fff") (32 ∷ decimal (1 + n % 4000)) (codes " 0") (10 ∷ [])

deliver_is : (seed j : ℕ) → text.deliver_text seed j ≡ deliver_line (delivery_of seed j) ++ 10 ∷ []
unfolding digits
deliver_is seed j = grouped (codes "deliver dl u") (32 ∷ decimal (1 + 10 * j + seed % 10)) (codes " 50000 60000") (10 ∷ [])
  where
    grouped : (k s e n : List ℕ) → (k ++ s) ++ (e ++ n) ≡ (k ++ (s ++ e)) ++ n
    grouped k s e n = simp append_assoc

-- ---- all lines

fed_append : (xs ys : List (List ℕ)) → fed (xs ++ ys) ≡ fed xs ++ fed ys
fed_append [] ys = refl
fed_append (x ∷ xs) ys = ap (λ t. x ++ 10 ∷ t) (fed_append xs ys) ∙ sym (append_assoc x (10 ∷ fed xs) (fed ys))

-- the lines of the numbers below n, in their order
unfoldable ordered : (ℕ → List (List ℕ)) → ℕ → List (List ℕ)
ordered lines zero = []
ordered lines (suc n) = ordered lines n ++ lines n

each_fed : (of : ℕ → List ℕ) (lines : ℕ → List (List ℕ)) → ((n : ℕ) → of n ≡ fed (lines n)) → (n : ℕ) → each of n ≡ fed (ordered lines n)
unfolding each ordered
each_fed of lines is zero = refl
each_fed of lines is (suc n) = ap₂ (λ (xs ys : List ℕ). xs ++ ys) (each_fed of lines is n) (is n) ∙ sym (fed_append (ordered lines n) (lines n))

abbrev slot_lines : ℕ → List PlanLine
slot_lines n = line_of n 0 ∷ line_of n 1 ∷ line_of n 2 ∷ line_of n 3 ∷ []

four_texts : (n : ℕ) → text.plans_text n ≡ fed (map plan_line (slot_lines n))
unfolding each
four_texts n =
    ap₂ (λ (xs ys : List ℕ). xs ++ ys) (ap₂ (λ (xs ys : List ℕ). xs ++ ys) (ap₂ (λ (xs ys : List ℕ). xs ++ ys) (plan_is n 0) (plan_is n 1)) (plan_is n 2)) (plan_is n 3)
    ∙ grouped (plan_line (line_of n 0)) (plan_line (line_of n 1)) (plan_line (line_of n 2)) (plan_line (line_of n 3))
  where
    grouped : (p q r s : List ℕ) → (((p ++ 10 ∷ []) ++ (q ++ 10 ∷ [])) ++ (r ++ 10 ∷ [])) ++ (s ++ 10 ∷ []) ≡ p ++ 10 ∷ (q ++ 10 ∷ (r ++ 10 ∷ (s ++ 10 ∷ [])))
    grouped p q r s = simp append_assoc

-- one slot more at the end
lines_more : (n count : ℕ) → lines_from n (suc count) ≡ lines_from n count ++ slot_lines (n + count)
unfolding lines_from
lines_more n zero = let e : n ≡ n + 0 = omega arith in ap slot_lines e
lines_more n (suc count) =
    let e : n + 1 + count ≡ n + suc count = omega arith in
    ap (λ (ls : List PlanLine). line_of n 0 ∷ line_of n 1 ∷ line_of n 2 ∷ line_of n 3 ∷ ls) (lines_more (n + 1) count ∙ ap (λ k. lines_from (n + 1) count ++ slot_lines k) e)

plans_ordered : (n : ℕ) → ordered (λ k. map plan_line (slot_lines k)) n ≡ map plan_line (lines_from 0 n)
unfolding ordered lines_from
plans_ordered zero = refl
plans_ordered (suc n) =
    let e : n ≡ 0 + n = omega arith in
    ap₂ (λ (xs ys : List (List ℕ)). xs ++ ys) (plans_ordered n) (ap (λ k. map plan_line (slot_lines k)) e)
    ∙ sym (map-append plan_line (lines_from 0 n) (slot_lines (0 + n)))
    ∙ ap (map plan_line) (sym (lines_more 0 n))

deliveries_more : (seed j count : ℕ) → deliveries_from seed j (suc count) ≡ deliveries_from seed j count ++ delivery_of seed (j + count) ∷ []
unfolding deliveries_from
deliveries_more seed j zero = let e : j ≡ j + 0 = omega arith in ap (λ k. delivery_of seed k ∷ []) e
deliveries_more seed j (suc count) =
    let e : j + 1 + count ≡ j + suc count = omega arith in
    ap (λ (ds : List Delivery). delivery_of seed j ∷ ds) (deliveries_more seed (j + 1) count ∙ ap (λ k. deliveries_from seed (j + 1) count ++ delivery_of seed k ∷ []) e)

deliveries_ordered : (seed n : ℕ) → ordered (λ j. deliver_line (delivery_of seed j) ∷ []) n ≡ map deliver_line (deliveries_from seed 0 n)
unfolding ordered deliveries_from
deliveries_ordered seed zero = refl
deliveries_ordered seed (suc n) =
    let e : n ≡ 0 + n = omega arith in
    ap₂ (λ (xs ys : List (List ℕ)). xs ++ ys) (deliveries_ordered seed n) (ap (λ k. deliver_line (delivery_of seed k) ∷ []) e)
    ∙ sym (map-append deliver_line (deliveries_from seed 0 n) (delivery_of seed (0 + n) ∷ []))
    ∙ ap (map deliver_line) (sym (deliveries_more seed 0 n))

-- ---- the whole text

endpoints_are : (rest : List ℕ) → each text.endpoint_text 4 ++ rest ≡ endpoint_line 0 ++ 10 ∷ (endpoint_line 1 ++ 10 ∷ (endpoint_line 2 ++ 10 ∷ (endpoint_line 3 ++ 10 ∷ rest)))
unfolding each
endpoints_are rest = refl

pub text_is : (seed slots : ℕ) → text.generated seed slots ≡ fed (all_lines seed slots)
text_is seed slots =
    let plans = map plan_line (lines_from 0 slots) in
    let deliveries = map deliver_line (deliveries_from seed 0 slots) in
    let plans_is : each text.plans_text slots ≡ fed plans = each_fed text.plans_text (λ k. map plan_line (slot_lines k)) four_texts slots ∙ ap fed (plans_ordered slots) in
    let deliveries_is : each (text.deliver_text seed) slots ≡ fed deliveries =
    each_fed (text.deliver_text seed) (λ j. deliver_line (delivery_of seed j) ∷ []) (deliver_is seed) slots ∙ ap fed (deliveries_ordered seed slots) in
    ap₂ (λ (p d : List ℕ). ((text.opening_text seed ++ each text.endpoint_text 4) ++ p) ++ d) plans_is deliveries_is
    ∙ regroup (text.opening_text seed) (each text.endpoint_text 4) (fed plans) (fed deliveries)
    ∙ ap (λ (r : List ℕ). text.opening_text seed ++ (each text.endpoint_text 4 ++ r)) (sym (fed_append plans deliveries))
    ∙ ap (λ (r : List ℕ). text.opening_text seed ++ r) (endpoints_are (fed (plans ++ deliveries)))
    ∙ opening_is (endpoint_line 0 ++ 10 ∷ (endpoint_line 1 ++ 10 ∷ (endpoint_line 2 ++ 10 ∷ (endpoint_line 3 ++ 10 ∷ fed (plans ++ deliveries)))))
  where
    regroup : (o e p d : List ℕ) → ((o ++ e) ++ p) ++ d ≡ o ++ (e ++ (p ++ d))
    regroup o e p d = simp append_assoc

    opening_grouped : (f s a n r : List ℕ) → (((f ++ n) ++ (s ++ n)) ++ (a ++ n)) ++ r ≡ f ++ (n ++ (s ++ (n ++ (a ++ (n ++ r)))))
    opening_grouped f s a n r = simp append_assoc

    opening_is : (rest : List ℕ) → text.opening_text seed ++ rest ≡ codes "fronthaul 1" ++ 10 ∷ (tone_line (codes "source") seed ++ 10 ∷ (tone_line (codes "antenna") seed ++ 10 ∷ rest))
    opening_is rest =
        ap₂ (λ (s a : List ℕ). ((codes "fronthaul 1\n" ++ s) ++ a) ++ rest) (tone_is (codes "source") seed) (tone_is (codes "antenna") seed)
        ∙ opening_grouped (codes "fronthaul 1") (tone_line (codes "source") seed) (tone_line (codes "antenna") seed) (10 ∷ []) rest
