-- What eAxC ids and lines of a plan, of deliveries and of measurements say is within its limits.
use Rattle.std.proofs.Common.{◌≡◌, ℕ, suc, ◌+◌, ◌*◌, ◌-◌, ◌≤◌, ◌<◌, ◌^◌, List, [], ◌∷◌, ◌++◌, length, drop, Bool, true, false, ◌&&◌, ◌||◌, Option, Some, None, refl, ap, ◌∙◌, arith, nat_le, nat_lt}
use Rattle.std.specs.Prelude.{ℤ, pos, IfSome, ◌==◌, All}
use Rattle.std.proofs.lemmas.Bool.Decides.{nat_tests}
use Rattle.std.proofs.lemmas.List.{length-drop}
use Rattle.std.proofs.lemmas.List.Elements.{All-nil, All-cons}
use Rattle.std.specs.Char.{digit_value}
use Rattle.std.specs.Str.Parse.{digits_value}
use Rattle.fh_base.specs.declared.values.Slot.{Slot}
use Rattle.fh_document.specs.declared.delivered.Delivery.{Delivery}
use Rattle.fh_document.specs.Words.{number_in}
use Rattle.fh_document.specs.Hex.{is_hex, hex_of}
use Rattle.fh_document.specs.EndpointLines.{taking}
use Rattle.fh_document.specs.InjectLines.{side_of}
use Rattle.fh_document.specs.PlanLines.{plan_kind_of, slot_of, symbols_of, prbs_of, section_of, plan_of}
use Rattle.fh_document.specs.Delivered.{is_like, has_like, way_number, class_number}
use Rattle.fh_document.specs.DeliverLines.{class_of, least_of, times_of, has_deliver_count, delivery_of}
use Rattle.fh_document.specs.MeasureLines.{unit_of, kind_of, measure_of}
use Rattle.fh_document.specs.Proper.{IsFrom, IsPlanLine, IsDelivery, AreApart, IsMeasure}
use Rattle.fh_document.proofs.Bounds.{some_if, some_then, some_any, Within, number_within, from_number}
use Rattle.fh_base.specs.declared.nanoseconds.TheConstants.{LAST_TIME}
use Rattle.fh_document.specs.declared.config_lines.TheConstants.{MOST_TRANSIT}
use Rattle.fh_document.specs.declared.deliver_lines.TheConstants.{MOST_NUMBER}
use Rattle.window_config.specs.declared.plan.TheConstants.{LAST_FRAME}
use Rattle.fh_base.proofs.Orders.{both as both_true}
use Rattle.fh_base.specs.Numbers.{word_at}

with_word : {B : Type 0} (Q : B → Type 0) (low high : ℕ) (w : List ℕ) (next : ℕ → Option B) → ((n : ℕ) → Within low high n → IfSome (next n) Q)
    → IfSome (taking (number_in low high w) next) Q
with_word Q low high w next f = some_then (Within low high) Q (number_in low high w) next (number_within low high w) f

-- ---- eAxC ids

digit_small : (a : ℕ) → nat_lt a 16 ≡ true → a < 16
digit_small a e = grind (arith, nat_tests)

four_digits : (a b c d : ℕ) → a < 16 → b < 16 → c < 16 → d < 16 → (((0 * 16 + a) * 16 + b) * 16 + c) * 16 + d < 2 ^ 16
four_digits a b c d h i j k = omega arith

four_small : (w : List ℕ) → length w ≡ 4 → is_hex w ≡ true → digits_value 16 w < 2 ^ 16
four_small [] l h = absurd (cc l)
four_small (a ∷ []) l h = absurd (cc l)
four_small (a ∷ b ∷ []) l h = absurd (cc l)
four_small (a ∷ b ∷ c ∷ []) l h = absurd (cc l)
four_small (a ∷ b ∷ c ∷ d ∷ []) l h =
    let first = both_true (nat_lt (digit_value a) 16) _ h in
    let second = both_true (nat_lt (digit_value b) 16) _ first.1 in
    let third = both_true (nat_lt (digit_value c) 16) _ second.1 in
    let fourth = both_true (nat_lt (digit_value d) 16) _ third.1 in
    four_digits (digit_value a) (digit_value b) (digit_value c) (digit_value d) (digit_small _ first.0) (digit_small _ second.0) (digit_small _ third.0) (digit_small _ fourth.0)
four_small (a ∷ b ∷ c ∷ d ∷ e ∷ w) l h = absurd (omega arith)

-- four hexadecimal digits
pub id_in : (w : List ℕ) → IfSome (hex_of 4 w) (λ n. n < 2 ^ 16)
id_in w =
    some_if (λ n. n < 2 ^ 16) ((length w == 4) && is_hex w) (Some (digits_value 16 w)) None (λ t. four_small w (four (length w) (both_true (length w == 4) (is_hex w) t).0) (both_true (length w == 4) (is_hex w) t).1) (λ f. tt)
  where
    four : (n : ℕ) → (n == 4) ≡ true → n ≡ 4
    four n e = grind (arith, nat_tests)

-- ---- lines of a plan

record IsSlot (s : Slot) : Type 0 where
  frame : IsFrom 1 LAST_FRAME s.frame
  subframe : s.subframe ≤ 9
  slot : s.slot ≤ 63

slot_in : (ws : List (List ℕ)) → IfSome (slot_of ws) IsSlot
slot_in ws =
    with_word IsSlot 1 LAST_FRAME (word_at ws 3) _ (λ frame f.
    with_word IsSlot 0 9 (word_at ws 4) _ (λ subframe s.
    with_word IsSlot 0 63 (word_at ws 5) _ (λ slot t.
    record { frame = from_number 1 LAST_FRAME frame f.0 f.1; subframe = s.1; slot = t.1 })))

abbrev AreUpTo : ℕ → ℕ → ℕ × ℕ → Type 0
AreUpTo a b x = (x.0 ≤ a) × (x.1 ≤ b)

two_in : (a b : ℕ) (v w : List ℕ) → IfSome (taking (number_in 0 a v) (λ x. taking (number_in 0 b w) (λ y. Some (x, y)))) (AreUpTo a b)
two_in a b v w = with_word (AreUpTo a b) 0 a v _ (λ x p. with_word (AreUpTo a b) 0 b w _ (λ y q. (p.1, q.1)))

three_small : (w : List ℕ) → length w ≡ 3 → is_hex w ≡ true → digits_value 16 w < 2 ^ 12
three_small [] l h = absurd (cc l)
three_small (a ∷ []) l h = absurd (cc l)
three_small (a ∷ b ∷ []) l h = absurd (cc l)
three_small (a ∷ b ∷ c ∷ []) l h = grind (arith, nat_tests)
three_small (a ∷ b ∷ c ∷ d ∷ w) l h = absurd (omega arith)

mask_in : (w : List ℕ) → IfSome (hex_of 3 w) (λ n. n < 2 ^ 12)
mask_in w = some_if (λ n. n < 2 ^ 12) ((length w == 3) && is_hex w) (Some (digits_value 16 w)) None (λ t. three_small w (left (length w) (is_hex w) t) (right (length w == 3) (is_hex w) t)) (λ f. tt)
  where
    left : (n : ℕ) (b : Bool) → ((n == 3) && b) ≡ true → n ≡ 3
    left n b e = grind (arith, nat_tests)

    right : (a b : Bool) → (a && b) ≡ true → b ≡ true
    right true b e = e
    right false b e = absurd (cc e)

pub plan_in : (ws : List (List ℕ)) → IfSome (plan_of ws) IsPlanLine
plan_in ws =
    some_then (λ _. Unit {0}) IsPlanLine (plan_kind_of (word_at ws 1)) _ (some_any (plan_kind_of (word_at ws 1))) (λ kind u.
    some_then (λ _. Unit {0}) IsPlanLine (hex_of 4 (word_at ws 2)) _ (some_any (hex_of 4 (word_at ws 2))) (λ id v.
    some_then IsSlot IsPlanLine (slot_of ws) _ (slot_in ws) (λ slot s.
    some_then (AreUpTo 63 15) IsPlanLine (symbols_of ws) _ (two_in 63 15 (word_at ws 6) (word_at ws 7)) (λ symbols p.
    some_then (AreUpTo 1023 255) IsPlanLine (prbs_of ws) _ (two_in 1023 255 (word_at ws 8) (word_at ws 9)) (λ prbs q.
    some_then (λ n. n < 2 ^ 12) IsPlanLine (hex_of 3 (word_at ws 10)) _ (mask_in (word_at ws 10)) (λ mask m.
    some_then (AreUpTo 4095 32767) IsPlanLine (section_of ws) _ (two_in 4095 32767 (word_at ws 11) (word_at ws 12)) (λ section x.
    record {
      frame = s.frame;
      subframe = s.subframe;
      slot = s.slot;
      symbol = p.0;
      count = p.1;
      start_prb = q.0;
      num_prb = under 255 prbs.1 q.1;
      mask = m;
      section = under 4095 section.0 x.0;
      beam = under 32767 section.1 x.1;
    })))))))
  where
    under : (most n : ℕ) → n ≤ most → n < most + 1
    under most n h = omega arith

-- ---- deliver lines

abbrev AreTimes : ℕ → ℕ → List ℤ → Type 0
AreTimes low n times = All (IsFrom low MOST_TRANSIT) times × (length times ≡ n)

times_in : (low : ℕ) (ws : List (List ℕ)) → IfSome (times_of low ws) (AreTimes low (length ws))
times_in low [] = (All-nil (IsFrom low MOST_TRANSIT), refl)
times_in low (w ∷ ws) =
    with_word (AreTimes low (length (w ∷ ws))) low MOST_TRANSIT w _ (λ n p.
    some_then (AreTimes low (length ws)) (AreTimes low (length (w ∷ ws))) (times_of low ws) _ (times_in low ws) (λ times q.
    (All-cons (IsFrom low MOST_TRANSIT) (pos n) times (from_number low MOST_TRANSIT n p.0 p.1) q.0, ap suc q.1)))

pub delivery_in : (ws : List (List ℕ)) → has_deliver_count ws ≡ true → IfSome (delivery_of ws) IsDelivery
delivery_in ws counted =
    some_then (λ _. Unit {0}) IsDelivery (side_of (word_at ws 1)) _ (some_any (side_of (word_at ws 1))) (λ side u.
    some_then (λ _. Unit {0}) IsDelivery (class_of (word_at ws 2)) _ (some_any (class_of (word_at ws 2))) (λ class v.
    with_word IsDelivery 1 MOST_NUMBER (word_at ws 3) _ (λ k p.
    some_then (AreTimes (least_of class) (length (drop 4 ws))) IsDelivery (times_of (least_of class) (drop 4 ws)) _ (times_in (least_of class) (drop 4 ws)) (λ copies q.
    record { some = p.0; most = p.1; few = eight (length ws) (length copies) counted (q.1 ∙ length-drop 4 ws); times = q.0 }))))
  where
    eight : (n m : ℕ) → (nat_le 4 n && nat_le n 12) ≡ true → m ≡ n - 4 → m ≤ 8
    eight n m e is = grind (arith, nat_tests)

-- being of one frame goes both ways
like_turns : (a b : Delivery) → is_like a b ≡ is_like b a
like_turns a b =
    both (way_number a.side == way_number b.side) (way_number b.side == way_number a.side) _ _ (turned (way_number a.side) (way_number b.side))
    (both (class_number a.class == class_number b.class) (class_number b.class == class_number a.class) _ _ (turned (class_number a.class) (class_number b.class)) (turned a.k b.k))
  where
    turned : (m n : ℕ) → (m == n) ≡ (n == m)
    turned m n = grind (arith, nat_tests)

    both : (a b x y : Bool) → a ≡ b → x ≡ y → (a && x) ≡ (b && y)
    both a b x y e f = cc

apart_here : (d e : Delivery) (ds : List Delivery) → has_like d ds ≡ false → is_like e d ≡ false → has_like d (ds ++ e ∷ []) ≡ false
apart_here d e [] n f = ap (λ b. b || false) (like_turns d e ∙ f)
apart_here d e (x ∷ ds) n f = first (is_like d x) _ _ n (λ m. apart_here d e ds m f)
  where
    first : (a b c : Bool) → (a || b) ≡ false → (b ≡ false → c ≡ false) → (a || c) ≡ false
    first true b c h g = absurd (cc h)
    first false b c h g = g h

or_first : (a b : Bool) → (a || b) ≡ false → a ≡ false
or_first true b h = absurd (cc h)
or_first false b h = refl

or_rest : (a b : Bool) → (a || b) ≡ false → b ≡ false
or_rest true b h = absurd (cc h)
or_rest false b h = h

pub apart_more : (ds : List Delivery) (e : Delivery) → AreApart ds → has_like e ds ≡ false → AreApart (ds ++ e ∷ [])
apart_more [] e h f = (refl, tt)
apart_more (d ∷ ds) e h f =
    (apart_here d e ds h.0 (or_first (is_like e d) _ f), apart_more ds e h.1 (or_rest (is_like e d) _ f))

-- ---- measure lines

pub measure_in : (ws : List (List ℕ)) → IfSome (measure_of ws) IsMeasure
measure_in ws =
    some_then (λ _. Unit {0}) IsMeasure (unit_of (word_at ws 1)) _ (some_any (unit_of (word_at ws 1))) (λ side u.
    with_word IsMeasure 0 255 (word_at ws 2) _ (λ id p.
    some_then (λ _. Unit {0}) IsMeasure (kind_of (word_at ws 3)) _ (some_any (kind_of (word_at ws 3))) (λ kind v.
    with_word IsMeasure 1000000 LAST_TIME (word_at ws 4) _ (λ at q.
    record { id = under id p.1; time = from_number 1000000 LAST_TIME at q.0 q.1 }))))
  where
    under : (n : ℕ) → n ≤ 255 → n < 256
    under n h = omega arith
