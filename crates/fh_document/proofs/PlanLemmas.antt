-- Lines of a plan.
use Rattle.std.proofs.Common.{◌≡◌, ℕ, ◌<◌, ◌≤◌, ◌^◌, List, true, Option, Some, refl, ◌∙◌, arith}
use Rattle.std.specs.Prelude.{decimal}
use Rattle.std.specs.List.{list_all}
use Rattle.fh_base.specs.Words.{hex4_text, hex3_text}
use Rattle.window_config.specs.declared.plan.PlanKind.{PlanKind}
use Rattle.window_config.specs.declared.plan.PlanKind.TheVariants.{Down, Up, Idle}
use Rattle.window_config.specs.declared.plan.PlanLine.{PlanLine}
use Rattle.fh_document.specs.declared.refusals.DocWhy.TheVariants as why
use Rattle.fh_document.specs.EndpointLines.{taking}
use Rattle.fh_document.specs.Hex.{hex_of}
use Rattle.fh_document.specs.PlanLines.{plan_kind_of, slot_of, symbols_of, prbs_of, section_of, plan_of, planned}
use Rattle.fh_document.specs.Proper.{IsPlanLine}
use Rattle.fh_document.specs.Steps.{plans}
use Rattle.fh_document.specs.Words.{number_in}
use Rattle.fh_document.specs.Joined.{is_word}
use Rattle.fh_document.specs.LineWords.{plan_kind_word, plan_words}
use Rattle.fh_document.proofs.Tests.{took, then_some}
use Rattle.fh_document.proofs.NumberLemmas.{number_is, decimal_word, signed_word, time_is}
use Rattle.fh_document.proofs.HexLemmas.{id_is, mask_is, id_word, mask_word}
use Rattle.fh_document.proofs.LineLemmas.{line_is}
use Rattle.window_config.specs.declared.plan.TheConstants.{LAST_FRAME}
use Rattle.fh_base.proofs.Orders.{both_true}
use Rattle.fh_document.specs.Laws.{PlansAreRead}

kind_is : (kind : PlanKind) → plan_kind_of (plan_kind_word kind) ≡ Some kind
kind_is Down = refl
kind_is Up = refl
kind_is Idle = refl

kind_visible : (kind : PlanKind) → is_word (plan_kind_word kind) ≡ true
kind_visible Down = refl
kind_visible Up = refl
kind_visible Idle = refl

small_word : (n : ℕ) → n < 2 ^ 16 → is_word (decimal n) ≡ true
small_word n h = decimal_word n (omega arith)

pub plan_visible : (line : PlanLine) → IsPlanLine line → line.num_prb < 2 ^ 8 → list_all is_word (plan_words line) ≡ true
plan_visible line h few =
    both_true _ _ (kind_visible line.kind) (both_true _ _ (id_word line.id) (both_true _ _ (signed_word 1 LAST_FRAME line.slot.frame (omega arith) h.frame)
    (both_true _ _ (small_word line.slot.subframe (omega (arith, h.subframe))) (both_true _ _ (small_word line.slot.slot (omega (arith, h.slot)))
    (both_true _ _ (small_word line.symbol (omega (arith, h.symbol))) (both_true _ _ (small_word line.count (omega (arith, h.count)))
    (both_true _ _ (small_word line.start_prb (omega (arith, h.start_prb))) (both_true _ _ (small_word line.num_prb (omega arith)) (both_true _ _ (mask_word line.mask)
    (both_true _ _ (small_word line.section (omega (arith, h.section))) (both_true _ true (small_word line.beam (omega (arith, h.beam))) refl)))))))))))

-- a number from 0 on
up_to : (most n : ℕ) → n ≤ most → most < 10 ^ 13 → number_in 0 most (decimal n) ≡ Some n
up_to most n h fits = number_is 0 most n (omega arith) h (omega arith)

abbrev second : ℕ → List ℕ → ℕ → Option (ℕ × ℕ)
second b w x = taking (number_in 0 b w) (λ y. Some (x, y))

abbrev both_of : ℕ → List ℕ → ℕ → List ℕ → Option (ℕ × ℕ)
both_of a v b w = taking (number_in 0 a v) (λ x. second b w x)

two_are : (a b m n : ℕ) → m ≤ a → n ≤ b → a < 10 ^ 13 → b < 10 ^ 13 → both_of a (decimal m) b (decimal n) ≡ Some (m, n)
two_are a b m n h k fits fit =
    took (number_in 0 a (decimal m)) m (λ x. second b (decimal n) x) (up_to a m h fits)
    ∙ took {B = ℕ × ℕ} (number_in 0 b (decimal n)) n (λ y. Some (m, y)) (up_to b n k fit)

slot_is : (line : PlanLine) → IsPlanLine line → slot_of (plan_words line) ≡ Some line.slot
slot_is line h =
    time_is 1 LAST_FRAME line.slot.frame (λ frame. taking (number_in 0 9 (decimal line.slot.subframe)) (λ subframe. taking (number_in 0 63 (decimal line.slot.slot)) (λ slot.
    Some (record { frame = frame; subframe = subframe; slot = slot })))) (omega arith) h.frame
    ∙ took (number_in 0 9 (decimal line.slot.subframe)) line.slot.subframe _ (up_to 9 line.slot.subframe h.subframe (omega arith))
    ∙ took (number_in 0 63 (decimal line.slot.slot)) line.slot.slot _ (up_to 63 line.slot.slot h.slot (omega arith))

plan_is : (line : PlanLine) → IsPlanLine line → line.id < 2 ^ 16 → line.num_prb < 2 ^ 8 → plan_of (plan_words line) ≡ Some line
plan_is line h id few =
    took (plan_kind_of (plan_kind_word line.kind)) line.kind _ (kind_is line.kind)
    ∙ took (hex_of 4 (hex4_text line.id)) line.id _ (id_is line.id id)
    ∙ took (slot_of (plan_words line)) line.slot _ (slot_is line h)
    ∙ took (symbols_of (plan_words line)) (line.symbol, line.count) _ (two_are 63 15 line.symbol line.count h.symbol h.count (omega arith) (omega arith))
    ∙ took (prbs_of (plan_words line)) (line.start_prb, line.num_prb) _ (two_are 1023 255 line.start_prb line.num_prb h.start_prb (omega arith) (omega arith) (omega arith))
    ∙ took (hex_of 3 (hex3_text line.mask)) line.mask _ (mask_is line.mask h.mask)
    ∙ took (section_of (plan_words line)) (line.section, line.beam) _ (two_are 4095 32767 line.section line.beam (omega (arith, h.section)) (omega (arith, h.beam)) (omega arith) (omega arith))

pub plan_read : PlansAreRead
plan_read r n line later order h id few =
    line_is r n plans (plan_words line) later (plan_visible line h few) refl refl order
    ∙ then_some (plan_of (plan_words line)) why.Number line (λ x. planned r n x) (plan_is line h id few)
