-- Lines that are proposed for free slots, told one after the other by the slots' flags.
use Rattle.std.proofs.Common.{◌≡◌, ℕ, ◌+◌, ◌-◌, ◌*◌, ◌/◌, ◌<◌, ◌≤◌, Bool, true, false, not, ◌&&◌, ◌||◌, List, [], ◌∷◌, ◌++◌, length, get_or, map, Option, sym, ap, subst, ◌∙◌, arith, append-nil}
use Rattle.std.specs.List.{flat_map, list_any}
use Rattle.std.proofs.lemmas.Grind.{flat_map-append}
use Rattle.std.proofs.lemmas.List.{map-append}
use Rattle.std.proofs.lemmas.Nat.{div-mul-add}
use Rattle.fh_base.specs.Told.{WritesFront}
use Rattle.fh_base.proofs.Order.{symbols_few}
use Rattle.fh_base.specs.Numbering.{slots_of, symbols_of}
use Rattle.fh_base.specs.declared.numerology.Numerology.{Numerology}
use Rattle.fh_base.specs.declared.values.Slot.{Slot}
use Rattle.fh_base.specs.Owed.{Carried}
use Rattle.fh_base.specs.CarriedLaws.{carried_more, carried_none}
use Rattle.fh_base.proofs.Carrying.{front_behind}
use Rattle.fh_base.proofs.OwedTelling.{front_before}
use Rattle.window_config.specs.declared.endpoints.EndpointConfig.{EndpointConfig}
use Rattle.window_config.specs.declared.plan.PlanLine.{PlanLine}
use Rattle.air_source.specs.declared.events.AirCell.{AirCell}
use Rattle.fh_base.specs.Lists.{each}
use Rattle.idle_spans.specs.Symbols.{symbol_at, symbol_count}
use Rattle.idle_spans.specs.Tables.{SpansValue, endpoints_of, symbols_in}
use Rattle.idle_spans.specs.declared.places.Place.{Place}
use Rattle.idle_spans.proofs.NumberLemmas.{frame_is}
use Rattle.idle_text.specs.Lines.{idle_line, plan_line_text}
use Rattle.idle_text.specs.Free.{free_slot, free_slots, has_slot, is_free, is_touched, slot_at, slot_count}
use Rattle.idle_text.specs.Listed.{listed_runs}
use Rattle.idle_text.specs.Tables.{IsTableOf}
use Rattle.idle_text.proofs.RunLemmas.{each_parted}
use Rattle.idle_text.specs.Text.{flagged, flagged_slot, flagged_text, lines_text}
use Rattle.idle_text.proofs.TellLemmas.{count_is}
use Rattle.fh_base.proofs.EachLemmas.{each_more, each_zero}
use Rattle.fh_base.proofs.CommonLemmas.{each_same as each_alike}
use Rattle.fh_base.proofs.Orders.{product_grouped}

-- ---- the line of a slot whose flag is set

pub slot_line : (e : EndpointConfig) (first k symbols : ℕ) (flag : Bool) (place : Place) (line : PlanLine) → flag ≡ true → symbols ≡ symbols_of e.numerology
    → place ≡ symbol_at e.numerology first (k * symbols) → line ≡ idle_line e place.slot → plan_line_text line ≡ lines_text e (flagged_slot first e flag k)
slot_line e first k symbols flag place line set size at is =
    ap plan_line_text (is ∙ ap (λ (p : Place). idle_line e p.slot) (at ∙ ap (λ (s : ℕ). symbol_at e.numerology first (k * s)) size))
    ∙ sym (append-nil (plan_line_text (idle_line e (slot_at e.numerology first k))))
    ∙ ap (λ (b : Bool). lines_text e (flagged_slot first e b k)) (sym set)

-- ---- one slot more

lines-append : (e : EndpointConfig) (xs ys : List Slot) → lines_text e (xs ++ ys) ≡ lines_text e xs ++ lines_text e ys
lines-append e xs ys = ap (flat_map plan_line_text) (map-append (idle_line e) xs ys) ∙ flat_map-append plan_line_text (map (idle_line e) xs) (map (idle_line e) ys)

module _ (first : ℕ) (e : EndpointConfig) (flags : List Bool) where
  abbrev slots_at : ℕ → List Slot
  slots_at k = flagged_slot first e (get_or flags k false) k

  one_more : (k : ℕ) (flag : Bool) → flag ≡ get_or flags k false
      → flagged_text first e flags k ++ lines_text e (flagged_slot first e flag k) ≡ flagged_text first e flags (k + 1)
  one_more k flag is =
      ap (λ (b : Bool). flagged_text first e flags k ++ lines_text e (flagged_slot first e b k)) is
      ∙ sym (lines-append e (each 0 k slots_at) (slots_at k)) ∙ ap (lines_text e) (sym (each_more k slots_at))

  pub none_told : (w : Option (List ℕ)) (o : List ℕ) → Carried w o (flagged_text first e flags 0) w o
  none_told w o = subst (λ (ss : List Slot). Carried w o (lines_text e ss) w o) (sym (each_zero 0 slots_at)) (carried_none w o)

  pub slot_told : (k : ℕ) (flag : Bool) (w v u : Option (List ℕ)) (o p q : List ℕ) → flag ≡ get_or flags k false
      → Carried w o (flagged_text first e flags k) v p → Carried v p (lines_text e (flagged_slot first e flag k)) u q
      → Carried w o (flagged_text first e flags (k + 1)) u q
  slot_told k flag w v u o p q is before now =
      subst (λ (x : List ℕ). Carried w o x u q) (one_more k flag is) (carried_more w v u o p q _ _ before now)

  -- a front of a slot's line is one of the lines of all
  pub slot_cut : (k count : ℕ) (flag : Bool) (w v u : Option (List ℕ)) (o p : List ℕ) → flag ≡ get_or flags k false → k < count
      → Carried w o (flagged_text first e flags k) v p → WritesFront v u (p ++ lines_text e (flagged_slot first e flag k))
      → WritesFront w u (o ++ flagged_text first e flags count)
  slot_cut k count flag w v u o p is below before front =
      let rest : List Slot = each (k + 1) (count - (k + 1)) slots_at in
      let here = front_behind w o (flagged_text first e flags k) v p (lines_text e (flagged_slot first e flag k)) u before front in
      let more = front_before w u o _ (lines_text e rest) here in
      subst (λ (x : List ℕ). WritesFront w u (o ++ x))
      (ap (λ (x : List ℕ). x ++ lines_text e rest) (one_more k flag is)
      ∙ sym (lines-append e (each 0 (k + 1) slots_at) rest)
      ∙ ap (lines_text e) (sym (each_parted (k + 1) count slots_at (omega arith))))
      more

-- ---- the slots of the frames

-- the frames have whole slots
slots_total : (n : Numerology) (first last : ℕ) → symbol_count n first last ≡ slot_count n first last * symbols_of n
slots_total n first last = ap (λ (f : ℕ). (last + 1 - first) * f) (frame_is n) ∙ product_grouped (last + 1 - first) (10 * slots_of n) (symbols_of n)

quotient : (k s : ℕ) → 0 < s → k * s / s ≡ k
quotient k s some = let plus : k * s ≡ k * s + 0 = omega arith in ap (λ (x : ℕ). x / s) plus ∙ div-mul-add k s 0 some

slots_are : (n : Numerology) (first last total : ℕ) → total ≡ symbol_count n first last → total / symbols_of n ≡ slot_count n first last
slots_are n first last total is =
    ap (λ (x : ℕ). x / symbols_of n) (is ∙ slots_total n first last) ∙ quotient (slot_count n first last) (symbols_of n) (symbols_few n).0

pub whole_slots : (s : SpansValue) (ep : ℕ) (e : EndpointConfig) (first last : ℕ) (cells : List AirCell) → ep < length (endpoints_of s) → IsTableOf s ep e first last cells
    → symbols_in s ep / symbols_of e.numerology * symbols_of e.numerology ≡ symbols_in s ep
whole_slots s ep e first last cells inside t =
    let is = count_is s ep e first last cells inside t in
    ap (λ (x : ℕ). x * symbols_of e.numerology) (slots_are e.numerology first last (symbols_in s ep) is) ∙ sym (slots_total e.numerology first last) ∙ sym is

-- flags for all of them
flags_are : (s : SpansValue) (ep : ℕ) (e : EndpointConfig) (first last : ℕ) (cells : List AirCell) (count : ℕ) → ep < length (endpoints_of s) → IsTableOf s ep e first last cells
    → count * symbols_of e.numerology ≡ symbols_in s ep → count ≡ slot_count e.numerology first last
flags_are s ep e first last cells count inside t size =
    sym (quotient count (symbols_of e.numerology) (symbols_few e.numerology).0) ∙ ap (λ (x : ℕ). x / symbols_of e.numerology) size
    ∙ slots_are e.numerology first last (symbols_in s ep) (count_is s ep e first last cells inside t)

-- ---- flags that say which slots are free

or_after : (old new t : Bool) → old ≡ false → new ≡ (old || t) → new ≡ t
or_after old new t none is = is ∙ ap (λ (b : Bool). b || t) none

-- the lines by flags are those of the free slots
pub free_told : (s : SpansValue) (ep : ℕ) (e : EndpointConfig) (first last : ℕ) (cells : List AirCell) (min : ℕ) (lines : List PlanLine) (old middle new : List Bool)
    → ep < length (endpoints_of s) → IsTableOf s ep e first last cells → length old * symbols_of e.numerology ≡ symbols_in s ep → length middle ≡ length old → length new ≡ length old
    → ((k : ℕ) → get_or old k false ≡ false)
    → ((k : ℕ) → k < length old → get_or middle k false ≡ (get_or old k false || list_any (has_slot (symbols_of e.numerology) k) (listed_runs e first last cells min)))
    → ((k : ℕ) → k < length middle → get_or new k false ≡ (get_or middle k false && not (is_touched e lines (slot_at e.numerology first k))))
    → flagged_text first e new (length new) ≡ lines_text e (free_slots e first last cells min lines)
free_told s ep e first last cells min lines old middle new inside t size len_middle len_new none listed cleared =
    let runs = listed_runs e first last cells min in
    let count : length new ≡ slot_count e.numerology first last = len_new ∙ flags_are s ep e first last cells (length old) inside t size in
    ap (lines_text e)
    (each_alike 0 (length new) (λ k. flagged_slot first e (get_or new k false) k) (free_slot e first lines runs) (λ k low below.
    let under : k < length old = omega (arith, below, len_new) in
    let there : k < length middle = omega (arith, under, len_middle) in
    ap (λ (b : Bool). flagged_slot first e b k)
    (cleared k there
    ∙ ap (λ (b : Bool). b && not (is_touched e lines (slot_at e.numerology first k)))
    (or_after (get_or old k false) (get_or middle k false) (list_any (has_slot (symbols_of e.numerology) k) runs) (none k) (listed k under))))
    ∙ ap (λ (n : ℕ). each 0 n (free_slot e first lines runs)) count)
