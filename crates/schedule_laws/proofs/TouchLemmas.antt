-- A downlink line of a valid plan touches its slot.
use Rattle.std.proofs.Common.{◌≡◌, ℕ, Bool, true, ◌==◌, All, List, ap, sym, ◌∙◌, arith}
use Rattle.std.specs.List.{list_any}
use Rattle.std.proofs.lemmas.Bool.{and_from, and_parts, eq-eqb, eqb-true}
use Rattle.fh_base.specs.declared.values.Slot.{Slot}
use Rattle.window_config.specs.Configs.{IsConfig}
use Rattle.window_config.specs.Plans.{IsPlanLine}
use Rattle.window_config.specs.declared.config.Config.{Config}
use Rattle.window_config.specs.declared.plan.PlanLine.{PlanLine}
use Rattle.unit_model.specs.Claims.{cell_at, cell_of, covers, first_prb, names, prb_count, same_slot}
use Rattle.unit_model.specs.declared.allocations.Allocation.{Allocation}
use Rattle.unit_model.specs.declared.cells.Cell.{Cell}
use Rattle.unit_model.proofs.ClaimLemmas.{covers_is, is_in, same_slot_is, slot_self}
use Rattle.plan_model.specs.Lines.{is_down_kind, line_allocation, planned}
use Rattle.plan_model.specs.Valid.{IsValid}
use Rattle.plan_model.specs.Validity.{IsProper}
use Rattle.plan_model.specs.declared.lines.PlannedLine.{PlannedLine}
use Rattle.plan_model.proofs.ClashLemmas.{bit_of, covers_own}
use Rattle.plan_model.proofs.LineLemmas.{line_good, line_proper}
use Rattle.schedule_laws.specs.Touched.{NamesCell, Touches, is_touching}
use Rattle.fh_base.proofs.MemberLemmas.{among, any_in}

-- it names its first element
names_first : (ep : ℕ) (slot : Slot) (p : PlannedLine) → IsProper (line_allocation p) → is_touching ep slot p ≡ true → NamesCell ep slot p
names_first ep slot p proper h =
    let a : Allocation = line_allocation p in
    let one = and_parts (p.ep == ep) _ h in
    let two = and_parts (is_down_kind p.line.kind) _ one.1 in
    let re = bit_of a proper in
    let below = re.high in
    let some = proper.symbols in
    let wide = proper.prbs in
    let covered = covers_own a a.symbol (first_prb a) (is_in a.symbol a.num_symbol a.symbol (omega arith) (omega arith)) (is_in (first_prb a) (prb_count a) (first_prb a) (omega arith) (omega arith)) in
    let own : names a (cell_of a a.symbol (first_prb a)) re.k ≡ true = and_from _ _ covered re.is in
    record {
      symbol = a.symbol;
      prb = first_prb a;
      re = re.k;
      element = omega arith;
      named =
          ap (λ (e : ℕ). names a (cell_at e true slot a.symbol (first_prb a)) re.k) (sym (eqb-true p.ep ep one.0))
          ∙ ap (λ (b : Bool). names a (cell_at p.ep b slot a.symbol (first_prb a)) re.k) (sym two.0)
          ∙ ap (λ (s : Slot). names a (cell_at p.ep (is_down_kind p.line.kind) s a.symbol (first_prb a)) re.k) (sym (same_slot_is p.line.slot slot two.1))
          ∙ own;
    }

names_none_else : (ep : ℕ) (slot : Slot) (p : PlannedLine) → NamesCell ep slot p → is_touching ep slot p ≡ true
names_none_else ep slot p n =
    let cell : Cell = cell_at ep true slot n.symbol n.prb in
    let c = covers_is (line_allocation p) cell (and_parts (covers (line_allocation p) cell) _ n.named).0 in
    and_from (p.ep == ep) _ (eq-eqb p.ep ep c.ep)
    (and_from (is_down_kind p.line.kind) _ c.down (ap (λ (s : Slot). same_slot p.line.slot s) (sym c.slot) ∙ slot_self p.line.slot))

-- the test tells of the lines of a valid plan whether one touches the slot
pub touch_told : (c : Config) (lines : List PlanLine) (ep : ℕ) (slot : Slot) → IsConfig c → All IsPlanLine lines → IsValid c lines → list_any (is_touching ep slot) (planned c.endpoints lines) ≡ true
    → Touches ep slot (planned c.endpoints lines)
touch_told c lines ep slot config fit valid h =
    let m = among (is_touching ep slot) (planned c.endpoints lines) h in
    (m.x, m.there, names_first ep slot m.x (line_proper c.endpoints m.x (line_good c lines config fit valid m.x m.there)) m.is)

pub touch_found : (ep : ℕ) (slot : Slot) (ps : List PlannedLine) → Touches ep slot ps → list_any (is_touching ep slot) ps ≡ true
touch_found ep slot ps t = any_in (is_touching ep slot) t.0 ps t.1 (names_none_else ep slot t.0 t.2)
