-- What is reported of a symbol rests on its cells.
use Rattle.std.proofs.Common.{◌≡◌, ℕ, ℤ, zero, suc, ◌+◌, ◌*◌, ◌<◌, ◌≤◌, List, [], ◌∷◌, refl, ap, ap₂, ◌∙◌, arith}
use Rattle.std.specs.Prelude.{Option, ◌==◌, if◌then◌else◌}
use Rattle.fh_base.specs.Air.{air_of}
use Rattle.unit_model.specs.Terms.{AirCell, Side, is_down}
use Rattle.window_config.specs.declared.endpoints.EndpointConfig.{EndpointConfig}
use Rattle.unit_model.specs.Claims.{cell_at}
use Rattle.unit_model.specs.Radiated.{cell_id, cell_report, id_from, id_or, is_used, report_of, samples_under, symbol_report, used_below, used_mask}
use Rattle.unit_model.specs.declared.cells.Block.{Block}
use Rattle.unit_model.specs.declared.cells.Cell.{Cell}
use Rattle.unit_model.specs.declared.cells.Claim.{Claim}
use Rattle.unit_laws.specs.Past.{ReportIsOfItsCells}
use Rattle.fh_base.proofs.CommonLemmas.{each_same}

pub used_same : (f g : ℕ → Option Claim) (n : ℕ) → ((re : ℕ) → re < n → f re ≡ g re) → used_below f n ≡ used_below g n
unfolding used_below
used_same f g zero same = refl
used_same f g (suc n) same =
    ap₂ (λ (low : ℕ) (c : Option Claim). 2 * low + (if is_used c then 1 else 0)) (used_same f g n (λ re below. same re (omega arith))) (same n (omega arith))

id_same : (f g : ℕ → Option Claim) (from n : ℕ) → ((re : ℕ) → from ≤ re → re < from + n → f re ≡ g re) → id_from f from n ≡ id_from g from n
unfolding id_from
id_same f g from zero same = refl
id_same f g from (suc n) same =
    ap₂ (λ (c : Option Claim) (id : ℕ). id_or c id) (same from (omega arith) (omega arith))
    (id_same f g (from + 1) n (λ re above below. same re (omega arith) (omega arith)))

abbrev report_with : Side → EndpointConfig → Cell → ℤ → ℕ → ℕ → Option Block → List AirCell
report_with side e cell start id mask block =
    if mask == 0 then [] else (let a : AirCell = record {
      side = side;
      at = record { 0 = start };
      id = e.id;
      slot = cell.slot;
      symbol = cell.symbol;
      prb = cell.prb;
      section = id;
      mask = mask;
      block = samples_under id block;
    } in a) ∷ []

-- the report of a cell rests on its twelve claims and its block
pub report_same : (side : Side) (e : EndpointConfig) (cell : Cell) (start : ℤ) (f g : ℕ → Option Claim) (b c : Option Block)
    → ((re : ℕ) → re < 12 → f re ≡ g re) → b ≡ c → report_of side e cell start f b ≡ report_of side e cell start g c
report_same side e cell start f g b c same block =
    let ids : cell_id f ≡ cell_id g = id_same f g 0 12 (λ re above below. same re (omega arith)) in
    let masks : used_mask f ≡ used_mask g = used_same f g 12 same in
    ap (λ (i : ℕ). report_with side e cell start i (used_mask f) b) ids
    ∙ ap (λ (m : ℕ). report_with side e cell start (cell_id g) m b) masks
    ∙ ap (λ (x : Option Block). report_with side e cell start (cell_id g) (used_mask g) x) block

pub report_of_cells : ReportIsOfItsCells
unfolding symbol_report
report_of_cells side k m ep e slot symbol claims blocks =
    each_same 0 e.prbs (cell_report side k ep e slot symbol) (cell_report side m ep e slot symbol) (λ prb above below.
    let cell = cell_at ep (is_down side) slot symbol prb in
    report_same side e cell (air_of e.numerology slot symbol) (k.claims cell) (m.claims cell) (k.blocks cell) (m.blocks cell)
    (λ re small. claims prb re (omega arith) small) (blocks prb (omega arith)))
