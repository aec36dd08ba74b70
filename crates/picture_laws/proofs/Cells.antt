-- The cells of a line are some PRBs of an endpoint's carrier.
use Rattle.std.proofs.Common.{◌≡◌, ℕ, ◌+◌, ◌-◌, ◌≤◌, List, Bool, true, false, refl, subst, arith, codes}
use Rattle.std.specs.Prelude.{Option, Some, None, if◌then◌else◌, slice_get}
use Rattle.fh_base.specs.Numbers.{word_at}
use Rattle.pictures.specs.Numbers.{taking, keyed, after}
use Rattle.pictures.specs.Cells.{cell_of, cell_at, endpoint_at, is_cell_word, is_why_word, look_of_cell, look_of_why, prbs_in, start_at, symbol_in}
use Rattle.pictures.specs.Endpoints.{with_id}
use Rattle.pictures.specs.declared.cells.Cell.{Cell}
use Rattle.pictures.specs.declared.cells.Look.{Look}
use Rattle.pictures.specs.declared.endpoints.Endpoint.{Endpoint}
use Rattle.fh_base.proofs.CommonLemmas.{number_within}

pub took : {A B : Type 0} (o : Option A) (next : A → Option B) (y : B) → taking o next ≡ Some y → (x : A) × (o ≡ Some x) × (next x ≡ Some y)
took None next y e = cc
took (Some x) next y e = (x, refl, e)

-- of one of the endpoints, and in its carrier
pub record IsThere (es : List Endpoint) (c : Cell) : Type 0 where
  pub is : slice_get es c.ep ≡ Some c.endpoint
  pub some : 1 ≤ c.num
  pub prbs : c.prb + c.num ≤ c.endpoint.prbs

prbs_within : (e : Endpoint) (ws : List (List ℕ)) (at : ℕ) (p : ℕ × ℕ) → prbs_in e ws at ≡ Some p → (1 ≤ p.1) × (p.0 + p.1 ≤ e.prbs)
prbs_within e ws at p h =
    let one = took (keyed (codes "num=") 1 e.prbs (word_at ws (at + 8))) _ p h in
    let two = took (keyed (codes "prb=") 0 (e.prbs - one.0) (word_at ws (at + 7))) _ p one.2 in
    let num = number_within 16 1 e.prbs one.0 (after (codes "num=") (word_at ws (at + 8))) one.1 in
    let prb = number_within 16 0 (e.prbs - one.0) two.0 (after (codes "prb=") (word_at ws (at + 7))) two.1 in
    let num_low : 1 ≤ one.0 = num.0 in
    let num_high : one.0 ≤ e.prbs = num.1 in
    let prb_high : two.0 ≤ e.prbs - one.0 = prb.1 in
    let same : (two.0, one.0) ≡ p = cc two.2 in
    subst (λ (q : ℕ × ℕ). (1 ≤ q.1) × (q.0 + q.1 ≤ e.prbs)) same (num_low, omega arith)

endpoint_there : (es : List Endpoint) (ws : List (List ℕ)) (at : ℕ) (p : ℕ × Endpoint) → endpoint_at es ws at ≡ Some p → slice_get es p.0 ≡ Some p.1
endpoint_there es ws at p h =
    let one = took (with_id es (word_at ws (at + 2))) _ p h in
    let two = took (slice_get es one.0) _ p one.2 in
    let same : (one.0, two.0) ≡ p = cc two.2 in
    subst (λ (q : ℕ × Endpoint). slice_get es q.0 ≡ Some q.1) same two.1

there_at : (es : List Endpoint) (ws : List (List ℕ)) (at : ℕ) (look : Look) (c : Cell) → cell_at es ws at look ≡ Some c → IsThere es c
there_at es ws at look c h =
    let start = took (start_at ws at) _ c h in
    let found = took (endpoint_at es ws at) _ c start.2 in
    let e = found.0.1 in
    let symbol = took (symbol_in e ws at) _ c found.2 in
    let prbs = took (prbs_in e ws at) _ c symbol.2 in
    let within = prbs_within e ws at prbs.0 prbs.1 in
    let same : record { up = start.0.0; at = start.0.1; ep = found.0.0; endpoint = e; slot = symbol.0.0; symbol = symbol.0.1; prb = prbs.0.0; num = prbs.0.1; look = look } ≡ c = cc prbs.2 in
    subst (IsThere es) same (record { is = endpoint_there es ws at found.0 found.1; some = within.0; prbs = within.1 })

pub there : (es : List Endpoint) (ws : List (List ℕ)) (c : Cell) → cell_of es ws ≡ Some c → IsThere es c
unfolding cell_of
there es ws c h = go (is_cell_word ws) (is_why_word ws) h
  where
    go : (x y : Bool) → (if x then taking (look_of_cell ws) (cell_at es ws 0) else (if y then taking (look_of_why ws) (cell_at es ws 1) else None)) ≡ Some c → IsThere es c
    go true y h = let look = took (look_of_cell ws) (cell_at es ws 0) c h in there_at es ws 0 look.0 c look.2
    go false true h = let look = took (look_of_why ws) (cell_at es ws 1) c h in there_at es ws 1 look.0 c look.2
    go false false h = cc
