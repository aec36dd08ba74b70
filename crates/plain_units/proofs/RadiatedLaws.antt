-- What is reported of the symbols in which something is claimed, and that nothing is reported of the others.
use Rattle.std.proofs.Common.{◌≡◌, ℕ, ℤ, zero, suc, pos, ◌+◌, ◌*◌, ◌-◌, ◌^◌, ◌<◌, ◌≤◌, ◌-ℤ◌, ◌+ℤ◌, Bool, true, false, List, [], ◌∷◌, refl, sym, ap, ◌∙◌, arith, append-nil}
use Rattle.std.specs.Prelude.{Option, Some, None, ◌&&◌, ◌==◌, if◌then◌else◌, filter}
use Rattle.std.specs.List.{flat_map}
use Rattle.std.proofs.lemmas.Bool.{or_parts}
use Rattle.std.proofs.Math.Nat.{pow-le-pow_right}
use Rattle.std.proofs.Math.Path.{fun_ext}
use Rattle.fh_base.specs.declared.values.Slot.{Slot}
use Rattle.unit_model.specs.Terms.{Side, Delays, EndpointConfig, is_down}
use Rattle.unit_model.specs.Claims.{cell_at, same_slot, same_way, is_from, first_prb, prb_count, in_mask, names, claim_of, claim_at}
use Rattle.unit_model.specs.Radiated.{Known, known_of, is_used, used_below, id_or, id_from, report_of, cell_report, symbol_report, reported, first_clock, wait_of}
use Rattle.plain_units.specs.ClaimedStarts.{is_claimed_way, is_claimed_in, claimed_start}
use Rattle.unit_model.specs.Starts.{start_at, cell_told, cells_at}
use Rattle.unit_model.specs.Sweeps.{sweep}
use Rattle.unit_model.specs.declared.allocations.Allocation.{Allocation}
use Rattle.unit_model.specs.declared.cells.Block.{Block}
use Rattle.unit_model.specs.declared.cells.Cell.{Cell}
use Rattle.unit_model.specs.declared.cells.Claim.{Claim}
use Rattle.unit_model.specs.declared.decoded.UserSection.{UserSection}
use Rattle.unit_model.specs.declared.symbol_start.SymbolStart.{SymbolStart}
use Rattle.unit_model.proofs.SweepLaws.{sweep_flat}
use Rattle.fh_base.proofs.Orders.{bit_small}
use Rattle.unit_model.proofs.ClaimLemmas.{none_used}
use Rattle.fh_base.proofs.EachLemmas.{each_none, each_same}

-- ---- the mask and the section id of a cell

one_bit_more : (n x b p : ℕ) → x < p → b ≤ 1 → 2 * x + b < 2 * p
one_bit_more n x b p h k = omega arith

used_below_small : (claims : ℕ → Option Claim) (n : ℕ) → used_below claims n < 2 ^ n
unfolding used_below
used_below_small claims zero = omega arith
used_below_small claims (suc n) =
    let more : 2 ^ suc n ≡ 2 * 2 ^ n = grind arith in
    rw more (one_bit_more n (used_below claims n) _ (2 ^ n) (used_below_small claims n) (bit_small (is_used (claims n))))

pub used_below_few : (claims : ℕ → Option Claim) (n : ℕ) → n < 12 → used_below claims n < 2048
used_below_few claims n h =
    let two : 0 < 2 = omega arith in
    let under : n ≤ 11 = omega arith in
    let few : 2 ^ n ≤ 2 ^ 11 = pow-le-pow_right two under in
    omega (arith, used_below_small claims n, few)

pub used_below_more : (claims : ℕ → Option Claim) (n m b : ℕ) → m ≡ used_below claims n → b ≡ (if is_used (claims n) then 1 else 0) → 2 * m + b ≡ used_below claims (n + 1)
unfolding used_below
used_below_more claims n m b is bit =
    let next : n + 1 ≡ suc n = omega arith in
    ap (λ x. 2 * x + b) is ∙ ap (λ x. 2 * used_below claims n + x) bit ∙ sym (ap (used_below claims) next)

pub used_below_none : (claims : ℕ → Option Claim) → 0 ≡ used_below claims 0
unfolding used_below
used_below_none claims = refl

pub id_here : (claims : ℕ → Option Claim) (k v : ℕ) (c : Claim) → k < 12 → id_from claims k (12 - k) ≡ v → Some c ≡ claims k → c.id ≡ v
unfolding id_from
id_here claims k v c h before is =
    let left : 12 - k ≡ suc (11 - k) = omega arith in
    ap (λ o. id_or o (id_from claims (k + 1) (11 - k))) is ∙ sym (ap (λ n. id_from claims k n) left) ∙ before

pub id_later : (claims : ℕ → Option Claim) (k v : ℕ) → k < 12 → id_from claims k (12 - k) ≡ v → None ≡ claims k → id_from claims (k + 1) (12 - (k + 1)) ≡ v
unfolding id_from
id_later claims k v h before is =
    let left : 12 - k ≡ suc (12 - (k + 1)) = omega arith in
    ap (λ o. id_or o (id_from claims (k + 1) (12 - (k + 1)))) is ∙ sym (ap (λ n. id_from claims k n) left) ∙ before

pub id_nowhere : (claims : ℕ → Option Claim) (k v : ℕ) → 12 ≤ k → id_from claims k (12 - k) ≡ v → 0 ≡ v
unfolding id_from
id_nowhere claims k v h before =
    let left : 12 - k ≡ 0 = omega arith in
    sym (ap (λ n. id_from claims k n) left) ∙ before

-- ---- a symbol in which nothing is claimed

not_covers : (p q r s t u : Bool) → (p && (q && (r && s))) ≡ false → ((p && (q && (r && (s && t)))) && u) ≡ false
not_covers true true true true t u h = absurd (cc)
not_covers true true true false t u h = refl
not_covers true true false s t u h = refl
not_covers true false r s t u h = refl
not_covers false q r s t u h = refl

not_named : (a : Allocation) (ep : ℕ) (down : Bool) (slot : Slot) (symbol prb re : ℕ) → is_claimed_way ep down slot symbol a ≡ false → names a (cell_at ep down slot symbol prb) re ≡ false
not_named a ep down slot symbol prb re h =
    not_covers (a.ep == ep) (same_way a.down down) (same_slot a.slot slot) (is_from a.symbol a.num_symbol symbol) (is_from (first_prb a) (prb_count a) prb) (in_mask a.mask re) h

no_claim : (accepted : List Allocation) (ep : ℕ) (down : Bool) (slot : Slot) (symbol prb re : ℕ) → is_claimed_in accepted ep down slot symbol ≡ false
    → claim_at accepted (cell_at ep down slot symbol prb) re ≡ None
unfolding claim_at is_claimed_in
no_claim [] ep down slot symbol prb re h = refl
no_claim (a ∷ earlier) ep down slot symbol prb re h =
    let parts = or_parts (is_claimed_way ep down slot symbol a) (is_claimed_in earlier ep down slot symbol) h in
    ap (λ (b : Bool). let o : Option Claim = if b then Some (claim_of a) else claim_at earlier (cell_at ep down slot symbol prb) re in o) (not_named a ep down slot symbol prb re parts.0)
    ∙ no_claim earlier ep down slot symbol prb re parts.1

no_report : (side : Side) (e : EndpointConfig) (cell : Cell) (start : ℤ) (claims : ℕ → Option Claim) (block : Option Block) → ((re : ℕ) → claims re ≡ None) → report_of side e cell start claims block ≡ []
no_report side e cell start claims block h = rw (none_used claims 12 h) refl

no_cells : (side : Side) (accepted : List Allocation) (timely : List UserSection) (ep : ℕ) (e : EndpointConfig) (slot : Slot) (symbol : ℕ)
    → is_claimed_in accepted ep (is_down side) slot symbol ≡ false → symbol_report side (known_of accepted timely) ep e slot symbol ≡ []
unfolding symbol_report
no_cells side accepted timely ep e slot symbol h =
    each_none 0 e.prbs (cell_report side (known_of accepted timely) ep e slot symbol) (λ prb.
    no_report side e (cell_at ep (is_down side) slot symbol prb) _ (claim_at accepted (cell_at ep (is_down side) slot symbol prb)) _
    (λ re. no_claim accepted ep (is_down side) slot symbol prb re h))

-- ---- the others

symbol_cells : (side : Side) (k : Known) (ep : ℕ) (e : EndpointConfig) (slot : Slot) (symbol : ℕ) → symbol_report side k ep e slot symbol ≡ cells_at side k (start_at ep e slot symbol)
unfolding symbol_report
symbol_cells side k ep e slot symbol = refl

cells_told : (side : Side) (accepted : List Allocation) (timely : List UserSection) (ep : ℕ) (e : EndpointConfig) (slot : Slot) (symbol : ℕ) (b : Bool) → is_claimed_in accepted ep (is_down side) slot symbol ≡ b
    → symbol_report side (known_of accepted timely) ep e slot symbol
    ≡ flat_map (cells_at side (known_of accepted timely)) (if b then start_at ep e slot symbol ∷ [] else [])
cells_told side accepted timely ep e slot symbol true h =
    symbol_cells side (known_of accepted timely) ep e slot symbol ∙ sym (append-nil (cells_at side (known_of accepted timely) (start_at ep e slot symbol)))
cells_told side accepted timely ep e slot symbol false h = no_cells side accepted timely ep e slot symbol h

-- all that is reported
pub reported_told : (side : Side) (d : Delays) (es : List EndpointConfig) (accepted : List Allocation) (timely : List UserSection) (to : ℤ)
    → reported side d es (known_of accepted timely) to
    ≡ flat_map (cells_at side (known_of accepted timely))
    (sweep (claimed_start accepted (is_down side)) es (first_clock -ℤ wait_of side d) ((to -ℤ wait_of side d) +ℤ pos 1))
unfolding reported
reported_told side d es accepted timely to =
    sweep_flat (cells_at side (known_of accepted timely)) (symbol_report side (known_of accepted timely)) (claimed_start accepted (is_down side)) es
    (first_clock -ℤ wait_of side d) ((to -ℤ wait_of side d) +ℤ pos 1)
    (λ ep e slot symbol. cells_told side accepted timely ep e slot symbol (is_claimed_in accepted ep (is_down side) slot symbol) refl)

-- ---- the allocations of a symbol say what is claimed in it

kept_claim : (a : Allocation) (kept : List Allocation) (cell : Cell) (re : ℕ) (rest : Option Claim) (b : Bool) → claim_at kept cell re ≡ rest → (b ≡ false → names a cell re ≡ false)
    → claim_at (if b then a ∷ kept else kept) cell re ≡ (if names a cell re then Some (claim_of a) else rest)
unfolding claim_at
kept_claim a kept cell re rest true is not_in = ap (λ (o : Option Claim). let r : Option Claim = if names a cell re then Some (claim_of a) else o in r) is
kept_claim a kept cell re rest false is not_in =
    is ∙ sym (ap (λ (b : Bool). let o : Option Claim = if b then Some (claim_of a) else rest in o) (not_in refl))

claim_in : (accepted : List Allocation) (ep : ℕ) (down : Bool) (slot : Slot) (symbol prb re : ℕ)
    → claim_at (filter (is_claimed_way ep down slot symbol) accepted) (cell_at ep down slot symbol prb) re ≡ claim_at accepted (cell_at ep down slot symbol prb) re
unfolding claim_at
claim_in [] ep down slot symbol prb re = refl
claim_in (a ∷ earlier) ep down slot symbol prb re =
    kept_claim a (filter (is_claimed_way ep down slot symbol) earlier) (cell_at ep down slot symbol prb) re (claim_at earlier (cell_at ep down slot symbol prb) re) (is_claimed_way ep down slot symbol a)
    (claim_in earlier ep down slot symbol prb re) (not_named a ep down slot symbol prb re)

pub cells_in : (side : Side) (accepted : List Allocation) (timely : List UserSection) (m : SymbolStart)
    → cells_at side (known_of (filter (is_claimed_way m.ep (is_down side) m.slot m.symbol) accepted) timely) m ≡ cells_at side (known_of accepted timely) m
cells_in side accepted timely m =
    each_same 0 m.endpoint.prbs (cell_told side (known_of (filter (is_claimed_way m.ep (is_down side) m.slot m.symbol) accepted) timely) m) (cell_told side (known_of accepted timely) m) (λ prb.
    ap (λ (claims : ℕ → Option Claim). report_of side m.endpoint (cell_at m.ep (is_down side) m.slot m.symbol prb) m.start.0 claims ((known_of accepted timely).blocks (cell_at m.ep (is_down side) m.slot m.symbol prb)))
    (fun_ext (λ re. claim_in accepted m.ep (is_down side) m.slot m.symbol prb re)))

-- by the starts that the code asks for
pub reported_by : (side : Side) (d : Delays) (es : List EndpointConfig) (accepted : List Allocation) (timely : List UserSection) (to : ℤ) (down : Bool) (wait from end : ℤ) (starts : List SymbolStart)
    → down ≡ is_down side → wait ≡ wait_of side d → from ≡ first_clock -ℤ wait → end ≡ (to -ℤ wait) +ℤ pos 1 → starts ≡ sweep (claimed_start accepted down) es from end
    → flat_map (cells_at side (known_of accepted timely)) starts ≡ reported side d es (known_of accepted timely) to
reported_by side d es accepted timely to down wait from end starts down_is wait_is from_is end_is is =
    ap (flat_map (cells_at side (known_of accepted timely)))
    (is ∙ ap (λ (b : Bool). sweep (claimed_start accepted b) es from end) down_is
    ∙ ap (λ z. sweep (claimed_start accepted (is_down side)) es z end) (from_is ∙ ap (λ w. first_clock -ℤ w) wait_is)
    ∙ ap (λ z. sweep (claimed_start accepted (is_down side)) es (first_clock -ℤ wait_of side d) z) (end_is ∙ ap (λ w. (to -ℤ w) +ℤ pos 1) wait_is))
    ∙ sym (reported_told side d es accepted timely to)
