-- One row of claims, and what the lines of a slot leave in the row.
use Rattle.std.proofs.Common.{◌≡◌, ℕ, suc, zero, ◌+◌, ◌<◌, ◌^◌, inl, inr, Bool, true, false, ◌&&◌, ◌||◌, ◌==◌, if◌then◌else◌, List, [], ◌∷◌, ◌++◌, length, get_or, take, Option, Some, None, refl, ap, ap₂, sym, ◌∙◌, subst, arith}
use Rattle.std.specs.Prelude.{◌%◌}
use Rattle.std.specs.Int.Bits.{bit_and}
use Rattle.std.proofs.lemmas.Bool.{and_parts}
use Rattle.std.proofs.lemmas.Bool.Decides.{nat_tests}
use Rattle.std.proofs.lemmas.List.{take_more}
use Rattle.std.proofs.lemmas.Nat.{and_mask, or_lt}
use Rattle.std.proofs.lemmas.Option.{slice_get-get_or}
use Rattle.fh_base.proofs.Orders.{not_none}
use Rattle.unit_model.specs.Claims.{in_mask, is_from}
use Rattle.air_source.specs.declared.events.AirCell.{AirCell}
use Rattle.air_source.specs.declared.events.Side.TheVariants.{Du}
use Rattle.bfp_codec.specs.declared.samples.Wide.{Wide}
use Rattle.unit_model.specs.Radiated.{air_cell, cell_id, id_from, id_or, report_of, samples_under, used_mask}
use Rattle.unit_model.specs.declared.cells.Block.{Block}
use Rattle.unit_model.specs.declared.symbol_start.SymbolStart.{SymbolStart}
use Rattle.du_intake.specs.Cursors.{uplink_cell_in}
use Rattle.unit_model.specs.declared.cells.Claim.{Claim}
use Rattle.slot_rings.specs.Places.{claim_in}
use Rattle.slot_rings.specs.declared.claims.CellClaims.{CellClaims}
use Rattle.slot_rings.proofs.MaskLemmas.{in_either, in_none, section_own, used_is}
use Rattle.du_intake.specs.Lines.{claim_in_slot, has_symbol, names_in}
use Rattle.du_intake.specs.Rows.{HaveTwelve, IsRowOf, claim_of_planned, no_claim, claim_with_line}
use Rattle.du_intake.specs.Symbols.{AreOneSection}
use Rattle.du_intake.specs.declared.lines.UplinkLine.{UplinkLine}
use Rattle.du_intake.specs.declared.claims.PlannedClaim.{PlannedClaim}
use Rattle.du_intake.proofs.ClaimLemmas.{claim_last, claim_none, claim_or, claimed_by, own_claim}
use Rattle.unit_laws.proofs.ReportLemmas.{used_same}
use Rattle.fh_base.specs.Members.{IsIn}
use Rattle.fh_base.proofs.MemberLemmas.{get_in}

-- ---- claims of the same elements

pub ids_same : (f g : ℕ → Option Claim) (from n : ℕ) → ((re : ℕ) → f re ≡ g re) → id_from f from n ≡ id_from g from n
unfolding id_from
ids_same f g from zero same = refl
ids_same f g from (suc n) same = ap₂ id_or (same from) (ids_same f g (from + 1) n same)

-- ---- what is reported of a claim

abbrev cell_claims_of : PlannedClaim → CellClaims
cell_claims_of m = record { id = m.section; claimed = m.mask; idle = 0; reported = false }

same_claim : (m : PlannedClaim) (re : ℕ) → claim_of_planned m re ≡ claim_in (cell_claims_of m) re
same_claim m re = ap (λ (b : Bool). let o : Option Claim = if in_mask m.mask re then Some (record { id = m.section; idle = b }) else None in o) (sym (in_none re))

pub claim_mask : (m : PlannedClaim) → m.mask < 2 ^ 12 → used_mask (claim_of_planned m) ≡ m.mask
claim_mask m few =
    let fits : m.mask % 2 ^ 16 % 2 ^ 12 ≡ m.mask = omega (arith, few) in
    used_same (claim_of_planned m) (claim_in (cell_claims_of m)) 12 (λ re below. same_claim m re)
    ∙ sym (used_is (cell_claims_of m) (omega arith)) ∙ ap (λ (k : ℕ). bit_and k 4095) (and_mask m.mask 16) ∙ and_mask (m.mask % 2 ^ 16) 12 ∙ fits

some_mask : (n : ℕ) → n < 2 ^ 12 → 0 < n → (bit_and n 4095 == 0) ≡ false
some_mask n few some =
    let e : bit_and n 4095 ≡ n % 2 ^ 12 = and_mask n 12 in
    ap (λ (k : ℕ). k == 0) e ∙ not_none (n % 2 ^ 12) (omega (arith, few, some))

pub claim_section : (m : PlannedClaim) → m.mask < 2 ^ 12 → 0 < m.mask → cell_id (claim_of_planned m) ≡ m.section
claim_section m few some = ids_same (claim_of_planned m) (claim_in (cell_claims_of m)) 0 12 (same_claim m) ∙ sym (section_own (cell_claims_of m) (some_mask m.mask few some))

-- ---- one line

chosen : (a b : Bool) (old id : ℕ) → (a ≡ true → old ≡ id)
    → (let o : Option Claim = if a || b then Some (record { id = id; idle = false }) else None in o)
    ≡ claim_or (let o : Option Claim = if a then Some (record { id = old; idle = false }) else None in o) (let o : Option Claim = if b then Some (record { id = id; idle = false }) else None in o)
chosen true b old id h = let e = h refl in rw e refl
chosen false true old id h = refl
chosen false false old id h = refl

pub claim_more : (m : PlannedClaim) (l : UplinkLine) (re : ℕ) → (in_mask m.mask re ≡ true → m.section ≡ l.section)
    → claim_of_planned (claim_with_line l m) re ≡ claim_or (claim_of_planned m re) (let o : Option Claim = if in_mask l.mask re then Some (record { id = l.section; idle = false }) else None in o)
claim_more m l re one =
    ap (λ (b : Bool). let o : Option Claim = if b then Some (record { id = l.section; idle = false }) else None in o) (in_either m.mask l.mask re)
    ∙ chosen (in_mask m.mask re) (in_mask l.mask re) m.section l.section one

or_none : (o : Option Claim) → o ≡ claim_or o None
or_none None = refl
or_none (Some c) = refl

-- ---- the lines of a symbol

pub row_none : (row : List PlannedClaim) (symbol : ℕ) → ((prb : ℕ) → get_or row prb no_claim ≡ no_claim) → IsRowOf [] symbol row
row_none row symbol none = record {
  few = λ prb. subst (λ (m : PlannedClaim). m.mask < 2 ^ 12) (sym (none prb)) (omega arith);
  claims = λ prb re.
      ap (λ (m : PlannedClaim). claim_of_planned m re) (none prb) ∙ ap (λ (b : Bool). let o : Option Claim = if b then Some (record { id = 0; idle = false }) else None in o) (in_none re)
      ∙ sym (claim_none symbol prb re);
}

-- a line that names no cell of the symbol
pub row_other : (ls : List UplinkLine) (l : UplinkLine) (symbol : ℕ) (row : List PlannedClaim) → IsRowOf ls symbol row → has_symbol symbol l ≡ false → IsRowOf (ls ++ l ∷ []) symbol row
row_other ls l symbol row is other = record {
  few = is.few;
  claims = λ prb re.
      is.claims prb re ∙ or_none (claim_in_slot ls symbol prb re)
      ∙ ap (λ (b : Bool). claim_or (claim_in_slot ls symbol prb re) (let o : Option Claim = if b then Some (record { id = l.section; idle = false }) else None in o))
      (sym (never (has_symbol symbol l) (is_from l.first_prb l.prbs prb) (in_mask l.mask re) other))
      ∙ sym (claim_last ls l symbol prb re);
}
  where
    never : (a b c : Bool) → a ≡ false → ((a && b) && c) ≡ false
    never a b c h = rw h refl

-- one that does
pub row_more : (ls : List UplinkLine) (l : UplinkLine) (symbol : ℕ) (old new : List PlannedClaim) → IsRowOf ls symbol old → has_symbol symbol l ≡ true → l.mask < 2 ^ 12
    → ((k : UplinkLine) (prb : ℕ) → IsIn k ls → has_symbol symbol k ≡ true → is_from k.first_prb k.prbs prb ≡ true → is_from l.first_prb l.prbs prb ≡ true → k.section ≡ l.section)
    → ((prb : ℕ) → get_or new prb no_claim ≡ (if is_from l.first_prb l.prbs prb then claim_with_line l (get_or old prb no_claim) else get_or old prb no_claim))
    → IsRowOf (ls ++ l ∷ []) symbol new
row_more ls l symbol old new is has few one claims = record {
  few = λ prb. subst (λ (m : PlannedClaim). m.mask < 2 ^ 12) (sym (claims prb)) (small (is_from l.first_prb l.prbs prb) (get_or old prb no_claim) (is.few prb));
  claims = λ prb re.
      ap (λ (m : PlannedClaim). claim_of_planned m re) (claims prb)
      ∙ step (get_or old prb no_claim) prb re (is_from l.first_prb l.prbs prb) refl (is.claims prb re)
      ∙ sym (claim_last ls l symbol prb re);
}
  where
    small : (b : Bool) (m : PlannedClaim) → m.mask < 2 ^ 12 → (let k : PlannedClaim = if b then claim_with_line l m else m in k).mask < 2 ^ 12
    small true m h = or_lt 12 m.mask l.mask h few
    small false m h = h

    own_in : (a b c : Bool) → a ≡ true → b ≡ true → ((a && b) && c) ≡ c
    own_in a b c h k = rw (h, k) refl

    own_out : (a b c : Bool) → b ≡ false → ((a && b) && c) ≡ false
    own_out true b c h = rw h refl
    own_out false b c h = refl

    claim_is : (m : PlannedClaim) (re : ℕ) → in_mask m.mask re ≡ true → claim_of_planned m re ≡ Some (record { id = m.section; idle = false })
    claim_is m re e = ap (λ (b : Bool). let o : Option Claim = if b then Some (record { id = m.section; idle = false }) else None in o) e

    -- the section id of a claim that has the element is that of a line
    section_is : (m : PlannedClaim) (prb re : ℕ) → is_from l.first_prb l.prbs prb ≡ true → claim_of_planned m re ≡ claim_in_slot ls symbol prb re → in_mask m.mask re ≡ true → m.section ≡ l.section
    section_is m prb re here same e =
        let c : Claim = record { id = m.section; idle = false } in
        let w = claimed_by ls symbol prb re c (sym same ∙ claim_is m re e) in
        let p = and_parts (has_symbol symbol w.by && is_from w.by.first_prb w.by.prbs prb) _ w.names_it in
        let q = and_parts (has_symbol symbol w.by) (is_from w.by.first_prb w.by.prbs prb) p.0 in
        ap (λ (x : Claim). x.id) w.is ∙ one w.by prb w.there q.0 q.1 here

    step : (m : PlannedClaim) (prb re : ℕ) (b : Bool) → is_from l.first_prb l.prbs prb ≡ b → claim_of_planned m re ≡ claim_in_slot ls symbol prb re
        → claim_of_planned (let k : PlannedClaim = if b then claim_with_line l m else m in k) re ≡ claim_or (claim_in_slot ls symbol prb re) (own_claim l (names_in l symbol prb re))
    step m prb re true e same =
        claim_more m l re (section_is m prb re e same)
        ∙ ap₂ (λ (o : Option Claim) (t : Bool). claim_or o (own_claim l t)) same (sym (own_in (has_symbol symbol l) (is_from l.first_prb l.prbs prb) (in_mask l.mask re) has e))
    step m prb re false e same =
        same ∙ or_none (claim_in_slot ls symbol prb re)
        ∙ ap (λ (t : Bool). claim_or (claim_in_slot ls symbol prb re) (own_claim l t)) (sym (own_out (has_symbol symbol l) (is_from l.first_prb l.prbs prb) (in_mask l.mask re) e))

-- ---- line by line

pub in_take : {X : Type 0} (n : ℕ) (x : X) (xs : List X) → IsIn x (take n xs) → IsIn x xs
in_take zero x xs m = absurd m
in_take (suc n) x [] m = absurd m
in_take (suc n) x (y ∷ xs) (inl here) = inl here
in_take (suc n) x (y ∷ xs) (inr there) = inr (in_take n x xs there)

pub row_claimed : (ls : List UplinkLine) (i : ℕ) (d : UplinkLine) (symbol : ℕ) (old new : List PlannedClaim) → i < length ls → HaveTwelve ls → AreOneSection ls symbol
    → IsRowOf (take i ls) symbol old → has_symbol symbol (get_or ls i d) ≡ true
    → ((prb : ℕ) → get_or new prb no_claim
    ≡ (if is_from (get_or ls i d).first_prb (get_or ls i d).prbs prb then claim_with_line (get_or ls i d) (get_or old prb no_claim) else get_or old prb no_claim))
    → IsRowOf (take (i + 1) ls) symbol new
row_claimed ls i d symbol old new below twelve one is has claims =
    let l = get_or ls i d in
    let at = slice_get-get_or ls i d below in
    subst (λ (xs : List UplinkLine). IsRowOf xs symbol new) (sym (take_more ls i d below))
    (row_more (take i ls) l symbol old new is has (twelve i l at)
    (λ k prb m has_k here_k here_l. (let w = get_in k ls (in_take i k ls m) in one w.0 i prb k l w.1 at has_k has here_k here_l)) claims)

pub row_skipped : (ls : List UplinkLine) (i : ℕ) (d : UplinkLine) (symbol : ℕ) (row : List PlannedClaim) → i < length ls → IsRowOf (take i ls) symbol row
    → has_symbol symbol (get_or ls i d) ≡ false → IsRowOf (take (i + 1) ls) symbol row
row_skipped ls i d symbol row below is other =
    subst (λ (xs : List UplinkLine). IsRowOf xs symbol row) (sym (take_more ls i d below)) (row_other (take i ls) (get_or ls i d) symbol row is other)

-- ---- the report of a cell

pub no_row_claim : (m : PlannedClaim) → m.mask < 2 ^ 12 → m.mask ≡ 0 → (used_mask (claim_of_planned m) == 0) ≡ true
no_row_claim m few none = ap (λ (n : ℕ). n == 0) (claim_mask m few ∙ none)

pub claim_some : (m : PlannedClaim) → m.mask < 2 ^ 12 → (m.mask ≡ 0 → ⊥) → (used_mask (claim_of_planned m) == 0) ≡ false
claim_some m few some = ap (λ (n : ℕ). n == 0) (claim_mask m few) ∙ other m.mask some
  where
    other : (k : ℕ) → (k ≡ 0 → ⊥) → (k == 0) ≡ false
    other k h = grind (arith, nat_tests)

pub report_none : (next : SymbolStart) (prb : ℕ) (m : PlannedClaim) (block : Option Block) → m.mask < 2 ^ 12 → m.mask ≡ 0
    → (let xs : List AirCell = [] in xs) ≡ report_of Du next.endpoint (uplink_cell_in next prb) next.start.0 (claim_of_planned m) block
report_none next prb m block few none =
    sym (ap (λ (b : Bool). let xs : List AirCell = if b then [] else air_cell Du next.endpoint (uplink_cell_in next prb) next.start.0 (claim_of_planned m) block ∷ [] in xs) (no_row_claim m few none))

pub report_some : (next : SymbolStart) (prb : ℕ) (m : PlannedClaim) (block : Option Block) (samples : Option (List Wide)) → m.mask < 2 ^ 12 → (m.mask ≡ 0 → ⊥)
    → samples ≡ samples_under m.section block
    → (let a : AirCell = record { side = Du; at = next.start; id = next.endpoint.id; slot = next.slot; symbol = next.symbol; prb = prb; section = m.section; mask = m.mask; block = samples } in a) ∷ []
    ≡ report_of Du next.endpoint (uplink_cell_in next prb) next.start.0 (claim_of_planned m) block
report_some next prb m block samples few some is =
    ap (λ (o : Option (List Wide)). (let a : AirCell = record { side = Du; at = next.start; id = next.endpoint.id; slot = next.slot; symbol = next.symbol; prb = prb; section = m.section; mask = m.mask; block = o } in a) ∷ []) is
    ∙ ap₂ (λ (i k : ℕ). (let a : AirCell = record { side = Du; at = next.start; id = next.endpoint.id; slot = next.slot; symbol = next.symbol; prb = prb; section = i; mask = k; block = samples_under i block } in a) ∷ [])
    (sym (claim_section m few (positive m.mask some))) (sym (claim_mask m few))
    ∙ sym (ap (λ (b : Bool). let xs : List AirCell = if b then [] else air_cell Du next.endpoint (uplink_cell_in next prb) next.start.0 (claim_of_planned m) block ∷ [] in xs) (claim_some m few some))
  where
    positive : (k : ℕ) → (k ≡ 0 → ⊥) → 0 < k
    positive k h = omega (arith, h)
