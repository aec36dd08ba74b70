-- What the kept lines claim is what the plan claims.
use Rattle.std.proofs.Common.{◌≡◌, ℕ, inl, inr, Bool, true, false, ◌&&◌, ◌==◌, if◌then◌else◌, List, [], ◌∷◌, ◌++◌, map, Option, Some, None, refl, sym}
use Rattle.std.proofs.lemmas.Option.{same_Some}
use Rattle.unit_model.specs.Claims.{claim_at, claim_of, first_prb, in_mask, is_from, names, prb_count, same_slot, same_way}
use Rattle.unit_model.specs.declared.allocations.Allocation.{Allocation}
use Rattle.unit_model.specs.declared.cells.Cell.{Cell}
use Rattle.unit_model.specs.declared.cells.Claim.{Claim}
use Rattle.du_intake.specs.Lines.{claim_in_slot, is_home, line_of, lines_at, names_in}
use Rattle.du_intake.specs.declared.lines.UplinkLine.{UplinkLine}
use Rattle.fh_base.specs.Members.{IsIn}

-- ---- of a plan

named_home : (a w s y p m : Bool) → (a && s) ≡ true → w ≡ true → ((a && (w && (s && (y && p)))) && m) ≡ ((y && p) && m)
named_home true true true y p m h k = refl
named_home true false s y p m h k = cc
named_home true true false y p m h k = cc
named_home false w s y p m h k = cc

named_elsewhere : (a w s y p m : Bool) → (a && s) ≡ false → ((a && (w && (s && (y && p)))) && m) ≡ false
named_elsewhere true true true y p m h = cc
named_elsewhere true true false y p m h = refl
named_elsewhere true false s y p m h = refl
named_elsewhere false w s y p m h = refl

up_way : (a b : Bool) → a ≡ false → b ≡ false → same_way a b ≡ true
up_way a b h k = rw (h, k) refl

pub claims_planned : (planned : List Allocation) (cell : Cell) (re : ℕ) → ((a : Allocation) → IsIn a planned → (a.down ≡ false) × (a.idle ≡ false)) → cell.down ≡ false
    → claim_in_slot (lines_at cell.ep cell.slot (map line_of planned)) cell.symbol cell.prb re ≡ claim_at planned cell re
unfolding claim_at claim_in_slot
claims_planned [] cell re up down = refl
claims_planned (a ∷ planned) cell re up down = go (is_home cell.ep cell.slot (line_of a)) refl (claims_planned planned cell re (λ b m. up b (inr m)) down)
  where
    chosen : (b c : Bool) (id : ℕ) (idle : Bool) (o p : Option Claim) → b ≡ c → idle ≡ false → o ≡ p
        → (let q : Option Claim = if b then Some (record { id = id; idle = false }) else o in q) ≡ (let q : Option Claim = if c then Some (record { id = id; idle = idle }) else p in q)
    chosen true true id idle o p h k e = rw k refl
    chosen false false id idle o p h k e = e
    chosen true false id idle o p h k e = cc
    chosen false true id idle o p h k e = cc

    skipped : (c : Bool) (k : Claim) (o p : Option Claim) → c ≡ false → o ≡ p → o ≡ (let q : Option Claim = if c then Some k else p in q)
    skipped true k o p h e = cc
    skipped false k o p h e = e

    go : (b : Bool) → is_home cell.ep cell.slot (line_of a) ≡ b → claim_in_slot (lines_at cell.ep cell.slot (map line_of planned)) cell.symbol cell.prb re ≡ claim_at planned cell re
        → claim_in_slot (let ls : List UplinkLine = if b then line_of a ∷ lines_at cell.ep cell.slot (map line_of planned) else lines_at cell.ep cell.slot (map line_of planned) in ls) cell.symbol cell.prb re ≡ claim_at (a ∷ planned) cell re
    go true home e =
        chosen (names_in (line_of a) cell.symbol cell.prb re) (names a cell re) a.section a.idle (claim_in_slot (lines_at cell.ep cell.slot (map line_of planned)) cell.symbol cell.prb re) (claim_at planned cell re)
        (sym (named_home (a.ep == cell.ep) (same_way a.down cell.down) (same_slot a.slot cell.slot) (is_from a.symbol a.num_symbol cell.symbol)
        (is_from (first_prb a) (prb_count a) cell.prb) (in_mask a.mask re) home (up_way a.down cell.down (up a (inl refl)).0 down)))
        (up a (inl refl)).1 e
    go false home e =
        skipped (names a cell re) (claim_of a) (claim_in_slot (lines_at cell.ep cell.slot (map line_of planned)) cell.symbol cell.prb re) (claim_at planned cell re)
        (named_elsewhere (a.ep == cell.ep) (same_way a.down cell.down) (same_slot a.slot cell.slot) (is_from a.symbol a.num_symbol cell.symbol)
        (is_from (first_prb a) (prb_count a) cell.prb) (in_mask a.mask re) home)
        e

-- ---- one line more

abbrev pub claim_or : Option Claim → Option Claim → Option Claim
claim_or None o = o
claim_or (Some c) o = Some c

-- what a line claims of an element, if it names it
abbrev pub own_claim : UplinkLine → Bool → Option Claim
own_claim l named = if named then Some (record { id = l.section; idle = false }) else None

pub claim_last : (ls : List UplinkLine) (l : UplinkLine) (y n re : ℕ)
    → claim_in_slot (ls ++ l ∷ []) y n re ≡ claim_or (claim_in_slot ls y n re) (own_claim l (names_in l y n re))
unfolding claim_in_slot
claim_last [] l y n re = refl
claim_last (k ∷ ls) l y n re = go (names_in k y n re) (claim_last ls l y n re)
  where
    go : (b : Bool) → claim_in_slot (ls ++ l ∷ []) y n re ≡ claim_or (claim_in_slot ls y n re) (own_claim l (names_in l y n re))
        → (let o : Option Claim = if b then Some (record { id = k.section; idle = false }) else claim_in_slot (ls ++ l ∷ []) y n re in o)
        ≡ claim_or (let o : Option Claim = if b then Some (record { id = k.section; idle = false }) else claim_in_slot ls y n re in o) (own_claim l (names_in l y n re))
    go true h = refl
    go false h = h

-- what is claimed is claimed by one of them
pub record IsClaimedBy (ls : List UplinkLine) (y n re : ℕ) (c : Claim) : Type 0 where
  pub by : UplinkLine
  pub there : IsIn by ls
  pub names_it : names_in by y n re ≡ true
  pub is : c ≡ (let k : Claim = record { id = by.section; idle = false } in k)

pub claimed_by : (ls : List UplinkLine) (y n re : ℕ) (c : Claim) → claim_in_slot ls y n re ≡ Some c → IsClaimedBy ls y n re c
unfolding claim_in_slot
claimed_by [] y n re c h = absurd cc
claimed_by (l ∷ ls) y n re c h = go (names_in l y n re) refl h (claimed_by ls y n re c)
  where
    go : (b : Bool) → names_in l y n re ≡ b → (let o : Option Claim = if b then Some (record { id = l.section; idle = false }) else claim_in_slot ls y n re in o) ≡ Some c
        → (claim_in_slot ls y n re ≡ Some c → IsClaimedBy ls y n re c) → IsClaimedBy (l ∷ ls) y n re c
    go true e g before = record { by = l; there = inl refl; names_it = e; is = sym (same_Some _ _ g) }
    go false e g before = let w = before g in record { by = w.by; there = inr w.there; names_it = w.names_it; is = w.is }

pub claim_none : (y n re : ℕ) → claim_in_slot [] y n re ≡ None
unfolding claim_in_slot
claim_none y n re = refl
