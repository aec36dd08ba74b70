-- What gave a cell its block and its claims.
use Rattle.std.proofs.Common.{◌≡◌, ℕ, suc, ◌<◌, Bool, true, false, ◌&&◌, ◌||◌, List, [], ◌∷◌, ◌++◌, inl, inr, refl, sym, ap, ◌∙◌, arith}
use Rattle.std.specs.Prelude.{◌==◌, if◌then◌else◌, Contains, Option, Some, None, is_some}
use Rattle.std.proofs.lemmas.Bool.{and_parts, or_parts, eqb-true}
use Rattle.std.proofs.lemmas.Option.{same_Some}
use Rattle.bfp_codec.specs.declared.samples.Wide.{Wide}
use Rattle.air_source.specs.declared.events.Side.{Side}
use Rattle.window_config.specs.declared.delays.Delays.{Delays}
use Rattle.window_config.specs.declared.verdicts.Class.TheVariants.{OnTime}
use Rattle.unit_model.specs.Blocks.{block_at, block_in, block_of, data_class, data_covers, timely}
use Rattle.unit_model.specs.Claims.{cell_of, claim_at, claim_of, covers, first_prb, in_mask, is_other, is_overlapped, names, overlaps, prb_count, some_cell}
use Rattle.unit_model.specs.Commands.{accepted, allocation_of, command_verdict}
use Rattle.fh_base.specs.Lists.{or_else, some}
use Rattle.unit_model.specs.Radiated.{samples_under}
use Rattle.unit_model.specs.declared.allocations.Allocation.{Allocation}
use Rattle.unit_model.specs.declared.cells.Block.{Block}
use Rattle.unit_model.specs.declared.cells.Cell.{Cell}
use Rattle.unit_model.specs.declared.cells.Claim.{Claim}
use Rattle.unit_model.specs.declared.decoded.ControlSection.{ControlSection}
use Rattle.unit_model.specs.declared.decoded.UserSection.{UserSection}
use Rattle.unit_model.specs.declared.verdicts.CommandVerdict.TheVariants.{Accepted}
use Rattle.replay_laws.specs.Shown.{HaveOneId}
use Rattle.unit_laws.proofs.AcceptanceLemmas.{accepted_is_acceptable}
use Rattle.unit_laws.proofs.CellLemmas.{covered_cell, some_false}
use Rattle.unit_laws.proofs.ChangeLemmas.{accepted_more, block-cons, claim-cons, claim_same, either_way, timely_more}
use Rattle.fh_base.proofs.Orders.{is_true as not_false}
use Rattle.unit_model.proofs.ClaimLemmas.{starts_before as from_first, from_within, covers_is}

-- ---- where nothing was received

none_given : (side : Side) (d : Delays) (cell : Cell) (b : Block) → block_at (timely side d []) cell ≡ Some b → ⊥
unfolding timely block_at
none_given side d cell b h = cc

none_claimed : (d : Delays) (cell : Cell) (re : ℕ) (k : Claim) → claim_at (accepted d []) cell re ≡ Some k → ⊥
unfolding accepted claim_at
none_claimed d cell re k h = cc

-- ---- the block of a cell

-- samples that are reported are those of the cell's block, under the cell's id
pub record IsUnder (id : ℕ) (o : Option Block) (samples : List Wide) : Type 0 where
  pub block : Block
  pub is : o ≡ Some block
  pub id_is : block.id ≡ id
  pub samples_are : block.samples ≡ samples

pub samples_are_under : (id : ℕ) (o : Option Block) (samples : List Wide) → samples_under id o ≡ Some samples → IsUnder id o samples
samples_are_under id None samples h = absurd cc
samples_are_under id (Some b) samples h = go (b.id == id) refl h
  where
    go : (t : Bool) → (b.id == id) ≡ t → (let o : Option (List Wide) = if t then Some b.samples else None in o) ≡ Some samples → IsUnder id (Some b) samples
    go true same e = record { block = b; is = refl; id_is = eqb-true b.id id same; samples_are = same_Some b.samples samples e }
    go false same e = absurd cc

-- a section of data that was on time gave it
pub record IsGiven (side : Side) (d : Delays) (ds : List UserSection) (cell : Cell) (b : Block) : Type 0 where
  pub x : UserSection
  pub inside : Contains ds x
  pub on_time : data_class side d x ≡ OnTime
  pub covers : data_covers x cell ≡ true
  pub is : block_of x cell ≡ b

pub first_inside : {A : Type 0} (x : A) (xs : List A) → Contains (x ∷ xs) x
first_inside x xs = (0, omega arith, refl)

pub later_inside : {A : Type 0} (x y : A) (xs : List A) → Contains xs y → Contains (x ∷ xs) y
later_inside x y xs h = let lt = h.1 in (suc h.0, omega arith, h.2)

given_later : (side : Side) (d : Delays) (x : UserSection) (ds : List UserSection) (cell : Cell) (b : Block) → IsGiven side d ds cell b → IsGiven side d (x ∷ ds) cell b
given_later side d x ds cell b g = record { x = g.x; inside = later_inside x g.x ds g.inside; on_time = g.on_time; covers = g.covers; is = g.is }

given_here : (side : Side) (d : Delays) (x : UserSection) (ds : List UserSection) (cell : Cell) (b : Block) (covered : Bool) → data_class side d x ≡ OnTime → data_covers x cell ≡ covered
    → (let o : Option Block = if covered then Some (block_of x cell) else None in o) ≡ Some b → IsGiven side d (x ∷ ds) cell b
given_here side d x ds cell b true on_time is e =
    record { x = x; inside = first_inside x ds; on_time = on_time; covers = is; is = same_Some (block_of x cell) b e }
given_here side d x ds cell b false on_time is e = absurd cc

pub block_given : (side : Side) (d : Delays) (ds : List UserSection) (cell : Cell) (b : Block) → block_at (timely side d ds) cell ≡ Some b → IsGiven side d ds cell b
block_given side d [] cell b there = absurd (none_given side d cell b there)
block_given side d (x ∷ earlier) cell b there = elim (timely_more side d x earlier) [
  | inl e ↦ given_later side d x earlier cell b (block_given side d earlier cell b (sym (ap (λ (xs : List UserSection). block_at xs cell) e) ∙ there))
  | inr is ↦ go is.0 (block_given side d earlier cell b) (block_at (timely side d earlier) cell) refl (sym (block-cons x (timely side d earlier) cell) ∙ sym (ap (λ (xs : List UserSection). block_at xs cell) is.1) ∙ there)
]
  where
    go : data_class side d x ≡ OnTime → (block_at (timely side d earlier) cell ≡ Some b → IsGiven side d earlier cell b) → (o : Option Block) → block_at (timely side d earlier) cell ≡ o
        → or_else (block_at (timely side d earlier) cell) (block_in x cell) ≡ Some b → IsGiven side d (x ∷ earlier) cell b
    go on_time given (Some c) before e =
        given_later side d x earlier cell b (given (before ∙ sym (ap (λ (o : Option Block). or_else o (block_in x cell)) before) ∙ e))
    go on_time given None before e =
        given_here side d x earlier cell b (data_covers x cell) on_time refl (sym (ap (λ (o : Option Block). or_else o (block_in x cell)) before) ∙ e)

-- ---- the claim on an element

-- a command that was accepted over what the earlier ones left, and names the element, gave it
pub record IsClaimed (d : Delays) (cs : List ControlSection) (cell : Cell) (re : ℕ) (k : Claim) : Type 0 where
  pub later : List ControlSection
  pub command : ControlSection
  pub earlier : List ControlSection
  pub parts : cs ≡ later ++ command ∷ earlier
  pub named : names (allocation_of command) cell re ≡ true
  pub accepted_is : command_verdict d (accepted d earlier) command ≡ Accepted
  pub is : claim_of (allocation_of command) ≡ k

claimed_later : (d : Delays) (c : ControlSection) (cs : List ControlSection) (cell : Cell) (re : ℕ) (k : Claim) → IsClaimed d cs cell re k → IsClaimed d (c ∷ cs) cell re k
claimed_later d c cs cell re k g = record {
  later = c ∷ g.later;
  command = g.command;
  earlier = g.earlier;
  parts = ap (λ (xs : List ControlSection). c ∷ xs) g.parts;
  named = g.named;
  accepted_is = g.accepted_is;
  is = g.is;
}

pub claim_named : (a : Allocation) (earlier : List Allocation) (cell : Cell) (re : ℕ) → names a cell re ≡ true → claim_at (a ∷ earlier) cell re ≡ Some (claim_of a)
claim_named a earlier cell re h = claim-cons a earlier cell re ∙ ap (λ b. if b then Some (claim_of a) else claim_at earlier cell re) h

pub claim_given : (d : Delays) (cs : List ControlSection) (cell : Cell) (re : ℕ) (k : Claim) → claim_at (accepted d cs) cell re ≡ Some k → IsClaimed d cs cell re k
claim_given d [] cell re k there = absurd (none_claimed d cell re k there)
claim_given d (c ∷ earlier) cell re k there = elim (accepted_more d c earlier) [
  | inl e ↦ claimed_later d c earlier cell re k (claim_given d earlier cell re k (sym (ap (λ (xs : List Allocation). claim_at xs cell re) e) ∙ there))
  | inr is ↦
      let a = allocation_of c in
      let before = accepted d earlier in
      let there_now = sym (ap (λ (xs : List Allocation). claim_at xs cell re) is.1) ∙ there in
      elim (either_way (names a cell re)) [
        | inl not_named ↦ claimed_later d c earlier cell re k (claim_given d earlier cell re k (sym (claim_same a before cell re not_named) ∙ there_now))
        | inr named ↦ record {
          later = [];
          command = c;
          earlier = earlier;
          parts = refl;
          named = named;
          accepted_is = is.0;
          is = same_Some (claim_of a) k (sym (claim_named a before cell re named) ∙ there_now);
        }
      ]
]

-- ---- the claim on an element that is planned

pub record IsPlanned (planned : List Allocation) (cell : Cell) (re : ℕ) (k : Claim) : Type 0 where
  pub allocation : Allocation
  pub there : Contains planned allocation
  pub named : names allocation cell re ≡ true
  pub is : claim_of allocation ≡ k

nothing_planned : (cell : Cell) (re : ℕ) (k : Claim) → claim_at [] cell re ≡ Some k → ⊥
unfolding claim_at
nothing_planned cell re k h = cc

planned_later : (a : Allocation) (planned : List Allocation) (cell : Cell) (re : ℕ) (k : Claim) → IsPlanned planned cell re k → IsPlanned (a ∷ planned) cell re k
planned_later a planned cell re k g =
    record { allocation = g.allocation; there = later_inside a g.allocation planned g.there; named = g.named; is = g.is }

pub planned_given : (planned : List Allocation) (cell : Cell) (re : ℕ) (k : Claim) → claim_at planned cell re ≡ Some k → IsPlanned planned cell re k
planned_given [] cell re k there = absurd (nothing_planned cell re k there)
planned_given (a ∷ planned) cell re k there = elim (either_way (names a cell re)) [
  | inl not_named ↦ planned_later a planned cell re k (planned_given planned cell re k (sym (claim_same a planned cell re not_named) ∙ there))
  | inr named ↦ record {
    allocation = a;
    there = first_inside a planned;
    named = named;
    is = same_Some (claim_of a) k (sym (claim_named a planned cell re named) ∙ there);
  }
]

-- ---- all claims of a cell have one id

under_not_other : (id : ℕ) (o : Option Claim) (l : Claim) → o ≡ Some l → is_other id o ≡ false → l.id ≡ id
under_not_other id o l is h =
    eqb-true l.id id (not_false (l.id == id) (sym (ap (is_other id) is) ∙ h))

-- where an allocation overlaps nothing, the cells that it covers are claimed under its own id alone
own_id : (earlier : List Allocation) (a : Allocation) (cell : Cell) (re : ℕ) (l : Claim) → overlaps earlier a ≡ false → covers a cell ≡ true → re < 12
    → claim_at earlier cell re ≡ Some l → l.id ≡ a.section
unfolding overlaps some_cell
own_id earlier a cell re l apart covered below there =
    let is = covers_is a cell covered in
    let symbol =
    some_false a.symbol a.num_symbol (λ y. some (first_prb a) (prb_count a) (λ n. is_overlapped a.section a.mask (claim_at earlier (cell_of a y n)))) apart cell.symbol
    (from_first a.symbol a.num_symbol cell.symbol is.symbol) (from_within a.symbol a.num_symbol cell.symbol is.symbol) in
    let prb =
    some_false (first_prb a) (prb_count a) (λ n. is_overlapped a.section a.mask (claim_at earlier (cell_of a cell.symbol n))) symbol cell.prb
    (from_first (first_prb a) (prb_count a) cell.prb is.prb) (from_within (first_prb a) (prb_count a) cell.prb is.prb) in
    let o = claim_at earlier (cell_of a cell.symbol cell.prb) re in
    let element =
    some_false 0 12 (λ r. (in_mask a.mask r && is_some (claim_at earlier (cell_of a cell.symbol cell.prb) r)) || is_other a.section (claim_at earlier (cell_of a cell.symbol cell.prb) r)) prb re
    (omega arith) (omega arith) in
    let parts = or_parts (in_mask a.mask re && is_some o) (is_other a.section o) element in
    under_not_other a.section o l (ap (λ (x : Cell). claim_at earlier x re) (covered_cell a cell is) ∙ there) parts.1

one_more_id : (a : Allocation) (earlier : List Allocation) (cell : Cell) → overlaps earlier a ≡ false → HaveOneId earlier cell → HaveOneId (a ∷ earlier) cell
one_more_id a earlier cell apart one re other k l small few there also = elim (either_way (names a cell re)) [
  | inl not_named ↦ elim (either_way (names a cell other)) [
    | inl not_other ↦ one re other k l small few (before re k not_named there) (before other l not_other also)
    | inr is_named ↦ own re k not_named (covered other is_named) small there ∙ sym (new other l is_named also)
  ]
  | inr named ↦ elim (either_way (names a cell other)) [
    | inl not_other ↦ new re k named there ∙ sym (own other l not_other (covered re named) few also)
    | inr is_named ↦ new re k named there ∙ sym (new other l is_named also)
  ]
]
  where
    before : (r : ℕ) (x : Claim) → names a cell r ≡ false → claim_at (a ∷ earlier) cell r ≡ Some x → claim_at earlier cell r ≡ Some x
    before r x h e = sym (claim_same a earlier cell r h) ∙ e

    covered : (r : ℕ) → names a cell r ≡ true → covers a cell ≡ true
    covered r h = (and_parts (covers a cell) (in_mask a.mask r) h).0

    new : (r : ℕ) (x : Claim) → names a cell r ≡ true → claim_at (a ∷ earlier) cell r ≡ Some x → x.id ≡ a.section
    new r x h e = sym (ap (λ (c : Claim). c.id) (same_Some (claim_of a) x (sym (claim_named a earlier cell r h) ∙ e)))

    own : (r : ℕ) (x : Claim) → names a cell r ≡ false → covers a cell ≡ true → r < 12 → claim_at (a ∷ earlier) cell r ≡ Some x → x.id ≡ a.section
    own r x h over below e = own_id earlier a cell r x apart over below (before r x h e)

pub one_id : (d : Delays) (cs : List ControlSection) (cell : Cell) → HaveOneId (accepted d cs) cell
one_id d [] cell re other k l small few there also = absurd (none_claimed d cell re k there)
one_id d (c ∷ earlier) cell re other k l small few there also = elim (accepted_more d c earlier) [
  | inl e ↦ one_id d earlier cell re other k l small few (sym (as_before e re) ∙ there) (sym (as_before e other) ∙ also)
  | inr is ↦
      one_more_id (allocation_of c) (accepted d earlier) cell (accepted_is_acceptable d (accepted d earlier) c is.0).apart (one_id d earlier cell) re other k l small few
      (sym (ap (λ (xs : List Allocation). claim_at xs cell re) is.1) ∙ there) (sym (ap (λ (xs : List Allocation). claim_at xs cell other) is.1) ∙ also)
]
  where
    as_before : accepted d (c ∷ earlier) ≡ accepted d earlier → (r : ℕ) → claim_at (accepted d (c ∷ earlier)) cell r ≡ claim_at (accepted d earlier) cell r
    as_before e r = ap (λ (xs : List Allocation). claim_at xs cell r) e
