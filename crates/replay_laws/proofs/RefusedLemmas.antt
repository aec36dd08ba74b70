-- A message, fragment or section that is refused changes nothing but counters.
use Rattle.std.proofs.Common.{◌≡◌, ◌≢◌, ℕ, ℤ, zero, suc, ◌+◌, ◌<◌, ◌≤◌, Bool, true, false, List, [], ◌∷◌, ◌++◌, inl, inr, refl, sym, ap, ap₂, ◌∙◌, subst, arith}
use Rattle.std.specs.Prelude.{◌==◌, if◌then◌else◌, Option, None, is_some}
use Rattle.std.proofs.lemmas.Bool.{and_parts, cases_eq, eqb-true}
use Rattle.fh_base.specs.declared.values.Slot.{Slot}
use Rattle.air_source.specs.declared.events.Side.{Side}
use Rattle.ecpri_fragments.specs.Generations.{Fragment, Generation, begins, begun, generations, generations_of, held_in, is_first, is_of, is_within, joined, of_id, with_fragment}
use Rattle.ecpri_fragments.specs.Verdicts.{Message, Rests, is_whole, placed, refused, standing, standing_before, verdict, verdict_on, with_one, whole_of}
use Rattle.ecpri_fragments.specs.declared.verdict.Verdict.{Verdict}
use Rattle.ecpri_fragments.specs.declared.verdict.Verdict.TheVariants as fragment
use Rattle.window_config.specs.declared.delays.Delays.{Delays}
use Rattle.window_config.specs.declared.verdicts.Class.{Class}
use Rattle.window_config.specs.declared.verdicts.Class.TheVariants as class
use Rattle.unit_model.specs.Blocks.{block_at, block_in, data_class, data_covers, data_prb_count, data_slot, data_verdict, data_verdict_in, every_data_cell, first_data_prb, has_all, timely, with_timely}
use Rattle.unit_model.specs.Claims.{cell_at}
use Rattle.unit_model.specs.Commands.{accepted, allocation_of, command_verdict, with_accepted}
use Rattle.unit_model.specs.Decoding.{data_sections, data_told, decoded_now}
use Rattle.fh_base.specs.Lists.{every, onto, or_else}
use Rattle.unit_model.specs.Meetings.{Meeting, Ignored, Commands, Piece, commands, fragments}
use Rattle.unit_model.specs.Reports.{hold_of}
use Rattle.unit_model.specs.declared.allocations.Allocation.{Allocation}
use Rattle.unit_model.specs.declared.cells.Block.{Block}
use Rattle.unit_model.specs.declared.cells.Cell.{Cell}
use Rattle.unit_model.specs.declared.decoded.ControlSection.{ControlSection}
use Rattle.unit_model.specs.declared.decoded.UserSection.{UserSection}
use Rattle.unit_model.specs.declared.verdicts.CommandVerdict.TheVariants.{Accepted}
use Rattle.unit_model.specs.declared.verdicts.DataVerdict.TheVariants.{Repeat, Taken}
use Rattle.unit_model.proofs.BlockLemmas.{newer_found}
use Rattle.unit_laws.proofs.CellLemmas.{DataCovers, data_covers_is}
use Rattle.unit_laws.proofs.ChangeLemmas.{accepted-cons, accepted_more, block-cons, block_same, either_way, timely-cons, timely_more}
use Rattle.replay_laws.specs.Refused.{EachRefusedChangesNothing, IsRefusedMessage}
use Rattle.ecpri_fragments.proofs.Steps.{refuses, no_first}
use Rattle.unit_model.proofs.ClaimLemmas.{starts_before as from_first, from_within}

-- ---- a section of a command

accepted_rests : (d : Delays) (later : List ControlSection) (x : ControlSection) (earlier : List ControlSection) → command_verdict d (accepted d earlier) x ≢ Accepted
    → accepted d (later ++ earlier) ≡ accepted d (later ++ x ∷ earlier)
accepted_rests d [] x earlier not_accepted = elim (accepted_more d x earlier) [
  | inl e ↦ sym e
  | inr is ↦ absurd (not_accepted is.0)
]
accepted_rests d (y ∷ later) x earlier not_accepted =
    accepted-cons d y (later ++ earlier)
    ∙ ap (λ (xs : List Allocation). with_accepted (command_verdict d xs y) (allocation_of y) xs) (accepted_rests d later x earlier not_accepted)
    ∙ sym (accepted-cons d y (later ++ x ∷ earlier))

-- ---- a section of data

every_true : (from n : ℕ) (p : ℕ → Bool) → every from n p ≡ true → (k : ℕ) → from ≤ k → k < from + n → p k ≡ true
unfolding every
every_true from zero p h k above below = absurd (omega arith)
every_true from (suc n) p h k above below =
    let parts = and_parts (p from) (every (from + 1) n p) h in
    elim (cases_eq from k) [
      | inl e ↦ ap p (sym e) ∙ parts.0
      | inr ne ↦ every_true (from + 1) n p parts.1 k (omega (arith, ne)) (omega arith)
    ]

-- a section that has all its blocks has that of each cell that it covers
block_there : (x : UserSection) (earlier : List UserSection) (cell : Cell) → has_all earlier x ≡ true → data_covers x cell ≡ true
    → is_some (block_at earlier cell) ≡ true
unfolding has_all every_data_cell
block_there x earlier cell all covered =
    let one =
    every_true (first_data_prb x) (data_prb_count x) (λ n. is_some (block_at earlier (cell_at x.ep x.head.down (data_slot x) x.section.symbol n))) all cell.prb
    (from_first (first_data_prb x) (data_prb_count x) cell.prb is.prb) (from_within (first_data_prb x) (data_prb_count x) cell.prb is.prb) in
    sym (ap (λ (y : Cell). is_some (block_at earlier y)) same_cell) ∙ one
  where
    is : DataCovers x cell
    is = data_covers_is x cell covered

    same_cell : cell_at x.ep x.head.down (data_slot x) x.section.symbol cell.prb ≡ cell
    same_cell =
        ap (λ (y : ℕ). cell_at y x.head.down (data_slot x) x.section.symbol cell.prb) is.ep
        ∙ ap (λ (y : Bool). cell_at cell.ep y (data_slot x) x.section.symbol cell.prb) is.down
        ∙ ap (λ (y : Slot). cell_at cell.ep cell.down y x.section.symbol cell.prb) is.slot
        ∙ ap (λ (y : ℕ). cell_at cell.ep cell.down cell.slot y cell.prb) is.symbol

repeat_rests : (x : UserSection) (earlier : List UserSection) (cell : Cell) → has_all earlier x ≡ true → block_at earlier cell ≡ block_at (x ∷ earlier) cell
repeat_rests x earlier cell all = elim (either_way (data_covers x cell)) [
  | inl outside ↦ sym (block_same x earlier cell outside)
  | inr covered ↦ newer_found (block_at earlier cell) (block_in x cell) (block_there x earlier cell all covered) ∙ sym (block-cons x earlier cell)
]

-- data on time that are not taken have all their blocks
not_taken : (side : Side) (d : Delays) (x : UserSection) (earlier : List UserSection) → data_class side d x ≡ class.OnTime → data_verdict side d earlier x ≢ Taken
    → has_all earlier x ≡ true
unfolding data_verdict
not_taken side d x earlier on_time untaken = go (has_all earlier x) refl
  where
    go : (b : Bool) → has_all earlier x ≡ b → b ≡ true
    go true is = refl
    go false is = absurd (untaken (ap (λ (k : Class). data_verdict_in k earlier x) on_time ∙ ap (λ b. if b then Repeat else Taken) is))

blocks_more : (k : Class) (y : UserSection) (xs ys : List UserSection) (cell : Cell) → block_at xs cell ≡ block_at ys cell
    → block_at (with_timely k y xs) cell ≡ block_at (with_timely k y ys) cell
blocks_more class.Late y xs ys cell same = same
blocks_more class.Early y xs ys cell same = same
blocks_more class.OnTime y xs ys cell same =
    block-cons y xs cell ∙ ap (λ (o : Option Block). or_else o (block_in y cell)) same ∙ sym (block-cons y ys cell)

blocks_rest : (side : Side) (d : Delays) (later : List UserSection) (x : UserSection) (earlier : List UserSection) → data_verdict side d (timely side d earlier) x ≢ Taken
    → (cell : Cell) → block_at (timely side d (later ++ earlier)) cell ≡ block_at (timely side d (later ++ x ∷ earlier)) cell
blocks_rest side d [] x earlier untaken cell = elim (timely_more side d x earlier) [
  | inl e ↦ sym (ap (λ (xs : List UserSection). block_at xs cell) e)
  | inr is ↦
      repeat_rests x (timely side d earlier) cell (not_taken side d x (timely side d earlier) is.0 untaken)
      ∙ sym (ap (λ (xs : List UserSection). block_at xs cell) is.1)
]
blocks_rest side d (y ∷ later) x earlier untaken cell =
    ap (λ (xs : List UserSection). block_at xs cell) (timely-cons side d y (later ++ earlier))
    ∙ blocks_more (data_class side d y) y _ _ cell (blocks_rest side d later x earlier untaken cell)
    ∙ sym (ap (λ (xs : List UserSection). block_at xs cell) (timely-cons side d y (later ++ x ∷ earlier)))

-- ---- generations that a later fragment cannot tell apart

-- the last ones began at one time, and the same is stored in them
abbrev pub AreAlike : List Generation → List Generation → Type 0
AreAlike [] [] = Unit {0}
AreAlike [] (h ∷ hs) = ⊥
AreAlike (g ∷ gs) [] = ⊥
AreAlike (g ∷ gs) (h ∷ hs) = (g.start ≡ h.start) × (standing g.held ≡ standing h.held)

alike_self : (gs : List Generation) → AreAlike gs gs
alike_self [] = tt
alike_self (g ∷ gs) = (refl, refl)

pub alike_more : (hold : ℤ) (a : Fragment) (gs hs : List Generation) → AreAlike gs hs → AreAlike (with_fragment hold a gs) (with_fragment hold a hs)
alike_more hold a [] [] same = (refl, refl)
alike_more hold a [] (h ∷ hs) same = absurd same
alike_more hold a (g ∷ gs) [] same = absurd same
alike_more hold a (g ∷ gs) (h ∷ hs) same =
    subst (λ (t : ℤ). AreAlike (with_fragment hold a (g ∷ gs)) (if is_within hold t a.at then joined a h ∷ hs else begun a ∷ h ∷ hs)) same.0
    (go (is_within hold g.start a.at))
  where
    go : (w : Bool) → AreAlike (if w then joined a g ∷ gs else begun a ∷ g ∷ gs) (if w then joined a h ∷ hs else begun a ∷ h ∷ hs)
    go true = (same.0, ap (λ (s : List Fragment). placed s a) same.1)
    go false = (refl, refl)

-- the same is stored before a fragment
pub alike_standing : (hold at : ℤ) (gs hs : List Generation) → AreAlike gs hs → standing (held_in hold at gs) ≡ standing (held_in hold at hs)
alike_standing hold at [] [] same = refl
alike_standing hold at [] (h ∷ hs) same = absurd same
alike_standing hold at (g ∷ gs) [] same = absurd same
alike_standing hold at (g ∷ gs) (h ∷ hs) same =
    go (is_within hold g.start at) ∙ ap (λ (t : ℤ). standing (if is_within hold t at then h.held else [])) same.0
  where
    go : (w : Bool) → standing (if w then g.held else []) ≡ standing (if w then h.held else [])
    go true = same.1
    go false = refl

-- ---- a fragment that rests

-- so it joins the last one, in which the same is stored as before
rest_joins : (hold : ℤ) (a : Fragment) (gs : List Generation) → Rests (verdict (standing (held_in hold a.at gs)) a) (begins hold a.at gs)
    → AreAlike gs (with_fragment hold a gs)
rest_joins hold a [] rests = absurd (no_first a rests)
rest_joins hold a (g ∷ gs) rests = go (is_within hold g.start a.at) rests
  where
    go : (w : Bool) → Rests (verdict (standing (if w then g.held else [])) a) (if w then false else true)
        → AreAlike (g ∷ gs) (if w then joined a g ∷ gs else begun a ∷ g ∷ gs)
    go true rests =
        let no_place = refuses (refused (standing g.held) a) (is_whole (a ∷ standing g.held)) false rests in
        (refl, sym (ap (λ (o : Option Verdict). with_one o a (standing g.held)) no_place.1))
    go false rests = absurd (no_first a rests)

none_whole : (v : Verdict) (first : Bool) (a : Fragment) (stood : List Fragment) → Rests v first → whole_of v a stood ≡ None
none_whole fragment.Stored first a stood rests = absurd rests
none_whole fragment.Whole first a stood rests = absurd rests
none_whole fragment.Repeat first a stood rests = refl
none_whole fragment.Stray first a stood rests = refl
none_whole fragment.TooLong first a stood rests = refl

-- for each endpoint and sequence id
abbrev AllAlike : ℤ → List Fragment → List Fragment → Type 0
AllAlike hold fs gs = (ep seq : ℕ) → AreAlike (generations_of hold ep seq fs) (generations_of hold ep seq gs)

all_alike_more : (hold : ℤ) (x : Fragment) (fs gs : List Fragment) → AllAlike hold fs gs → AllAlike hold (x ∷ fs) (x ∷ gs)
all_alike_more hold x fs gs same ep seq = go (is_of ep seq x)
  where
    go : (b : Bool)
        → AreAlike (generations hold (if b then x ∷ of_id ep seq fs else of_id ep seq fs)) (generations hold (if b then x ∷ of_id ep seq gs else of_id ep seq gs))
    go true = alike_more hold x (generations_of hold ep seq fs) (generations_of hold ep seq gs) (same ep seq)
    go false = same ep seq

all_alike_rest : (hold : ℤ) (a : Fragment) (earlier : List Fragment) → Rests (verdict_on hold a earlier) (is_first hold a earlier) → AllAlike hold earlier (a ∷ earlier)
all_alike_rest hold a earlier rests ep seq = go (is_of ep seq a) refl
  where
    go : (b : Bool) → is_of ep seq a ≡ b
        → AreAlike (generations_of hold ep seq earlier) (generations hold (if b then a ∷ of_id ep seq earlier else of_id ep seq earlier))
    go true is =
        let parts = and_parts (a.ep == ep) (a.seq == seq) is in
        subst (λ (s : ℕ). AreAlike (generations_of hold ep s earlier) (with_fragment hold a (generations_of hold ep s earlier))) (eqb-true a.seq seq parts.1)
        (subst (λ (p : ℕ). AreAlike (generations_of hold p a.seq earlier) (with_fragment hold a (generations_of hold p a.seq earlier))) (eqb-true a.ep ep parts.0)
        (rest_joins hold a (generations_of hold a.ep a.seq earlier) rests))
    go false is = alike_self (generations_of hold ep seq earlier)

-- ---- a message

-- the same sections are decoded of these messages, and a later fragment cannot tell them apart
record AreSame (side : Side) (hold : ℤ) (ms ns : List Meeting) : Type 0 where
  commands_are : commands ms ≡ commands ns
  fragments_are : AllAlike hold (fragments ms) (fragments ns)
  data_are : data_sections side hold ms ≡ data_sections side hold ns

same_more : (side : Side) (hold : ℤ) (m : Meeting) (ms ns : List Meeting) → AreSame side hold ms ns → AreSame side hold (m ∷ ms) (m ∷ ns)
unfolding commands fragments data_sections
same_more side hold (Ignored k) ms ns same = record { commands_are = same.commands_are; fragments_are = same.fragments_are; data_are = same.data_are }
same_more side hold (Commands cs) ms ns same = record {
  commands_are = ap (λ (xs : List ControlSection). onto xs cs) same.commands_are;
  fragments_are = same.fragments_are;
  data_are = same.data_are;
}
same_more side hold (Piece e f) ms ns same =
    let stood = alike_standing hold f.at _ _ (same.fragments_are f.ep f.seq) in
    record {
      commands_are = same.commands_are;
      fragments_are = all_alike_more hold f (fragments ms) (fragments ns) same.fragments_are;
      data_are = ap₂ ◌++◌ (ap (λ (s : List Fragment). data_told (decoded_now side e f (whole_of (verdict s f) f s))) stood) same.data_are;
    }

same_later : (side : Side) (hold : ℤ) (later ms ns : List Meeting) → AreSame side hold ms ns → AreSame side hold (later ++ ms) (later ++ ns)
same_later side hold [] ms ns same = same
same_later side hold (m ∷ later) ms ns same = same_more side hold m (later ++ ms) (later ++ ns) (same_later side hold later ms ns same)

same_without : (side : Side) (hold : ℤ) (m : Meeting) (earlier : List Meeting) → IsRefusedMessage hold m earlier → AreSame side hold earlier (m ∷ earlier)
unfolding commands fragments data_sections
same_without side hold (Ignored k) earlier rests = record {
  commands_are = refl;
  fragments_are = λ ep seq. alike_self (generations_of hold ep seq (fragments earlier));
  data_are = refl;
}
same_without side hold (Commands cs) earlier rests = absurd rests
same_without side hold (Piece e f) earlier rests = record {
  commands_are = refl;
  fragments_are = all_alike_rest hold f (fragments earlier) rests;
  data_are =
      sym (ap (λ (o : Option Message). data_told (decoded_now side e f o) ++ data_sections side hold earlier)
      (none_whole (verdict_on hold f (fragments earlier)) (is_first hold f (fragments earlier)) f (standing_before hold f (fragments earlier)) rests));
}

pub each_refused_changes_nothing : EachRefusedChangesNothing
each_refused_changes_nothing side c arrivals = record {
  message_rests = λ later m earlier parts rests.
      let hold = hold_of side c.delays in
      let same = same_later side hold later earlier (m ∷ earlier) (same_without side hold m earlier rests) in
      (same.commands_are ∙ ap commands (sym parts), same.data_are ∙ ap (data_sections side hold) (sym parts));
  command_rests = λ later x earlier parts rests. accepted_rests c.delays later x earlier rests ∙ ap (accepted c.delays) (sym parts);
  data_rests = λ later x earlier parts rests cell.
      blocks_rest side c.delays later x earlier rests cell ∙ ap (λ (xs : List UserSection). block_at (timely side c.delays xs) cell) (sym parts);
}
