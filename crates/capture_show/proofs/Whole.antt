-- The complete text: what is before the lines, the lines, and what is after them.
use Rattle.std.proofs.Common.{◌≡◌, ℕ, Bool, false, List, [], ◌++◌, Option, sym, ap, ap₂, subst, append_assoc, ◌∙◌}
use Rattle.std.specs.Io.KnownBytes.{append_known}
use Rattle.fh_base.specs.Told.{WritesFront, WritesPart}
use Rattle.fh_base.specs.Owed.{Carried}
use Rattle.fh_base.specs.CarriedLaws.{carried_more}
use Rattle.fh_base.proofs.Carrying.{front_behind, all_behind}
use Rattle.fh_base.proofs.Parts.{part_first, part_behind}
use Rattle.capture_show.specs.Lines.{ShownLine}
use Rattle.capture_show.specs.Texts.{pieces, lines_text, front_text, end_text}
use Rattle.capture_show.specs.Printing.{State, Told, Stopped}
use Rattle.capture_show.proofs.Pieces.{whole_text}

-- a part of a text is one of what begins with it
part_of : (w v : Option (List ℕ)) (o first rest all : List ℕ) → o ≡ [] → first ++ rest ≡ all → WritesPart w v (o ++ first) → WritesPart w v all
part_of w v o first rest all none is part =
    subst (λ (t : List ℕ). WritesPart w v t) is (part_first w v first rest (subst (λ (t : List ℕ). WritesPart w v (t ++ first)) none part))

opened_first : (json : Bool) (ls : List ShownLine) → front_text json ++ (pieces json false ls ++ end_text json) ≡ lines_text json ls
opened_first json ls = sym (append_assoc (front_text json) (pieces json false ls) (end_text json)) ∙ whole_text json ls

-- the opening failed
pub open_part : (w v : Option (List ℕ)) (o : List ℕ) (json was : Bool) (ls : List ShownLine) → o ≡ [] → was ≡ json → WritesPart w v (o ++ front_text was)
    → WritesPart w v (lines_text json ls)
open_part w v o json was ls none is part =
    part_of w v o (front_text json) (pieces json false ls ++ end_text json) (lines_text json ls) none (opened_first json ls)
    (subst (λ (b : Bool). WritesPart w v (o ++ front_text b)) is part)

-- the lines after the opening
told_behind : (s : State) (w : Option (List ℕ)) (o : List ℕ) (json was : Bool) (ls : List ShownLine) → was ≡ json → s.json ≡ json → s.later ≡ false
    → front_text was ++ pieces s.json s.later ls ≡ front_text json ++ pieces json false ls
told_behind s w o json was ls is json_is first = ap (λ b. front_text b ++ pieces s.json s.later ls) is ∙ ap₂ (λ j l. front_text json ++ pieces j l ls) json_is first

-- a line failed
pub lines_part : (s : State) (w v : Option (List ℕ)) (o : List ℕ) (json was : Bool) (ls : List ShownLine) → o ≡ [] → was ≡ json → s.json ≡ json → s.later ≡ false
    → Carried w o (front_text was) s.written s.owed → Stopped s v ls → WritesPart w v (lines_text json ls)
lines_part s w v o json was ls none is json_is first opened stopped =
    let part = part_behind w o (front_text was) s.written s.owed (pieces s.json s.later ls) v opened stopped in
    let all = subst (λ (t : List ℕ). WritesPart w v (o ++ t)) (told_behind s w o json was ls is json_is first) part in
    part_of w v o (front_text json ++ pieces json false ls) (end_text json) (lines_text json ls) none (whole_text json ls) all

-- both were told
all_told : (s t : State) (w : Option (List ℕ)) (o : List ℕ) (json was : Bool) (ls : List ShownLine) → was ≡ json → s.json ≡ json → s.later ≡ false
    → Carried w o (front_text was) s.written s.owed → Told s t ls → Carried w o (front_text json ++ pieces json false ls) t.written t.owed
all_told s t w o json was ls is json_is first opened told =
    subst (λ (x : List ℕ). Carried w o x t.written t.owed) (told_behind s w o json was ls is json_is first)
    (carried_more w s.written t.written o s.owed t.owed (front_text was) (pieces s.json s.later ls) opened told.carried)

-- the end failed, or was written
pub close_front : (s t : State) (w v : Option (List ℕ)) (o : List ℕ) (json was : Bool) (ls : List ShownLine) → o ≡ [] → was ≡ json → s.json ≡ json → s.later ≡ false
    → Carried w o (front_text was) s.written s.owed → Told s t ls → WritesFront t.written v (t.owed ++ end_text t.json) → WritesFront w v (lines_text json ls)
close_front s t w v o json was ls none is json_is first opened told front =
    let carried = all_told s t w o json was ls is json_is first opened told in
    let ended = subst (λ (b : Bool). WritesFront t.written v (t.owed ++ end_text b)) (told.json ∙ json_is) front in
    let all = front_behind w o (front_text json ++ pieces json false ls) t.written t.owed (end_text json) v carried ended in
    subst (λ (x : List ℕ). WritesFront w v (x ++ lines_text json ls)) none (subst (λ (x : List ℕ). WritesFront w v (o ++ x)) (whole_text json ls) all)

pub close_part : (s t : State) (w v : Option (List ℕ)) (o : List ℕ) (json was : Bool) (ls : List ShownLine) → o ≡ [] → was ≡ json → s.json ≡ json → s.later ≡ false
    → Carried w o (front_text was) s.written s.owed → Told s t ls → WritesPart t.written v (t.owed ++ end_text t.json) → WritesPart w v (lines_text json ls)
close_part s t w v o json was ls none is json_is first opened told part =
    let carried = all_told s t w o json was ls is json_is first opened told in
    let ended = subst (λ (b : Bool). WritesPart t.written v (t.owed ++ end_text b)) (told.json ∙ json_is) part in
    let all = part_behind w o (front_text json ++ pieces json false ls) t.written t.owed (end_text json) v carried ended in
    subst (λ (x : List ℕ). WritesPart w v (x ++ lines_text json ls)) none (subst (λ (x : List ℕ). WritesPart w v (o ++ x)) (whole_text json ls) all)

pub close_all : (s t : State) (w v : Option (List ℕ)) (o : List ℕ) (json was : Bool) (ls : List ShownLine) → o ≡ [] → was ≡ json → s.json ≡ json → s.later ≡ false
    → Carried w o (front_text was) s.written s.owed → Told s t ls → v ≡ append_known t.written (t.owed ++ end_text t.json) → v ≡ append_known w (lines_text json ls)
close_all s t w v o json was ls none is json_is first opened told whole =
    let carried = all_told s t w o json was ls is json_is first opened told in
    all_behind w o (front_text json ++ pieces json false ls) t.written t.owed (end_text json) v carried (whole ∙ ap (λ b. append_known t.written (t.owed ++ end_text b)) (told.json ∙ json_is))
    ∙ ap (λ x. append_known w (o ++ x)) (whole_text json ls)
    ∙ ap (λ x. append_known w (x ++ lines_text json ls)) none
