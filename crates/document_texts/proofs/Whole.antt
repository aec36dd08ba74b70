-- The lines of all combined cells between two others.
use Rattle.std.proofs.Common.{◌≡◌, ℕ, List, [], ◌++◌, Option}
use Rattle.std.specs.List.{flat_map}
use Rattle.fh_base.specs.Told.{WritesPart}
use Rattle.fh_base.specs.Owed.{Carried}
use Rattle.fh_base.specs.CarriedLaws.{carried_more}
use Rattle.fh_base.proofs.Parts.{part_before, part_behind}
use Rattle.shared_cell.specs.declared.values.Mixed.{Mixed}
use Rattle.document_texts.specs.Lines.{combined_text, end_text, mixed_text, mixes_text}
use Rattle.fh_base.proofs.CommonLemmas.{first_part as from_none}

-- that line, and a part of the cells' lines
pub cells_cut : (ms : List Mixed) (w v u : Option (List ℕ)) (o p : List ℕ) → o ≡ [] → Carried w o combined_text v p → WritesPart v u (p ++ flat_map mixed_text ms) → WritesPart w u (mixes_text ms)
unfolding mixes_text
cells_cut ms w v u o p none h part =
    from_none w u o (combined_text ++ (flat_map mixed_text ms ++ end_text)) none
    (part_behind w o combined_text v p (flat_map mixed_text ms ++ end_text) u h (part_before v u p (flat_map mixed_text ms) end_text part))

-- all of these, and a part of the last line
pub end_cut : (ms : List Mixed) (w v u x : Option (List ℕ)) (o p q : List ℕ) → o ≡ [] → Carried w o combined_text v p → Carried v p (flat_map mixed_text ms) u q → WritesPart u x (q ++ end_text) → WritesPart w x (mixes_text ms)
unfolding mixes_text
end_cut ms w v u x o p q none h k part =
    from_none w x o (combined_text ++ (flat_map mixed_text ms ++ end_text)) none
    (part_behind w o combined_text v p (flat_map mixed_text ms ++ end_text) x h (part_behind v p (flat_map mixed_text ms) u q end_text x k part))

-- all of it is written or owed
pub all_told : (ms : List Mixed) (w v u x : Option (List ℕ)) (o p q r : List ℕ) → Carried w o combined_text v p → Carried v p (flat_map mixed_text ms) u q → Carried u q end_text x r → Carried w o (mixes_text ms) x r
unfolding mixes_text
all_told ms w v u x o p q r h k i = carried_more w v x o p r combined_text (flat_map mixed_text ms ++ end_text) h (carried_more v u x p q r (flat_map mixed_text ms) end_text k i)
