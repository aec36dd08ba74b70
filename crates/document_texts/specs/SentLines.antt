-- The line of a frame that a plan sends (this project's profile; the fields are those of O-RAN.WG4.CUS, eCPRI transport header and
-- application headers).
use Rattle.std.specs.Prelude.{ℕ, ℤ, List, [], ◌∷◌, ◌++◌, codes, decimal}
use Rattle.std.specs.List.{flat_map}
use Rattle.bfp_codec.specs.Field.{flag}
use Rattle.fh_document.specs.LineWords.{class_word}
use Rattle.fh_base.specs.Words.{hex4_text, spaced_text, spaced_signed_text}
use Rattle.window_config.specs.declared.plan.PlanKind.{PlanKind}
use Rattle.window_config.specs.declared.plan.PlanKind.TheVariants.{Down, Up, Idle}
use Rattle.document_texts.specs.declared.lines.FrameLine.{FrameLine}

-- its class and number, when it is sent in ticks, and its endpoint's id
abbrev pub name_text : FrameLine → List ℕ
name_text f = codes "sent dl " ++ class_word f.class ++ spaced_text f.number ++ spaced_signed_text f.at.0 ++ codes " " ++ hex4_text f.id

-- the slot and symbol of its message, with the whole number of the frame, and the line of the document
abbrev pub place_text : FrameLine → List ℕ
place_text f =
    spaced_signed_text f.slot.frame ++ spaced_text f.slot.subframe ++ spaced_text f.slot.slot ++ spaced_text f.symbol ++ codes " line=" ++ decimal f.line

-- its sequence id, subsequence id and E bit, and its length
abbrev pub piece_text : FrameLine → List ℕ
piece_text f =
    codes " seq=" ++ decimal f.field.seq ++ codes " sub=" ++ decimal f.field.sub ++ codes " e=" ++ decimal (flag f.field.last) ++ codes " bytes=" ++ decimal f.bytes

-- commands for the uplink, and of section type 0, are marked
abbrev pub kind_text : PlanKind → List ℕ
kind_text Down = []
kind_text Up = codes " uplink"
kind_text Idle = codes " idle"

-- how many nanoseconds each copy is on its way; a frame without a copy is lost
abbrev pub copies_text : List ℤ → List ℕ
copies_text [] = codes " lost"
copies_text (ns ∷ more) = codes " copies" ++ flat_map spaced_signed_text (ns ∷ more)

-- the whole line
unfoldable pub frame_line_text : FrameLine → List ℤ → List ℕ
frame_line_text f copies = name_text f ++ place_text f ++ piece_text f ++ kind_text f.kind ++ copies_text copies ++ codes "\n"
