-- The words that lines of a document are written with.
use Rattle.std.specs.Prelude.{ℕ, List, [], ◌∷◌, ◌++◌, map, codes, decimal}
use Rattle.std.specs.Fmt.{signed_decimal}
use Rattle.fh_base.specs.Words.{hex4_text, hex3_text, hex2_text}
use Rattle.window_config.specs.declared.plan.PlanKind.{PlanKind}
use Rattle.window_config.specs.declared.plan.PlanKind.TheVariants.{Down, Up, Idle}
use Rattle.window_config.specs.declared.plan.PlanLine.{PlanLine}
use Rattle.fh_document.specs.declared.delivered.TrafficClass.{TrafficClass}
use Rattle.fh_document.specs.declared.delivered.TrafficClass.TheVariants.{C, U, M}
use Rattle.fh_document.specs.declared.delivered.Delivery.{Delivery}
use Rattle.fh_document.specs.declared.document.Injection.{Injection}
use Rattle.air_source.specs.Units.{way_text}

-- two lower-case digits for each byte
abbrev pub hex_text : List ℕ → List ℕ
hex_text [] = []
hex_text (b ∷ bytes) = hex2_text b ++ hex_text bytes

-- the same, or a dash for no bytes
abbrev pub frame_word : List ℕ → List ℕ
frame_word [] = codes "-"
frame_word (b ∷ bytes) = hex_text (b ∷ bytes)

-- `inject WAY NS HEX`
abbrev pub inject_words : Injection → List (List ℕ)
inject_words i = codes "inject" ∷ way_text i.side ∷ signed_decimal i.at ∷ frame_word i.frame ∷ []

abbrev pub plan_kind_word : PlanKind → List ℕ
plan_kind_word Down = codes "dl"
plan_kind_word Up = codes "ul"
plan_kind_word Idle = codes "idle"

-- `plan KIND ID FRAME SUBFRAME SLOT SYMBOL COUNT PRB NUM MASK SECTION BEAM`
abbrev pub plan_words : PlanLine → List (List ℕ)
plan_words line =
    codes "plan" ∷ plan_kind_word line.kind ∷ hex4_text line.id ∷ signed_decimal line.slot.frame ∷ decimal line.slot.subframe ∷ decimal line.slot.slot
    ∷ decimal line.symbol ∷ decimal line.count ∷ decimal line.start_prb ∷ decimal line.num_prb ∷ hex3_text line.mask ∷ decimal line.section ∷ decimal line.beam ∷ []

abbrev pub class_word : TrafficClass → List ℕ
class_word C = codes "c"
class_word U = codes "u"
class_word M = codes "m"

-- `deliver WAY CLASS K NS ..`
abbrev pub deliver_words : Delivery → List (List ℕ)
deliver_words d = codes "deliver" ∷ way_text d.side ∷ class_word d.class ∷ decimal d.k ∷ map signed_decimal d.copies
