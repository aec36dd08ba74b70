-- Why a cell is missing or silent: the words of the reasons, and the classes of a picture.
use Rattle.std.specs.Prelude.{ℕ, List, ◌||◌, Option, Some, None, if◌then◌else◌, codes}
use Rattle.std.specs.Str.{bytes_eq}
use Rattle.pictures.specs.declared.classes.Class.{Class}
use Rattle.pictures.specs.declared.classes.Class.TheVariants.{Late, Early, Unfinished, Other, Refused, Repeated, Command, NoData}

abbrev pub class_name : Class → List ℕ
class_name Late = codes "late"
class_name Early = codes "early"
class_name Unfinished = codes "unfinished"
class_name Other = codes "other"
class_name Refused = codes "refused"
class_name Repeated = codes "repeated"
class_name Command = codes "command"
class_name NoData = codes "nodata"

-- what became of a command
abbrev pub command_class : List ℕ → Option Class
command_class w =
    if bytes_eq w (codes "command_late") then Some Late
    else (if bytes_eq w (codes "command_early") then Some Early
    else (if bytes_eq w (codes "command_mismatch") || bytes_eq w (codes "command_range") || bytes_eq w (codes "command_repeat")
    || bytes_eq w (codes "command_overlap") || bytes_eq w (codes "command_full") then Some Command
    else None))

-- what became of data
abbrev pub data_class : List ℕ → Option Class
data_class w =
    if bytes_eq w (codes "late") then Some Late
    else (if bytes_eq w (codes "early") then Some Early
    else (if bytes_eq w (codes "unfinished") then Some Unfinished
    else (if bytes_eq w (codes "other") then Some Other
    else (if bytes_eq w (codes "refused") || bytes_eq w (codes "wrong_way") then Some Refused
    else (if bytes_eq w (codes "repeated") then Some Repeated
    else (if bytes_eq w (codes "nodata") then Some NoData
    else None))))))

-- the reason of a silent cell
abbrev pub silent_class : List ℕ → Option Class
silent_class w = if bytes_eq w (codes "nocommand") then Some NoData else command_class w

-- the first that is there
abbrev pub first_class : Option Class → Option Class → Option Class
first_class (Some class) other = Some class
first_class None other = other

-- the reason of a missing cell
abbrev pub missing_class : List ℕ → Option Class
missing_class w = first_class (silent_class w) (data_class w)
