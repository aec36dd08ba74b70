-- Lines of frames, `frame N (dl|ul) ..`; of sections of commands, `c N ID F S L Y section=X prb=P num=M symbols=C mask=MMM [uplink]
-- [idle] VERDICT since=A until=B ..`; and of sections of data, `u N ID F S L Y section=X prb=P num=M VERDICT since=A until=B ..`
use Rattle.std.specs.Prelude.{ℕ, ℤ, ◌+◌, List, Bool, ◌&&◌, ◌||◌, Option, Some, None, if◌then◌else◌, codes}
use Rattle.std.specs.Option.{is_some}
use Rattle.std.specs.Str.{bytes_eq}
use Rattle.fh_base.specs.Numbers.{word_at}
use Rattle.pictures.specs.Numbers.{taking, numeral, keyed, integer, digit, after, is_id, is_mask, most}
use Rattle.pictures.specs.declared.forms.Command.{Command}
use Rattle.pictures.specs.declared.arrivals.Margins.{Margins}
use Rattle.pictures.specs.declared.forms.Way.{Way}
use Rattle.pictures.specs.declared.forms.Way.TheVariants.{Down, Up}

abbrev pub way_in : List (List ℕ) → Option Way
way_in ws =
    taking (numeral 0 most (word_at ws 1)) (λ arrival.
    if bytes_eq (word_at ws 2) (codes "dl") then Some Down else (if bytes_eq (word_at ws 2) (codes "ul") then Some Up else None))

-- arrival, endpoint, frame, subframe, slot, symbol, section and PRBs have their forms
abbrev pub has_section : List (List ℕ) → Bool
has_section ws =
    is_some (numeral 0 most (word_at ws 1)) && is_id (word_at ws 2) && is_some (integer (word_at ws 3)) && is_some (digit (word_at ws 4))
    && is_some (numeral 0 most (word_at ws 5)) && is_some (numeral 0 most (word_at ws 6)) && is_some (keyed (codes "section=") 0 most (word_at ws 7))
    && is_some (keyed (codes "prb=") 0 most (word_at ws 8)) && is_some (keyed (codes "num=") 0 most (word_at ws 9))

-- what became of a section of a command
abbrev pub is_verdict : List ℕ → Bool
is_verdict w =
    bytes_eq w (codes "mismatch") || bytes_eq w (codes "late") || bytes_eq w (codes "early") || bytes_eq w (codes "range")
    || bytes_eq w (codes "repeat") || bytes_eq w (codes "overlap") || bytes_eq w (codes "full") || bytes_eq w (codes "accepted")

-- what became of a section of data
abbrev pub is_data_verdict : List ℕ → Bool
is_data_verdict w = bytes_eq w (codes "late") || bytes_eq w (codes "early") || bytes_eq w (codes "repeat") || bytes_eq w (codes "taken")

abbrev pub margin_in : List ℕ → List ℕ → Option ℤ
margin_in key w = integer (after key w)

-- since=A until=B
abbrev pub margins_at : List (List ℕ) → ℕ → Option Margins
margins_at ws at =
    taking (margin_in (codes "since=") (word_at ws at)) (λ since. taking (margin_in (codes "until=") (word_at ws (at + 1))) (λ until.
    Some (record { since = since; until = until })))

abbrev pub is_uplink : List (List ℕ) → Bool
is_uplink ws = bytes_eq (word_at ws 12) (codes "uplink")

-- the index of the word after `uplink`, and of that after `idle`, where these are present
abbrev pub after_uplink : List (List ℕ) → ℕ
after_uplink ws = if is_uplink ws then 13 else 12

abbrev pub verdict_place : List (List ℕ) → ℕ
verdict_place ws = if bytes_eq (word_at ws (after_uplink ws)) (codes "idle") then after_uplink ws + 1 else after_uplink ws

abbrev pub has_command_numbers : List (List ℕ) → Bool
has_command_numbers ws = has_section ws && is_some (keyed (codes "symbols=") 0 most (word_at ws 10)) && is_mask (word_at ws 11)

-- a section of a command
abbrev pub command_in : List (List ℕ) → Option Command
command_in ws =
    if has_command_numbers ws && is_verdict (word_at ws (verdict_place ws))
    then taking (margins_at ws (verdict_place ws + 1)) (λ margins.
    Some (record { uplink = is_uplink ws; mismatch = bytes_eq (word_at ws (verdict_place ws)) (codes "mismatch"); margins = margins }))
    else None

-- a section of data
abbrev pub data_in : List (List ℕ) → Option Margins
data_in ws = if has_section ws && is_data_verdict (word_at ws 10) then margins_at ws 11 else None
