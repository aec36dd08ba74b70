-- An interface's block (pcapng): link type, a reserved number, a limit of length, and options.
use Rattle.std.specs.Prelude.{ℕ, zero, suc, ◌+◌, ◌^◌, nat_lt, nat_eq, if◌then◌else◌, Bool, false, not, List, [], ◌∷◌, length, take, drop, Option, Some, None, Result, Ok, Err}
use Rattle.pcap_frames.specs.declared.pcapng_refusals.BlockWhy.{BlockWhy}
use Rattle.pcap_frames.specs.declared.pcapng_refusals.BlockWhy.TheVariants as why
use Rattle.pcap_frames.specs.declared.pcapng_values.Interface.{Interface}
use Rattle.pcap_frames.specs.Numbers.{number, padded}
use Rattle.pcap_frames.specs.Times.{shifted}

-- an option that does not end the options
pub record Chosen : Type 0 where
  pub code : ℕ
  pub value : List ℕ

-- a resolution has one byte, and an offset eight
abbrev pub is_wrong : ℕ → ℕ → Bool
is_wrong code count = if nat_eq code 9 then not (nat_eq count 1) else (if nat_eq code 14 then not (nat_eq count 8) else false)

-- the option that the bytes begin with; none where the options end, by code 0 or with the bytes
abbrev pub option_of : Bool → List ℕ → Result (Option Chosen) BlockWhy
option_of little bytes =
    if nat_lt (length bytes) 4 then Ok None
    else (if nat_eq (number little 2 bytes) 0 then Ok None
    else (if nat_lt (length bytes) (4 + padded (number little 2 (drop 2 bytes))) then Err why.Option
    else (if is_wrong (number little 2 bytes) (number little 2 (drop 2 bytes)) then Err why.Option
    else Ok (Some (record { code = number little 2 bytes; value = take (number little 2 (drop 2 bytes)) (drop 4 bytes) })))))

-- how many bytes after its first belong to an option, with its padding
abbrev pub behind_first : Result (Option Chosen) BlockWhy → ℕ
behind_first (Ok (Some o)) = 3 + padded (length o.value)
behind_first (Ok None) = 0
behind_first (Err w) = 0

-- what an option makes of an interface
abbrev pub changed : Bool → Interface → Chosen → Interface
changed little i o =
    if nat_eq o.code 9 then record { link = i.link; resolution = number little 1 o.value; offset = i.offset }
    else (if nat_eq o.code 14 then record { link = i.link; resolution = i.resolution; offset = shifted (number little 8 o.value) }
    else i)

abbrev pub changed_by : Bool → Interface → Result (Option Chosen) BlockWhy → Interface
changed_by little i (Ok (Some o)) = changed little i o
changed_by little i (Ok None) = i
changed_by little i (Err w) = i

-- an interface where options end, a refusal where one is wrong, or else what the later ones make of it
abbrev pub ended_or : Result (Option Chosen) BlockWhy → Interface → Result Interface BlockWhy → Result Interface BlockWhy
ended_or (Ok (Some o)) i later = later
ended_or (Ok None) i later = Ok i
ended_or (Err w) i later = Err w

-- what options make of an interface, where the first `skip` bytes belong to one that was read
unfoldable pub described : Bool → ℕ → Interface → List ℕ → Result Interface BlockWhy
described little skip i [] = Ok i
described little (suc skip) i (b ∷ bytes) = described little skip i bytes
described little zero i (b ∷ bytes) =
    ended_or (option_of little (b ∷ bytes)) i (described little (behind_first (option_of little (b ∷ bytes))) (changed_by little i (option_of little (b ∷ bytes))) bytes)

-- the interface that a body describes: microseconds and no offset, where no option says more
abbrev pub interface_of : Bool → List ℕ → Result Interface BlockWhy
interface_of little body = described little 0 (record { link = number little 2 body; resolution = 6; offset = 2 ^ 63 }) (drop 8 body)
