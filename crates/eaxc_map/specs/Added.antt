-- What adding an id answers.
use Rattle.std.specs.Prelude.{ℕ, ◌==◌, List, length, Result, Ok, Err, is_some, if◌then◌else◌}
use Rattle.eaxc_map.specs.declared.endpoints.AddFault.{AddFault}
use Rattle.eaxc_map.specs.declared.endpoints.AddFault.TheVariants.{Twice, Full}
use Rattle.eaxc_map.specs.Endpoints.{index_of}

-- the index of the new id, unless it is there already or 16 ids are there
abbrev pub added : List ℕ → ℕ → Result ℕ AddFault
added ids id = if is_some (index_of ids id) then Err Twice else if length ids == 16 then Err Full else Ok (length ids)
