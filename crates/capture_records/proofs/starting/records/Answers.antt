use Rattle.std.proofs.Common.{◌*◌, ◌≤◌, length, drop, arith, length-drop, ap, ◌∙◌}
use Rattle.std.proofs.lemmas.List.{take_rest}
use Rattle.capture_records.specs.Reading.{records_from}
use Rattle.capture_records.proofs.Steps.{behind_magic, few}
use Rattle.capture_records.proofs.Written.{read_back}
use Rattle.capture_records.proofs.starting.records.Goals as goal

pub invariant_of-result : goal.invariant_of-result
invariant_of-result c = record { passes = rw (take_rest c.args.bytes.now 8) (behind_magic c.args.bytes.now c.requires) }

pub returns-clause-written : goal.returns-clause-written
returns-clause-written c = λ landed have is. ap (records_from 0) (take_rest c.args.bytes.now 8) ∙ read_back c.args.bytes.now landed have is

pub returns-clause-few : goal.returns-clause-few
returns-clause-few c =
    let bytes = c.args.bytes.now in
    let f = few 0 0 (drop 8 bytes) (omega arith) (behind_magic bytes c.requires) in
    let all : length (records_from 0 (drop 8 bytes)) * 13 ≤ length bytes = omega (arith, f, length-drop 8 bytes) in
    rw (take_rest bytes 8) all
