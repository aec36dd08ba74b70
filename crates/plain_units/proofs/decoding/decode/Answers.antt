use Rattle.std.proofs.Common.{◌≡◌, IfOk, Result, Ok, Err, sym, subst, rules}
use Rattle.std.specs.Prelude.{All}
use Rattle.fh_base.specs.declared.fault.NoMemory.{NoMemory}
use Rattle.unit_model.specs.declared.decoded.UserSection.{UserSection}
use Rattle.plain_units.specs.declared.decoding.DecodedMessage.{DecodedMessage}
use Rattle.unit_model.specs.Decoding.{Decoded, decode, sections_of}
use Rattle.plain_units.specs.DecodedWords.{decoded_of}
use Rattle.unit_model.specs.Proper.{IsProperData}
use Rattle.unit_model.proofs.Whole.{decode_proper}
use Rattle.plain_units.proofs.decoding.decode.Goals as goal

proper_where : (P : UserSection → Type 0) (x : Decoded) (r : Result DecodedMessage NoMemory) → All P (sections_of x) → IfOk r (λ d. decoded_of d ≡ x) → IfOk r (λ d. All P (sections_of (decoded_of d)))
proper_where P x (Ok d) all e =
    let Q : Decoded → Type 0 = λ (y : Decoded). All P (sections_of y) in
    subst Q (sym e) all
proper_where P x (Err f) all e = tt

pub returns-clause-proper : goal.returns-clause-proper
unfolding decode
returns-clause-proper c es i f l =
    let a = c.args in
    let x = decode a.side a.ep a.endpoint.now a.first.0 a.last.0 a.bytes.now in
    let value : IfOk c.said.result (λ d. decoded_of d ≡ x) = search rules in
    proper_where (IsProperData es) x c.said.result (decode_proper es a.side a.ep a.endpoint.now a.first.0 a.last.0 a.bytes.now i f l) value
