use Rattle.std.proofs.Common.{◌≡◌, ◌+◌, Some, ◌++◌, ◌∙◌, sym, ap, subst}
use Rattle.std.specs.Prelude.{All}
use Rattle.fault_counters.specs.Counts.{times, once}
use Rattle.fault_counters.specs.declared.kinds.Counter.TheVariants.{URefused, WrongWay}
use Rattle.unit_model.specs.Counts.{decoded_counted}
use Rattle.unit_model.specs.Decoding.{Decoded, Refused, Backwards, Sections, decode, sections_of}
use Rattle.plain_units.specs.DecodedWords.{decoded_of}
use Rattle.plain_units.specs.Plain.{PlainHolds}
use Rattle.unit_model.specs.Proper.{IsProperData}
use Rattle.plain_units.specs.declared.decoding.DecodedMessage.{DecodedMessage}
use Rattle.plain_units.proofs.PlainLemmas.{counted_as}
use Rattle.unit_model.proofs.CountLemmas.{one_time, no_time}
use Rattle.plain_units.proofs.plain.Plain.whole.Goals as goal

pub data_sections-requires-clause-proper : goal.data_sections-requires-clause-proper
data_sections-requires-clause-proper c =
    let es = c.args.config.now.endpoints in
    let P : DecodedMessage → Type 0 = λ (d : DecodedMessage). All (IsProperData es) (sections_of (decoded_of d)) in
    subst P c.in-Sections.is (c.in_ok-decoded.ensures.proper es c.requires.endpoint c.requires.first c.requires.last)

pub returns-in-Refused : goal.returns-in-Refused
returns-in-Refused c n fs cs ds h =
    let a = c.args in
    let m = a.message.now in
    let conf = a.config.now in
    let said : decode a.side a.ep a.endpoint.now m.first.0 m.last.0 m.bytes ≡ Refused =
    sym (c.in_ok-decoded.ensures.value ∙ ap (decode a.side a.ep a.endpoint.now m.first.0 m.last.0) c.as_slice-bytes.ensures) ∙ ap decoded_of c.in-Refused.is in
    let P : Decoded → Type 0 = λ (x : Decoded). PlainHolds c.count.new.self a.side conf (λ k. n k + times (decoded_counted (Some x)) k) fs cs (sections_of x ++ ds) in
    subst P (sym said) (counted_as c.count.new.self a.side conf _ _ fs cs ds (λ k. one_time (n k) (once URefused k)) (c.count.ensures a.side conf n fs cs ds h))

pub returns-in-Backwards : goal.returns-in-Backwards
returns-in-Backwards c n fs cs ds h =
    let a = c.args in
    let m = a.message.now in
    let conf = a.config.now in
    let said : decode a.side a.ep a.endpoint.now m.first.0 m.last.0 m.bytes ≡ Backwards =
    sym (c.in_ok-decoded.ensures.value ∙ ap (decode a.side a.ep a.endpoint.now m.first.0 m.last.0) c.as_slice-bytes.ensures) ∙ ap decoded_of c.in-Backwards.is in
    let P : Decoded → Type 0 =
    λ (x : Decoded). PlainHolds c.count-in-Backwards.new.self a.side conf (λ k. n k + times (decoded_counted (Some x)) k) fs cs (sections_of x ++ ds) in
    subst P (sym said) (counted_as c.count-in-Backwards.new.self a.side conf _ _ fs cs ds (λ k. one_time (n k) (once WrongWay k)) (c.count-in-Backwards.ensures a.side conf n fs cs ds h))

pub returns-in_ok-data_sections-in-Sections : goal.returns-in_ok-data_sections-in-Sections
returns-in_ok-data_sections-in-Sections c n fs cs ds h =
    let a = c.args in
    let m = a.message.now in
    let conf = a.config.now in
    let said : decode a.side a.ep a.endpoint.now m.first.0 m.last.0 m.bytes ≡ Sections c.in-Sections.sections.items =
    sym (c.in_ok-decoded.ensures.value ∙ ap (decode a.side a.ep a.endpoint.now m.first.0 m.last.0) c.as_slice-bytes.ensures) ∙ ap decoded_of c.in-Sections.is in
    let P : Decoded → Type 0 = λ (x : Decoded). PlainHolds c.data_sections.new.self a.side conf (λ k. n k + times (decoded_counted (Some x)) k) fs cs (sections_of x ++ ds) in
    subst P (sym said)
    (counted_as c.data_sections.new.self a.side conf _ _ fs cs (c.in-Sections.sections.items ++ ds) (λ k. no_time (n k)) (c.in_ok-data_sections-in-Sections.ensures n fs cs ds h))
