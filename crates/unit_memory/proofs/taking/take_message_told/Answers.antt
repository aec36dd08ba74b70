use Rattle.std.proofs.Common.{rules, ◌≡◌, false, true, ap, sym, subst, List}
use Rattle.std.specs.Prelude.{Some, None}
use Rattle.fh_base.specs.declared.values.Shape.{Shape}
use Rattle.ecpri_fragments.specs.Assemblies.{message_of}
use Rattle.uplane_sections.specs.Messages.{told}
use Rattle.unit_model.specs.Counts.{decoded_counted}
use Rattle.air_source.specs.declared.events.Side.{Side}
use Rattle.unit_model.specs.Decoding.{Decoded, has_way}
use Rattle.uplane_messages.specs.Joined.{message_bytes}
use Rattle.uplane_messages.specs.Whole.{IsWhole}
use Rattle.unit_memory.specs.Sections.{items_of}
use Rattle.unit_memory.proofs.MessageLemmas.{HoldsAfter, backwards_holds, refused_holds, says_backwards, says_refused, says_sections, sections_hold}
use Rattle.unit_model.specs.Judgements.{Judgement}
use Rattle.unit_memory.proofs.ToldLemmas.{judged_refused, judged_sections, judged_turned}
use Rattle.unit_memory.proofs.taking.take_message_told.Goals as goal

pub take_sections-requires-clause-whole : goal.take_sections-requires-clause-whole
unfolding items_of
take_sections-requires-clause-whole g c =
    let e = c.args.endpoint.now in
    let bytes = message_bytes c.args.lease.now in
    subst (λ (s : Shape). IsWhole e.prbs s c.in-Ok.head (told e.format e.prbs s bytes).items) c.shape.ensures c.in-Ok.ensures.whole

pub returns-in-Err-clause-holds : goal.returns-in-Err-clause-holds
returns-in-Err-clause-holds g c side conf n acc ds holds =
    let a = c.args in
    let m = message_of a.lease.now in
    let is = says_refused side a.ep a.endpoint.now m.first m.last (message_bytes a.lease.now) c.shape.result c.in-Err.why c.shape.ensures c.in-Err.ensures.refusal in
    subst (λ (d : Decoded). HoldsAfter side conf m.last n acc ds d a.cells.now c.add.new.self) (sym is)
    (refused_holds side conf m.last n acc ds a.cells.now a.counters.now c.add.new.self c.add.ensures.each holds)

pub returns-in-Ok-clause-holds : goal.returns-in-Ok-clause-holds
returns-in-Ok-clause-holds g c side conf n acc ds holds =
    let a = c.args in
    let m = message_of a.lease.now in
    let head = c.in-Ok.head in
    let was : has_way a.cells.now.side head ≡ false = search rules in
    let up = subst (λ (s : Side). has_way s head ≡ false) holds.of.side_is was in
    let is = says_backwards side a.ep a.endpoint.now m.first m.last (message_bytes a.lease.now) c.shape.result head c.shape.ensures c.in-Ok.ensures.refusal c.in-Ok.ensures.whole up in
    subst (λ (d : Decoded). HoldsAfter side conf m.last n acc ds d a.cells.now c.add-in-Ok.new.self) (sym is)
    (backwards_holds side conf m.last n acc ds a.cells.now a.counters.now c.add-in-Ok.new.self c.add-in-Ok.ensures.each holds)

pub returns-in-Ok-2-clause-holds : goal.returns-in-Ok-2-clause-holds
unfolding items_of
returns-in-Ok-2-clause-holds g c side conf n acc ds holds =
    let a = c.args in
    let m = message_of a.lease.now in
    let head = c.in-Ok.head in
    let was : has_way a.cells.now.side head ≡ true = search rules in
    let down = subst (λ (s : Side). has_way s head ≡ true) holds.of.side_is was in
    let is = says_sections side a.ep a.endpoint.now m.first m.last (message_bytes a.lease.now) c.shape.result head c.shape.ensures c.in-Ok.ensures.refusal c.in-Ok.ensures.whole down in
    let t = c.take_sections in
    subst (λ (d : Decoded). HoldsAfter side conf m.last n acc ds d t.new.cells t.new.counters) (sym is)
    (sections_hold side conf m.last n acc ds t.new.cells t.new.counters _ (t.ensures.holds side conf n acc ds holds))

pub returns-in-Ok-2-clause-rests : goal.returns-in-Ok-2-clause-rests
returns-in-Ok-2-clause-rests g c other =
    let a = c.args in
    let m = message_of a.lease.now in
    let head = c.in-Ok.head in
    let down : has_way a.cells.now.side head ≡ true = search rules in
    let is = says_sections a.cells.now.side a.ep a.endpoint.now m.first m.last (message_bytes a.lease.now) c.shape.result head c.shape.ensures c.in-Ok.ensures.refusal c.in-Ok.ensures.whole down in
    absurd (other (ap (λ (d : Decoded). decoded_counted (Some d)) is))

pub returns-in-Err-clause-told : goal.returns-in-Err-clause-told
returns-in-Err-clause-told g c side conf n acc ds holds =
    let a = c.args in
    let m = message_of a.lease.now in
    let e = a.endpoint.now in
    let refused = subst (λ (s : Shape). (told e.format e.prbs s (message_bytes a.lease.now)).refusal ≡ Some c.in-Err.why) c.shape.ensures (sym c.in-Err.ensures.refusal) in
    subst (λ (js : List Judgement). g.L.Listener.heard a.listener.now js c.unread.new.self) (sym (judged_refused side conf.delays a.ep e m ds c.in-Err.why refused)) c.unread.ensures

pub returns-in-Ok-clause-told : goal.returns-in-Ok-clause-told
returns-in-Ok-clause-told g c side conf n acc ds holds =
    let a = c.args in
    let m = message_of a.lease.now in
    let e = a.endpoint.now in
    let head = c.in-Ok.head in
    let was : has_way a.cells.now.side head ≡ false = search rules in
    let up = subst (λ (s : Side). has_way s head ≡ false) holds.of.side_is was in
    let none = subst (λ (s : Shape). (told e.format e.prbs s (message_bytes a.lease.now)).refusal ≡ None) c.shape.ensures (sym c.in-Ok.ensures.refusal) in
    let is = says_backwards side a.ep e m.first m.last (message_bytes a.lease.now) c.shape.result head c.shape.ensures c.in-Ok.ensures.refusal c.in-Ok.ensures.whole up in
    subst (λ (js : List Judgement). g.L.Listener.heard a.listener.now js c.turned.new.self) (sym (judged_turned side conf.delays a.ep e m ds none is)) c.turned.ensures

pub returns-in-Ok-2-clause-told : goal.returns-in-Ok-2-clause-told
unfolding items_of
returns-in-Ok-2-clause-told g c side conf n acc ds holds =
    let a = c.args in
    let m = message_of a.lease.now in
    let e = a.endpoint.now in
    let head = c.in-Ok.head in
    let was : has_way a.cells.now.side head ≡ true = search rules in
    let down = subst (λ (s : Side). has_way s head ≡ true) holds.of.side_is was in
    let none = subst (λ (s : Shape). (told e.format e.prbs s (message_bytes a.lease.now)).refusal ≡ None) c.shape.ensures (sym c.in-Ok.ensures.refusal) in
    let is = says_sections side a.ep e m.first m.last (message_bytes a.lease.now) c.shape.result head c.shape.ensures c.in-Ok.ensures.refusal c.in-Ok.ensures.whole down in
    let t = c.take_sections in
    subst (λ (js : List Judgement). g.L.Listener.heard a.listener.now js t.new.listener) (sym (judged_sections side conf.delays a.ep e m ds _ none is)) (t.ensures.told side conf n acc ds holds)
