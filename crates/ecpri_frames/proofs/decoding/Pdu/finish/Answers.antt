use Rattle.std.proofs.Common.{◌≡◌, ℕ, List, [], Result, Ok, Err, Some, None, OnOk, OnErr, sym, ap, ◌∙◌}
use Rattle.ecpri_frames.specs.declared.decoding.Pdu.{Pdu}
use Rattle.ecpri_frames.specs.declared.refusals.PduRefusal.{PduRefusal}
use Rattle.ecpri_frames.specs.Messages.{Message, Reading, pdu}
use Rattle.ecpri_frames.specs.Spelling.{Spells}
use Rattle.ecpri_frames.specs.States.{tells, told, refusal_of, StandsBehind}
use Rattle.ecpri_frames.proofs.Histories.{refusal_told}
use Rattle.ecpri_frames.proofs.Spelled.{spelled_from, read_spelled}
use Rattle.ecpri_frames.proofs.decoding.Pdu.finish.Goals as goal

whole : (p : Pdu) (r : Result (Unit {0}) PduRefusal) → refusal_of r ≡ (tells p []).refusal → OnOk r ((bytes : List ℕ) → StandsBehind p bytes → Spells 0 bytes (pdu bytes).messages)
whole p (Ok u) e = λ bytes s. (spelled_from 0 0 bytes (sym (refusal_told p bytes s) ∙ sym e)).1
whole p (Err r) e = tt

none : (p : Pdu) (r : Result (Unit {0}) PduRefusal) → refusal_of r ≡ (tells p []).refusal → OnErr r ((bytes : List ℕ) → StandsBehind p bytes → (messages : List Message) → Spells 0 bytes messages → ⊥)
none p (Ok u) e = tt
none p (Err r) e = λ bytes s messages spelled.
    let t : (told bytes).refusal ≡ None = ap (λ (x : Reading). x.refusal) (read_spelled 0 messages bytes spelled) in
    absurd (let q : Some r ≡ None = e ∙ refusal_told p bytes s ∙ t in cc)

pub returns-clause-told : goal.returns-clause-told
returns-clause-told c bytes s = c.ending.ensures.tells ∙ refusal_told c.args.self.now bytes s

pub returns-clause-whole : goal.returns-clause-whole
returns-clause-whole c = whole c.args.self.now c.ending.result c.ending.ensures.tells

pub returns-clause-none : goal.returns-clause-none
returns-clause-none c = none c.args.self.now c.ending.result c.ending.ensures.tells
