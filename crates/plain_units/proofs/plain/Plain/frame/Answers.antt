use Rattle.std.proofs.Common.{◌≡◌, List, [], ◌∷◌, sym, ap, ◌∙◌, subst}
use Rattle.ecpri_frames.specs.Left.{message_of, left_of}
use Rattle.ecpri_frames.specs.Gathering.{whole_messages}
use Rattle.unit_model.specs.Decoding.{data_sections}
use Rattle.fh_base.specs.Lists.{onto}
use Rattle.unit_model.specs.Meetings.{Arrival, Meeting, meet, meetings, met_in, commands, fragments}
use Rattle.plain_units.specs.Plain.{PlainStands}
use Rattle.unit_model.specs.Counts.{counted_of}
use Rattle.unit_model.specs.Reports.{hold_of}
use Rattle.fh_base.proofs.OntoLemmas.{onto_none, onto_one}
use Rattle.plain_units.proofs.PlainLemmas.{stands_frame}
use Rattle.plain_units.proofs.plain.Plain.frame.Goals as goal

pub message-requires-clause-unit : goal.message-requires-clause-unit
message-requires-clause-unit c =
    let side = c.args.side in
    let conf = c.args.config.now in
    let hold = hold_of side conf.delays in
    let u = c.requires.unit in
    let a : Arrival = record { at = c.args.at.0; frame = c.args.frame.now } in
    let first = c.count_frame.ensures side conf (counted_of side hold u.arrivals u.meetings) (fragments u.meetings) (commands u.meetings) (data_sections side hold u.meetings) u.stands in
    let begun : PlainStands c.count_frame.new.self side conf (a ∷ u.arrivals) u.meetings = stands_frame c.count_frame.new.self side conf u.arrivals u.meetings a first in
    let i = c.loop-message.invariant (a ∷ u.arrivals) u.meetings begun in
    record { arrivals = a ∷ u.arrivals; meetings = i.so_far; stands = i.stands }

pub loop-message-preserved : goal.loop-message-preserved
loop-message-preserved c arrivals ms h =
    let side = c.args.side in
    let es = c.args.config.now.endpoints in
    let at = c.args.at.0 in
    let i = c.loop-message.invariant arrivals ms h in
    let m = message_of c.in-Some.message in
    let rest = left_of c.next.new.self in
    let left : left_of c.loop-message.message-iterator ≡ m ∷ rest = c.in-Some.ensures.steps.0 in
    record {
      so_far = meet side es at m ∷ i.so_far;
      stands = c.in_ok-message.ensures arrivals i.so_far i.stands;
      are = sym (onto_one i.so_far (meet side es at m) (met_in side es at rest)) ∙ ap (λ xs. onto i.so_far (met_in side es at xs)) (sym left) ∙ i.are;
    }

pub returns : goal.returns
unfolding meetings
returns c arrivals h =
    let side = c.args.side in
    let conf = c.args.config.now in
    let es = conf.endpoints in
    let at = c.args.at.0 in
    let hold = hold_of side conf.delays in
    let ms = meetings side es arrivals in
    let a : Arrival = record { at = at; frame = c.args.frame.now } in
    let first = c.count_frame.ensures side conf (counted_of side hold arrivals ms) (fragments ms) (commands ms) (data_sections side hold ms) h in
    let begun : PlainStands c.count_frame.new.self side conf (a ∷ arrivals) ms = stands_frame c.count_frame.new.self side conf arrivals ms a first in
    let i = c.loop-message.invariant (a ∷ arrivals) ms begun in
    let none : left_of c.loop-message.message-iterator ≡ [] = c.in-None.ensures.steps.0.0 in
    let all : i.so_far ≡ onto ms (met_in side es at (whole_messages c.args.frame.now)) =
    sym (onto_none i.so_far) ∙ ap (λ xs. onto i.so_far (met_in side es at xs)) (sym none) ∙ i.are in
    let P : List Meeting → Type 0 = λ (xs : List Meeting). PlainStands c.loop-message.self side conf (a ∷ arrivals) xs in
    subst P all i.stands
