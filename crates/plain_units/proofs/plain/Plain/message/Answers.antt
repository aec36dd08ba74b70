use Rattle.std.proofs.Common.{◌≡◌, ◌∷◌, ap, ◌∙◌, subst}
use Rattle.std.proofs.lemmas.Result.{on_ok_weaker}
use Rattle.cplane_sections.specs.Message.{sections_in}
use Rattle.ecpri_frames.specs.Left.{message_of}
use Rattle.unit_model.specs.Decoding.{data_sections}
use Rattle.fh_base.specs.Lists.{onto}
use Rattle.unit_model.specs.Meetings.{Meeting, Ignored, Commands, Piece, meet, commands_with, fragment_with, commands, fragments}
use Rattle.plain_units.specs.Plain.{PlainHolds, PlainStands}
use Rattle.unit_model.specs.Counts.{counted_of}
use Rattle.unit_model.specs.Reports.{hold_of}
use Rattle.plain_units.proofs.PlainLemmas.{AfterPiece, met_so_far, stands_ignored, stands_commands, stands_piece}
use Rattle.plain_units.proofs.plain.Plain.message.Goals as goal

pub piece-requires-clause-unit : goal.piece-requires-clause-unit
piece-requires-clause-unit c =
    let a = c.args in
    let u = c.requires.unit in
    let side = a.side in
    let conf = a.config.now in
    let hold = hold_of side conf.delays in
    record {
      counted = met_so_far c.count.new.self side conf u.arrivals u.meetings;
      fragments = fragments u.meetings;
      commands = commands u.meetings;
      sections = data_sections side hold u.meetings;
      holds = c.count.ensures side conf (counted_of side hold u.arrivals u.meetings) (fragments u.meetings) (commands u.meetings) (data_sections side hold u.meetings) u.stands;
    }

pub returns-in-Ignored : goal.returns-in-Ignored
returns-in-Ignored c arrivals ms h =
    let side = c.args.side in
    let conf = c.args.config.now in
    let at = c.args.at.0 in
    let hold = hold_of side conf.delays in
    let x = c.in-Ignored.counter in
    let first = c.count.ensures side conf (counted_of side hold arrivals ms) (fragments ms) (commands ms) (data_sections side hold ms) h in
    let second = c.count-in-Ignored.ensures side conf (met_so_far c.count.new.self side conf arrivals ms) (fragments ms) (commands ms) (data_sections side hold ms) first in
    let is : Ignored x ≡ meet side conf.endpoints at (message_of c.args.message.now) =
    c.in-Ignored.ensures.value at ∙ ap (λ es. meet side es at (message_of c.args.message.now)) c.as_slice.ensures.items in
    let P : Meeting → Type 0 = λ (m : Meeting). PlainStands c.count-in-Ignored.new.self side conf arrivals (m ∷ ms) in
    subst P is (stands_ignored c.count-in-Ignored.new.self side conf arrivals ms x second)

pub returns-in-Command : goal.returns-in-Command
returns-in-Command c arrivals ms h =
    let side = c.args.side in
    let conf = c.args.config.now in
    let at = c.args.at.0 in
    let hold = hold_of side conf.delays in
    let w = c.in-Command in
    let u = c.command_sections.new.self in
    let cs = commands_with w.ep w.endpoint at w.head (sections_in w.head w.bytes.now) in
    let first = c.count.ensures side conf (counted_of side hold arrivals ms) (fragments ms) (commands ms) (data_sections side hold ms) h in
    let is : Commands cs ≡ meet side conf.endpoints at (message_of c.args.message.now) =
    w.ensures.value at ∙ ap (λ es. meet side es at (message_of c.args.message.now)) c.as_slice.ensures.items in
    let P : Meeting → Type 0 = λ (m : Meeting). PlainStands u side conf arrivals (m ∷ ms) in
    on_ok_weaker c.command_sections.result (λ (e : PlainHolds u side conf (met_so_far u side conf arrivals ms) (fragments ms) (onto (commands ms) cs) (data_sections side hold ms)).
    subst P is (stands_commands u side conf arrivals ms cs e))
    (c.command_sections.ensures side (met_so_far u side conf arrivals ms) (fragments ms) (commands ms) (data_sections side hold ms) first)

pub returns-in-Piece : goal.returns-in-Piece
returns-in-Piece c arrivals ms h =
    let side = c.args.side in
    let conf = c.args.config.now in
    let at = c.args.at.0 in
    let hold = hold_of side conf.delays in
    let w = c.in-Piece in
    let u = c.piece.new.self in
    let f = fragment_with w.ep at w.seq w.bytes.now in
    let n = met_so_far u side conf arrivals ms in
    let first = c.count.ensures side conf (counted_of side hold arrivals ms) (fragments ms) (commands ms) (data_sections side hold ms) h in
    let is : Piece w.endpoint f ≡ meet side conf.endpoints at (message_of c.args.message.now) =
    w.ensures.value at ∙ ap (λ es. meet side es at (message_of c.args.message.now)) c.as_slice.ensures.items in
    let P : Meeting → Type 0 = λ (m : Meeting). PlainStands u side conf arrivals (m ∷ ms) in
    on_ok_weaker c.piece.result (λ (e : AfterPiece u side conf n (fragments ms) (commands ms) (data_sections side hold ms) w.endpoint f).
    subst P is (stands_piece u side conf arrivals ms w.endpoint f e))
    (c.piece.ensures n (fragments ms) (commands ms) (data_sections side hold ms) first)
