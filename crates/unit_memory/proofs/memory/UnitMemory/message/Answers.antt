use Rattle.std.proofs.Common.{◌≡◌, List, ◌∷◌, sym, ap, ◌∙◌, subst, []}
use Rattle.air_source.specs.declared.events.Side.{Side}
use Rattle.air_source.specs.declared.events.Side.TheVariants.{Ru}
use Rattle.cplane_sections.specs.Message.{sections_in}
use Rattle.ecpri_frames.specs.Left.{message_of}
use Rattle.window_config.specs.declared.endpoints.EndpointConfig.{EndpointConfig}
use Rattle.unit_model.specs.Decoding.{data_sections}
use Rattle.unit_model.specs.Meetings.{Meeting, Ignored, Commands, Piece, meet, commands_with, fragment_with, commands, fragments}
use Rattle.unit_model.specs.Proper.{IsAt}
use Rattle.unit_model.specs.Reports.{hold_of}
use Rattle.unit_memory.specs.Parts.{MemoryStands}
use Rattle.unit_model.proofs.CommandLaws.{for_ru, told_at_ru}
use Rattle.unit_memory.proofs.HoldLemmas.{before_message, met_so_far, stands_ignored, stands_commands, stands_piece}
use Rattle.unit_model.specs.Judgements.{Met, judged_commands, judged_meeting, judged_piece}
use Rattle.unit_memory.proofs.memory.UnitMemory.message.Goals as goal

pub command-requires-clause-endpoint : goal.command-requires-clause-endpoint
command-requires-clause-endpoint g c =
    let w = c.in-Command in
    let r = c.requires.unit in
    let hold = hold_of r.side r.config.delays in
    let u = c.count.ensures.holds r.side r.config c.args.at.0 (before_message r.side r.config r.arrivals r.meetings r.beside) (fragments r.meetings) (commands r.meetings) (data_sections r.side hold r.meetings) r.stands in
    let all = c.as_slice.ensures.value ∙ u.endpoints ∙ sym u.of.endpoints in
    subst (λ (es : List EndpointConfig). IsAt es w.ep w.endpoint) all w.ensures.tested.0

pub piece-requires-clause-unit : goal.piece-requires-clause-unit
piece-requires-clause-unit g c =
    let u = c.requires.unit in
    let hold = hold_of u.side u.config.delays in
    record {
      side = u.side;
      config = u.config;
      counted = met_so_far u.side u.config c.args.at.0 c.count.new.self u.arrivals u.meetings u.beside;
      fragments = fragments u.meetings;
      commands = commands u.meetings;
      sections = data_sections u.side hold u.meetings;
      holds = c.count.ensures.holds u.side u.config c.args.at.0 (before_message u.side u.config u.arrivals u.meetings u.beside) (fragments u.meetings) (commands u.meetings) (data_sections u.side hold u.meetings) u.stands;
    }

pub piece-requires-clause-endpoint : goal.piece-requires-clause-endpoint
piece-requires-clause-endpoint g c =
    let w = c.in-Piece in
    let r = c.requires.unit in
    let hold = hold_of r.side r.config.delays in
    let u = c.count.ensures.holds r.side r.config c.args.at.0 (before_message r.side r.config r.arrivals r.meetings r.beside) (fragments r.meetings) (commands r.meetings) (data_sections r.side hold r.meetings) r.stands in
    let all = c.as_slice.ensures.value ∙ u.endpoints ∙ sym u.of.endpoints in
    subst (λ (es : List EndpointConfig). IsAt es w.ep w.endpoint) all w.ensures.tested.0

pub returns-in-Ignored-clause-holds : goal.returns-in-Ignored-clause-holds
returns-in-Ignored-clause-holds g c side conf arrivals ms beside h =
    let at = c.args.at.0 in
    let hold = hold_of side conf.delays in
    let x = c.in-Ignored.counter in
    let m = message_of c.args.message.now in
    let before = before_message side conf arrivals ms beside in
    let first = c.count.ensures.holds side conf at before (fragments ms) (commands ms) (data_sections side hold ms) h in
    let second = c.count-in-Ignored.ensures.holds side conf at (met_so_far side conf at c.count.new.self arrivals ms beside) (fragments ms) (commands ms) (data_sections side hold ms) first in
    let is : Ignored x ≡ meet side conf.endpoints at m = c.in-Ignored.ensures.value at ∙ ap (λ es. meet c.side.result es at m) (c.as_slice.ensures.value ∙ first.endpoints)
    ∙ ap (λ (s : Side). meet s conf.endpoints at m) (c.side.ensures ∙ first.of.side_is) in
    let P : Meeting → Type 0 = λ (y : Meeting). MemoryStands side conf at c.count-in-Ignored.new.self arrivals (y ∷ ms) beside in
    subst P is (stands_ignored side conf at c.count-in-Ignored.new.self arrivals ms beside x second)

pub command-requires-clause-side : goal.command-requires-clause-side
command-requires-clause-side g c =
    let at = c.args.at.0 in
    let w = c.in-Command in
    sym c.side.ensures ∙ told_at_ru c.side.result c.as_slice.result.now at (message_of c.args.message.now) (commands_with w.ep w.endpoint at w.head (sections_in w.head w.bytes.now)) (w.ensures.value at)

pub returns-in-Command-clause-holds : goal.returns-in-Command-clause-holds
returns-in-Command-clause-holds g c side conf arrivals ms beside h =
    let at = c.args.at.0 in
    let w = c.in-Command in
    let m = message_of c.args.message.now in
    let u = c.command.new.self in
    let cs = commands_with w.ep w.endpoint at w.head (sections_in w.head w.bytes.now) in
    let hold = hold_of side conf.delays in
    let first = c.count.ensures.holds side conf at (before_message side conf arrivals ms beside) (fragments ms) (commands ms) (data_sections side hold ms) h in
    let is : Commands cs ≡ meet side conf.endpoints at m = w.ensures.value at ∙ ap (λ es. meet c.side.result es at m) (c.as_slice.ensures.value ∙ first.endpoints)
    ∙ ap (λ (s : Side). meet s conf.endpoints at m) (c.side.ensures ∙ first.of.side_is) in
    let all =
    for_ru side conf.endpoints at m cs (λ (s : Side). MemoryStands s conf at c.args.self.now arrivals ms beside → MemoryStands s conf at u arrivals (Commands cs ∷ ms) beside) is
    (λ before.
    let hold = hold_of Ru conf.delays in
    let first = c.count.ensures.holds Ru conf at (before_message Ru conf arrivals ms beside) (fragments ms) (commands ms) (data_sections Ru hold ms) before in
    stands_commands Ru conf at u arrivals ms beside cs (c.command.ensures.holds conf (met_so_far Ru conf at u arrivals ms beside) (fragments ms) (commands ms) (data_sections Ru hold ms) first)) h in
    subst (λ (y : Meeting). MemoryStands side conf at u arrivals (y ∷ ms) beside) is all

pub returns-in-Piece-clause-holds : goal.returns-in-Piece-clause-holds
returns-in-Piece-clause-holds g c side conf arrivals ms beside h =
    let at = c.args.at.0 in
    let hold = hold_of side conf.delays in
    let w = c.in-Piece in
    let m = message_of c.args.message.now in
    let u = c.piece.new.self in
    let f = fragment_with w.ep at w.seq w.bytes.now in
    let first = c.count.ensures.holds side conf at (before_message side conf arrivals ms beside) (fragments ms) (commands ms) (data_sections side hold ms) h in
    let second = c.piece.ensures.holds side conf (met_so_far side conf at u arrivals ms beside) (fragments ms) (commands ms) (data_sections side hold ms) first in
    let is : Piece w.endpoint f ≡ meet side conf.endpoints at m = w.ensures.value at ∙ ap (λ es. meet c.side.result es at m) (c.as_slice.ensures.value ∙ first.endpoints)
    ∙ ap (λ (s : Side). meet s conf.endpoints at m) (c.side.ensures ∙ first.of.side_is) in
    let P : Meeting → Type 0 = λ (y : Meeting). MemoryStands side conf at u arrivals (y ∷ ms) beside in
    subst P is (stands_piece side conf at u arrivals ms beside w.endpoint f second)

pub returns-in-Ignored-clause-told : goal.returns-in-Ignored-clause-told
returns-in-Ignored-clause-told g c side conf arrivals ms beside h =
    let at = c.args.at.0 in
    let m = message_of c.args.message.now in
    let first = c.count.ensures.holds side conf at (before_message side conf arrivals ms beside) (fragments ms) (commands ms) (data_sections side (hold_of side conf.delays) ms) h in
    let is : Ignored c.in-Ignored.counter ≡ meet side conf.endpoints at m = c.in-Ignored.ensures.value at ∙ ap (λ es. meet c.side.result es at m) (c.as_slice.ensures.value ∙ first.endpoints)
    ∙ ap (λ (s : Side). meet s conf.endpoints at m) (c.side.ensures ∙ first.of.side_is) in
    subst (λ (y : Meeting). g.L.Listener.heard c.args.listener.now (Met m ∷ judged_meeting side conf ms y) c.message.new.self) is c.message.ensures

pub returns-in-Command-clause-told : goal.returns-in-Command-clause-told
returns-in-Command-clause-told g c side conf arrivals ms beside h =
    let at = c.args.at.0 in
    let w = c.in-Command in
    let m = message_of c.args.message.now in
    let u = c.command.new.self in
    let cs = commands_with w.ep w.endpoint at w.head (sections_in w.head w.bytes.now) in
    let first = c.count.ensures.holds side conf at (before_message side conf arrivals ms beside) (fragments ms) (commands ms) (data_sections side (hold_of side conf.delays) ms) h in
    let is : Commands cs ≡ meet side conf.endpoints at m = w.ensures.value at ∙ ap (λ es. meet c.side.result es at m) (c.as_slice.ensures.value ∙ first.endpoints)
    ∙ ap (λ (s : Side). meet s conf.endpoints at m) (c.side.ensures ∙ first.of.side_is) in
    let heard =
    for_ru side conf.endpoints at m cs (λ (s : Side). MemoryStands s conf at c.args.self.now arrivals ms beside → g.L.Listener.heard c.message.new.self (judged_commands conf.delays (commands ms) cs) c.command.new.listener) is
    (λ before.
    let hold = hold_of Ru conf.delays in
    let first = c.count.ensures.holds Ru conf at (before_message Ru conf arrivals ms beside) (fragments ms) (commands ms) (data_sections Ru hold ms) before in
    c.command.ensures.told conf (met_so_far Ru conf at u arrivals ms beside) (fragments ms) (commands ms) (data_sections Ru hold ms) first) h in
    let both =
    g.met.L.Listener.heard_more c.args.listener.now c.message.new.self c.command.new.listener (Met m ∷ []) (judged_commands conf.delays (commands ms) cs) c.message.ensures heard in
    subst (λ (y : Meeting). g.L.Listener.heard c.args.listener.now (Met m ∷ judged_meeting side conf ms y) c.command.new.listener) is both

pub returns-in-Piece-clause-told : goal.returns-in-Piece-clause-told
returns-in-Piece-clause-told g c side conf arrivals ms beside h =
    let at = c.args.at.0 in
    let hold = hold_of side conf.delays in
    let w = c.in-Piece in
    let m = message_of c.args.message.now in
    let u = c.piece.new.self in
    let f = fragment_with w.ep at w.seq w.bytes.now in
    let ds = data_sections side hold ms in
    let first = c.count.ensures.holds side conf at (before_message side conf arrivals ms beside) (fragments ms) (commands ms) ds h in
    let second = c.piece.ensures.told side conf (met_so_far side conf at u arrivals ms beside) (fragments ms) (commands ms) ds first in
    let is : Piece w.endpoint f ≡ meet side conf.endpoints at m = w.ensures.value at ∙ ap (λ es. meet c.side.result es at m) (c.as_slice.ensures.value ∙ first.endpoints)
    ∙ ap (λ (s : Side). meet s conf.endpoints at m) (c.side.ensures ∙ first.of.side_is) in
    let both =
    g.met.L.Listener.heard_more c.args.listener.now c.message.new.self c.piece.new.listener (Met m ∷ []) (judged_piece side conf.delays hold w.endpoint f (fragments ms) ds) c.message.ensures second in
    subst (λ (y : Meeting). g.L.Listener.heard c.args.listener.now (Met m ∷ judged_meeting side conf ms y) c.piece.new.listener) is both
