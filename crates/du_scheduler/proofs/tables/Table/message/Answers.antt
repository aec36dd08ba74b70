-- The stream of the turn, and the message with its number.
use Rattle.std.proofs.Common.{◌≡◌, ◌+◌, ◌*◌, ◌<◌, List, length, get_or, ap, sym, ◌∙◌, subst}
use Rattle.std.proofs.lemmas.Option.{get_or_from_slice_get, slice_get_within}
use Rattle.du_scheduler.specs.Kept.{HasMessage, message_in}
use Rattle.du_scheduler.specs.declared.kept.StreamParts.{StreamParts}
use Rattle.du_scheduler.proofs.TableLemmas.{frame_is}
use Rattle.du_scheduler.proofs.tables.Table.message.Goals as goal

pub bounds-streams-stream : goal.bounds-streams-stream
bounds-streams-stream c =
    let w = frame_is c.requires.config c.requires.lines c.args.self.now c.args.turn.now c.requires.frame c.requires.table c.requires.there c.requires.is in
    subst (λ (xs : List StreamParts). 3 * c.args.turn.now.endpoint + c.stream_place.result < length xs) (sym c.deref-streams.ensures.value)
    (slice_get_within c.args.self.now.streams.items (3 * c.args.turn.now.endpoint + c.stream_place.result) w.kept (w.at _ c.stream_place.ensures))

pub message-requires-clause-message : goal.message-requires-clause-message
message-requires-clause-message c =
    let w = frame_is c.requires.config c.requires.lines c.args.self.now c.args.turn.now c.requires.frame c.requires.table c.requires.there c.requires.is in
    let k = 3 * c.args.turn.now.endpoint + c.stream_place.result in
    let d = c.index-streams-stream.result in
    let is : c.index-streams-stream.result ≡ w.kept =
    c.index-streams-stream.is ∙ ap (λ (xs : List StreamParts). get_or xs k d) c.deref-streams.ensures.value
    ∙ get_or_from_slice_get c.args.self.now.streams.items k w.kept d (w.at _ c.stream_place.ensures) in
    subst (λ (x : StreamParts). HasMessage x c.args.turn.now.number) (sym is) w.has

pub returns : goal.returns
returns c = λ config lines f table there turn_is.
    let w = frame_is config lines c.args.self.now c.args.turn.now f table there turn_is in
    let k = 3 * c.args.turn.now.endpoint + c.stream_place.result in
    let d = c.index-streams-stream.result in
    let is : c.index-streams-stream.result ≡ w.kept =
    c.index-streams-stream.is ∙ ap (λ (xs : List StreamParts). get_or xs k d) c.deref-streams.ensures.value
    ∙ get_or_from_slice_get c.args.self.now.streams.items k w.kept d (w.at _ c.stream_place.ensures) in
    c.message.ensures ∙ ap (λ (x : StreamParts). message_in x c.args.turn.now.number) is ∙ w.is
