use Rattle.std.proofs.Common.{ℕ, ◌+◌, ◌-◌, ◌*◌, ◌<◌, ◌≤◌, min, ap, sym, subst, ◌∙◌}
use Rattle.ecpri_fragments.specs.Pieces.{piece_count}
use Rattle.ecpri_fragments.specs.declared.place.TheConstants.{MESSAGE_BYTES}
use Rattle.plan_model.specs.declared.lines.PlannedLine.{PlannedLine}
use Rattle.window_config.specs.Endpoints.{IsEndpoint}
use Rattle.window_config.specs.Plans.{IsPlanLine}
use Rattle.document_texts.specs.Frames.{turn_field}
use Rattle.document_texts.proofs.FrameLemmas.{command_field, command_long, data_field, data_frame, data_long, first_part, is_placed}
use Rattle.document_texts.proofs.sizes.piece_of.Goals as goal

pub command_piece-requires-clause-line : goal.command_piece-requires-clause-line
command_piece-requires-clause-line c =
    let r = c.requires.frame in
    subst (λ (q : PlannedLine). IsPlanLine q.line) (sym r.2) (first_part c.args.document.now r.0 c.args.turn.now r.1.turn).line.fits

pub command_piece-requires-clause-endpoint : goal.command_piece-requires-clause-endpoint
command_piece-requires-clause-endpoint c =
    let r = c.requires.frame in
    subst (λ (q : PlannedLine). IsEndpoint q.endpoint) (sym r.2) (first_part c.args.document.now r.0 c.args.turn.now r.1.turn).line.endpoint

pub message_size-bytes-requires-clause-endpoint : goal.message_size-bytes-requires-clause-endpoint
message_size-bytes-requires-clause-endpoint c =
    let r = c.requires.frame in
    subst (λ (q : PlannedLine). IsEndpoint q.endpoint) (sym r.2) (first_part c.args.document.now r.0 c.args.turn.now r.1.turn).line.endpoint

pub message_size-bytes-requires-clause-message : goal.message_size-bytes-requires-clause-message
message_size-bytes-requires-clause-message c =
    let r = c.requires.frame in (
      r.0.message,
      is_placed c.args.document.now r.0 c.args.turn.now r.1.turn c.args.p.now c.args.parts.now (sym c.is_command.ensures ∙ c.if-is_command.false) r.2 r.1.parts_are,
      (data_frame c.args.document.now r.0 c.args.turn.now r.1.turn (sym c.is_command.ensures ∙ c.if-is_command.false)).short,
    )

pub fragment_piece-requires-clause-bytes : goal.fragment_piece-requires-clause-bytes
fragment_piece-requires-clause-bytes c =
    let r = c.requires.frame in
    let size = c.message_size-bytes.ensures r.0.message (is_placed c.args.document.now r.0 c.args.turn.now r.1.turn c.args.p.now c.args.parts.now (sym c.is_command.ensures ∙ c.if-is_command.false) r.2 r.1.parts_are) in
    subst (λ (n : ℕ). n ≤ MESSAGE_BYTES) (sym size) (data_frame c.args.document.now r.0 c.args.turn.now r.1.turn (sym c.is_command.ensures ∙ c.if-is_command.false)).short

pub fragment_piece-requires-clause-sub : goal.fragment_piece-requires-clause-sub
fragment_piece-requires-clause-sub c =
    let r = c.requires.frame in
    let size = c.message_size-bytes.ensures r.0.message (is_placed c.args.document.now r.0 c.args.turn.now r.1.turn c.args.p.now c.args.parts.now (sym c.is_command.ensures ∙ c.if-is_command.false) r.2 r.1.parts_are) in
    subst (λ (n : ℕ). c.args.turn.now.sub < piece_count c.args.document.now.config.fragment n) (sym size) (data_frame c.args.document.now r.0 c.args.turn.now r.1.turn (sym c.is_command.ensures ∙ c.if-is_command.false)).below

pub returns-then-is_command-clause-field : goal.returns-then-is_command-clause-field
returns-then-is_command-clause-field c = λ f h is. c.command_piece.ensures.field ∙ command_field c.args.document.now f c.args.turn.now h.turn (sym c.is_command.ensures ∙ c.if-is_command.true)

pub returns-then-is_command-clause-bytes : goal.returns-then-is_command-clause-bytes
returns-then-is_command-clause-bytes c = λ f h is.
    command_long c.args.document.now f c.args.turn.now h.turn c.args.p.now c.command_piece.result.bytes (sym c.is_command.ensures ∙ c.if-is_command.true) is c.command_piece.ensures.bytes

pub returns-else-is_command-clause-field : goal.returns-else-is_command-clause-field
returns-else-is_command-clause-field c = λ f h is.
    let size = c.message_size-bytes.ensures f.message (is_placed c.args.document.now f c.args.turn.now h.turn c.args.p.now c.args.parts.now (sym c.is_command.ensures ∙ c.if-is_command.false) is h.parts_are) in
    c.fragment_piece.ensures.field ∙ ap (λ (n : ℕ). turn_field c.args.turn.now (piece_count c.args.document.now.config.fragment n)) size
    ∙ data_field c.args.document.now f c.args.turn.now h.turn (sym c.is_command.ensures ∙ c.if-is_command.false)

pub returns-else-is_command-clause-bytes : goal.returns-else-is_command-clause-bytes
returns-else-is_command-clause-bytes c = λ f h is.
    let fragment = c.args.document.now.config.fragment in
    let size = c.message_size-bytes.ensures f.message (is_placed c.args.document.now f c.args.turn.now h.turn c.args.p.now c.args.parts.now (sym c.is_command.ensures ∙ c.if-is_command.false) is h.parts_are) in
    c.fragment_piece.ensures.bytes ∙ ap (λ (n : ℕ). 8 + min fragment (n - c.args.turn.now.sub * fragment)) size
    ∙ data_long c.args.document.now f c.args.turn.now h.turn (sym c.is_command.ensures ∙ c.if-is_command.false)
