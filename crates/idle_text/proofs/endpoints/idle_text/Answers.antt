use Rattle.std.proofs.Common.{◌≡◌, ℕ, List, OnErr, OnOk, sym, subst}
use Rattle.std.specs.Io.KnownBytes.{append_known}
use Rattle.std.proofs.lemmas.Result.{on_err_weaker, on_ok_weaker}
use Rattle.fh_base.specs.Told.{WritesFront, WritesPart}
use Rattle.fh_base.proofs.Parts.{last_part, part_front}
use Rattle.fh_base.proofs.OwedTelling.{all_written, anyhow, last_front}
use Rattle.window_config.specs.declared.endpoints.EndpointConfig.{EndpointConfig}
use Rattle.idle_text.specs.Text.{idle_text}
use Rattle.idle_text.proofs.EndLemmas.{all_told, end_cut, lines_cut}
use Rattle.idle_text.proofs.endpoints.idle_text.Goals as goal

pub tell_endpoints-requires-clause-stands : goal.tell_endpoints-requires-clause-stands
tell_endpoints-requires-clause-stands g c =
    let s = c.requires.stands in
    record { config = c.args.document.now.config; first = s.0; last = s.1; cells = s.2; same = sym c.as_slice-endpoints.ensures.items; stands = s.3 }

pub returns-in_err-tell_endpoints-clause-front : goal.returns-in_err-tell_endpoints-clause-front
returns-in_err-tell_endpoints-clause-front g c first last cells stands =
    let d = c.args.document.now in
    subst (λ (es : List EndpointConfig). WritesFront (g.K.Sink.written c.args.out.now) (g.K.Sink.written c.tell_endpoints.new.out) (idle_text es d.plan first last c.args.min cells)) c.as_slice-endpoints.ensures.items
    (part_front _ _ _ (lines_cut c.as_slice-endpoints.result.now d.plan first last c.args.min cells _ _ c.new-owed.result c.new-owed.ensures
    (c.in_err-tell_endpoints.ensures.front d.config first last cells (sym c.as_slice-endpoints.ensures.items) stands)))

pub returns-in_err-tell_endpoints-clause-part : goal.returns-in_err-tell_endpoints-clause-part
returns-in_err-tell_endpoints-clause-part g c first last cells stands =
    let d = c.args.document.now in
    anyhow c.from_residual.result
    (subst (λ (es : List EndpointConfig). WritesPart (g.K.Sink.written c.args.out.now) (g.K.Sink.written c.tell_endpoints.new.out) (idle_text es d.plan first last c.args.min cells)) c.as_slice-endpoints.ensures.items
    (lines_cut c.as_slice-endpoints.result.now d.plan first last c.args.min cells _ _ c.new-owed.result c.new-owed.ensures
    (c.in_err-tell_endpoints.ensures.front d.config first last cells (sym c.as_slice-endpoints.ensures.items) stands)))

pub returns-in_err-tell-clause-front : goal.returns-in_err-tell-clause-front
returns-in_err-tell-clause-front g c first last cells stands =
    let d = c.args.document.now in
    subst (λ (es : List EndpointConfig). WritesFront (g.K.Sink.written c.args.out.now) (g.K.Sink.written c.tell.new.sink) (idle_text es d.plan first last c.args.min cells)) c.as_slice-endpoints.ensures.items
    (part_front _ _ _ (end_cut c.as_slice-endpoints.result.now d.plan first last c.args.min cells _ _ _ c.new-owed.result _ c.new-owed.ensures
    (c.in_ok-tell_endpoints.ensures.carried d.config first last cells (sym c.as_slice-endpoints.ensures.items) stands) c.in_err-tell.ensures.part))

pub returns-in_err-tell-clause-part : goal.returns-in_err-tell-clause-part
returns-in_err-tell-clause-part g c first last cells stands =
    let d = c.args.document.now in
    anyhow c.from_residual-in_err-tell.result
    (subst (λ (es : List EndpointConfig). WritesPart (g.K.Sink.written c.args.out.now) (g.K.Sink.written c.tell.new.sink) (idle_text es d.plan first last c.args.min cells)) c.as_slice-endpoints.ensures.items
    (end_cut c.as_slice-endpoints.result.now d.plan first last c.args.min cells _ _ _ c.new-owed.result _ c.new-owed.ensures
    (c.in_ok-tell_endpoints.ensures.carried d.config first last cells (sym c.as_slice-endpoints.ensures.items) stands) c.in_err-tell.ensures.part))

pub returns-clause-done : goal.returns-clause-done
returns-clause-done g c first last cells stands =
    let d = c.args.document.now in
    let all = all_told c.as_slice-endpoints.result.now d.plan first last c.args.min cells _ _ _ _ _ _
    (c.in_ok-tell_endpoints.ensures.carried d.config first last cells (sym c.as_slice-endpoints.ensures.items) stands) c.in_ok-tell.ensures.carried in
    on_ok_weaker c.push_out.result
    (λ is. subst (λ (es : List EndpointConfig). g.K.Sink.written c.push_out.new.sink ≡ append_known (g.K.Sink.written c.args.out.now) (idle_text es d.plan first last c.args.min cells)) c.as_slice-endpoints.ensures.items
    (all_written _ _ _ c.new-owed.result _ _ c.new-owed.ensures all is))
    c.push_out.ensures.all

pub returns-clause-front : goal.returns-clause-front
returns-clause-front g c first last cells stands =
    let d = c.args.document.now in
    let all = all_told c.as_slice-endpoints.result.now d.plan first last c.args.min cells _ _ _ _ _ _
    (c.in_ok-tell_endpoints.ensures.carried d.config first last cells (sym c.as_slice-endpoints.ensures.items) stands) c.in_ok-tell.ensures.carried in
    subst (λ (es : List EndpointConfig). WritesFront (g.K.Sink.written c.args.out.now) (g.K.Sink.written c.push_out.new.sink) (idle_text es d.plan first last c.args.min cells)) c.as_slice-endpoints.ensures.items
    (last_front _ _ _ c.new-owed.result _ _ c.new-owed.ensures all c.push_out.ensures.front)

pub returns-clause-part : goal.returns-clause-part
returns-clause-part g c first last cells stands =
    let d = c.args.document.now in
    let all = all_told c.as_slice-endpoints.result.now d.plan first last c.args.min cells _ _ _ _ _ _
    (c.in_ok-tell_endpoints.ensures.carried d.config first last cells (sym c.as_slice-endpoints.ensures.items) stands) c.in_ok-tell.ensures.carried in
    on_err_weaker c.push_out.result
    (λ part. subst (λ (es : List EndpointConfig). WritesPart (g.K.Sink.written c.args.out.now) (g.K.Sink.written c.push_out.new.sink) (idle_text es d.plan first last c.args.min cells)) c.as_slice-endpoints.ensures.items
    (last_part _ _ _ c.new-owed.result _ _ c.new-owed.ensures all part))
    c.push_out.ensures.part
