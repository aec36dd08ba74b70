-- What the unit tells of a frame.
use Rattle.std.proofs.Common.{sym, subst}
use Rattle.air_source.specs.declared.events.Side.{Side}
use Rattle.explain_air.proofs.LastLemmas.{heard_all, heard_fit, same_endpoints}
use Rattle.explain_heard.specs.Heard.{HearsAll}
use Rattle.unit_laws.proofs.SoundLemmas.{are_sound}
use Rattle.unit_memory.specs.Memory.{arrival_at}
use Rattle.unit_model.specs.Judgements.{judgements}
use Rattle.explain_air.proofs.last.hear_frame.Goals as goal

pub returns-clause-endpoints : goal.returns-clause-endpoints
returns-clause-endpoints g c =
    let u = c.requires.unit in
    let e = c.clear.ensures in
    same_endpoints _ _ _ _ _ _ _ _ _ _ _ e.side e.endpoints e.kept (c.take_told.ensures.told u.0 u.1 u.2 u.3)

pub returns-clause-heard : goal.returns-clause-heard
returns-clause-heard g c cfg planned h may fine =
    let e = c.clear.ensures in
    let l = c.take_told.new.listener in
    let o = c.clear.new.self in
    let told =
    subst
    (λ (s : Side). HearsAll o.side o.endpoints.items o.kept.items o.wanting (judgements s cfg h.arrivals (arrival_at c.args.at.0 c.args.bytes.now)) l.side l.endpoints.items l.kept.items l.wanting)
    (sym c.requires.side) (c.take_told.ensures.told cfg planned h may) in
    heard_all o.side c.args.side l.side o.endpoints.items c.args.hearing.now.endpoints.items l.endpoints.items o.kept.items l.kept.items o.wanting l.wanting
    (judgements c.args.side cfg h.arrivals (arrival_at c.args.at.0 c.args.bytes.now)) e.side e.endpoints e.kept told fine

pub returns-clause-fit : goal.returns-clause-fit
returns-clause-fit g c fine =
    let u = c.requires.unit in
    heard_fit c.args.side c.args.side c.args.hearing.now.endpoints.items u.0 c.args.at.0 u.2.arrivals (arrival_at c.args.at.0 c.args.bytes.now) c.take_told.new.listener.kept.items
    (c.take_told.ensures.times u.0 u.1 u.2 u.3) (returns-clause-heard g c u.0 u.1 u.2 u.3 fine)

pub returns-clause-config : goal.returns-clause-config
returns-clause-config g c cfg planned h may = (c.take_told.ensures.times cfg planned h may).0

pub returns-clause-sound : goal.returns-clause-sound
returns-clause-sound g c cfg planned h may =
    let times = c.take_told.ensures.times cfg planned h may in
    are_sound c.args.side cfg c.args.at.0 h.arrivals (arrival_at c.args.at.0 c.args.bytes.now) times.1 times.2
