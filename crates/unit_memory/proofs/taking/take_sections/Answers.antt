use Rattle.std.proofs.Common.{◌≡◌, ℤ, List, ◌++◌, map, ◌∙◌, ap, subst}
use Rattle.std.specs.Prelude.{MatchOption}
use Rattle.fh_base.specs.declared.values.Shape.{Shape}
use Rattle.ecpri_fragments.specs.Assemblies.{message_of}
use Rattle.uplane_sections.specs.Messages.{Item, told}
use Rattle.unit_model.specs.Terms.{UFeed}
use Rattle.unit_model.specs.Decoding.{data_with, gathered, nothing_told}
use Rattle.unit_cells.specs.Keeping.{SameReported}
use Rattle.uplane_messages.specs.Joined.{message_bytes}
use Rattle.uplane_messages.specs.Left.{left_of, NothingLeft, TellsFirst}
use Rattle.unit_memory.specs.Holding.{HoldsData}
use Rattle.unit_memory.specs.Sections.{items_of}
use Rattle.unit_memory.proofs.MessageLemmas.{all_treated, none_treated, one_treated}
use Rattle.unit_model.specs.Judgements.{judged_data}
use Rattle.unit_memory.proofs.ToldLemmas.{all_heard, none_heard, one_heard}
use Rattle.unit_memory.proofs.taking.take_sections.Goals as goal

pub loop-what-init : goal.loop-what-init
unfolding items_of none_treated
loop-what-init g c =
    let a = c.args in
    let e = a.endpoint.now in
    let items = items_of e a.lease.now in
    let left = left_of c.next.new.self in
    let same : left_of c.new-walk.result ≡ items =
    c.new-walk.ensures.left ∙ ap (λ (s : Shape). (told e.format e.prbs s (message_bytes a.lease.now)).items) c.shape.ensures in
    record {
      treated = none_treated a.ep e c.first-first.result c.last-last.result a.head items left a.cells.now a.counters.now c.next.result c.requires.whole
          (subst (λ (xs : List Item). MatchOption c.next.result (NothingLeft xs left) (TellsFirst xs left)) same c.next.ensures.steps.0);
      told = λ side conf n acc ds holds.
          none_heard g.L.Listener.heard a.ep e c.first-first.result c.last-last.result a.head side conf.delays ds a.listener.now (g.met.L.Listener.heard_none a.listener.now);
    }

pub loop-what-preserved : goal.loop-what-preserved
unfolding one_treated
loop-what-preserved g c =
    let a = c.args in
    let e = a.endpoint.now in
    let left = left_of c.loop-what.walk in
    let next = left_of c.next-in-loop-what.new.self in
    let t = c.take_section in
    let i = c.loop-what.invariant in
    record {
      treated = one_treated a.ep e c.first-first.result c.last-last.result a.head (items_of e a.lease.now) left next (left_of t.new.walk) c.in-Section.section
          a.cells.now c.loop-what.cells t.new.cells a.counters.now c.loop-what.counters t.new.counters i.treated
          (subst (λ (w : UFeed). TellsFirst left next w) c.in-Section.is c.in-Some.ensures.steps.0)
          t.ensures.taken (record { reports = t.ensures.reports; side = t.ensures.side; delays = t.ensures.delays; endpoints = t.ensures.endpoints });
      told = λ side conf n acc ds holds.
          one_heard g.L.Listener.heard a.ep e c.first-first.result c.last-last.result a.head g.met.L.Listener.heard_more c.in-Section.section t.ensures.taken.blocks i.treated.parts
          c.loop-what.cells c.loop-what.counters a.listener.now c.loop-what.listener t.new.listener t.ensures.told side conf n acc ds
          (i.treated.holds side conf n acc ds holds) (i.told side conf n acc ds holds);
    }

pub returns-clause-holds : goal.returns-clause-holds
returns-clause-holds g c side conf n acc ds holds =
    let a = c.args in
    let e = a.endpoint.now in
    let items = items_of e a.lease.now in
    let H : ℤ → ℤ → Type 0 = λ (first last : ℤ).
    HoldsData side conf last n acc ds a.cells.now a.counters.now
    → HoldsData side conf last n acc (map (data_with a.ep e first last a.head) (gathered nothing_told items).parts ++ ds) c.loop-what.cells c.loop-what.counters in
    let here : H c.first-first.result.0 c.last-last.result.0 =
    all_treated a.ep e c.first-first.result c.last-last.result a.head items (left_of c.loop-what.walk) a.cells.now c.loop-what.cells a.counters.now c.loop-what.counters
    c.loop-what.invariant.treated (c.in_default.ensures.steps.0).before side conf n acc ds in
    subst (λ (l : ℤ). H (message_of a.lease.now).first l) c.last-last.ensures (subst (λ (f : ℤ). H f c.last-last.result.0) c.first-first.ensures here) holds

pub returns-clause-reports : goal.returns-clause-reports
returns-clause-reports g c side conf of =
    subst (λ (l : ℤ). SameReported side conf l c.args.cells.now c.loop-what.cells) c.last-last.ensures (c.loop-what.invariant.treated.stays.reports side conf of)

pub returns-clause-told : goal.returns-clause-told
returns-clause-told g c side conf n acc ds holds =
    let a = c.args in
    let e = a.endpoint.now in
    let items = items_of e a.lease.now in
    let i = c.loop-what.invariant in
    let H : ℤ → ℤ → Type 0 = λ (first last : ℤ).
    HoldsData side conf last n acc ds a.cells.now a.counters.now
    → g.L.Listener.heard a.listener.now (judged_data side conf.delays ds (map (data_with a.ep e first last a.head) (gathered nothing_told items).parts)) c.loop-what.listener in
    let here : H c.first-first.result.0 c.last-last.result.0 = λ h.
    all_heard g.L.Listener.heard a.ep e c.first-first.result c.last-last.result a.head items (left_of c.loop-what.walk) i.treated.parts side conf ds a.listener.now c.loop-what.listener
    (c.in_default.ensures.steps.0).before i.treated.told (i.told side conf n acc ds h) in
    subst (λ (l : ℤ). H (message_of a.lease.now).first l) c.last-last.ensures (subst (λ (f : ℤ). H f c.last-last.result.0) c.first-first.ensures here) holds
