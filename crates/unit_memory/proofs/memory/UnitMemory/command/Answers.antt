use Rattle.air_source.specs.declared.events.Side.TheVariants.{Ru}
use Rattle.std.proofs.Common.{◌≡◌, List, [], ◌∷◌, All, sym, ap, ◌∙◌, subst}
use Rattle.std.proofs.lemmas.List.Elements.{All-head, All-tail}
use Rattle.cplane_sections.specs.Left.{left_of}
use Rattle.cplane_sections.specs.Message.{sections_in}
use Rattle.cplane_sections.specs.declared.values.CSection.{CSection}
use Rattle.window_config.specs.declared.endpoints.EndpointConfig.{EndpointConfig}
use Rattle.fh_base.specs.Lists.{onto}
use Rattle.unit_model.specs.Meetings.{command, commands_with}
use Rattle.unit_model.specs.Proper.{IsProperCommand}
use Rattle.unit_model.specs.declared.decoded.ControlSection.{ControlSection}
use Rattle.fh_base.proofs.OntoLemmas.{onto_none, onto_one}
use Rattle.unit_model.proofs.Read.{commands_proper}
use Rattle.unit_cells.specs.Cells.{endpoints_of}
use Rattle.unit_memory.specs.Parts.{HoldsParts}
use Rattle.unit_memory.proofs.StepLemmas.{reports_more, reports_none}
use Rattle.unit_memory.proofs.ToldLemmas.{CommandsTold, commands_all, commands_none, commands_one}
use Rattle.unit_memory.proofs.memory.UnitMemory.command.Goals as goal

pub loop-section-init : goal.loop-section-init
loop-section-init g c =
    let a = c.args in
    let es = endpoints_of a.self.now.cells in
    let of : List CSection → List ControlSection = λ ss. commands_with a.ep a.endpoint.now a.at.0 a.head.now ss in
    let left : left_of c.into_iter-section-iterator.result ≡ sections_in a.head.now a.bytes.now = ap left_of c.into_iter-section-iterator.ensures.into_iter_gives ∙ c.sections-section-items.ensures in
    let P : List CSection → Type 0 = λ (ss : List CSection). All (IsProperCommand es) (of ss) in
    record {
      reports = reports_none a.at.0 a.self.now.cells;
      proper = subst P (sym left) (commands_proper es a.ep a.endpoint.now a.at.0 a.head.now a.bytes.now c.requires.read c.requires.endpoint c.requires.time);
      holds = λ conf n fs cs ds h. record {
        commands = record { so_far = cs; holds = h; are = ap (λ ss. onto cs (of ss)) left };
        told =
            subst (λ (ss : List CSection). CommandsTold g.L.Listener.heard conf.delays cs (of (sections_in a.head.now a.bytes.now)) cs (of ss) a.listener.now a.listener.now) (sym left)
            (commands_none g.L.Listener.heard g.met.L.Listener.heard_more conf.delays cs (of (sections_in a.head.now a.bytes.now)) a.listener.now (g.met.L.Listener.heard_none a.listener.now));
      };
    }

pub section-requires-clause-side : goal.section-requires-clause-side
section-requires-clause-side g c = c.loop-section.invariant.reports.side ∙ c.requires.side

pub section-requires-clause-proper : goal.section-requires-clause-proper
section-requires-clause-proper g c =
    let a = c.args in
    let i = c.loop-section.invariant in
    let P = IsProperCommand (endpoints_of a.self.now.cells) in
    let s = c.in-Some.section in
    let rest = left_of c.next.new.self in
    let left : left_of c.loop-section.section-iterator ≡ s ∷ rest = c.in-Some.ensures.steps in
    let all = subst (λ (ss : List CSection). All P (commands_with a.ep a.endpoint.now a.at.0 a.head.now ss)) left i.proper in
    let one = All-head P (command a.ep a.endpoint.now a.at.0 a.head.now s) (commands_with a.ep a.endpoint.now a.at.0 a.head.now rest) all in
    subst (λ (es : List EndpointConfig). IsProperCommand es (command a.ep a.endpoint.now a.at.0 a.head.now s)) (sym i.reports.endpoints) one

pub loop-section-preserved : goal.loop-section-preserved
loop-section-preserved g c =
    let a = c.args in
    let i = c.loop-section.invariant in
    let P = IsProperCommand (endpoints_of a.self.now.cells) in
    let s = c.in-Some.section in
    let rest = left_of c.next.new.self in
    let x = command a.ep a.endpoint.now a.at.0 a.head.now s in
    let of : List CSection → List ControlSection = λ ss. commands_with a.ep a.endpoint.now a.at.0 a.head.now ss in
    let left : left_of c.loop-section.section-iterator ≡ s ∷ rest = c.in-Some.ensures.steps in
    let all = subst (λ (ss : List CSection). All P (of ss)) left i.proper in
    record {
      reports = reports_more a.at.0 a.self.now.cells c.loop-section.self.cells c.section.new.self.cells i.reports c.section.ensures.reports;
      proper = All-tail P x (of rest) all;
      holds = λ conf n fs cs ds h.
          let z = i.holds conf n fs cs ds h in
          let y = z.commands in
          record {
            commands = record {
              so_far = x ∷ y.so_far;
              holds = c.section.ensures.holds conf n fs y.so_far ds y.holds;
              are = sym (onto_one y.so_far x (of rest)) ∙ ap (λ ss. onto y.so_far (of ss)) (sym left) ∙ y.are;
            };
            told =
                commands_one g.L.Listener.heard g.met.L.Listener.heard_more conf.delays cs (of (sections_in a.head.now a.bytes.now)) y.so_far (of (left_of c.loop-section.section-iterator)) (of rest) x
                a.listener.now c.loop-section.listener c.section.new.listener (ap of left) z.told (c.section.ensures.told conf n fs y.so_far ds y.holds);
          };
    }

pub returns-clause-holds : goal.returns-clause-holds
returns-clause-holds g c conf n fs cs ds h =
    let a = c.args in
    let of : List CSection → List ControlSection = λ ss. commands_with a.ep a.endpoint.now a.at.0 a.head.now ss in
    let y = (c.loop-section.invariant.holds conf n fs cs ds h).commands in
    let none : left_of c.loop-section.section-iterator ≡ [] = c.in-None.ensures.steps.0 in
    let all : y.so_far ≡ onto cs (of (sections_in a.head.now a.bytes.now)) = sym (onto_none y.so_far) ∙ ap (λ ss. onto y.so_far (of ss)) (sym none) ∙ y.are in
    let Q : List ControlSection → Type 0 = λ (xs : List ControlSection). HoldsParts Ru conf a.at.0 c.loop-section.self n fs xs ds in
    subst Q all y.holds

pub returns-clause-told : goal.returns-clause-told
returns-clause-told g c conf n fs cs ds h =
    let a = c.args in
    let of : List CSection → List ControlSection = λ ss. commands_with a.ep a.endpoint.now a.at.0 a.head.now ss in
    let y = c.loop-section.invariant.holds conf n fs cs ds h in
    let none : left_of c.loop-section.section-iterator ≡ [] = c.in-None.ensures.steps.0 in
    commands_all g.L.Listener.heard g.met.L.Listener.heard_more conf.delays cs (of (sections_in a.head.now a.bytes.now)) y.commands.so_far (of (left_of c.loop-section.section-iterator))
    a.listener.now c.loop-section.listener (ap of none) y.told
