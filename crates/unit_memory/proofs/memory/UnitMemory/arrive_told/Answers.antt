use Rattle.std.proofs.Common.{List, sym, ap, ◌∙◌, subst}
use Rattle.ecpri_frames.specs.Messages.{Message, pdu}
use Rattle.fh_base.specs.Lists.{onto}
use Rattle.unit_model.specs.Meetings.{met_in}
use Rattle.unit_model.specs.Reports.{met}
use Rattle.unit_cells.specs.Cells.{CellsValue}
use Rattle.unit_cells.specs.Keeping.{SameReported}
use Rattle.unit_memory.specs.Parts.{MemoryStands}
use Rattle.unit_memory.proofs.HoldLemmas.{arrived, to_parts}
use Rattle.unit_model.specs.Judgements.{judged_in}
use Rattle.unit_memory.proofs.memory.UnitMemory.arrive_told.Goals as goal

pub take_messages-messages-requires-clause-unit : goal.take_messages-messages-requires-clause-unit
take_messages-messages-requires-clause-unit g c =
    let u = c.requires.unit in
    record {
      side = u.side;
      config = u.config;
      arrivals = u.arrivals;
      meetings = met u.side u.config u.arrivals;
      beside = u.beside;
      stands = to_parts u.side u.config c.args.at.0 c.args.self.now u.arrivals u.beside u.holds;
    }

pub returns-clause-holds : goal.returns-clause-holds
returns-clause-holds g c side conf arrivals beside h =
    let at = c.args.at.0 in
    let first = c.args.self.now in
    let t = c.take_messages-messages in
    let r = c.refusal-refusal in
    let same = r.ensures ∙ ap (λ xs. (pdu xs).refusal) (t.ensures.frame ∙ c.messages-left.ensures.frame) in
    let Treated : List Message → Type 0 = λ (ms : List Message). MemoryStands side conf at t.new.self arrivals (onto (met side conf arrivals) (met_in side conf.endpoints at ms)) beside in
    arrived side conf at first t.new.self c.count_frame.new.self arrivals beside c.args.frame.now r.result same (c.count_frame.ensures.holds side conf at _ _ _ _) h
    (subst Treated c.messages-left.ensures.messages (t.ensures.holds side conf arrivals (met side conf arrivals) beside (to_parts side conf at first arrivals beside h)))
    c.requires.time

pub returns-clause-reports : goal.returns-clause-reports
returns-clause-reports g c side conf of =
    let t = c.take_messages-messages in
    subst (λ (v : CellsValue). SameReported side conf c.args.at.0 c.args.self.now.cells v) (sym c.count_frame.ensures.cells) (t.ensures.reports.reports side conf of)

pub returns-clause-told : goal.returns-clause-told
returns-clause-told g c side conf arrivals beside h =
    let at = c.args.at.0 in
    let t = c.take_messages-messages in
    subst (λ (ms : List Message). g.L.Listener.heard c.args.listener.now (judged_in side conf at (met side conf arrivals) ms) t.new.listener) c.messages-left.ensures.messages
    (t.ensures.told side conf arrivals (met side conf arrivals) beside (to_parts side conf at c.args.self.now arrivals beside h))
