use Rattle.std.proofs.Common.{◌≡◌, List, [], ◌∷◌, length, refl, sym, ap, ◌∙◌, subst}
use Rattle.ecpri_frames.specs.Left.{left_of, message_of}
use Rattle.ecpri_frames.specs.Messages.{Message, is_delay}
use Rattle.fh_base.specs.Lists.{onto}
use Rattle.unit_model.specs.Meetings.{Meeting, meet, met_in}
use Rattle.fh_base.proofs.OntoLemmas.{onto_none, onto_one}
use Rattle.unit_memory.specs.Parts.{MemoryStands}
use Rattle.unit_memory.proofs.HoldLemmas.{CountSoFar, any_one, count_none, count_one}
use Rattle.unit_memory.proofs.StepLemmas.{reports_more, reports_none}
use Rattle.unit_memory.proofs.ToldLemmas.{messages_all, messages_none, messages_one}
use Rattle.unit_memory.specs.Control.{is_control}
use Rattle.unit_memory.proofs.memory.UnitMemory.take_messages.Goals as goal

pub loop-message-init : goal.loop-message-init
loop-message-init g c = record {
  frame = refl;
  reports = reports_none c.args.at.0 c.args.self.now.cells;
  counted = count_none _;
  control = refl;
  delay = refl;
  holds = λ side conf arrivals ms beside h. record {
    met = record { so_far = ms; stands = h; are = refl };
    told =
        messages_none g.L.Listener.heard g.met.L.Listener.heard_more side conf c.args.at.0 ms (left_of c.args.left.now) c.args.listener.now
        (g.met.L.Listener.heard_none c.args.listener.now);
  };
}

pub message-requires-clause-unit : goal.message-requires-clause-unit
message-requires-clause-unit g c =
    let u = c.requires.unit in
    let i = (c.loop-message.invariant.holds u.side u.config u.arrivals u.meetings u.beside u.stands).met in
    record { side = u.side; config = u.config; arrivals = u.arrivals; meetings = i.so_far; beside = u.beside; stands = i.stands }

pub loop-message-preserved : goal.loop-message-preserved
loop-message-preserved g c =
    let a = c.args in
    let at = a.at.0 in
    let i = c.loop-message.invariant in
    let m = message_of c.in-Some.message in
    let all = length (left_of a.left.now) in
    let rest = left_of c.next.new.self in
    let left : left_of c.loop-message.left ≡ m ∷ rest = c.in-Some.ensures.steps.0 in
    let C : List Message → Type 0 = λ (xs : List Message). CountSoFar c.loop-message.count (length xs) all in
    record {
      frame = c.in-Some.ensures.steps.1 ∙ i.frame;
      reports = reports_more at a.self.now.cells c.loop-message.self.cells c.message.new.self.cells i.reports c.message.ensures.reports;
      counted = count_one c.loop-message.count _ (length rest) all (subst C left i.counted) c.saturating_add-count.ensures;
      control = sym (any_one is_control c.loop-message.control m rest (left_of c.loop-message.left) left) ∙ i.control;
      delay = sym (any_one is_delay c.loop-message.delay m rest (left_of c.loop-message.left) left) ∙ i.delay;
      holds = λ side conf arrivals ms beside h.
          let z = i.holds side conf arrivals ms beside h in
          let y = z.met in
          let es = conf.endpoints in
          record {
            met = record {
              so_far = meet side es at m ∷ y.so_far;
              stands = c.message.ensures.holds side conf arrivals y.so_far beside y.stands;
              are = sym (onto_one y.so_far (meet side es at m) (met_in side es at rest)) ∙ ap (λ xs. onto y.so_far (met_in side es at xs)) (sym left) ∙ y.are;
            };
            told =
                messages_one g.L.Listener.heard g.met.L.Listener.heard_more side conf at ms y.so_far (left_of a.left.now) (left_of c.loop-message.left) rest m
                a.listener.now c.loop-message.listener c.message.new.listener left z.told (c.message.ensures.told side conf arrivals y.so_far beside y.stands);
          };
    }

pub returns-clause-holds : goal.returns-clause-holds
returns-clause-holds g c side conf arrivals ms beside h =
    let a = c.args in
    let at = a.at.0 in
    let es = conf.endpoints in
    let y = (c.loop-message.invariant.holds side conf arrivals ms beside h).met in
    let none : left_of c.loop-message.left ≡ [] = c.in_default.ensures.steps.0.0 in
    let all : y.so_far ≡ onto ms (met_in side es at (left_of a.left.now)) = sym (onto_none y.so_far) ∙ ap (λ xs. onto y.so_far (met_in side es at xs)) (sym none) ∙ y.are in
    let P : List Meeting → Type 0 = λ (xs : List Meeting). MemoryStands side conf at c.loop-message.self arrivals xs beside in
    subst P all y.stands

pub returns-clause-told : goal.returns-clause-told
returns-clause-told g c side conf arrivals ms beside h =
    let a = c.args in
    let y = c.loop-message.invariant.holds side conf arrivals ms beside h in
    messages_all g.L.Listener.heard g.met.L.Listener.heard_more side conf a.at.0 ms y.met.so_far (left_of a.left.now) (left_of c.loop-message.left)
    a.listener.now c.loop-message.listener (c.in_default.ensures.steps.0.0) y.told
