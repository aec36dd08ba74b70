use Rattle.std.proofs.Common.{◌≡◌, ◌∙◌, ap}
use Rattle.std.proofs.lemmas.List.Elements.{All-same}
use Rattle.std.proofs.lemmas.Result.{on_ok_weaker}
use Rattle.unit_model.specs.Blocks.{data_verdict, with_timely}
use Rattle.unit_model.specs.Sound.{IsSoundData}
use Rattle.unit_model.proofs.CountLemmas.{added_as}
use Rattle.plain_units.proofs.PlainLemmas.{timely_on, user_on, data_count, sections_on}
use Rattle.unit_model.proofs.SoundLemmas.{all_sound}
use Rattle.plain_units.proofs.plain.Plain.data_section.Goals as goal

pub data_verdict-verdict-requires-clause-timely : goal.data_verdict-verdict-requires-clause-timely
data_verdict-verdict-requires-clause-timely c =
    All-same IsSoundData _ _ c.deref.ensures.value (all_sound c.args.config.now.endpoints c.args.self.now.timely.items c.requires.unit.holds.sections)

pub returns : goal.returns
returns c n fs cs ds h =
    let side = c.args.side in
    let d = c.args.config.now.delays in
    let s = c.args.d in
    let old = c.args.self.now.timely.items in
    let k = c.data_class-class.result in
    let v = c.data_verdict-verdict.result in
    let verdict : v ≡ data_verdict side d old s = c.data_verdict-verdict.ensures ∙ ap (λ xs. data_verdict side d xs s) c.deref.ensures.value in
    on_ok_weaker c.keep.result (λ (e : c.keep.new.timely.items ≡ with_timely k s old). record {
      fragments = h.fragments;
      came = h.came;
      endpoints = h.endpoints;
      hold = h.hold;
      accepted = h.accepted;
      commands = h.commands;
      timely = timely_on side d s ds old _ k h.timely c.data_class-class.ensures e;
      user = user_on side d s ds old _ _ v h.timely verdict h.user c.in_ok-push.ensures.ok;
      counts = λ q. data_count side d s ds old v _ _ _ _ q h.timely verdict (h.counts q) (added_as _ _ _ _ q c.data_counter.ensures (c.add.ensures.each q));
      allocations = h.allocations;
      sections = sections_on c.args.config.now.endpoints k s old _ c.requires.proper h.sections e;
    }) c.keep.ensures
