use Rattle.std.proofs.Common.{◌≡◌, ◌∙◌, ap}
use Rattle.std.proofs.lemmas.Result.{on_ok_weaker}
use Rattle.unit_model.specs.Commands.{command_verdict, with_accepted, allocation_of}
use Rattle.unit_model.proofs.CountLemmas.{added_as}
use Rattle.unit_model.proofs.SectionLemmas.{accepted_on, command_count}
use Rattle.plain_units.proofs.PlainLemmas.{commands_on, allocations_on}
use Rattle.plain_units.proofs.plain.Plain.command_section.Goals as goal

pub returns : goal.returns
returns c side n fs cs ds h =
    let d = c.args.config.now.delays in
    let s = c.args.c.now in
    let old = c.args.self.now.accepted.items in
    let v = c.command_verdict-verdict.result in
    let verdict : v ≡ command_verdict d old s = c.command_verdict-verdict.ensures.value ∙ ap (λ xs. command_verdict d xs s) c.deref.ensures.value in
    on_ok_weaker c.accept.result (λ (e : c.accept.new.accepted.items ≡ with_accepted v (allocation_of s) old). record {
      fragments = h.fragments;
      came = h.came;
      endpoints = h.endpoints;
      hold = h.hold;
      accepted = accepted_on d s cs old _ v h.accepted verdict e;
      commands = commands_on d s cs old _ _ v h.accepted verdict h.commands c.in_ok-push.ensures.ok;
      timely = h.timely;
      user = h.user;
      counts = λ k. command_count d s cs old v _ _ _ _ k h.accepted verdict (h.counts k) (added_as _ _ _ _ k c.command_counter.ensures (c.add.ensures.each k));
      allocations = allocations_on c.args.config.now.endpoints v (allocation_of s) old _ (c.command_verdict-verdict.ensures.proper c.args.config.now.endpoints c.requires.proper) h.allocations e;
      sections = h.sections;
    }) c.accept.ensures
