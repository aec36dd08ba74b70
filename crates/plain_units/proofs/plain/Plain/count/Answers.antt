use Rattle.unit_model.proofs.CountLemmas.{capped_beside}
use Rattle.plain_units.proofs.plain.Plain.count.Goals as goal

pub returns : goal.returns
returns c side conf n fs cs ds h = record {
  fragments = h.fragments;
  came = h.came;
  endpoints = h.endpoints;
  hold = h.hold;
  accepted = h.accepted;
  commands = h.commands;
  timely = h.timely;
  user = h.user;
  counts = λ k. capped_beside _ _ _ _ _ _ (h.counts k) (c.add.ensures.each k);
  allocations = h.allocations;
  sections = h.sections;
}
