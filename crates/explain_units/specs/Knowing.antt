-- What is known of earlier judgements, in the memory of a unit.
use Rattle.explain_units.specs.Known.{Known}
use Rattle.explain_units.specs.declared.earlier.Earlier.{Earlier}

abbrev pub known_of : Earlier → Known
known_of e = record {
  place = e.place;
  blocks = e.blocks;
  claims = e.claims;
  margins = e.margins.all.items;
}
