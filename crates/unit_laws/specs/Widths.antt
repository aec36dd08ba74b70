-- The widths of the numbers in what is judged (O-RAN.WG4.CUS, the fields of sections; eCPRI transport header, ecpriSeqid).
use Rattle.std.specs.Prelude.{◌≡◌, ◌<◌, ◌^◌}
use Rattle.cplane_sections.specs.declared.values.CSection.{CSection}
use Rattle.ecpri_fragments.specs.Generations.{Fragment}
use Rattle.air_source.specs.declared.events.Side.{Side}
use Rattle.air_source.specs.declared.events.Side.TheVariants.{Ru}
use Rattle.unit_model.specs.Judgements.{Judgement, Met, Commanded, Fragmented, Unread, Turned, Given}

pub record HasControlWidths (s : CSection) : Type 0 where
  pub id : s.id < 2 ^ 12
  pub start_prb : s.start_prb < 2 ^ 10
  pub num_prb : s.num_prb < 2 ^ 8
  pub num_symbol : s.num_symbol < 2 ^ 4

pub record HasFragmentWidths (f : Fragment) : Type 0 where
  pub seq : f.seq < 2 ^ 8
  pub sub : f.sub < 2 ^ 7

-- sections of commands are the radio unit's alone
abbrev pub HasWidths : Side → Judgement → Type 0
HasWidths side (Met m) = Unit {0}
HasWidths side (Commanded s v) = HasControlWidths s.section × (side ≡ Ru)
HasWidths side (Fragmented e f v) = HasFragmentWidths f
HasWidths side (Unread ep e m why) = Unit {0}
HasWidths side (Turned ep e m) = Unit {0}
HasWidths side (Given h v) = h.section.id < 2 ^ 12
