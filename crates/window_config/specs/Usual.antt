-- The usual delay profile, in nanoseconds (this project's profile): what a document has where it says nothing of a time.
use Rattle.std.specs.Prelude.{ℕ, pos}
use Rattle.window_config.specs.declared.delays.Range.{Range}
use Rattle.window_config.specs.declared.delays.Delays.{Delays}

abbrev pub span : ℕ → ℕ → Range
span least most = record { min = pos least; max = pos most }

abbrev pub usual_delays : Delays
usual_delays = record {
  t1a_up = span 234000 345000;
  t1a_cp_ul = span 225000 470000;
  t2a_up = span 134000 345000;
  t2a_cp_ul = span 125000 470000;
  ta3 = span 50000 171000;
  ta4 = span 50000 271000;
  t12 = span 0 100000;
  t34 = span 0 100000;
  advance = pos 125000;
  hold_dl = pos 211000;
  hold_ul = pos 221000;
}
