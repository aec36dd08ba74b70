-- Configuration lines: what each makes of the settings, and the settings where there is none.
use Rattle.std.specs.Prelude.{◌≡◌, ℕ, ℤ, pos, ◌+◌, List, length, Bool, true, false, ◌&&◌, ◌==◌, if◌then◌else◌, Option, Some, None, Result, Ok, Err, codes, int_lt, refl}
use Rattle.std.specs.Str.{bytes_eq}
use Rattle.std.proofs.lemmas.Bool.{eqb-true}
use Rattle.eaxc_map.specs.declared.widths.Widths.{Widths}
use Rattle.air_source.specs.declared.tones.Tone.{Tone}
use Rattle.window_config.specs.declared.delays.Range.{Range}
use Rattle.window_config.specs.Usual.{usual_delays}
use Rattle.fh_document.specs.declared.document.Comps.{Comps}
use Rattle.fh_document.specs.declared.document.Settings.{Settings}
use Rattle.fh_document.specs.declared.document.Version.{Version}
use Rattle.fh_document.specs.declared.refusals.DocWhy.{DocWhy}
use Rattle.fh_document.specs.declared.refusals.DocWhy.TheVariants as why
use Rattle.fh_document.specs.declared.keywords.Setting.{Setting}
use Rattle.fh_document.specs.declared.keywords.Setting.TheVariants as setting
use Rattle.fh_document.specs.Refusals.{or_refuse, ◌>>=◌}
use Rattle.fh_document.specs.Words.{number_in}
use Rattle.fh_document.specs.Keywords.{is_three}
use Rattle.window_config.specs.declared.delays.TheConstants.{MOST_DELAY}
use Rattle.fh_document.specs.declared.config_lines.TheConstants.{MOST_TRANSIT}
use Rattle.delay_measure.specs.declared.stamps.TheConstants.{MOST_COMPENSATION}
use Rattle.window_config.specs.declared.config.TheConstants.{MESSAGE_SECTIONS, MOST_FRAGMENT, LEAST_FRAGMENT}
use Rattle.fh_base.specs.Numbers.{word_at}

-- the number that the i-th word spells, from low to high
abbrev pub number_at : ℕ → ℕ → List (List ℕ) → ℕ → Result ℕ DocWhy
number_at low high ws i = or_refuse (number_in low high (word_at ws i)) why.Number

-- the same as a time in nanoseconds
abbrev pub time_at : ℕ → ℕ → List (List ℕ) → ℕ → Result ℤ DocWhy
time_at low high ws i = number_at low high ws i >>= (λ n. Ok (pos n))

-- what follows where there are n words
abbrev pub counted : {A : Type 0} → ℕ → List (List ℕ) → Result A DocWhy → Result A DocWhy
counted n ws next = if length ws == n then next else Err why.Words

-- a range, unless its minimum exceeds its maximum
abbrev pub ordered : ℤ → ℤ → Result Range DocWhy
ordered least most = if int_lt most least then Err why.MinMax else Ok (record { min = least; max = most })

-- two ranges
abbrev pub both_ordered : ℤ → ℤ → ℤ → ℤ → Result (Range × Range) DocWhy
both_ordered min_up max_up min_cp_ul max_cp_ul = do
  up ← ordered min_up max_up
  cp_ul ← ordered min_cp_ul max_cp_ul
  Ok (up, cp_ul)

-- widths, of which it is known whether they sum to 16
abbrev pub summed : (du band carrier port : ℕ) (whole : Bool) → (du + band + carrier + port == 16) ≡ whole → Result Widths DocWhy
summed du band carrier port true is = Ok (record { du = du; band = band; carrier = carrier; port = port; whole = eqb-true (du + band + carrier + port) 16 is })
summed du band carrier port false is = Err why.WidthSum

abbrev pub widths_of : (du band carrier port : ℕ) → Result Widths DocWhy
widths_of du band carrier port = summed du band carrier port (du + band + carrier + port == 16) refl

-- `widths DU BAND CARRIER PORT`
abbrev pub widths_line : List (List ℕ) → Result Widths DocWhy
widths_line ws = counted 5 ws (do
  du ← number_at 0 16 ws 1
  band ← number_at 0 16 ws 2
  carrier ← number_at 0 16 ws 3
  port ← number_at 0 16 ws 4
  widths_of du band carrier port)

-- `t1a MINUP MAXUP MINCPUL MAXCPUL`, `t2a MINUP MAXUP MINCPUL MAXCPUL`: the ranges of data and of uplink commands
abbrev pub windows_line : ℕ → List (List ℕ) → Result (Range × Range) DocWhy
windows_line low ws = counted 5 ws (do
  min_up ← time_at low MOST_DELAY ws 1
  max_up ← time_at low MOST_DELAY ws 2
  min_cp_ul ← time_at low MOST_DELAY ws 3
  max_cp_ul ← time_at low MOST_DELAY ws 4
  both_ordered min_up max_up min_cp_ul max_cp_ul)

-- `ta3 MIN MAX`, `ta4 MIN MAX`, `t12 MIN MAX`, `t34 MIN MAX`
abbrev pub range_line : List (List ℕ) → Result Range DocWhy
range_line ws = counted 3 ws (do
  least ← time_at 0 MOST_DELAY ws 1
  most ← time_at 0 MOST_DELAY ws 2
  ordered least most)

-- `hold DL UL`
abbrev pub hold_line : List (List ℕ) → Result (ℤ × ℤ) DocWhy
hold_line ws = counted 3 ws (do
  dl ← time_at 0 MOST_DELAY ws 1
  ul ← time_at 0 MOST_DELAY ws 2
  Ok (dl, ul))

-- `advance NS`, `gap NS`
abbrev pub time_line : List (List ℕ) → Result ℤ DocWhy
time_line ws = counted 2 ws (time_at 0 MOST_DELAY ws 1)

-- `fragment BYTES`
abbrev pub fragment_line : List (List ℕ) → Result ℕ DocWhy
fragment_line ws = counted 2 ws (number_at LEAST_FRAGMENT MOST_FRAGMENT ws 1)

-- `source SEED AMPLITUDE`, `antenna SEED AMPLITUDE`
abbrev pub tone_line : List (List ℕ) → Result Tone DocWhy
tone_line ws = counted 3 ws (do
  seed ← number_at 0 4294967295 ws 1
  amplitude ← number_at 1 32768 ws 2
  Ok (record { seed = seed; amplitude = amplitude }))

-- `comp DUTX DURX RUTX RURX`
abbrev pub comp_line : List (List ℕ) → Result Comps DocWhy
comp_line ws = counted 5 ws (do
  du_sending ← time_at 0 MOST_COMPENSATION ws 1
  du_receiving ← time_at 0 MOST_COMPENSATION ws 2
  ru_sending ← time_at 0 MOST_COMPENSATION ws 3
  ru_receiving ← time_at 0 MOST_COMPENSATION ws 4
  Ok (record { du_sending = du_sending; du_receiving = du_receiving; ru_sending = ru_sending; ru_receiving = ru_receiving }))

-- `transit dl lost`, `transit ul lost`, of version 3
abbrev pub is_lost : Version → List (List ℕ) → Bool
is_lost version ws = is_three version && bytes_eq (word_at ws 2) (codes "lost")

-- the time on a way, or nothing where its frames are lost
abbrev pub way_of : Version → List (List ℕ) → Result (Option ℤ) DocWhy
way_of version ws = if is_lost version ws then Ok None else time_at 0 MOST_TRANSIT ws 2 >>= (λ ns. Ok (Some ns))

-- `transit dl NS`, `transit ul NS`, and the same with `lost` in place of NS
abbrev pub way_line : Version → List (List ℕ) → Result (Option ℤ) DocWhy
way_line version ws = counted 3 ws (way_of version ws)

-- `transit m NS`
abbrev pub transit_line : List (List ℕ) → Result ℤ DocWhy
transit_line ws = counted 3 ws (time_at 1 MOST_TRANSIT ws 2)

-- `pack N`, of version 2 and later
abbrev pub pack_line : List (List ℕ) → Result ℕ DocWhy
pack_line ws = counted 2 ws (number_at 1 MESSAGE_SECTIONS ws 1)

-- what a line makes of the settings
abbrev pub set_of : Version → Settings → Setting → List (List ℕ) → Result Settings DocWhy
set_of version s setting.Widths ws = widths_line ws >>= (λ x. Ok (record s { widths = x }))
set_of version s setting.T1a ws = windows_line 0 ws >>= (λ x. Ok (record s { delays = record s.delays { t1a_up = x.0; t1a_cp_ul = x.1 } }))
set_of version s setting.T2a ws = windows_line 1 ws >>= (λ x. Ok (record s { delays = record s.delays { t2a_up = x.0; t2a_cp_ul = x.1 } }))
set_of version s setting.Advance ws = time_line ws >>= (λ x. Ok (record s { delays = record s.delays { advance = x } }))
set_of version s setting.Ta3 ws = range_line ws >>= (λ x. Ok (record s { delays = record s.delays { ta3 = x } }))
set_of version s setting.Ta4 ws = range_line ws >>= (λ x. Ok (record s { delays = record s.delays { ta4 = x } }))
set_of version s setting.T12 ws = range_line ws >>= (λ x. Ok (record s { delays = record s.delays { t12 = x } }))
set_of version s setting.T34 ws = range_line ws >>= (λ x. Ok (record s { delays = record s.delays { t34 = x } }))
set_of version s setting.Hold ws = hold_line ws >>= (λ x. Ok (record s { delays = record s.delays { hold_dl = x.0; hold_ul = x.1 } }))
set_of version s setting.Gap ws = time_line ws >>= (λ x. Ok (record s { gap = x }))
set_of version s setting.Fragment ws = fragment_line ws >>= (λ x. Ok (record s { fragment = x }))
set_of version s setting.Source ws = tone_line ws >>= (λ x. Ok (record s { source = x }))
set_of version s setting.Antenna ws = tone_line ws >>= (λ x. Ok (record s { antenna = x }))
set_of version s setting.Comp ws = comp_line ws >>= (λ x. Ok (record s { comps = x }))
set_of version s setting.TransitDl ws = way_line version ws >>= (λ x. Ok (record s { transits = record s.transits { dl = x } }))
set_of version s setting.TransitUl ws = way_line version ws >>= (λ x. Ok (record s { transits = record s.transits { ul = x } }))
set_of version s setting.TransitM ws = transit_line ws >>= (λ x. Ok (record s { transits = record s.transits { m = x } }))
set_of version s setting.Pack ws = pack_line ws >>= (λ x. Ok (record s { pack = x }))

-- what holds where no line configures it
abbrev pub defaults : Settings
defaults = record {
  widths = record { du = 4; band = 4; carrier = 4; port = 4; whole = refl };
  delays = usual_delays;
  gap = pos 1000;
  fragment = 1492;
  pack = 1;
  source = record { seed = 1; amplitude = 1000 };
  antenna = record { seed = 2; amplitude = 1000 };
  comps = record { du_sending = pos 0; du_receiving = pos 0; ru_sending = pos 0; ru_receiving = pos 0 };
  transits = record { dl = Some (pos 50000); ul = Some (pos 50000); m = pos 50000 };
}
