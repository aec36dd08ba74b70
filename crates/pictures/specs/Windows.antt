-- The windows of a text (O-RAN.WG4.CUS, section 2.3, delay management), and where times are in a picture of them.
use Rattle.std.specs.Prelude.{ℕ, ℤ, pos, ◌+◌, ◌+ℤ◌, List, length, max, ◌&&◌, ◌==◌, Option, Some, None, if◌then◌else◌, codes}
use Rattle.std.specs.Str.{bytes_eq}
use Rattle.fh_base.specs.Numbers.{word_at}
use Rattle.pictures.specs.Numbers.{taking, numeral}
use Rattle.pictures.specs.Scales.{or_zero, scaled}
use Rattle.pictures.specs.declared.windows.Window.{Window}
use Rattle.pictures.specs.declared.windows.Windows.{Windows}

-- the name of the window of a line, from line 2 to line 9
abbrev pub window_name : ℕ → List ℕ
window_name n =
    if n == 2 then codes "t1a_up"
    else (if n == 3 then codes "t1a_cp_dl"
    else (if n == 4 then codes "t1a_cp_ul"
    else (if n == 5 then codes "t2a_up"
    else (if n == 6 then codes "t2a_cp_dl"
    else (if n == 7 then codes "t2a_cp_ul"
    else (if n == 8 then codes "ta3"
    else codes "ta4"))))))

-- `window NAME MIN MAX`, with MIN at most MAX and MAX at most 4 ms
abbrev pub window_in : ℕ → List (List ℕ) → Option Window
window_in n ws =
    if (length ws == 4) && bytes_eq (word_at ws 0) (codes "window") && bytes_eq (word_at ws 1) (window_name n)
    then taking (numeral 0 4000000 (word_at ws 3)) (λ greatest. taking (numeral 0 greatest (word_at ws 2)) (λ least. Some (record { min = least; max = greatest })))
    else None

abbrev pub no_window : Window
no_window = record { min = 0; max = 0 }

abbrev pub no_windows : Windows
no_windows = record {
  t1a_up = no_window;
  t1a_cp_dl = no_window;
  t1a_cp_ul = no_window;
  t2a_up = no_window;
  t2a_cp_dl = no_window;
  t2a_cp_ul = no_window;
  ta3 = no_window;
  ta4 = no_window;
}

-- with the window of a line
abbrev pub with_window : ℕ → Window → Windows → Windows
with_window n w ws =
    if n == 2 then record ws { t1a_up = w }
    else (if n == 3 then record ws { t1a_cp_dl = w }
    else (if n == 4 then record ws { t1a_cp_ul = w }
    else (if n == 5 then record ws { t2a_up = w }
    else (if n == 6 then record ws { t2a_cp_dl = w }
    else (if n == 7 then record ws { t2a_cp_ul = w }
    else (if n == 8 then record ws { ta3 = w }
    else record ws { ta4 = w }))))))

-- how far before the symbol a picture reaches: to the greatest end of the six windows before it and 40 us more
unfoldable pub far_of : Windows → ℕ
far_of ws = max (max (max ws.t1a_up.max ws.t1a_cp_dl.max) ws.t1a_cp_ul.max) (max (max ws.t2a_up.max ws.t2a_cp_dl.max) ws.t2a_cp_ul.max) + 40000

-- how far after it: to the greater end of the two windows after it and 60 us more
unfoldable pub near_of : Windows → ℕ
near_of ws = max ws.ta3.max ws.ta4.max + 60000

-- the column, from 0 to 1040, of a time before the symbol (negative) or after it
unfoldable pub column_of : Windows → ℤ → ℕ
column_of ws ns = scaled (or_zero (ns +ℤ pos (far_of ws))) (far_of ws + near_of ws) 1040
