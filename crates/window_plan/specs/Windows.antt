-- The text of the windows of a document (this project's profile): the windows of both units, the ring sizes, and the check.
use Rattle.std.specs.Prelude.{ℕ, ℤ, List, ◌++◌, codes, Result, Ok, Err}
use Rattle.std.specs.List.{flat_map}
use Rattle.fh_base.specs.Words.{spaced_signed_text, hex4_text}
use Rattle.window_config.specs.declared.config.Config.{Config}
use Rattle.window_config.specs.declared.delays.Range.{Range}
use Rattle.window_config.specs.declared.delays.Delays.{Delays}
use Rattle.window_config.specs.declared.endpoints.EndpointConfig.{EndpointConfig}
use Rattle.window_config.specs.declared.relations.Failing.{Failing}
use Rattle.window_config.specs.declared.rings.Reach.{Reach}
use Rattle.window_config.specs.Windows.{cp_dl_of}
use Rattle.window_config.specs.Relations.{name_of, checked}
use Rattle.window_config.specs.Rings.{ru_reach_of, du_reach_of, ring_slots_of}

-- a minimum and a maximum, each after a space
abbrev pub range_text : Range → List ℕ
range_text r = spaced_signed_text r.min ++ spaced_signed_text r.max

-- the line of a window
abbrev pub window_text : List ℕ → Range → List ℕ
window_text name r = name ++ range_text r ++ codes "\n"

-- T1a: when the DU sends downlink data, downlink commands and uplink commands
unfoldable pub t1a_text : Delays → List ℕ
t1a_text d = window_text (codes "t1a_up") d.t1a_up ++ window_text (codes "t1a_cp_dl") (cp_dl_of d.t1a_up d.advance) ++ window_text (codes "t1a_cp_ul") d.t1a_cp_ul

-- T2a: when the RU hears them
unfoldable pub t2a_text : Delays → List ℕ
t2a_text d = window_text (codes "t2a_up") d.t2a_up ++ window_text (codes "t2a_cp_dl") (cp_dl_of d.t2a_up d.advance) ++ window_text (codes "t2a_cp_ul") d.t2a_cp_ul

-- the eight windows, the last of them when the RU sends uplink data and the DU hears them
unfoldable pub profile_text : Delays → List ℕ
profile_text d = t1a_text d ++ t2a_text d ++ window_text (codes "ta3") d.ta3 ++ window_text (codes "ta4") d.ta4

-- how many slots a unit with this reach holds for an endpoint
abbrev pub ring_size : Reach → EndpointConfig → ℤ
ring_size reach e = ring_slots_of e.numerology reach.before reach.after

-- the line of an endpoint: its id, and the ring sizes at the RU and at the DU
unfoldable pub ring_text : Reach → Reach → EndpointConfig → List ℕ
ring_text ru du e = codes "ring " ++ hex4_text e.id ++ spaced_signed_text (ring_size ru e) ++ spaced_signed_text (ring_size du e) ++ codes "\n"

-- the lines of the endpoints, in the order of the document
abbrev pub rings_text : Delays → List EndpointConfig → List ℕ
rings_text d endpoints = flat_map (ring_text (ru_reach_of d) (du_reach_of d)) endpoints

-- the line of the check: the first relation that fails, and its sides
unfoldable pub check_text : Result (Unit {0}) Failing → List ℕ
check_text (Ok _) = codes "check ok\n"
check_text (Err f) = codes "check fails " ++ name_of f.relation ++ spaced_signed_text f.left ++ spaced_signed_text f.right ++ codes "\n"

-- the whole text
unfoldable pub windows_text : Config → List ℕ
windows_text c = profile_text c.delays ++ rings_text c.delays c.endpoints ++ check_text (checked c.delays)
