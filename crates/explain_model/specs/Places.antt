-- The words that say where something is.
use Rattle.std.specs.Prelude.{ℕ, List, ◌++◌, codes, Bool, true, false}
use Rattle.air_source.specs.Units.{way_text}
use Rattle.explain_model.specs.declared.places.Clash.{Clash}
use Rattle.explain_model.specs.declared.places.MessagePlace.{MessagePlace}
use Rattle.explain_model.specs.declared.places.PrbRun.{PrbRun}
use Rattle.explain_model.specs.declared.places.SymbolPlace.{SymbolPlace}
use Rattle.explain_model.specs.declared.places.Timing.{Timing}
use Rattle.fh_base.specs.declared.values.Slot.{Slot}
use Rattle.member_lines.specs.Members.{member_text, named_text, named_signed_text, named_hex3_text}
use Rattle.fh_base.specs.Words.{hex4_text, spaced_signed_text, spaced_text}

-- frame, subframe, slot and symbol
abbrev pub moment_text : Slot → ℕ → List ℕ
moment_text s symbol = spaced_signed_text s.frame ++ spaced_text s.subframe ++ spaced_text s.slot ++ spaced_text symbol

-- the id of an endpoint, and a symbol of it
abbrev pub symbol_text : SymbolPlace → List ℕ
symbol_text p = codes " " ++ hex4_text p.id ++ moment_text p.slot p.symbol

-- a first PRB and a number of PRBs
abbrev pub prbs_text : ℕ → ℕ → List ℕ
prbs_text prb num = named_text (codes "prb") prb ++ named_text (codes "num") num

abbrev pub mask_text : ℕ → List ℕ
mask_text mask = named_hex3_text (codes "mask") mask

-- the way, the start of the symbol, the symbol, the PRBs and the section id
unfoldable pub run_text : PrbRun → List ℕ
run_text r = way_text r.side ++ spaced_signed_text r.at.0 ++ symbol_text r.place ++ prbs_text r.prb r.num ++ named_text (codes "section") r.section

abbrev pub bit_text : Bool → List ℕ
bit_text true = codes "1"
bit_text false = codes "0"

-- the arrival, the message's id, its place in the frame and its sequence field
unfoldable pub message_text : MessagePlace → List ℕ
message_text m = spaced_text m.number ++ codes " " ++ hex4_text m.id ++ named_text (codes "place") m.place
    ++ named_text (codes "seq") m.seq.seq ++ named_text (codes "sub") m.seq.sub ++ member_text (codes "e") (bit_text m.seq.last)

-- the distances from the two ends of a window
unfoldable pub timing_text : Timing → List ℕ
timing_text t = named_signed_text (codes "since") t.since ++ named_signed_text (codes "until") t.until

-- what a section overlaps
unfoldable pub clash_text : Clash → List ℕ
clash_text c = named_text (codes "with") c.section ++ named_text (codes "symbol") c.symbol ++ named_text (codes "prb") c.prb
