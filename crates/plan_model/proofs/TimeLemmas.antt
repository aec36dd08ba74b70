-- The frame that a frameId means near its own time, and when copies are received.
use Rattle.std.proofs.Common.{◌≡◌, ℕ, ℤ, pos, neg_ℤ, ◌+◌, ◌*◌, ◌<◌, ◌≤◌, ◌+ℤ◌, ◌-ℤ◌, ◌≤ℤ◌, ◌<ℤ◌, min, zero, suc, refl, sym, ◌∙◌, arith}
use Rattle.unit_model.specs.Radiated.{first_clock}
use Rattle.unit_model.specs.Times.{end_of_time}
use Rattle.window_config.specs.Windows.{ticks_of_ns}
use Rattle.std.specs.Int.{int_div_euclid, int_rem_euclid}
use Rattle.std.proofs.lemmas.Int.{ints}
use Rattle.fh_base.specs.Frame.{absolute_frame, first_frame, frame_start}
use Rattle.fh_base.proofs.Euclid.{parts_256, resolved, one_frame}
use Rattle.fh_base.specs.declared.frames.TheConstants.{FRAME, HALF_CYCLE}
use Rattle.fh_base.proofs.Orders.{pos_same}

-- a frame's low 8 bits are below 256
pub id_below : (frame : ℤ) (id : ℕ) → pos id ≡ int_rem_euclid frame (pos 256) → id < 256
id_below frame id e =
    let parts = parts_256 frame in
    let same = pos_same id parts.0 (e ∙ parts.2) in
    omega (arith, same, parts.1)

-- near to its start a frame is the one that its low 8 bits mean
pub frame_is : (id : ℕ) (at frame : ℤ) → pos id ≡ int_rem_euclid frame (pos 256) → (at -ℤ HALF_CYCLE) ≤ℤ frame_start frame
    → frame_start frame <ℤ (at +ℤ HALF_CYCLE) → absolute_frame id at ≡ frame
unfolding absolute_frame
frame_is id at frame e low high =
    let found = resolved id at (int_div_euclid (at +ℤ (FRAME -ℤ pos 1)) FRAME) (int_rem_euclid (pos id -ℤ first_frame at) (pos 256)) (id_below frame id e) refl refl in
    one_frame id at (first_frame at +ℤ int_rem_euclid (pos id -ℤ first_frame at) (pos 256)) frame found (record { id_is = sym e; low = low; high = high })

-- a copy of the i-th frame of a symbol: `most` and `least` before the symbol are the ends of the sending window
pub copy_from : (s most least fast at : ℤ) (wait : ℕ) → (((s +ℤ neg_ℤ most) +ℤ pos wait) +ℤ fast) ≤ℤ at → (s -ℤ at) ≤ℤ (most -ℤ fast)
copy_from s most least fast at wait h = omega (arith, ints, h)

pub copy_to : (s most least slow at : ℤ) (wait spread : ℕ) → least +ℤ pos spread ≡ most → wait ≤ spread → at ≤ℤ (((s +ℤ neg_ℤ most) +ℤ pos wait) +ℤ slow)
    → (least -ℤ slow) ≤ℤ (s -ℤ at)
copy_to s most least slow at wait spread e w h = omega (arith, ints, e, w, h)

pub wait_most : (i gap spread : ℕ) → min (i * gap) spread ≤ spread
wait_most i gap spread = omega arith

-- it leaves within the times that are gone over
pub in_time : (s least most : ℤ) (wait width : ℕ) → FRAME ≤ℤ s → s ≤ℤ pos 1536100000000000 → most ≤ℤ pos 4000000 → pos 0 ≤ℤ least → least ≤ℤ most
    → ticks_of_ns least +ℤ pos width ≡ ticks_of_ns most → wait ≤ width
    → (first_clock ≤ℤ ((s +ℤ neg_ℤ (ticks_of_ns most)) +ℤ pos wait)) × (((s +ℤ neg_ℤ (ticks_of_ns most)) +ℤ pos wait) <ℤ (end_of_time +ℤ pos 1))
in_time s least most wait width a b most_few least_some order e w = (omega (arith, ints), omega (arith, ints))

pub in_end : (s : ℤ) → FRAME ≤ℤ s → s ≤ℤ pos 1536100000000000 → (first_clock ≤ℤ s) × (s <ℤ (end_of_time +ℤ pos 1))
in_end s a b = (omega (arith, ints), omega (arith, ints))

pub first_less : (a b c : ℕ) → 0 < b → a + b ≤ c → a < c
first_less a b c h k = omega (arith, h, k)

pub by_then : (s wait to : ℤ) → (s +ℤ wait) ≤ℤ to → s <ℤ ((to -ℤ wait) +ℤ pos 1)
by_then s wait to h = omega (arith, ints, h)

-- ---- counts

pub last_one : (n : ℕ) → 0 < n → (e : ℕ) × (e + 1 ≡ n)
last_one zero h = absurd (omega arith)
last_one (suc n) h = (n, omega arith)

pub less_gap : (a b m : ℕ) → m ≡ a + suc b → a < m
less_gap a b m e = omega (arith, e)
