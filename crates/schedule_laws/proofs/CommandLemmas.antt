-- Commands that are received within T12 are on time and name what their lines name; so each line's is accepted once.
use Rattle.std.proofs.Common.{◌≡◌, ℕ, ℤ, pos, neg_ℤ, ◌+◌, ◌*◌, ◌<◌, ◌≤◌, ◌+ℤ◌, ◌*ℤ◌, ◌-ℤ◌, ◌≤ℤ◌, ◌<ℤ◌, min, inl, inr, Bool, true, false, not, ◌&&◌, ◌==◌, List, [], ◌∷◌, map, refl, ap, ap₂, sym, ◌∙◌, subst, arith}
use Rattle.std.specs.Prelude.{All}
use Rattle.std.specs.Int.{int_rem_euclid}
use Rattle.std.proofs.lemmas.Bool.{and_parts, and_from, eq-eqb, eqb-true, not-true}
use Rattle.std.proofs.lemmas.Int.{ints}
use Rattle.fh_base.specs.Air.{air_of}
use Rattle.fh_base.specs.Frame.{absolute_frame, frame_start}
use Rattle.fh_base.specs.Numbering.{symbols_of}
use Rattle.fh_base.specs.declared.values.Slot.{Slot}
use Rattle.air_source.specs.declared.events.Side.TheVariants.{Ru}
use Rattle.window_config.specs.Classes.{IsOnTime, class_of}
use Rattle.window_config.specs.Configs.{IsConfig}
use Rattle.window_config.specs.Limits.{IsWithinLimits}
use Rattle.window_config.specs.Plans.{IsPlanLine}
use Rattle.window_config.specs.Relations.{PassesCheck}
use Rattle.window_config.specs.Windows.{command_window_of, cp_dl_of, ticks_of_ns}
use Rattle.window_config.specs.declared.config.Config.{Config}
use Rattle.window_config.specs.declared.delays.Delays.{Delays}
use Rattle.window_config.specs.declared.delays.Range.{Range}
use Rattle.window_config.specs.declared.endpoints.EndpointConfig.{EndpointConfig}
use Rattle.window_config.specs.declared.plan.PlanKind.{PlanKind}
use Rattle.window_config.specs.declared.plan.PlanKind.TheVariants.{Down, Up, Idle}
use Rattle.window_config.specs.declared.plan.PlanLine.{PlanLine}
use Rattle.window_config.specs.declared.verdicts.Class.TheVariants.{OnTime}
use Rattle.window_config.proofs.Timing.{class_on_time}
use Rattle.unit_model.specs.Claims.{claim_at, same_slot}
use Rattle.unit_model.specs.Commands.{accepted, allocation_of as named_by, command_class, command_slot, command_start}
use Rattle.unit_model.specs.Meetings.{Arrival, commands, meetings}
use Rattle.unit_model.specs.Radiated.{first_clock}
use Rattle.unit_model.specs.Times.{end_of_time}
use Rattle.unit_model.specs.declared.allocations.Allocation.{Allocation}
use Rattle.unit_model.specs.declared.cells.Cell.{Cell}
use Rattle.unit_model.specs.declared.decoded.ControlSection.{ControlSection}
use Rattle.unit_model.proofs.ReachLaws.{symbol_soon}
use Rattle.unit_laws.proofs.FarLemmas.{endpoints_equal}
use Rattle.plan_model.specs.Departures.{departures_of, sending_window, sent_at, start_of_part, width_of}
use Rattle.plan_model.specs.Lines.{line_allocation, is_down_kind, planned}
use Rattle.plan_model.specs.Packs.{Numbered, packs}
use Rattle.plan_model.specs.Sent.{SentFrame, frame_of, sent}
use Rattle.plan_model.specs.Streams.{Part, frames_in, has_part, messages_of, part_fields, part_in, parts_in}
use Rattle.plan_model.specs.Valid.{IsValid}
use Rattle.plan_model.specs.declared.lines.PlannedLine.{PlannedLine}
use Rattle.plan_model.specs.declared.streams.Stream.{Stream}
use Rattle.plan_model.specs.declared.streams.Stream.TheVariants.{DownCommands, UpCommands, DownData, UpData}
use Rattle.schedule_laws.specs.Commands.{AreCommandedOnce, IsAnsweredOnce, IsCommanded, EachIsCommandedOnce}
use Rattle.schedule_laws.specs.Premise.{IsCommandFor, IsCopyOf, Texts}
use Rattle.plan_model.proofs.AcceptedLemmas.{AreAllowed, IsTimely, again, named_all, new_one}
use Rattle.plan_model.proofs.ScheduleClashLemmas.{claims_same}
use Rattle.plan_model.proofs.LineLemmas.{allowed, are_same, good, part_line, start_in_time}
use Rattle.plan_model.proofs.SweptLists.{numerology_short}
use Rattle.plan_model.proofs.SchedulePackLemmas.{message_from, one_part}
use Rattle.schedule_laws.proofs.ReadingLemmas.{AreCopies, Heard, IsCommandStream, command_read, heard, told}
use Rattle.plan_model.proofs.SentLemmas.{IsOfMessage, IsSentStream, is_sent, message_part, part_is, part_message, part_there, sent_is}
use Rattle.plan_model.proofs.TimeLemmas.{copy_from, copy_to, first_less, frame_is, in_end, in_time, wait_most}
use Rattle.fh_base.specs.declared.frames.TheConstants.{FRAME, HALF_CYCLE}
use Rattle.fh_base.proofs.Order.{same_fields as same_slot_fields}
use Rattle.unit_model.proofs.ClaimLemmas.{slot_self as slot_own}
use Rattle.window_config.proofs.TickLemmas.{in_ticks}
use Rattle.fh_base.specs.declared.nanoseconds.TheConstants.{NANOSECOND}
use Rattle.fh_base.specs.Members.{IsIn}
use Rattle.fh_base.proofs.MemberLemmas.{in_right}
use Rattle.fh_base.proofs.MadeLists.{in_map, of_map}
use Rattle.fh_base.proofs.EachLemmas.{gap_is}

-- ---- times

-- a window at the sender, and one at the receiver that leaves room for the delays
pub record HasRoom (sending awaited t12 : Range) : Type 0 where
  pub order : sending.min ≤ℤ sending.max
  pub most : sending.max ≤ℤ (awaited.max +ℤ t12.min)
  pub least : (awaited.min +ℤ t12.max) ≤ℤ sending.min

late_enough : (s at most fast window : ℤ) → (s -ℤ at) ≤ℤ (ticks_of_ns most -ℤ ticks_of_ns fast) → most ≤ℤ (window +ℤ fast) → (s -ℤ at) ≤ℤ ticks_of_ns window
late_enough s at most fast window h k = omega (arith, ints, h, k)

soon_enough : (s at least slow window : ℤ) → (ticks_of_ns least -ℤ ticks_of_ns slow) ≤ℤ (s -ℤ at) → (window +ℤ slow) ≤ℤ least → ticks_of_ns window ≤ℤ (s -ℤ at)
soon_enough s at least slow window h k = omega (arith, ints, h, k)

-- a copy of a frame that left in the window is received on time
pub on_time : (sending awaited t12 : Range) (s at : ℤ) (wait : ℕ) → HasRoom sending awaited t12 → wait ≤ width_of sending
    → (((s +ℤ neg_ℤ (ticks_of_ns sending.max)) +ℤ pos wait) +ℤ ticks_of_ns t12.min) ≤ℤ at
    → at ≤ℤ (((s +ℤ neg_ℤ (ticks_of_ns sending.max)) +ℤ pos wait) +ℤ ticks_of_ns t12.max) → IsOnTime at at s awaited
on_time sending awaited t12 s at wait room few from to = record {
  soon_enough = soon_enough s at sending.min t12.max awaited.min
      (copy_to s (ticks_of_ns sending.max) (ticks_of_ns sending.min) (ticks_of_ns t12.max) at wait (width_of sending)
      (gap_is (ticks_of_ns sending.min) (ticks_of_ns sending.max) (in_ticks sending.min sending.max room.order)) few to) room.least;
  late_enough = late_enough s at sending.max t12.min awaited.max
      (copy_from s (ticks_of_ns sending.max) (ticks_of_ns sending.min) (ticks_of_ns t12.min) at wait from) room.most;
}

-- so it is received near to its frame
pub near_frame : (f s at least most : ℤ) → (f *ℤ FRAME) ≤ℤ s → s <ℤ (f *ℤ FRAME +ℤ pos 76800000000) → pos 0 ≤ℤ least → most ≤ℤ pos 4000000
    → (least *ℤ pos NANOSECOND) ≤ℤ (s -ℤ at) → (s -ℤ at) ≤ℤ (most *ℤ pos NANOSECOND)
    → ((at -ℤ HALF_CYCLE) ≤ℤ (f *ℤ FRAME)) × ((f *ℤ FRAME) <ℤ (at +ℤ HALF_CYCLE))
near_frame f s at least most low high a b soon late = (omega (arith, ints), omega (arith, ints))

-- the room that the check leaves commands
room_down : (d : Delays) → IsWithinLimits d → PassesCheck d → HasRoom (cp_dl_of d.t1a_up d.advance) (cp_dl_of d.t2a_up d.advance) d.t12
room_down d l k = record {
  order = omega (arith, ints, l.t1a_up.order);
  most = omega (arith, ints, k.up_max);
  least = omega (arith, ints, k.up_min);
}

room_up : (d : Delays) → IsWithinLimits d → PassesCheck d → HasRoom d.t1a_cp_ul d.t2a_cp_ul d.t12
room_up d l k = record { order = l.t1a_cp_ul.order; most = k.cp_ul_max; least = k.cp_ul_min }

-- ---- a command that carries a line names what it names

same_allocation : (a b : Allocation) → a.ep ≡ b.ep → a.endpoint ≡ b.endpoint → a.down ≡ b.down → a.idle ≡ b.idle → a.slot ≡ b.slot → a.symbol ≡ b.symbol → a.num_symbol ≡ b.num_symbol
    → a.start_prb ≡ b.start_prb → a.num_prb ≡ b.num_prb → a.mask ≡ b.mask → a.section ≡ b.section → a.filter ≡ b.filter → a ≡ b
same_allocation a b e1 e2 e3 e4 e5 e6 e7 e8 e9 e10 e11 e12 =
    let same : (let x : Allocation = record {
      ep = a.ep;
      endpoint = a.endpoint;
      down = a.down;
      idle = a.idle;
      slot = a.slot;
      symbol = a.symbol;
      num_symbol = a.num_symbol;
      start_prb = a.start_prb;
      num_prb = a.num_prb;
      mask = a.mask;
      section = a.section;
      filter = a.filter;
    } in x) ≡ (let y : Allocation = record {
      ep = b.ep;
      endpoint = b.endpoint;
      down = b.down;
      idle = b.idle;
      slot = b.slot;
      symbol = b.symbol;
      num_symbol = b.num_symbol;
      start_prb = b.start_prb;
      num_prb = b.num_prb;
      mask = b.mask;
      section = b.section;
      filter = b.filter;
    } in y) = rw (e1, e2, e3, e4, e5, e6, e7, e8, e9, e10, e11, e12) refl in
    same

module _ (p : PlannedLine) (d : ControlSection) (carries : IsCommandFor p d) where
  slot_named : absolute_frame d.head.frame_id d.at.0 ≡ p.line.slot.frame → command_slot d ≡ p.line.slot
  slot_named f = same_slot_fields (command_slot d) p.line.slot f carries.subframe carries.slot

  names_line : absolute_frame d.head.frame_id d.at.0 ≡ p.line.slot.frame → named_by d ≡ line_allocation p
  names_line f =
      same_allocation (named_by d) (line_allocation p) carries.ep carries.endpoint carries.down carries.idle (slot_named f) carries.symbol carries.num_symbol carries.start_prb carries.num_prb carries.mask
      carries.id carries.filter

  start_named : absolute_frame d.head.frame_id d.at.0 ≡ p.line.slot.frame → command_start d ≡ air_of p.endpoint.numerology p.line.slot p.line.symbol
  start_named f =
      ap (λ (e : EndpointConfig). air_of e.numerology (command_slot d) d.head.start_symbol) carries.endpoint
      ∙ ap (λ (s : Slot). air_of p.endpoint.numerology s d.head.start_symbol) (slot_named f)
      ∙ ap (λ y. air_of p.endpoint.numerology p.line.slot y) carries.start_symbol

-- ---- each stream

first_symbol : (stream : Stream) → IsCommandStream stream → (p : PlannedLine) (ep : ℕ) (slot : Slot) (symbol : ℕ) → has_part stream ep slot symbol (line_allocation p) ≡ true → p.line.symbol ≡ symbol
first_symbol DownCommands s p ep slot symbol h =
    let one = and_parts (is_down_kind p.line.kind) _ h in
    let two = and_parts (p.ep == ep) _ one.1 in
    let three = and_parts (same_slot p.line.slot slot) (p.line.symbol == symbol) two.1 in
    eqb-true p.line.symbol symbol three.1
first_symbol UpCommands s p ep slot symbol h =
    let one = and_parts (not (is_down_kind p.line.kind)) _ h in
    let two = and_parts (p.ep == ep) _ one.1 in
    let three = and_parts (same_slot p.line.slot slot) (p.line.symbol == symbol) two.1 in
    eqb-true p.line.symbol symbol three.1
first_symbol DownData s p ep slot symbol h = absurd s
first_symbol UpData s p ep slot symbol h = absurd s

-- the window of what the stream carries
window_of : (stream : Stream) → IsCommandStream stream → (d : Delays) (p : PlannedLine) (ep : ℕ) (slot : Slot) (symbol : ℕ) → IsWithinLimits d → PassesCheck d
    → has_part stream ep slot symbol (line_allocation p) ≡ true → HasRoom (sending_window d stream) (command_window_of d (is_down_kind p.line.kind)) d.t12
window_of DownCommands s d p ep slot symbol l k h =
    let one = and_parts (is_down_kind p.line.kind) _ h in
    subst (λ b. HasRoom (sending_window d DownCommands) (command_window_of d b) d.t12) (sym one.0) (room_down d l k)
window_of UpCommands s d p ep slot symbol l k h =
    let one = and_parts (not (is_down_kind p.line.kind)) _ h in
    subst (λ b. HasRoom (sending_window d UpCommands) (command_window_of d b) d.t12) (sym (not-true (is_down_kind p.line.kind) one.0)) (room_up d l k)
window_of DownData s d p ep slot symbol l k h = absurd s
window_of UpData s d p ep slot symbol l k h = absurd s

low_window : (d : Delays) (b : Bool) → IsWithinLimits d → (pos 0 ≤ℤ (command_window_of d b).min) × ((command_window_of d b).max ≤ℤ pos 4000000)
low_window d true l = (omega (arith, ints, l.t2a_up.low, l.advance.low), omega (arith, ints, l.t2a_up.high, l.advance.high))
low_window d false l = (omega (arith, ints, l.t2a_cp_ul.low), omega (arith, ints, l.t2a_cp_ul.high))

-- when its frames leave
leaves : (stream : Stream) → IsCommandStream stream → (c : Config) (n : Numbered Part) (sub : ℕ)
    → sent_at c stream n sub ≡ (start_of_part n.message.first +ℤ neg_ℤ (ticks_of_ns (sending_window c.delays stream).max))
    +ℤ pos (min ((n.before + sub) * (departures_of c stream).gap) (width_of (sending_window c.delays stream)))
leaves DownCommands s c n sub = refl
leaves UpCommands s c n sub = refl
leaves DownData s c n sub = absurd s
leaves UpData s c n sub = absurd s

-- ---- all that arrives

-- what the commands need of the premise: each arrival is a copy of a frame that is sent, and of each command that is sent a copy was
-- received
pub record CommandsArrive (c : Config) (lines : List PlanLine) (text : Texts) (arrivals : List Arrival) : Type 0 where
  pub config : IsConfig c
  pub lines_fit : All IsPlanLine lines
  pub valid : IsValid c lines
  pub check : PassesCheck c.delays
  pub came : AreCopies c text (sent c (planned c.endpoints lines)) arrivals
  pub every : (f : SentFrame) → IsIn f (sent c (planned c.endpoints lines)) → IsCommandStream f.stream → (a : Arrival) × IsIn a arrivals × IsCopyOf c text f a

module _ (c : Config) (lines : List PlanLine) (text : Texts) (arrivals : List Arrival) (h : CommandsArrive c lines text arrivals) where
  abbrev ps : List PlannedLine
  ps = planned c.endpoints lines

  abbrev cs : List ControlSection
  cs = commands (meetings Ru c.endpoints arrivals)

  limits : IsWithinLimits c.delays
  limits = h.config.delays

  -- what is known of a command that was received
  record Came (line : PlannedLine) (d : ControlSection) : Type 0 where
    there : IsIn line ps
    carries : IsCommandFor line d
    names : named_by d ≡ line_allocation line
    class : command_class c.delays d ≡ OnTime

  timely_by : (p : PlannedLine) (d : ControlSection) (f : ℤ) → IsIn p ps → IsCommandFor p d → p.line.slot.frame ≡ f
      → (frame_start f ≤ℤ air_of p.endpoint.numerology p.line.slot p.line.symbol)
      → (air_of p.endpoint.numerology p.line.slot p.line.symbol <ℤ (frame_start f +ℤ pos 76800000000))
      → IsOnTime d.at.0 d.at.0 (air_of p.endpoint.numerology p.line.slot p.line.symbol) (command_window_of c.delays (is_down_kind p.line.kind)) → Came p d
  timely_by p d f there carries e low high time =
      let window = command_window_of c.delays (is_down_kind p.line.kind) in
      let bound = low_window c.delays (is_down_kind p.line.kind) limits in
      let s = air_of p.endpoint.numerology p.line.slot p.line.symbol in
      let near = near_frame f s d.at.0 window.min window.max low high bound.0 bound.1 time.soon_enough time.late_enough in
      let id : pos d.head.frame_id ≡ int_rem_euclid f (pos 256) = carries.frame_id ∙ ap (λ (z : ℤ). int_rem_euclid z (pos 256)) e in
      let frame : absolute_frame d.head.frame_id d.at.0 ≡ p.line.slot.frame = frame_is d.head.frame_id d.at.0 f id near.0 near.1 ∙ sym e in
      record {
        there = there;
        carries = carries;
        names = names_line p d carries frame;
        class = ap₂ (λ (t : ℤ) (b : Bool). class_of d.at.0 d.at.0 t (command_window_of c.delays b)) (start_named p d carries frame) carries.down
            ∙ (class_on_time d.at.0 d.at.0 s window).1 time;
      }

  came_of : (d : ControlSection) → (w : Heard c text (sent c ps) arrivals d) → (o : IsOfMessage c ps w.f) → Came o.n.message.first.planned d
  came_of d w o =
      let x = o.n.message.first in
      let p = x.planned in
      let stream = w.f.stream in
      let part = part_is ps stream o.is_sent w.f.ep w.f.endpoint x (message_part c ps stream w.f.ep w.f.endpoint o.n x o.there (inl refl)) in
      let g = good c lines h.config h.lines_fit h.valid p part.from in
      let place = part_line stream o.is_sent p w.f.ep part.slot x.symbol part.has in
      let symbol = first_symbol stream w.stream p w.f.ep part.slot x.symbol part.has in
      let endpoint = endpoints_equal c.endpoints p.ep w.f.ep p.endpoint w.f.endpoint g.at o.at place.ep_is in
      let below : p.line.symbol < symbols_of p.endpoint.numerology = subst (λ (e : EndpointConfig). p.line.symbol < symbols_of e.numerology) (sym endpoint) (subst (λ y. y < symbols_of w.f.endpoint.numerology) (sym symbol) part.is_symbol) in
      let soon = symbol_soon p.endpoint.numerology p.line.slot p.line.symbol (numerology_short p.endpoint.numerology) (record { subframe = g.fits.subframe; slot = g.slot }) below in
      let carries : IsCommandFor p d = subst (λ (f : SentFrame). IsCommandFor f.message.first.planned d) o.is w.carries in
      let starts : start_of_part x ≡ air_of p.endpoint.numerology p.line.slot p.line.symbol = ap (λ y. air_of p.endpoint.numerology p.line.slot y) (sym symbol) in
      let sends = sending_window c.delays stream in
      let wait = min ((o.n.before + w.f.sub) * (departures_of c stream).gap) (width_of sends) in
      let left : w.f.at ≡ (air_of p.endpoint.numerology p.line.slot p.line.symbol +ℤ neg_ℤ (ticks_of_ns sends.max)) +ℤ pos wait =
      ap (λ (f : SentFrame). f.at) o.is ∙ leaves stream w.stream c o.n w.f.sub ∙ ap (λ s. (s +ℤ neg_ℤ (ticks_of_ns sends.max)) +ℤ pos wait) starts in
      let from = subst (λ t. (t +ℤ ticks_of_ns c.delays.t12.min) ≤ℤ w.a.at) left w.copy.from in
      let to = subst (λ t. w.a.at ≤ℤ (t +ℤ ticks_of_ns c.delays.t12.max)) left w.copy.to in
      let time = on_time sends (command_window_of c.delays (is_down_kind p.line.kind)) c.delays.t12 (air_of p.endpoint.numerology p.line.slot p.line.symbol) w.a.at wait
      (window_of stream w.stream c.delays p w.f.ep part.slot x.symbol limits h.check part.has) (wait_most (o.n.before + w.f.sub) (departures_of c stream).gap (width_of sends)) from to in
      timely_by p d p.line.slot.frame part.from carries refl soon.0 soon.1
      (subst (λ t. IsOnTime t t (air_of p.endpoint.numerology p.line.slot p.line.symbol) (command_window_of c.delays (is_down_kind p.line.kind))) (sym w.at) time)

  came_is : (d : ControlSection) → IsIn d cs → (p : PlannedLine) × Came p d
  came_is d m =
      let w = heard c text (sent c ps) arrivals h.came d m in
      let o = sent_is c ps w.f w.sent_is in
      (o.n.message.first.planned, came_of d w o)

  timely_is : (d : ControlSection) → IsIn d cs → IsTimely c.delays (map line_allocation ps) d
  timely_is d m =
      let v = came_is d m in
      let w = v.1 in
      record {
        fits = w.carries.fits;
        class = w.class;
        named = subst (λ (a : Allocation). IsIn a (map line_allocation ps)) (sym w.names) (in_map line_allocation v.0 ps w.there);
      }

  allowed_all : AreAllowed (map line_allocation ps)
  allowed_all = allowed c lines h.config h.lines_fit h.valid

  -- ---- each is answered so

  answered : (earlier : List ControlSection) (d : ControlSection) → IsIn d cs → ((x : ControlSection) → IsIn x earlier → IsIn x cs) → IsAnsweredOnce c.delays ps d earlier
  answered earlier d m within =
      let v = came_is d m in
      let w = v.1 in
      let before = λ (x : ControlSection) (i : IsIn x earlier). timely_is x (within x i) in
      let named = named_all c.delays (map line_allocation ps) allowed_all earlier before in
      let timely_d = timely_is d m in
      record {
        line = v.0;
        planned_is = w.there;
        carries = w.carries;
        names = w.names;
        first = λ none. new_one c.delays (map line_allocation ps) allowed_all d earlier timely_d before named (λ i.
            (let x = named.from (named_by d) i in none x.0 x.1 (x.2 ∙ w.names)));
        further = λ x i e. again c.delays (map line_allocation ps) allowed_all d earlier timely_d before named
            (subst (λ (a : Allocation). IsIn a (accepted c.delays earlier)) (e ∙ sym w.names) (named.all x i));
      }

  -- ---- each line has one

  abbrev stream_of : PlanKind → Stream
  stream_of Down = DownCommands
  stream_of Up = UpCommands
  stream_of Idle = DownCommands

  own_place : (p : PlannedLine) → ((p.ep == p.ep) && (same_slot p.line.slot p.line.slot && (p.line.symbol == p.line.symbol))) ≡ true
  own_place p = and_from _ _ (eq-eqb p.ep p.ep refl) (and_from _ _ (slot_own p.line.slot) (eq-eqb p.line.symbol p.line.symbol refl))

  has_own : (p : PlannedLine) (k : PlanKind) → p.line.kind ≡ k → has_part (stream_of k) p.ep p.line.slot p.line.symbol (line_allocation p) ≡ true
  has_own p Down e = and_from _ _ (ap (λ (k : PlanKind). is_down_kind k) e) (own_place p)
  has_own p Up e = and_from _ _ (ap (λ (k : PlanKind). not (is_down_kind k)) e) (own_place p)
  has_own p Idle e = and_from _ _ (ap (λ (k : PlanKind). is_down_kind k) e) (own_place p)

  is_command : (k : PlanKind) → IsCommandStream (stream_of k)
  is_command Down = tt
  is_command Up = tt
  is_command Idle = tt

  is_sent_one : (k : PlanKind) → IsSentStream (stream_of k)
  is_sent_one Down = tt
  is_sent_one Up = tt
  is_sent_one Idle = tt

  one_frame_each : (k : PlanKind) (n : Numbered Part) → 0 < frames_in c (stream_of k) n.message
  one_frame_each Down n = omega arith
  one_frame_each Up n = omega arith
  one_frame_each Idle n = omega arith

  one_part_each : (k : PlanKind) (ep : ℕ) (e : EndpointConfig) (n : Numbered Part) → IsIn n (messages_of c ps (stream_of k) ep e) → n.message.more ≡ []
  unfolding messages_of parts_in
  one_part_each Down ep e n m = one_part part_fields (parts_in ps DownCommands ep e) n.message (message_from part_fields (frames_in c DownCommands) (packs part_fields 1 (parts_in ps DownCommands ep e)) n m)
  one_part_each Up ep e n m = one_part part_fields (parts_in ps UpCommands ep e) n.message (message_from part_fields (frames_in c UpCommands) (packs part_fields 1 (parts_in ps UpCommands ep e)) n m)
  one_part_each Idle ep e n m = one_part part_fields (parts_in ps DownCommands ep e) n.message (message_from part_fields (frames_in c DownCommands) (packs part_fields 1 (parts_in ps DownCommands ep e)) n m)

  most_before : (stream : Stream) → IsCommandStream stream → ((sending_window c.delays stream).min ≤ℤ (sending_window c.delays stream).max) × ((sending_window c.delays stream).max ≤ℤ pos 4000000)
      × (pos 0 ≤ℤ (sending_window c.delays stream).min)
  most_before DownCommands s = (omega (arith, ints, limits.t1a_up.order), omega (arith, ints, limits.t1a_up.high, limits.advance.high), omega (arith, ints, limits.t1a_up.low, limits.advance.low))
  most_before UpCommands s = (limits.t1a_cp_ul.order, omega (arith, ints, limits.t1a_cp_ul.high), limits.t1a_cp_ul.low)
  most_before DownData s = absurd s
  most_before UpData s = absurd s

  -- its frame
  record HasFrame (p : PlannedLine) : Type 0 where
    f : SentFrame
    there : IsIn f (sent c ps)
    stream : IsCommandStream f.stream
    is : f.message.first.planned ≡ p

  alone_is : (x y : Part) (ys : List Part) → ys ≡ [] → IsIn x (y ∷ ys) → x ≡ y
  alone_is x y [] e m = elim m [ inl a ↦ a | inr t ↦ absurd t ]
  alone_is x y (z ∷ ys) e m = absurd cc

  has_frame : (p : PlannedLine) → IsIn p ps → HasFrame p
  has_frame p m =
      let k = p.line.kind in
      let stream = stream_of k in
      let e = p.endpoint in
      let g = good c lines h.config h.lines_fit h.valid p m in
      let below = first_less p.line.symbol p.line.count (symbols_of e.numerology) g.some g.within in
      let s = air_of e.numerology p.line.slot p.line.symbol in
      let time = start_in_time c.endpoints p p.line.symbol g below in
      let end = in_end s time.0 time.1 in
      let x = part_in p.line.symbol p in
      let part = part_there ps stream (is_sent_one k) p.ep e p p.line.slot p.line.symbol m (has_own p k refl) (record { subframe = g.fits.subframe; slot = g.slot }) below end.0 end.1 in
      let n = part_message c ps stream p.ep e x part in
      let same = alone_is x n.0.message.first n.0.message.more (one_part_each k p.ep e n.0 n.1) n.2 in
      let window = sending_window c.delays stream in
      let most = most_before stream (is_command k) in
      let wait = min ((n.0.before + 0) * (departures_of c stream).gap) (width_of window) in
      let leaves_is : sent_at c stream n.0 0 ≡ (s +ℤ neg_ℤ (ticks_of_ns window.max)) +ℤ pos wait =
      leaves stream (is_command k) c n.0 0 ∙ ap (λ (y : Part). (start_of_part y +ℤ neg_ℤ (ticks_of_ns window.max)) +ℤ pos wait) (sym same) in
      let clock = in_time s window.min window.max wait (width_of window) time.0 time.1 most.1 most.2 most.0
      (gap_is (ticks_of_ns window.min) (ticks_of_ns window.max) (in_ticks window.min window.max most.0)) (wait_most (n.0.before + 0) (departures_of c stream).gap (width_of window)) in
      record {
        f = frame_of c stream p.ep e n.0 0;
        there = is_sent c ps stream p.ep e n.0 0 (is_sent_one k) g.at n.1 (one_frame_each k n.0)
            (subst (λ (t : ℤ). first_clock ≤ℤ t) (sym leaves_is) clock.0) (subst (λ (t : ℤ). t <ℤ (end_of_time +ℤ pos 1)) (sym leaves_is) clock.1);
        stream = is_command k;
        is = ap (λ (y : Part). y.planned) (sym same);
      }

  commanded : (p : PlannedLine) → IsIn p ps → IsCommanded p cs
  commanded p m =
      let w = has_frame p m in
      let a = h.every w.f w.there w.stream in
      let r = command_read c text w.f a.0 w.stream a.2 in
      let there = told c text (sent c ps) arrivals h.came a.0 r.command a.1 r.is in
      let carries : IsCommandFor p r.command = subst (λ (q : PlannedLine). IsCommandFor q r.command) w.is r.for_line in
      let g = good c lines h.config h.lines_fit h.valid p m in
      let below = first_less p.line.symbol p.line.count (symbols_of p.endpoint.numerology) g.some g.within in
      let o = sent_is c ps w.f w.there in
      let heard_it : Heard c text (sent c ps) arrivals r.command = record {
        a = a.0;
        came = a.1;
        f = w.f;
        sent_is = w.there;
        copy = a.2;
        stream = w.stream;
        at = r.at;
        carries = r.for_line;
      } in
      let came = came_of r.command heard_it o in
      let first : o.n.message.first.planned ≡ p = ap (λ (f : SentFrame). f.message.first.planned) (sym o.is) ∙ w.is in
      record { command = r.command; came = there; carries = carries; names = came.names ∙ ap (λ (q : PlannedLine). line_allocation q) first }

  claims_are : (cell : Cell) (re : ℕ) → re < 12 → claim_at (accepted c.delays cs) cell re ≡ claim_at (map line_allocation ps) cell re
  claims_are cell re below =
      let named = named_all c.delays (map line_allocation ps) allowed_all cs timely_is in
      claims_same (accepted c.delays cs) (map line_allocation ps) cell re allowed_all.clear below
      (λ b m. (let w = named.from b m in subst (λ (a : Allocation). IsIn a (map line_allocation ps)) w.2 (timely_is w.0 w.1).named))
      (λ b m.
      (let p = of_map line_allocation b ps m in
      let w = commanded p.0 p.1 in
      subst (λ (a : Allocation). IsIn a (accepted c.delays cs)) (w.names ∙ sym p.2) (named.all w.command w.came)))

  pub commanded_by : AreCommandedOnce c (planned c.endpoints lines) arrivals
  commanded_by = record {
    answers = λ later earlier d e.
        answered earlier d (subst (λ (xs : List ControlSection). IsIn d xs) (sym e) (in_right d later (d ∷ earlier) (inl refl)))
        (λ x i. subst (λ (xs : List ControlSection). IsIn x xs) (sym e) (in_right x later (d ∷ earlier) (inr i)));
    every = commanded;
    differ = are_same c lines h.config h.lines_fit h.valid;
    claims = claims_are;
  }

pub commanded_once : EachIsCommandedOnce
commanded_once c lines text arrivals h =
    commanded_by c lines text arrivals (record {
      config = h.config;
      lines_fit = h.lines_fit;
      valid = h.valid;
      check = h.check;
      came = h.came;
      every = λ f m stream. h.every f m;
    })
