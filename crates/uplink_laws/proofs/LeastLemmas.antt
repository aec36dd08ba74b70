-- Each frame of both ways once, with the least delay, meets the premise.
use Rattle.std.proofs.Common.{◌≡◌, ℕ, ℤ, pos, ◌+◌, ◌*◌, ◌<◌, ◌≤◌, ◌+ℤ◌, ◌*ℤ◌, ◌≤ℤ◌, ◌<ℤ◌, min, inl, inr, List, [], ◌∷◌, map, refl, sym, subst, arith}
use Rattle.std.specs.Prelude.{filter}
use Rattle.std.specs.Int.{int_gap}
use Rattle.std.specs.Ordering.{int_eq}
use Rattle.std.proofs.lemmas.Bool.Decides.{Decides-int_eq}
use Rattle.std.proofs.lemmas.Int.{ints}
use Rattle.air_source.specs.declared.links.LinkFrame.{LinkFrame}
use Rattle.window_config.specs.Relations.{PassesCheck}
use Rattle.window_config.specs.Windows.{ticks_of_ns}
use Rattle.window_config.specs.declared.config.Config.{Config}
use Rattle.window_config.specs.declared.plan.PlanLine.{PlanLine}
use Rattle.unit_model.specs.Meetings.{Arrival}
use Rattle.unit_model.specs.Radiated.{first_clock}
use Rattle.unit_model.specs.Times.{end_of_time}
use Rattle.plan_model.specs.Departures.{departures_of, start_of_part}
use Rattle.plan_model.specs.Lines.{planned}
use Rattle.plan_model.specs.declared.lines.PlannedLine.{PlannedLine}
use Rattle.plan_model.specs.declared.streams.Stream.TheVariants.{UpData}
use Rattle.schedule_laws.specs.Premise.{AreInOrder}
use Rattle.schedule_laws.proofs.LeastLemmas.{onto_order, least_is, least_under, later_both}
use Rattle.plan_model.proofs.LineLemmas.{start_in_time}
use Rattle.plan_model.proofs.TimeLemmas.{wait_most, less_gap}
use Rattle.sent_frames.specs.Messages.{Source}
use Rattle.uplink_laws.specs.Radiated.{CopiesArrive}
use Rattle.uplink_laws.specs.Sent.{IsSendable}
use Rattle.uplink_laws.proofs.RadiatedLemmas.{least_come}
use Rattle.uplink_model.specs.Frames.{Antenna}
use Rattle.uplink_laws.specs.Least.{LeastUplinkDelaysArrive, by_time, down_least, least_copies, least_copy}
use Rattle.uplink_laws.specs.Premise.{AnswersArrive, CommandsArrive, IsUplinkCopy, frames_of, jobs_of}
use Rattle.uplink_laws.proofs.ArrivalLemmas.{frame_is}
use Rattle.uplink_laws.proofs.PartLemmas.{message_facts}
use Rattle.fh_base.specs.declared.frames.TheConstants.{FRAME}
use Rattle.window_config.specs.declared.delays.TheConstants.{MOST_DELAY}
use Rattle.window_config.proofs.TickLemmas.{in_ticks}
use Rattle.fh_base.specs.declared.nanoseconds.TheConstants.{NANOSECOND}
use Rattle.fh_base.specs.Members.{IsIn}
use Rattle.fh_base.proofs.MemberLemmas.{in_filter, of_filter}
use Rattle.fh_base.proofs.MadeLists.{in_map, in_onto, in_tick, of_map, of_tick, onto_right}
use Rattle.fh_base.proofs.EachLemmas.{gap_is, gap_parts}
use Rattle.fh_base.proofs.RisingLemmas.{IsRising, ticks_rising}

-- ---- frames by time

time_rising : (fs : List LinkFrame) → IsRising (λ (f : LinkFrame). f.at.0) (by_time fs)
time_rising fs =
    ticks_rising (λ (f : LinkFrame). f.at.0) first_clock (int_gap first_clock (end_of_time +ℤ pos 1)) (λ t. filter (λ (f : LinkFrame). int_eq f.at.0 t) fs)
    (λ t f m. (Decides-int_eq f.at.0 t).0 (of_filter (λ (g : LinkFrame). int_eq g.at.0 t) f fs m).1)

of_time : (f : LinkFrame) (fs : List LinkFrame) → IsIn f (by_time fs) → IsIn f fs
of_time f fs m =
    let w = of_tick f first_clock (int_gap first_clock (end_of_time +ℤ pos 1)) (λ t. filter (λ (g : LinkFrame). int_eq g.at.0 t) fs) m in
    (of_filter (λ (g : LinkFrame). int_eq g.at.0 w.0) f fs w.1).0

in_time : (f : LinkFrame) (fs : List LinkFrame) → first_clock ≤ℤ f.at.0 → f.at.0 <ℤ (end_of_time +ℤ pos 1) → IsIn f fs → IsIn f (by_time fs)
in_time f fs low high m =
    let t = f.at.0 in
    let end = end_of_time +ℤ pos 1 in
    in_tick f first_clock (int_gap first_clock end) (int_gap first_clock t) (λ u. filter (λ (g : LinkFrame). int_eq g.at.0 u) fs)
    (less_gap (int_gap first_clock t) (int_gap (t +ℤ pos 1) end) (int_gap first_clock end) (gap_parts first_clock t end low high))
    (subst (λ u. IsIn f (filter (λ (g : LinkFrame). int_eq g.at.0 u) fs)) (sym (gap_is first_clock t low))
    (in_filter (λ (g : LinkFrame). int_eq g.at.0 t) f fs m ((Decides-int_eq t t).1 refl)))

-- ---- their copies

copies_rising : (c : Config) (fs : List LinkFrame) → IsRising (λ (f : LinkFrame). f.at.0) fs → IsRising (λ (a : Arrival). a.at) (map (least_copy c) fs)
copies_rising c [] h = tt
copies_rising c (f ∷ fs) h = (
  λ a m. (let w = of_map (least_copy c) a fs m in subst (λ (x : Arrival). (least_copy c f).at ≤ℤ x.at) (sym w.2) (later_both f.at.0 w.0.at.0 (ticks_of_ns c.delays.t34.min) (h.0 w.0 w.1))),
  copies_rising c fs h.1,
)

copies_in_order : (c : Config) (fs : List LinkFrame) → AreInOrder (least_copies c fs)
copies_in_order c fs = onto_order [] (map (least_copy c) (by_time fs)) tt (copies_rising c (by_time fs) (time_rising fs)) (λ b x m n. absurd m)

copy_is : (c : Config) (f : LinkFrame) → c.delays.t34.min ≤ℤ c.delays.t34.max → IsUplinkCopy c f (least_copy c f)
copy_is c f order = record { from = least_is f.at.0 (ticks_of_ns c.delays.t34.min); to = least_under f.at.0 c.delays.t34.min c.delays.t34.max order; bytes = refl }

-- ---- all of it

-- a frame leaves while time is gone over
leaves_in_time : (s least most : ℤ) (wait width : ℕ) → FRAME ≤ℤ s → s ≤ℤ pos 1536100000000000 → pos 0 ≤ℤ least → most ≤ℤ pos MOST_DELAY
    → least *ℤ pos NANOSECOND +ℤ pos width ≡ most *ℤ pos NANOSECOND → wait ≤ width
    → (first_clock ≤ℤ ((s +ℤ least *ℤ pos NANOSECOND) +ℤ pos wait)) × (((s +ℤ least *ℤ pos NANOSECOND) +ℤ pos wait) <ℤ (end_of_time +ℤ pos 1))
leaves_in_time s least most wait width a b l m e w = (omega (arith, ints), omega (arith, ints))

-- what the downlink's laws ask for is enough
pub commands_arrive : (c : Config) (ps : List PlannedLine) (source : Source) (down : List Arrival) → CopiesArrive c ps source down → CommandsArrive c ps source down
commands_arrive c ps source down h = record { came = h.came; every = λ f m other. h.every f m }

module _ (c : Config) (lines : List PlanLine) (source : Source) (antenna : Antenna) (s : IsSendable c lines source) (check : PassesCheck c.delays) where
  abbrev down : List Arrival
  down = down_least c lines source

  down_arrive : CommandsArrive c (planned c.endpoints lines) source down
  down_arrive = commands_arrive c (planned c.endpoints lines) source down (least_come c lines source s check)

  abbrev frames : List LinkFrame
  frames = frames_of c antenna (jobs_of c down)

  frame_time : (f : LinkFrame) → IsIn f frames → (first_clock ≤ℤ f.at.0) × (f.at.0 <ℤ (end_of_time +ℤ pos 1))
  frame_time f m =
      let w = frame_is c lines source antenna down s check down_arrive f m in
      let x = w.n.message.first in
      let facts = message_facts c lines s.config s.lines_fit s.valid f.ep w.e w.n x w.at w.there (inl refl) in
      let time = start_in_time c.endpoints x.planned x.symbol facts.line facts.below in
      let d = departures_of c UpData in
      let ta3 = c.delays.ta3 in
      let limits = s.config.delays.ta3 in
      let both = leaves_in_time (start_of_part x) ta3.min ta3.max (min ((w.n.before + w.sub) * d.gap) d.spread) d.spread time.0 time.1 limits.low limits.high
      (gap_is (ticks_of_ns ta3.min) (ticks_of_ns ta3.max) (in_ticks ta3.min ta3.max limits.order)) (wait_most (w.n.before + w.sub) d.gap d.spread) in
      subst (λ (g : LinkFrame). (first_clock ≤ℤ g.at.0) × (g.at.0 <ℤ (end_of_time +ℤ pos 1))) (sym w.is) both

  up_arrive : AnswersArrive c antenna (jobs_of c down) (least_copies c frames)
  up_arrive =
      let order = s.config.delays.t34.order in
      record {
        in_order = copies_in_order c frames;
        came = λ a m.
            (let i : IsIn a (map (least_copy c) (by_time frames)) = elim (in_onto a [] (map (least_copy c) (by_time frames)) m) [ inl none ↦ absurd none | inr t ↦ t ] in
            let w = of_map (least_copy c) a (by_time frames) i in
            (w.0, of_time w.0 frames w.1, subst (λ (x : Arrival). IsUplinkCopy c w.0 x) (sym w.2) (copy_is c w.0 order)));
        every = λ f m.
            (let time = frame_time f m in
            (least_copy c f, onto_right (least_copy c f) [] (map (least_copy c) (by_time frames)) (in_map (least_copy c) f (by_time frames) (in_time f frames time.0 time.1 m)), copy_is c f order));
      }

pub least_arrive : LeastUplinkDelaysArrive
least_arrive c lines source antenna s can check = record { sendable = s; can = can; check = check; down_arrive = down_arrive c lines source antenna s check; up_arrive = up_arrive c lines source antenna s check }
