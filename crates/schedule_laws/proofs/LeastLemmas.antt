-- Each frame once, with the least delay, meets the premise.
use Rattle.std.proofs.Common.{ℕ, ℤ, pos, ◌+ℤ◌, ◌*ℤ◌, ◌≤ℤ◌, inl, inr, List, [], ◌∷◌, map, refl, sym, subst, arith}
use Rattle.std.specs.Prelude.{filter}
use Rattle.std.specs.Int.{int_gap}
use Rattle.std.specs.Ordering.{int_eq}
use Rattle.std.proofs.lemmas.Bool.Decides.{Decides-int_eq}
use Rattle.std.proofs.lemmas.Int.{ints}
use Rattle.window_config.specs.Configs.{IsConfig}
use Rattle.window_config.specs.Windows.{ticks_of_ns}
use Rattle.window_config.specs.declared.config.Config.{Config}
use Rattle.fh_base.specs.Lists.{onto}
use Rattle.unit_model.specs.Meetings.{Arrival}
use Rattle.unit_model.specs.Radiated.{first_clock}
use Rattle.unit_model.specs.Times.{end_of_time}
use Rattle.plan_model.specs.Lines.{planned}
use Rattle.plan_model.specs.Sent.{SentFrame, frames_from, sent}
use Rattle.plan_model.specs.declared.lines.PlannedLine.{PlannedLine}
use Rattle.schedule_laws.specs.Least.{AreReadable, least_arrival, LeastDelaysArrive}
use Rattle.schedule_laws.specs.Premise.{AreInOrder, IsCopyOf, Texts}
use Rattle.fh_base.specs.declared.nanoseconds.TheConstants.{NANOSECOND}
use Rattle.fh_base.specs.Members.{IsIn}
use Rattle.fh_base.proofs.MemberLemmas.{of_filter}
use Rattle.fh_base.proofs.MadeLists.{in_map, in_onto, of_map, onto_right}
use Rattle.fh_base.proofs.RisingLemmas.{IsRising, ticks_rising}

-- what is sent is in the order of time
abbrev pub leaving : SentFrame → ℤ
leaving f = f.at

pub sent_rising : (c : Config) (ps : List PlannedLine) → IsRising leaving (sent c ps)
unfolding sent
sent_rising c ps =
    let all = frames_from c ps 0 c.endpoints in
    ticks_rising leaving first_clock (int_gap first_clock (end_of_time +ℤ pos 1)) (λ t. filter (λ (f : SentFrame). int_eq f.at t) all) (λ t f m.
    (Decides-int_eq f.at t).0 (of_filter (λ (g : SentFrame). int_eq g.at t) f all m).1)

pub later_both : (a b k : ℤ) → a ≤ℤ b → (a +ℤ k) ≤ℤ (b +ℤ k)
later_both a b k h = omega (arith, ints, h)

map_rising : (bytes : SentFrame → List ℕ) (k : ℤ) (fs : List SentFrame) → IsRising (λ (f : SentFrame). f.at) fs
    → IsRising (λ (a : Arrival). a.at) (map (λ (f : SentFrame). least_arrival bytes f (f.at +ℤ k)) fs)
map_rising bytes k [] h = tt
map_rising bytes k (f ∷ fs) h = (
  λ a m. (let w = of_map (λ (g : SentFrame). least_arrival bytes g (g.at +ℤ k)) a fs m in subst (λ (x : Arrival). (f.at +ℤ k) ≤ℤ x.at) (sym w.2) (later_both f.at w.0.at k (h.0 w.0 w.1))),
  map_rising bytes k fs h.1,
)

-- the newest first
pub onto_order : (earlier xs : List Arrival) → AreInOrder earlier → IsRising (λ (a : Arrival). a.at) xs → ((b x : Arrival) → IsIn b earlier → IsIn x xs → b.at ≤ℤ x.at) → AreInOrder (onto earlier xs)
unfolding onto
onto_order earlier [] o r h = o
onto_order earlier (x ∷ xs) o r h =
    onto_order (x ∷ earlier) xs (λ b m. h b x m (inl refl), o) r.1 (λ b y m n. elim m [
      | inl here ↦ subst (λ (z : Arrival). z.at ≤ℤ y.at) (sym here) (r.0 y n)
      | inr there ↦ h b y there (inr n)
    ])

pub least_is : (a k : ℤ) → (a +ℤ k) ≤ℤ (a +ℤ k)
least_is a k = omega (arith, ints)

pub least_under : (a least most : ℤ) → least ≤ℤ most → (a +ℤ least *ℤ pos NANOSECOND) ≤ℤ (a +ℤ most *ℤ pos NANOSECOND)
least_under a least most h = omega (arith, ints, h)

pub least_arrive : LeastDelaysArrive
least_arrive c lines text bytes config fit valid check readable =
    let ps = planned c.endpoints lines in
    let k = ticks_of_ns c.delays.t12.min in
    let come = λ (f : SentFrame). least_arrival bytes f (f.at +ℤ k) in
    let copied = λ (f : SentFrame) (m : IsIn f (sent c ps)). copy_of c ps text bytes config readable f m in
    record {
      config = config;
      lines_fit = fit;
      valid = valid;
      check = check;
      in_order = onto_order [] (map come (sent c ps)) tt (map_rising bytes k (sent c ps) (sent_rising c ps)) (λ b x m n. absurd m);
      came = λ a m.
          (let i : IsIn a (map come (sent c ps)) = elim (in_onto a [] (map come (sent c ps)) m) [ inl none ↦ absurd none | inr t ↦ t ] in
          let w = of_map come a (sent c ps) i in
          (w.0, w.1, subst (λ (x : Arrival). IsCopyOf c text w.0 x) (sym w.2) (copied w.0 w.1)));
      every = λ f m. (come f, onto_right (come f) [] (map come (sent c ps)) (in_map come f (sent c ps) m), copied f m);
    }
  where
    copy_of : (c : Config) (ps : List PlannedLine) (text : Texts) (bytes : SentFrame → List ℕ) → IsConfig c → AreReadable c ps text bytes → (f : SentFrame) → IsIn f (sent c ps)
        → IsCopyOf c text f (least_arrival bytes f (f.at +ℤ ticks_of_ns c.delays.t12.min))
    copy_of c ps text bytes config readable f m = record {
      from = least_is f.at (ticks_of_ns c.delays.t12.min);
      to = least_under f.at c.delays.t12.min c.delays.t12.max config.delays.t12.order;
      read = readable f m (f.at +ℤ ticks_of_ns c.delays.t12.min);
    }
