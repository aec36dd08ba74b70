-- When the copies of frames of delay measurement land.
use Rattle.std.proofs.Common.{◌≡◌, ℕ, ℤ, pos, ◌+ℤ◌, ◌*ℤ◌, ◌≤ℤ◌, ◌<ℤ◌, inl, inr, true, false, List, [], ◌∷◌, refl, ap, sym, ◌∙◌, subst, arith}
use Rattle.std.specs.Prelude.{All, filter, map}
use Rattle.std.specs.List.{flat_map}
use Rattle.std.specs.Ordering.{int_eq}
use Rattle.std.proofs.lemmas.Bool.{cases_Bool}
use Rattle.std.proofs.lemmas.Bool.Decides.{Decides-int_eq}
use Rattle.std.proofs.lemmas.Int.{by_lt_z, ints}
use Rattle.std.proofs.lemmas.List.Elements.{All-filter, All-head, All-map, All-nil, All-tail, All-weaker}
use Rattle.air_source.specs.declared.events.Side.{Side}
use Rattle.delay_laws.proofs.Keeping.{IsKept, Keeps, all_kept}
use Rattle.delay_laws.specs.Nodes.{Heard, time_of}
use Rattle.delay_laws.specs.Ticks.{Begin, Flight, came_heard, copies_at, landing}
use Rattle.delay_measure.specs.declared.message.DelayMessage.{DelayMessage}
use Rattle.document_traffic.proofs.Documents.{document_ends}
use Rattle.document_traffic.specs.Settings.{begin_of, setting_of, ways_of}
use Rattle.document_traffic.specs.Landing.{injected_at, injected_to, is_to}
use Rattle.fh_document.specs.Proper.{IsDocument, IsFrom, IsInjection, IsMeasure}
use Rattle.fh_document.specs.declared.delivered.TrafficClass.TheVariants.{M}
use Rattle.fh_document.specs.declared.document.Document.{Document}
use Rattle.fh_document.specs.declared.document.Injection.{Injection}
use Rattle.fh_document.specs.declared.document.Measure.{Measure}
use Rattle.frame_ways.proofs.Within.{copies_within}
use Rattle.frame_ways.specs.Copies.{copies_of}
use Rattle.replay_laws.specs.Moments.{landing_at}
use Rattle.unit_model.specs.Meetings.{Arrival}
use Rattle.unit_model.specs.Radiated.{first_clock}
use Rattle.window_config.specs.Windows.{ticks_of_ns}
use Rattle.unit_laws.proofs.HistoryLists.{front_empty, back_empty}
use Rattle.document_traffic.specs.Measured.{delay_messages, exchanges, others_of}
use Rattle.fh_base.specs.declared.nanoseconds.TheConstants.{LAST_TIME, NANOSECOND}
use Rattle.fh_document.specs.declared.config_lines.TheConstants.{MOST_TRANSIT}
use Rattle.fh_base.proofs.Orders.{lasts as later, not_eq}
use Rattle.unit_model.specs.Times.{tick_count}
use Rattle.fh_base.specs.Members.{IsIn}
use Rattle.fh_base.proofs.MadeLists.{in_all}

-- ---- at a tick at which nothing lands no copy does

one_lands : (ds : List ℤ) (at : ℤ) (m : DelayMessage) (ticks : ℤ) → IsIn ticks ds → copies_at ds at m (at +ℤ ticks) ≡ [] → ⊥
one_lands [] at m ticks i none = absurd i
one_lands (d ∷ ds) at m ticks i none = elim (cases_Bool (int_eq (at +ℤ d) (at +ℤ ticks))) [
  | inl here ↦
      (let some : copies_at (d ∷ ds) at m (at +ℤ ticks) ≡ m ∷ copies_at ds at m (at +ℤ ticks) = rw here refl in
      let both : m ∷ copies_at ds at m (at +ℤ ticks) ≡ [] = sym some ∙ none in absurd cc)
  | inr other ↦ elim i [
    | inl e ↦
        (let here : int_eq (at +ℤ d) (at +ℤ ticks) ≡ true = (Decides-int_eq (at +ℤ d) (at +ℤ ticks)).1 (ap (λ (t : ℤ). at +ℤ t) (sym e)) in
        let both : true ≡ false = sym here ∙ other in absurd cc)
    | inr t ↦
        (let rest : copies_at (d ∷ ds) at m (at +ℤ ticks) ≡ copies_at ds at m (at +ℤ ticks) = rw other refl in
        one_lands ds at m ticks t (sym rest ∙ none))
  ]
]

flown_lands : (fs : List Flight) (f : Flight) (ticks : ℤ) → IsIn f fs → IsIn ticks f.delays → landing fs (f.at +ℤ ticks) ≡ [] → ⊥
flown_lands [] f ticks m i none = absurd m
flown_lands (g ∷ fs) f ticks m i none =
    let t : ℤ = f.at +ℤ ticks in
    elim m [
      | inl e ↦
          one_lands f.delays f.at f.message ticks i
          (subst (λ (h : Flight). copies_at h.delays h.at h.message t ≡ []) (sym e) (front_empty (copies_at g.delays g.at g.message t) (landing fs t) none))
      | inr later ↦ flown_lands fs f ticks later i (back_empty (copies_at g.delays g.at g.message t) (landing fs t) none)
    ]

-- ---- when other frames are received

pub none_at : (t : ℤ) (arrivals : List Arrival) → All (λ a. a.at ≡ t → ⊥) arrivals → landing_at arrivals t ≡ []
none_at t [] differ = refl
none_at t (a ∷ arrivals) differ =
    let other = not_eq a.at t (All-head (λ (b : Arrival). b.at ≡ t → ⊥) a arrivals differ) in
    rw other (none_at t arrivals (All-tail (λ (b : Arrival). b.at ≡ t → ⊥) a arrivals differ))

early : (ns t : ℤ) → pos 0 ≤ℤ ns → t <ℤ first_clock → ns *ℤ pos NANOSECOND ≡ t → ⊥
early ns t low before e = omega (arith, ints, low, before, e)

late : (ns t : ℤ) → ns ≤ℤ pos LAST_TIME → ticks_of_ns (pos LAST_TIME) <ℤ t → ns *ℤ pos NANOSECOND ≡ t → ⊥
late ns t high behind e = omega (arith, ints, high, behind, e)

positive : (ns : ℤ) → pos 1 ≤ℤ ns → pos 0 ≤ℤ ticks_of_ns ns
positive ns low = omega (arith, ints, low)

begun : (ns : ℤ) → pos 1000000 ≤ℤ ns → first_clock ≤ℤ ticks_of_ns ns
begun ns low = omega (arith, ints, low)

module _ (d : Document) (is : IsDocument d) where
  no_others : (side : Side) (t : ℤ) → ((ns : ℤ) → IsFrom 0 LAST_TIME ns → ns *ℤ pos NANOSECOND ≡ t → ⊥) → others_of d side t ≡ []
  no_others side t differ =
      let injections = filter (is_to side) d.injections in
      ap (λ (arrivals : List Arrival). flat_map (λ (a : Arrival). delay_messages a.frame) arrivals)
      (none_at t (injected_to side d) (All-map (λ (a : Arrival). a.at ≡ t → ⊥) injected_at injections
      (All-weaker IsInjection (λ (i : Injection). (injected_at i).at ≡ t → ⊥) (λ i proper. differ i.at proper.time) injections
      (All-filter (is_to side) IsInjection d.injections is.injections))))

  -- ---- no frame of delay measurement is sent and no copy lands before the first clock

  abbrev IsBegun : ℤ → DelayMessage → Type 0
  IsBegun t m = first_clock ≤ℤ t

  abbrev IsHeard : Heard → Type 0
  IsHeard one = first_clock ≤ℤ time_of one.told

  ways_positive : (side : Side) (k : ℕ) → All (λ t. pos 0 ≤ℤ t) (ways_of d side k)
  ways_positive side k =
      All-map (λ (t : ℤ). pos 0 ≤ℤ t) ticks_of_ns (copies_of d side M k)
      (All-weaker (IsFrom 1 MOST_TRANSIT) (λ (ns : ℤ). pos 0 ≤ℤ ticks_of_ns ns) (λ ns time. positive ns time.low) (copies_of d side M k) (copies_within d is.transits is.deliveries side M k))

  others_begun : (side : Side) (t : ℤ) → All (λ m. IsHeard (came_heard side t m)) (others_of d side t)
  others_begun side t =
      by_lt_z t first_clock
      (λ before. subst (All (λ (m : DelayMessage). IsHeard (came_heard side t m))) (sym (no_others side t (λ ns time. early ns t time.low before)))
      (All-nil (λ (m : DelayMessage). IsHeard (came_heard side t m))))
      (λ from k x lt. from)

  begins_begun : All (λ b. first_clock ≤ℤ b.at) (map begin_of d.measures)
  begins_begun =
      All-map (λ (b : Begin). first_clock ≤ℤ b.at) begin_of d.measures
      (All-weaker IsMeasure (λ (m : Measure). first_clock ≤ℤ ticks_of_ns m.at) (λ m proper. begun m.at proper.time.low) d.measures is.measures)

  keeps : Keeps (setting_of d (others_of d)) IsBegun IsHeard
  keeps = record {
    begins = begins_begun;
    copies = λ side k at m h. All-weaker (λ (t : ℤ). pos 0 ≤ℤ t) (λ (t : ℤ). first_clock ≤ℤ (at +ℤ t)) (λ t some. later first_clock at t h some) (ways_of d side k) (ways_positive side k);
    others = others_begun;
    answers = λ one e h k x lt. h;
  }

  pub flown_after : (side : Side) (f : Flight) (ticks : ℤ) → IsIn f ((exchanges d).sent side) → IsIn ticks f.delays → first_clock ≤ℤ (f.at +ℤ ticks)
  flown_after side f ticks m i =
      let kept = all_kept (setting_of d (others_of d)) IsBegun IsHeard keeps first_clock tick_count in
      in_all (λ (t : ℤ). first_clock ≤ℤ (f.at +ℤ t)) ticks f.delays (in_all (IsKept IsBegun IsHeard side) f ((exchanges d).sent side) (kept.flights side) m).copies i

  -- ---- and none over 1,009 s

  pub flown_before : (side : Side) (f : Flight) (ticks : ℤ) → IsIn f ((exchanges d).sent side) → IsIn ticks f.delays → (f.at +ℤ ticks) ≤ℤ ticks_of_ns (pos 1009000000000)
  flown_before side f ticks m i =
      let ends = document_ends d is (others_of d) (λ s t behind. no_others s t (λ ns time. late ns t time.high behind)) first_clock tick_count in
      by_lt_z (ticks_of_ns (pos 1009000000000)) (f.at +ℤ ticks)
      (λ behind. absurd (flown_lands ((exchanges d).sent side) f ticks m i (ends.1 side (f.at +ℤ ticks) behind)))
      (λ within. within)
