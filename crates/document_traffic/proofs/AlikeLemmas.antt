-- What lands where all frames that leave for a unit are counted together is what lands where those of class m are counted apart.
use Rattle.std.proofs.Common.{◌≡◌, ℕ, ℤ, pos, zero, suc, ◌+◌, ◌+ℤ◌, ◌≤ℤ◌, ◌<ℤ◌, inl, inr, Bool, true, false, if◌then◌else◌, List, [], ◌∷◌, ◌++◌, length, map, refl, ap, ap₂, sym, ◌∙◌, subst, arith}
use Rattle.std.specs.List.{flat_map}
use Rattle.std.specs.Ordering.{int_eq}
use Rattle.std.proofs.lemmas.Bool.{cases_Bool}
use Rattle.std.proofs.lemmas.Bool.Decides.{Decides-int_eq}
use Rattle.std.proofs.lemmas.Int.{by_lt_z, ints}
use Rattle.std.proofs.lemmas.List.Concat.{flat_map-append}
use Rattle.air_source.specs.declared.events.Side.{Side}
use Rattle.air_source.specs.declared.events.Side.TheVariants.{Ru, Du}
use Rattle.delay_laws.specs.Ticks.{Flight, after_tick, flight, hearing, launched, state}
use Rattle.delay_measure.specs.declared.message.DelayMessage.{DelayMessage}
use Rattle.document_traffic.specs.Settings.{setting_of, ways_of}
use Rattle.document_traffic.proofs.OrderLemmas.{leaving_rising}
use Rattle.document_traffic.specs.Landing.{all_delayed, copies_among, copy_at, injected_to, leaving_answer, leaving_to}
use Rattle.document_traffic.specs.Sending.{Delayed, Leaving, SentCounts, class_of, count_of, counted, delayed, delayed_behind, leaving_of, none_sent, sent_for}
use Rattle.fh_document.specs.declared.delivered.TrafficClass.{TrafficClass}
use Rattle.fh_document.specs.declared.delivered.TrafficClass.TheVariants.{C, U, M}
use Rattle.fh_document.specs.declared.document.Document.{Document}
use Rattle.frame_ways.specs.Copies.{copies_of}
use Rattle.plan_model.specs.declared.streams.Stream.{Stream}
use Rattle.plan_model.specs.declared.streams.Stream.TheVariants.{DownCommands, UpCommands, DownData, UpData}
use Rattle.fh_base.specs.Lists.{each_tick}
use Rattle.unit_model.specs.Meetings.{Arrival}
use Rattle.unit_model.specs.Radiated.{first_clock}
use Rattle.window_config.specs.Windows.{ticks_of_ns}
use Rattle.plan_model.proofs.TickLemmas.{ticks_same}
use Rattle.document_traffic.proofs.ListLemmas.{at_key, ticks_flat, without}
use Rattle.document_traffic.proofs.MergeLemmas.{AreFrom, first_merged, later_from, merged, none_from, none_merged, rest_from, second_merged}
use Rattle.document_traffic.proofs.Apart.{all_sent, copies_flown, delayed_then, landings_apart, sent_then}
use Rattle.document_traffic.proofs.MeasuredOrderLemmas.{flights_in_ticks, leaves_within}
use Rattle.document_traffic.specs.Measured.{exchanges, flights_then, others_of}
use Rattle.document_traffic.specs.Replayed.{all_leaving, landings_for, leaving_flight, leaving_from}
use Rattle.air_source.specs.Units.{other}
use Rattle.unit_model.specs.Times.{tick_count}
use Rattle.fh_base.specs.Members.{IsIn}
use Rattle.fh_base.proofs.MadeLists.{of_map}

-- ---- a frame of any class, and how many ticks each of its copies takes

pub record Flown : Type 0 where
  pub frame : Leaving
  pub ticks : List ℤ

abbrev flown_of : Delayed → Flown
flown_of x = record { frame = x.frame; ticks = map ticks_of_ns x.delays }

abbrev flown_flight : Flight → Flown
flown_flight f = record { frame = leaving_flight f; ticks = f.delays }

abbrev flown_at : Leaving → ℤ → Arrival
flown_at f ticks = record { at = f.at +ℤ ticks; frame = f.frame }

abbrev copies_of_flown : Flown → List Arrival
copies_of_flown x = map (flown_at x.frame) x.ticks

abbrev at_flown : Flown → ℤ
at_flown x = x.frame.at

abbrev at_leaving : Leaving → ℤ
at_leaving f = f.at

abbrev at_flight : Flight → ℤ
at_flight f = f.at

each_copy : (f : Leaving) (delays : List ℤ) → map (copy_at f) delays ≡ map (flown_at f) (map ticks_of_ns delays)
each_copy f [] = refl
each_copy f (ns ∷ delays) = ap (λ (more : List Arrival). copy_at f ns ∷ more) (each_copy f delays)

all_copies : (xs : List Delayed) → copies_among xs ≡ flat_map copies_of_flown (map flown_of xs)
all_copies [] = refl
all_copies (x ∷ xs) = ap₂ (λ (xs ys : List Arrival). xs ++ ys) (each_copy x.frame x.delays) (all_copies xs)

flights_copied : (fs : List Flight) → flat_map copies_of_flown (map flown_flight fs) ≡ flat_map copies_flown fs
flights_copied [] = refl
flights_copied (f ∷ fs) = ap (λ (more : List Arrival). copies_flown f ++ more) (flights_copied fs)

-- those of a tick
copies_then : (t : ℤ) (xs : List Delayed) → flat_map copies_of_flown (at_key at_flown (map flown_of xs) t) ≡ copies_among (delayed_then xs t)
copies_then t [] = refl
copies_then t (x ∷ xs) = go (int_eq x.frame.at t) (copies_then t xs)
  where
    go : (b : Bool) → flat_map copies_of_flown (at_key at_flown (map flown_of xs) t) ≡ copies_among (delayed_then xs t)
        → flat_map copies_of_flown (if b then flown_of x ∷ at_key at_flown (map flown_of xs) t else at_key at_flown (map flown_of xs) t)
        ≡ copies_among (if b then x ∷ delayed_then xs t else delayed_then xs t)
    go true rest = ap₂ (λ (ys zs : List Arrival). ys ++ zs) (sym (each_copy x.frame x.delays)) rest
    go false rest = rest

-- ---- the numbers of the classes c and u do not rest on those of class m

abbrev pub IsPlain : Leaving → Type 0
IsPlain f = f.class ≡ M → ⊥

abbrev pub ArePlain : List Leaving → Type 0
ArePlain fs = (f : Leaving) → IsIn f fs → IsPlain f

record AreLike (n m : SentCounts) : Type 0 where
  c_plane : n.c_plane ≡ m.c_plane
  u_plane : n.u_plane ≡ m.u_plane

same_count : (k : TrafficClass) (n m : SentCounts) → (k ≡ M → ⊥) → AreLike n m → count_of k (counted k n) ≡ count_of k (counted k m)
same_count C n m plain like = ap (λ i. i + 1) like.c_plane
same_count U n m plain like = ap (λ i. i + 1) like.u_plane
same_count M n m plain like = absurd (plain refl)

still_like : (k : TrafficClass) (n m : SentCounts) → AreLike n m → AreLike (counted k n) (counted k m)
still_like C n m like = record { c_plane = ap (λ i. i + 1) like.c_plane; u_plane = like.u_plane }
still_like U n m like = record { c_plane = like.c_plane; u_plane = ap (λ i. i + 1) like.u_plane }
still_like M n m like = record { c_plane = like.c_plane; u_plane = like.u_plane }

measured_like : (n : SentCounts) → AreLike n (counted M n)
measured_like n = record { c_plane = refl; u_plane = refl }

measured_stays : (k : TrafficClass) (n : SentCounts) → (k ≡ M → ⊥) → (counted k n).measurement ≡ n.measurement
measured_stays C n plain = refl
measured_stays U n plain = refl
measured_stays M n plain = absurd (plain refl)

not_same : (a b : ℤ) → int_eq a b ≡ false → a ≡ b → ⊥
not_same a b differ e = let is : int_eq a b ≡ true = (Decides-int_eq a b).1 e in let both : true ≡ false = sym is ∙ differ in absurd cc

module _ (d : Document) (side : Side) where
  flown_behind : SentCounts → List Leaving → List Flown
  flown_behind n fs = map flown_of (delayed_behind d side n fs)

  behind_none : (n : SentCounts) → flown_behind n [] ≡ []
  unfolding flown_behind delayed_behind
  behind_none n = refl

  behind_one : (n : SentCounts) (f : Leaving) (fs : List Leaving) → flown_behind n (f ∷ fs) ≡ flown_of (delayed d side (counted f.class n) f) ∷ flown_behind (counted f.class n) fs
  unfolding flown_behind delayed_behind
  behind_one n f fs = refl

  same_behind : (n m : SentCounts) (fs : List Leaving) → ArePlain fs → AreLike n m → flown_behind n fs ≡ flown_behind m fs
  same_behind n m [] plain like = behind_none n ∙ sym (behind_none m)
  same_behind n m (f ∷ fs) plain like =
      behind_one n f fs
      ∙ ap₂ (λ (k : ℕ) (xs : List Flown). (let x : Flown = record { frame = f; ticks = map ticks_of_ns (copies_of d side f.class k) } in x) ∷ xs)
      (same_count f.class n m (plain f (inl refl)) like)
      (same_behind (counted f.class n) (counted f.class m) fs (λ g i. plain g (inr i)) (still_like f.class n m like))
      ∙ sym (behind_one m f fs)

  none_behind : (t : ℤ) (n : SentCounts) (fs : List Leaving) → ((f : Leaving) → IsIn f fs → f.at ≡ t → ⊥) → at_key at_flown (flown_behind n fs) t ≡ []
  none_behind t n [] differ = ap (λ (xs : List Flown). at_key at_flown xs t) (behind_none n)
  none_behind t n (f ∷ fs) differ =
      let now = counted f.class n in
      ap (λ (xs : List Flown). at_key at_flown xs t) (behind_one n f fs)
      ∙ without at_flown t (flown_of (delayed d side now f)) (flown_behind now fs) (differ f (inl refl))
      ∙ none_behind t now fs (λ g i. differ g (inr i))

  -- ---- frames of class m, by their numbers after so many

  abbrev AreNumbered : ℕ → List Flight → Type 0
  AreNumbered k [] = Unit {0}
  AreNumbered k (f ∷ fs) = (f.delays ≡ ways_of d side (k + 1)) × AreNumbered (k + 1) fs

  -- counted together, and counted apart
  abbrev AreAlike : ℤ → ℕ → SentCounts → List Leaving → List Flight → Type 0
  AreAlike from n counts ls fs =
      flown_behind counts (each_tick from n (merged at_leaving at_flight leaving_flight ls fs)) ≡ each_tick from n (merged at_flown at_flight flown_flight (flown_behind counts ls) fs)

  record IsSending (from : ℤ) (counts : SentCounts) (ls : List Leaving) (fs : List Flight) : Type 0 where
    plain : ArePlain ls
    leaving : AreFrom at_leaving from ls
    flights : AreFrom at_flight from fs
    numbered : AreNumbered counts.measurement fs

  abbrev AllAlike : ℤ → ℕ → Type 0
  AllAlike from n = (counts : SentCounts) (ls : List Leaving) (fs : List Flight) → IsSending from counts ls fs → AreAlike from n counts ls fs

  next_tick : (t at : ℤ) → t ≤ℤ at → (at ≡ t → ⊥) → (t +ℤ pos 1) ≤ℤ at
  next_tick t at low differ = by_lt_z at (t +ℤ pos 1) (λ lt. absurd (differ (same lt))) (λ ge. ge)
    where
      same : at <ℤ (t +ℤ pos 1) → at ≡ t
      same lt = omega (arith, ints, low, lt)

  not_then : (t at : ℤ) → (t +ℤ pos 1) ≤ℤ at → at ≡ t → ⊥
  not_then t at low e = omega (arith, ints, low, e)

  none_left : (t : ℤ) (counts : SentCounts) (ls : List Leaving) → AreFrom at_leaving (t +ℤ pos 1) ls → at_key at_flown (flown_behind counts ls) t ≡ []
  none_left t counts ls later = none_behind t counts ls (λ f i. not_then t f.at (later.begun f i))

  -- a frame of class m is sent at a tick at which none of the others is left
  measured_first : (from : ℤ) (n : ℕ) (counts : SentCounts) (ls : List Leaving) (f : Flight) (fs : List Flight) → ArePlain ls → AreFrom at_leaving (from +ℤ pos 1) ls
      → f.at ≡ from → f.delays ≡ ways_of d side (counts.measurement + 1) → AreAlike from (suc n) (counted M counts) ls fs → AreAlike from (suc n) counts ls (f ∷ fs)
  measured_first from n counts ls f fs plain later here delays rest =
      let all = each_tick from (suc n) (merged at_leaving at_flight leaving_flight ls fs) in
      let apart = λ (xs : List Flown). each_tick from (suc n) (merged at_flown at_flight flown_flight xs fs) in
      ap (flown_behind counts) (second_merged at_leaving at_flight leaving_flight from n ls f fs (none_from at_leaving from ls later) here)
      ∙ behind_one counts (leaving_flight f) all
      ∙ ap₂ (λ (ticks : List ℤ) (xs : List Flown). (let x : Flown = record { frame = leaving_flight f; ticks = ticks } in x) ∷ xs) (sym delays) rest
      ∙ ap (λ (xs : List Flown). flown_flight f ∷ apart xs) (sym (same_behind counts (counted M counts) ls plain (measured_like counts)))
      ∙ sym (second_merged at_flown at_flight flown_flight from n (flown_behind counts ls) f fs (none_left from counts ls later) here)

  -- none is left at it
  none_first : (from : ℤ) (n : ℕ) (counts : SentCounts) (ls : List Leaving) (fs : List Flight) → AreFrom at_leaving (from +ℤ pos 1) ls → AreFrom at_flight (from +ℤ pos 1) fs
      → AreAlike (from +ℤ pos 1) n counts ls fs → AreAlike from (suc n) counts ls fs
  none_first from n counts ls fs later flights rest =
      let none = none_from at_flight from fs flights in
      ap (flown_behind counts) (none_merged at_leaving at_flight leaving_flight from n ls fs (none_from at_leaving from ls later) none)
      ∙ rest
      ∙ sym (none_merged at_flown at_flight flown_flight from n (flown_behind counts ls) fs (none_left from counts ls later) none)

  none_at_all : (from : ℤ) → AreFrom at_flight from []
  none_at_all from = record { rising = tt; begun = λ f i. absurd i }

  measured_alike : (from : ℤ) (n : ℕ) → AllAlike (from +ℤ pos 1) n → (counts : SentCounts) (ls : List Leaving) (fs : List Flight) → ArePlain ls → AreFrom at_leaving (from +ℤ pos 1) ls
      → AreFrom at_flight from fs → AreNumbered counts.measurement fs → AreAlike from (suc n) counts ls fs
  measured_alike from n next counts ls [] plain later flights numbered =
      none_first from n counts ls [] later (none_at_all (from +ℤ pos 1))
      (next counts ls [] (record { plain = plain; leaving = later; flights = none_at_all (from +ℤ pos 1); numbered = tt }))
  measured_alike from n next counts ls (f ∷ fs) plain later flights numbered = elim (cases_Bool (int_eq f.at from)) [
    | inl same ↦
        measured_first from n counts ls f fs plain later ((Decides-int_eq f.at from).0 same) numbered.0
        (measured_alike from n next (counted M counts) ls fs plain later (rest_from at_flight from f fs flights) numbered.1)
    | inr differ ↦
        (let up = later_from at_flight from f fs (next_tick from f.at (flights.begun f (inl refl)) (not_same f.at from differ)) flights in
        none_first from n counts ls (f ∷ fs) later up (next counts ls (f ∷ fs) (record { plain = plain; leaving = later; flights = up; numbered = numbered })))
  ]

  -- one of the others is sent
  plain_first : (from : ℤ) (n : ℕ) (counts : SentCounts) (f : Leaving) (ls : List Leaving) (fs : List Flight) → f.at ≡ from
      → AreAlike from (suc n) (counted f.class counts) ls fs → AreAlike from (suc n) counts (f ∷ ls) fs
  plain_first from n counts f ls fs here rest =
      let now = counted f.class counts in
      let x = flown_of (delayed d side now f) in
      ap (flown_behind counts) (first_merged at_leaving at_flight leaving_flight from n f ls fs here)
      ∙ behind_one counts f (each_tick from (suc n) (merged at_leaving at_flight leaving_flight ls fs))
      ∙ ap (λ (xs : List Flown). x ∷ xs) rest
      ∙ sym (first_merged at_flown at_flight flown_flight from n x (flown_behind now ls) fs here)
      ∙ ap (λ (xs : List Flown). each_tick from (suc n) (merged at_flown at_flight flown_flight xs fs)) (sym (behind_one counts f ls))

  tick_alike : (from : ℤ) (n : ℕ) → AllAlike (from +ℤ pos 1) n → AllAlike from (suc n)
  tick_alike from n next counts [] fs is = measured_alike from n next counts [] fs is.plain (record { rising = tt; begun = λ f i. absurd i }) is.flights is.numbered
  tick_alike from n next counts (f ∷ ls) fs is = elim (cases_Bool (int_eq f.at from)) [
    | inl same ↦
        plain_first from n counts f ls fs ((Decides-int_eq f.at from).0 same)
        (tick_alike from n next (counted f.class counts) ls fs (record {
          plain = λ g i. is.plain g (inr i);
          leaving = rest_from at_leaving from f ls is.leaving;
          flights = is.flights;
          numbered = subst (λ (k : ℕ). AreNumbered k fs) (sym (measured_stays f.class counts (is.plain f (inl refl)))) is.numbered;
        }))
    | inr differ ↦
        measured_alike from n next counts (f ∷ ls) fs is.plain
        (later_from at_leaving from f ls (next_tick from f.at (is.leaving.begun f (inl refl)) (not_same f.at from differ)) is.leaving) is.flights is.numbered
  ]

  no_ticks : (from : ℤ) → AllAlike from zero
  unfolding each_tick
  no_ticks from counts ls fs is = behind_none counts

  all_alike : (n : ℕ) (from : ℤ) → AllAlike from n
  all_alike zero from = no_ticks from
  all_alike (suc n) from = tick_alike from n (all_alike n (from +ℤ pos 1))

  -- ---- so are those of all ticks

  numbered_push : (k j : ℕ) (fs : List Flight) (f : Flight) → j ≡ k + length fs → f.delays ≡ ways_of d side (j + 1) → AreNumbered k fs → AreNumbered k (fs ++ f ∷ [])
  numbered_push k j [] f count delays numbered = (delays ∙ ap (λ (i : ℕ). ways_of d side (i + 1)) (none_more count), tt)
    where
      none_more : j ≡ k + 0 → j ≡ k
      none_more e = omega (arith, e)
  numbered_push k j (g ∷ fs) f count delays numbered = (numbered.0, numbered_push (k + 1) j fs f (one_more count) delays numbered.1)
    where
      one_more : j ≡ k + length (g ∷ fs) → j ≡ (k + 1) + length fs
      one_more e = omega (arith, e)

  numbered_launched : (t : ℤ) (sent : List Flight) (ms : List DelayMessage) → AreNumbered 0 sent → AreNumbered 0 (launched (ways_of d side) t sent ms)
  numbered_launched t sent [] numbered = numbered
  numbered_launched t sent (m ∷ ms) numbered =
      let f : Flight = flight (ways_of d side) t (length sent) m in
      numbered_launched t (sent ++ f ∷ []) ms (numbered_push 0 (length sent) sent f (none_before (length sent)) refl numbered)
    where
      none_before : (k : ℕ) → k ≡ 0 + k
      none_before k = omega arith

  flights_numbered : (first : ℤ) (n : ℕ) → AreNumbered 0 ((state (setting_of d (others_of d)) first n).sent side)
  unfolding state after_tick
  flights_numbered first zero = tt
  flights_numbered first (suc n) =
      let w = setting_of d (others_of d) in
      let last : ℤ = first +ℤ pos n in
      numbered_launched last ((state w first n).sent side) ((hearing w last (state w first n)).made (other side)) (flights_numbered first n)

-- ---- the frames of the classes c and u

class_plain : (s : Stream) → class_of s ≡ M → ⊥
class_plain DownCommands e = absurd cc
class_plain UpCommands e = absurd cc
class_plain DownData e = absurd cc
class_plain UpData e = absurd cc

pub leaving_plain : (side : Side) (d : Document) → ArePlain (leaving_to side d)
leaving_plain Ru d f m =
    let w = of_map (leaving_of d) f (sent_for d) m in
    subst IsPlain (sym w.2) (class_plain w.0.stream)
leaving_plain Du d f m =
    let w = of_map leaving_answer f _ m in
    subst IsPlain (sym w.2) (class_plain UpData)

sending : (side : Side) (d : Document) → IsSending d side first_clock none_sent (leaving_to side d) ((exchanges d).sent side)
sending side d =
    let ticks = flights_in_ticks (setting_of d (others_of d)) first_clock tick_count side in
    record {
      plain = leaving_plain side d;
      leaving = record { rising = leaving_rising side d; begun = λ f m. (leaves_within side d f m).0 };
      flights = record { rising = ticks.rising; begun = λ f m. (ticks.within f m).0 };
      numbered = flights_numbered d side first_clock tick_count;
    }

-- ---- what lands

all_sent_alike : (xs : List Delayed) (fs : List Flight)
    → flat_map copies_of_flown (each_tick first_clock tick_count (merged at_flown at_flight flown_flight (map flown_of xs) fs)) ≡ all_sent xs fs
unfolding all_sent
all_sent_alike xs fs =
    let both = merged at_flown at_flight flown_flight (map flown_of xs) fs in
    sym (ticks_flat copies_of_flown first_clock tick_count both)
    ∙ ticks_same first_clock tick_count (λ t. flat_map copies_of_flown (both t)) (sent_then xs fs) (λ t low.
    flat_map-append copies_of_flown (at_key at_flown (map flown_of xs) t) (map flown_flight (flights_then fs t))
    ∙ ap₂ (λ (ys zs : List Arrival). ys ++ zs) (copies_then t xs) (flights_copied (flights_then fs t)))

pub lands_alike : (side : Side) (d : Document) → landings_for side d ≡ landings_apart side d
unfolding leaving_from flown_behind
lands_alike side d =
    let ls = leaving_to side d in
    let fs = (exchanges d).sent side in
    ap (λ (ys : List Arrival). ys ++ injected_to side d)
    (all_copies (delayed_behind d side none_sent (all_leaving side d))
    ∙ ap (flat_map copies_of_flown) (all_alike d side tick_count first_clock none_sent ls fs (sending side d))
    ∙ all_sent_alike (all_delayed side d) fs)
