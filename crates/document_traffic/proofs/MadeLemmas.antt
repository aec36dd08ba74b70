-- What both units send of delay measurement, tick by tick, fits its fields.
use Rattle.std.proofs.Common.{◌≡◌, ℕ, zero, suc, ℤ, pos, ◌+ℤ◌, ◌<◌, ◌^◌, if◌then◌else◌, List, [], ◌∷◌, ◌++◌, length, sym, subst, arith}
use Rattle.std.specs.Prelude.{All, map}
use Rattle.std.proofs.lemmas.List.Elements.{All-append, All-cons, All-head, All-map, All-nil, All-push, All-tail, All-weaker}
use Rattle.air_source.specs.declared.events.Side.{Side}
use Rattle.air_source.specs.declared.events.Side.TheVariants.{Ru, Du}
use Rattle.delay_laws.proofs.Keeping.{Keeps}
use Rattle.delay_laws.proofs.Sending.{sent_named}
use Rattle.delay_laws.proofs.Ticking.{due_now}
use Rattle.delay_laws.specs.Nodes.{Heard, sent_then, time_of, told_to}
use Rattle.delay_laws.specs.Ticks.{Begin, Flight, Hearing, Setting, State, after_tick, answers, arriving, begin_heard, came_heard, due, exchange_of, flight, hearing, landing, launched, state, told_all, told_one}
use Rattle.delay_measure.specs.After.{Told, id_of}
use Rattle.delay_measure.specs.declared.message.DelayMessage.{DelayMessage}
use Rattle.document_traffic.proofs.StampLemmas.{AreStamps, FitsBesides, has_stamps, told_sends}
use Rattle.air_source.specs.Units.{other, same_side}

-- ---- ids

abbrev pub IsIdSent : ℤ → DelayMessage → Type 0
IsIdSent t m = m.id < 2 ^ 8

abbrev pub IsIdHeard : Heard → Type 0
IsIdHeard one = id_of one.told < 2 ^ 8

-- ids of 8 bits stay so
pub ids_kept : (w : Setting) → All (λ (b : Begin). b.id < 2 ^ 8) w.begins → ((side : Side) (t : ℤ) → All (λ (m : DelayMessage). m.id < 2 ^ 8) (w.others side t)) → Keeps w IsIdSent IsIdHeard
ids_kept w begun others = record {
  begins = begun;
  copies = λ side k at m h j d lt. h;
  others = others;
  answers = λ one e h.
      All-weaker (λ (m : DelayMessage). m.id ≡ id_of one.told) (IsIdSent (time_of one.told)) (λ m is. subst (λ (id : ℕ). id < 2 ^ 8) (sym is) h) (sent_then (w.comps one.side) e one.told)
      (sent_named (w.comps one.side) e one.told);
}

-- ---- all other numbers

module _ (w : Setting) where
  -- told at a time whose stamps fit
  abbrev IsStamped : Heard → Type 0
  IsStamped one = AreStamps (w.comps one.side) (time_of one.told)

  -- within a tick
  record IsMade (h : Hearing) : Type 0 where
    heard : All IsStamped h.heard
    made : (side : Side) → All FitsBesides (h.made side)

  told_side : (side s : Side) (told : Told) (earlier : List Told) → AreStamps (w.comps s) (time_of told) → All (λ (x : Told). AreStamps (w.comps side) (time_of x)) earlier
      → All (λ (x : Told). AreStamps (w.comps side) (time_of x)) (if same_side side s then told ∷ earlier else earlier)
  told_side Ru Ru told earlier are all = All-cons (λ (x : Told). AreStamps (w.comps Ru) (time_of x)) told earlier are all
  told_side Ru Du told earlier are all = all
  told_side Du Ru told earlier are all = all
  told_side Du Du told earlier are all = All-cons (λ (x : Told). AreStamps (w.comps Du) (time_of x)) told earlier are all

  told_stamped : (side : Side) (heard : List Heard) → All IsStamped heard → All (λ (x : Told). AreStamps (w.comps side) (time_of x)) (told_to side heard)
  told_stamped side [] all = All-nil (λ (x : Told). AreStamps (w.comps side) (time_of x))
  told_stamped side (one ∷ earlier) all =
      told_side side one.side one.told (told_to side earlier) (All-head IsStamped one earlier all) (told_stamped side earlier (All-tail IsStamped one earlier all))

  answers_fit : (heard : List Heard) (one : Heard) → All IsStamped heard → IsStamped one → All FitsBesides (answers w heard one)
  answers_fit heard one all is =
      told_sends (w.comps one.side) (exchange_of w heard one.side (id_of one.told)) one.told is
      (has_stamps (w.comps one.side) (told_to one.side heard) (told_stamped one.side heard all) (id_of one.told))

  if_made : (side s : Side) (ms : List DelayMessage) → All FitsBesides ms → All FitsBesides (if same_side side s then ms else [])
  if_made Ru Ru ms all = all
  if_made Ru Du ms all = All-nil FitsBesides
  if_made Du Ru ms all = All-nil FitsBesides
  if_made Du Du ms all = all

  one_made : (h : Hearing) (one : Heard) → IsStamped one → IsMade h → IsMade (told_one w h one)
  one_made h one is before = record {
    heard = All-cons IsStamped one h.heard is before.heard;
    made = λ side. All-append FitsBesides (h.made side) (if same_side side one.side then answers w h.heard one else []) (before.made side)
        (if_made side one.side (answers w h.heard one) (answers_fit h.heard one before.heard is));
  }

  all_made : (h : Hearing) (ones : List Heard) → All IsStamped ones → IsMade h → IsMade (told_all w h ones)
  all_made h [] all before = before
  all_made h (one ∷ more) all before = all_made (told_one w h one) more (All-tail IsStamped one more all) (one_made h one (All-head IsStamped one more all) before)

  begins_stamped : (t : ℤ) → ((side : Side) → AreStamps (w.comps side) t) → All IsStamped (map begin_heard (due t w.begins))
  begins_stamped t are =
      All-map IsStamped begin_heard (due t w.begins)
      (All-weaker (λ (b : Begin). b.at ≡ t) (λ (b : Begin). IsStamped (begin_heard b)) (λ b now. subst (λ (u : ℤ). AreStamps (w.comps b.side) u) (sym now) (are b.side)) (due t w.begins)
      (due_now t w.begins))

  arriving_stamped : (t : ℤ) → ((side : Side) → AreStamps (w.comps side) t) → (s : State) (side : Side) → All IsStamped (arriving w s side t)
  arriving_stamped t are s side = All-map IsStamped (came_heard side t) (landing (s.sent side) t ++ w.others side t) (λ k m lt. are side)

  hearing_made : (t : ℤ) → ((side : Side) → AreStamps (w.comps side) t) → (s : State) → All IsStamped s.heard → IsMade (hearing w t s)
  unfolding hearing
  hearing_made t are s all =
      let start : Hearing = record { heard = s.heard; made = λ side. [] } in
      let before : IsMade start = record { heard = all; made = λ side. All-nil FitsBesides } in
      let begun : Hearing = told_all w start (map begin_heard (due t w.begins)) in
      let first : Hearing = told_all w begun (arriving w s Ru t) in
      all_made first (arriving w s Du t) (arriving_stamped t are s Du)
      (all_made begun (arriving w s Ru t) (arriving_stamped t are s Ru) (all_made start (map begin_heard (due t w.begins)) (begins_stamped t are) before))

  abbrev Fits : Flight → Type 0
  Fits f = FitsBesides f.message

  launched_fit : (delays : ℕ → List ℤ) (t : ℤ) (sent : List Flight) (ms : List DelayMessage) → All Fits sent → All FitsBesides ms → All Fits (launched delays t sent ms)
  launched_fit delays t sent [] before made = before
  launched_fit delays t sent (m ∷ ms) before made =
      let f : Flight = flight delays t (length sent) m in
      launched_fit delays t (sent ++ f ∷ []) ms (All-push Fits sent f before (All-head FitsBesides m ms made)) (All-tail FitsBesides m ms made)

  -- after so many ticks
  pub record AreSent (s : State) : Type 0 where
    pub heard : All IsStamped s.heard
    pub sent : (side : Side) → All (λ (f : Flight). FitsBesides f.message) (s.sent side)

  pub sent_fits : (first : ℤ) (n : ℕ) → ((k : ℕ) → k < n → (side : Side) → AreStamps (w.comps side) (first +ℤ pos k)) → AreSent (state w first n)
  unfolding state after_tick
  sent_fits first zero are = record { heard = All-nil IsStamped; sent = λ side. All-nil Fits }
  sent_fits first (suc n) are =
      let t : ℤ = first +ℤ pos n in
      let before = sent_fits first n (λ k lt. are k (omega (arith, lt))) in
      let now = hearing_made t (are n (omega arith)) (state w first n) before.heard in
      record {
        heard = now.heard;
        sent = λ side. launched_fit (w.delays side) t ((state w first n).sent side) ((hearing w t (state w first n)).made (other side)) (before.sent side) (now.made (other side));
      }
