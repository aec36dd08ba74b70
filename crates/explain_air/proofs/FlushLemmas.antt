-- The lines of the last frame, told before the next event.
use Rattle.std.proofs.Common.{◌≡◌, ℕ, Bool, true, List, [], ◌∷◌, ◌++◌, inl, inr, Option, Some, None, OnOk, refl, sym, ap, subst, ◌∙◌, append_assoc, append-nil}
use Rattle.std.specs.Prelude.{Result, Ok, Err}
use Rattle.air_source.specs.declared.events.Event.{Event}
use Rattle.air_source.specs.declared.events.Event.TheVariants as event
use Rattle.explain_air.proofs.AirLemmas.{closed_rests, open_more, open_rests, open_stops}
use Rattle.explain_air.proofs.AirSteps.{none_some, same_one}
use Rattle.explain_air.specs.Airs.{Grew, IsAfter, IsOpen, IsPending, IsTold, Stopped, Tells, TellsLast, TellsLastPart, TellsPart}
use Rattle.explain_air.specs.Heard.{HasHeard, HasPending, IsLastOf}
use Rattle.explain_air.specs.LastFrames.{LastHeard, with_none}
use Rattle.explain_air.specs.Outs.{Took, kept_text}
use Rattle.explain_air.specs.declared.kept.Kept.{Kept}
use Rattle.explain_model.proofs.Counts.{behind_some}
use Rattle.explain_model.specs.Subjects.{Subject, added, are_counts, counts_last, is_count, reasons_of}
use Rattle.explain_model.specs.Text.{explain_of}
use Rattle.explain_units.specs.declared.frames.FrameHeard.{FrameHeard}
use Rattle.fh_base.specs.Told.{WritesFront, WritesPart}
use Rattle.window_config.specs.declared.config.Config.{Config}

same_frame : (f g : FrameHeard) → Some f ≡ Some g → f ≡ g
same_frame f g e = cc

none_frame : {f : FrameHeard} → None ≡ Some f → ⊥
none_frame e = cc

without : (k : Kept) (l : LastHeard) → k.last.frame ≡ None → l ≡ with_none k.last → ◌≡◌ {A = Kept} (record k { last = l }) k
without k l none is = ap (λ (x : LastHeard). with_last x) (is ∙ ap (λ (f : Option FrameHeard). with_frame f) (sym none))
  where
    with_last : LastHeard → Kept
    with_last x = record k { last = x }

    with_frame : Option FrameHeard → LastHeard
    with_frame f = record k.last { frame = f }

module _ (which : Bool) (kept : Option Kept) (w : Option (List ℕ)) (o : List ℕ) where
  -- the lines of a frame are left, and of all before it they are told
  pending_open : (s : Subject) (f : Bool) (base : Option (List ℕ)) (events : List Event) → (h : IsPending s f base events which kept w o) → (k : Kept) → HasHeard s h.before k
      → IsOpen s f base h.before which (Some k) w o
  pending_open s f base events h k heard = record { which_is = h.which_is; kept_one = k; kept_is = refl; heard = heard; plain = h.plain; carried = h.carried }

  -- ---- where nothing is kept any more

  none_by : kept ≡ None → (s : Subject) (f : Bool) (base : Option (List ℕ)) (events : List Event) → IsAfter s f base events which kept w o → IsTold s f base events which kept w o
  none_by none s f base events (inl h) = h
  none_by none s f base events (inr h) = absurd (none_some (sym none ∙ h.kept_is))

  pub none_flushed : kept ≡ None → TellsLast which kept w o which kept w o
  none_flushed none = record { told = none_by none }

  module _ (k : Kept) (some : kept ≡ Some k) where
    -- ---- where no lines are left

    idle_by : k.last.frame ≡ None → (s : Subject) (f : Bool) (base : Option (List ℕ)) (events : List Event) → IsAfter s f base events which kept w o → IsTold s f base events which kept w o
    idle_by none s f base events (inl h) = h
    idle_by none s f base events (inr h) =
        let same = same_one h.kept_one k (sym h.kept_is ∙ some) in
        absurd (none_frame (sym none ∙ ap (λ (x : Kept). x.last.frame) (sym same) ∙ h.pending.frame_is))

    pub idle_flushed : k.last.frame ≡ None → (l : LastHeard) → l ≡ with_none k.last → TellsLast which kept w o which (Some (let m : Kept = record k { last = l } in m)) w o
    idle_flushed none l is =
        subst (λ (x : Option Kept). TellsLast which kept w o which x w o) (some ∙ ap Some (sym (without k l none is))) (record { told = idle_by none })

    -- ---- where those of a frame are

    module _ (x : FrameHeard) (there : k.last.frame ≡ Some x) (l : LastHeard) (is : l ≡ with_none k.last) where
      abbrev rest : Kept
      rest = record k { last = l }

      abbrev own : List ℕ → Event
      own bytes = event.Arrival x.side x.at bytes

      -- it arrived after these events
      record IsLeft (s : Subject) (events : List Event) (e : Event) : Type 0 where
        bytes : List ℕ
        event_is : e ≡ own bytes
        heard : HasHeard s events rest
        last : IsLastOf s.config events bytes x rest.last

      left_of : (s : Subject) (events : List Event) (e : Event) → HasPending s events e k → IsLeft s events e
      left_of s events e p =
          let same = same_frame p.frame x (sym p.frame_is ∙ there) in
          record {
            bytes = p.bytes;
            event_is = p.event_is ∙ ap (λ (y : FrameHeard). event.Arrival y.side y.at p.bytes) same;
            heard = subst (λ (y : LastHeard). HasHeard s events (record k { last = y })) (sym is) p.heard;
            last =
                subst (λ (y : LastHeard). IsLastOf s.config events p.bytes x y) (sym is)
                (subst (λ (y : FrameHeard). IsLastOf s.config events p.bytes y (with_none k.last)) same p.last);
          }

      left : (s : Subject) (f : Bool) (base : Option (List ℕ)) (events : List Event) → (h : IsPending s f base events which kept w o) → IsLeft s h.before h.last
      left s f base events h = left_of s h.before h.last (subst (λ (j : Kept). HasPending s h.before h.last j) (same_one h.kept_one k (sym h.kept_is ∙ some)) h.pending)

      -- so not all lines were told before
      none_left : {A : Type 0} (s : Subject) (f : Bool) (base : Option (List ℕ)) (events : List Event) → IsTold s f base events which kept w o → A
      none_left s f base events (inl h) =
          absurd (none_frame (sym h.heard.told ∙ ap (λ (j : Kept). j.last.frame) (same_one h.kept_one k (sym h.kept_is ∙ some)) ∙ there))
      none_left s f base events (inr h) = absurd (none_some (sym h.kept_is ∙ some))

      abbrev After : Kept → Type 0
      After m = (s : Subject) (events : List Event) (bytes : List ℕ) → HasHeard s events rest → IsLastOf s.config events bytes x rest.last → HasHeard s (events ++ own bytes ∷ []) m

      abbrev TookAll : Bool → Option (List ℕ) → List ℕ → Type 0
      TookAll g v p = (s : Subject) (events : List Event) (bytes : List ℕ) → HasHeard s events rest → IsLastOf s.config events bytes x rest.last
          → Took which w o (added s.config events (own bytes)) g v p

      tells_by : (m : Kept) (g : Bool) (v : Option (List ℕ)) (p : List ℕ) → After m → TookAll g v p
          → (s : Subject) (f : Bool) (base : Option (List ℕ)) (events : List Event) → IsAfter s f base events which kept w o → IsTold s f base events which (Some m) v p
      tells_by m g v p after took s f base events (inl h) = none_left s f base events h
      tells_by m g v p after took s f base events (inr h) =
          let q = left s f base events h in
          let t = took s h.before q.bytes q.heard q.last in
          inl (subst (λ (es : List Event). IsOpen s f base es which (Some m) v p) (sym (h.events_are ∙ ap (λ (e : Event). h.before ++ e ∷ []) q.event_is))
          (open_more s f base h.before which (Some rest) w o (own q.bytes) which m v p refl (pending_open s f base events h rest q.heard) (record { which = refl; carried = t.carried })
          (after s h.before q.bytes q.heard q.last)))

      pub flushed : {T E : Type 0} (r : Result T E) (m : Kept) (g : Bool) (v : Option (List ℕ)) (p : List ℕ) → OnOk r (After m) → OnOk r (TookAll g v p)
          → OnOk r (TellsLast which kept w o which (Some m) v p)
      flushed (Ok y) m g v p after took = record { told = tells_by m g v p after took }
      flushed (Err y) m g v p after took = tt

      stops_by : (v : Option (List ℕ)) → ((s : Subject) (events : List Event) (bytes : List ℕ) → HasHeard s events rest → IsLastOf s.config events bytes x rest.last
          → WritesFront w v (o ++ kept_text which (added s.config events (own bytes))))
          → (s : Subject) (f : Bool) (base : Option (List ℕ)) (events later : List Event) → IsAfter s f base events which kept w o
          → WritesPart base v (explain_of f s.config (reasons_of s (events ++ later)) (events ++ later))
      stops_by v front s f base events later (inl h) = none_left s f base events h
      stops_by v front s f base events later (inr h) =
          let q = left s f base events h in
          let all = ap (λ (es : List Event). es ++ later) (h.events_are ∙ ap (λ (e : Event). h.before ++ e ∷ []) q.event_is) ∙ append_assoc h.before (own q.bytes ∷ []) later in
          subst (λ (es : List Event). WritesPart base v (explain_of f s.config (reasons_of s es) es)) (sym all)
          (open_stops s f base h.before which (Some rest) w o (own q.bytes) later v (pending_open s f base events h rest q.heard) (front s h.before q.bytes q.heard q.last))

      pub flush_part : (v : Option (List ℕ)) → ((s : Subject) (events : List Event) (bytes : List ℕ) → HasHeard s events rest → IsLastOf s.config events bytes x rest.last
          → WritesFront w v (o ++ kept_text which (added s.config events (own bytes))))
          → TellsLastPart which kept w o v
      flush_part v front = record { part = stops_by v front }

    -- ---- a frame that arrives: its lines are left

    pub frame_left : (e : Event) (m : Kept) (s : Subject) (f : Bool) (base : Option (List ℕ)) (events : List Event) → (HasHeard s events k → HasPending s events e m)
        → IsTold s f base events which kept w o → IsPending s f base (events ++ e ∷ []) which (Some m) w o
    frame_left e m s f base events pending (inl h) = record {
      which_is = h.which_is;
      before = events;
      last = e;
      events_are = refl;
      kept_one = m;
      kept_is = refl;
      pending = pending (subst (λ (j : Kept). HasHeard s events j) (same_one h.kept_one k (sym h.kept_is ∙ some)) h.heard);
      plain = h.plain;
      carried = h.carried;
    }
    frame_left e m s f base events pending (inr h) = absurd (none_some (sym h.kept_is ∙ some))

  -- ---- the end

  pub flush_ends : (v : Option (List ℕ)) → TellsLastPart which kept w o v → (s : Subject) (f : Bool) (base : Option (List ℕ)) (events : List Event) → IsAfter s f base events which kept w o
      → WritesPart base v (explain_of f s.config (reasons_of s events) events)
  flush_ends v t s f base events at = subst (λ (es : List Event). WritesPart base v (explain_of f s.config (reasons_of s es) es)) (append-nil events) (t.part s f base events [] at)

-- ---- an event after that

module _ (which : Bool) (kept : Option Kept) (w : Option (List ℕ)) (o : List ℕ) (e : Event) where
  -- stopped before it
  pub flush_stops : (v : Option (List ℕ)) → TellsLastPart which kept w o v → Stopped which kept w o e v
  flush_stops v t = record { part = λ s f base earlier later at last. t.part s f base earlier (e ∷ later) at }

  module _ (g : Bool) (k : Option Kept) (v : Option (List ℕ)) (p : List ℕ) (t : TellsLast which kept w o g k v p) where
    pub event_grows : (h : Bool) (m : Option Kept) (u : Option (List ℕ)) (q : List ℕ) → Tells g k v p e h m u q → (c : Config) (earlier : List Event)
        → Grew c earlier which kept w o (e ∷ []) h m u q
    event_grows h m u q next c earlier = record { after = λ s f base is at. inl (next.told s f base earlier (t.told s f base earlier at)) }

    pub event_stops : (u : Option (List ℕ)) → TellsPart g k v p e u → Stopped which kept w o e u
    event_stops u next = record { part = λ s f base earlier later at last. next.part s f base earlier later (t.told s f base earlier at) last }

    -- a frame, whose lines are left
    pub frame_grows : (h : Bool) (m : Option Kept) (u : Option (List ℕ)) (q : List ℕ) (c : Config) (earlier : List Event)
        → ((s : Subject) (f : Bool) (base : Option (List ℕ)) → s.config ≡ c → IsTold s f base earlier g k v p → IsPending s f base (earlier ++ e ∷ []) h m u q)
        → Grew c earlier which kept w o (e ∷ []) h m u q
    frame_grows h m u q c earlier next = record { after = λ s f base is at. inr (next s f base is (t.told s f base earlier at)) }

-- ---- before any further event

all_counts : (e : Event) (later : List Event) → is_count e ≡ true → are_counts later ≡ true → are_counts (e ∷ later) ≡ true
all_counts e later one others = rw one others

module _ (s : Subject) (f : Bool) (base : Option (List ℕ)) (events : List Event) (which : Bool) (kept : Option Kept) (w : Option (List ℕ)) (o : List ℕ) where
  -- a front of the whole text was written, and not all
  pub after_rests : (later : List Event) → counts_last (events ++ later) ≡ true → IsAfter s f base events which kept w o
      → WritesPart base w (explain_of f s.config (reasons_of s (events ++ later)) (events ++ later))
  after_rests later last (inl (inl h)) = open_rests s f base events which kept w o later h
  after_rests [] last (inl (inr h)) = closed_rests s f base events which kept w o [] refl h
  after_rests (e ∷ later) last (inl (inr h)) =
      let both = behind_some events e later last h.counted in
      closed_rests s f base events which kept w o (e ∷ later) (all_counts e later both.0 both.1) h
  after_rests later last (inr h) =
      let all = ap (λ (es : List Event). es ++ later) h.events_are ∙ append_assoc h.before (h.last ∷ []) later in
      subst (λ (es : List Event). WritesPart base w (explain_of f s.config (reasons_of s es) es)) (sym all)
      (open_rests s f base h.before which (Some (record h.kept_one { last = with_none h.kept_one.last })) w o (h.last ∷ later)
      (pending_open which kept w o s f base events h (record h.kept_one { last = with_none h.kept_one.last }) h.pending.heard))
