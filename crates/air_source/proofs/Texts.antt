-- What an air that writes text has written: all of its text, or a front of it where it stopped.
use Rattle.std.proofs.Common.{◌≡◌, ℕ, List, [], ◌∷◌, ◌++◌, take, Option, None, Some, IsSome, refl, sym, ap, subst, append_assoc, append-nil, ◌∙◌, arith}
use Rattle.std.specs.Io.KnownBytes.{append_known}
use Rattle.fh_base.specs.Told.{WritesFront}
use Rattle.fh_base.specs.KnownLaws.{append_twice}
use Rattle.fh_base.proofs.Progress.{front_first, front_second}
use Rattle.air_source.specs.declared.events.Event.{Event}
use Rattle.air_source.specs.Stops.{StopsIn}
use Rattle.air_source.specs.Moves.{state_after, given_by, text_of, Moved, Halted}
use Rattle.air_source.specs.MovesLaws.{given_by-append}

-- an event is moved over where what was pushed out and is owed now are what was owed and its bytes
pub moved_one : {S : Type 0} (next : S → Event → S) (gives : S → Event → List ℕ) (state : S) (owed : List ℕ) (written : Option (List ℕ)) (event : Event) (owed_now : List ℕ) (now : Option (List ℕ)) (pushed : List ℕ)
    → now ≡ append_known written pushed → pushed ++ owed_now ≡ owed ++ gives state event → Moved next gives state owed written (event ∷ []) (next state event) owed_now now
moved_one next gives state owed written event owed_now now pushed writes splits = record {
  pushed = pushed;
  writes = writes;
  moved = λ _. refl;
  splits = λ _. splits ∙ ap (λ x. owed ++ x) (sym (append-nil (gives state event)));
}

-- where a sink does not tell its bytes, any two states are moved over any events
pub moved_untold : {S : Type 0} (next : S → Event → S) (gives : S → Event → List ℕ) (state : S) (owed : List ℕ) (events : List Event) (state_now : S) (owed_now : List ℕ)
    → Moved next gives state owed None events state_now owed_now None
moved_untold next gives state owed events state_now owed_now = record { pushed = []; writes = refl; moved = λ none. absurd (cc none); splits = λ none. absurd (cc none) }

-- after what was pushed out, a front of some bytes is one of a text that begins so, where the text is told
front_behind : (written middle now : Option (List ℕ)) (pushed bytes rest text : List ℕ)
    → middle ≡ append_known written pushed → WritesFront middle now bytes → (IsSome written → text ≡ (pushed ++ bytes) ++ rest) → WritesFront written now text
front_behind None middle now pushed bytes rest text writes front is = record { count = 0; within = omega arith; is = front.is ∙ ap (λ o. append_known o (take front.count bytes)) writes }
front_behind (Some before) middle now pushed bytes rest text writes front is =
    subst (λ (t : List ℕ). WritesFront (Some before) now t) (sym (is refl)) (front_first (Some before) now (pushed ++ bytes) rest (front_second (Some before) middle now pushed bytes writes front))

-- Where the air stopped in one of the events, it wrote a front of what was owed and of the text of the events.
pub stops_front : {A S : Type 0} (next : S → Event → S) (gives : S → Event → List ℕ) (ends : S → List ℕ) (state : A → S) (owed : A → List ℕ) (written : A → Option (List ℕ)) (events : List Event) (old new : A)
    → StopsIn {A = A} (λ a es b. Moved next gives (state a) (owed a) (written a) es (state b) (owed b) (written b)) (λ a e b. Halted gives (state a) (owed a) (written a) e (written b)) events old new
    → WritesFront (written old) (written new) (owed old ++ text_of next gives ends (state old) events)
stops_front next gives ends state owed written events old new s =
    let o = owed old in
    let here = state_after next (state old) s.before in
    let front = given_by next gives (state old) s.before in
    let line = gives here s.event in
    let after = given_by next gives (next here s.event) s.after in
    let last = ends (state_after next (state old) events) in
    front_behind (written old) (written s.middle) (written new) s.heard.pushed (owed s.middle ++ gives (state s.middle) s.event) (after ++ last) (o ++ text_of next gives ends (state old) events) s.heard.writes s.stop (λ some.
    let whole : front ++ (line ++ after) ≡ given_by next gives (state old) events = given_by-append next gives (state old) s.before (s.event ∷ s.after) ∙ ap (given_by next gives (state old)) (sym s.is) in
    let begins : s.heard.pushed ++ (owed s.middle ++ gives (state s.middle) s.event) ≡ (o ++ front) ++ line =
    sym (append_assoc s.heard.pushed (owed s.middle) (gives (state s.middle) s.event))
    ∙ ap (λ x. x ++ gives (state s.middle) s.event) (s.heard.splits some)
    ∙ ap (λ x. (o ++ front) ++ gives x s.event) (s.heard.moved some) in
    sym (ap (λ x. x ++ (after ++ last)) begins ∙ regroup o front line after last ∙ ap (λ x. o ++ (x ++ last)) whole))
  where
    regroup : (a b c d e : List ℕ) → ((a ++ b) ++ c) ++ (d ++ e) ≡ a ++ ((b ++ (c ++ d)) ++ e)
    regroup a b c d e =
        append_assoc (a ++ b) c (d ++ e) ∙ append_assoc a b (c ++ (d ++ e))
        ∙ ap (λ x. a ++ (b ++ x)) (sym (append_assoc c d e)) ∙ ap (λ x. a ++ x) (sym (append_assoc b (c ++ d) e))

-- what was pushed out, what is owed and the last bytes are what was owed and the whole text
pub finish_splits : {S : Type 0} (next : S → Event → S) (gives : S → Event → List ℕ) (ends : S → List ℕ) (state : S) (owed : List ℕ) (written : Option (List ℕ)) (events : List Event) (state_now : S) (owed_now : List ℕ) (middle : Option (List ℕ))
    (moved : Moved next gives state owed written events state_now owed_now middle) → IsSome written → moved.pushed ++ (owed_now ++ ends state_now) ≡ owed ++ text_of next gives ends state events
finish_splits next gives ends state owed written events state_now owed_now middle moved some =
    sym (append_assoc moved.pushed owed_now (ends state_now))
    ∙ ap (λ x. x ++ ends state_now) (moved.splits some)
    ∙ append_assoc owed (given_by next gives state events) (ends state_now)
    ∙ ap (λ x. owed ++ (given_by next gives state events ++ ends x)) (moved.moved some)

-- Where the air heard the events and then wrote a front of what it owed and of the last bytes, it wrote a front of the whole text.
pub finish_front : {S : Type 0} (next : S → Event → S) (gives : S → Event → List ℕ) (ends : S → List ℕ) (state : S) (owed : List ℕ) (written : Option (List ℕ)) (events : List Event) (state_now : S) (owed_now : List ℕ) (middle now : Option (List ℕ))
    → Moved next gives state owed written events state_now owed_now middle → WritesFront middle now (owed_now ++ ends state_now)
    → WritesFront written now (owed ++ text_of next gives ends state events)
finish_front next gives ends state owed written events state_now owed_now middle now moved front =
    front_behind written middle now moved.pushed (owed_now ++ ends state_now) [] (owed ++ text_of next gives ends state events) moved.writes front (λ some.
    sym (append-nil (moved.pushed ++ (owed_now ++ ends state_now)) ∙ finish_splits next gives ends state owed written events state_now owed_now middle moved some))

-- Where the air heard the events and then wrote what it owed and the last bytes, it wrote what was owed and the whole text.
pub finished : {S : Type 0} (next : S → Event → S) (gives : S → Event → List ℕ) (ends : S → List ℕ) (state : S) (owed : List ℕ) (written : Option (List ℕ)) (events : List Event) (state_now : S) (owed_now : List ℕ) (middle now : Option (List ℕ))
    → Moved next gives state owed written events state_now owed_now middle → now ≡ append_known middle (owed_now ++ ends state_now)
    → now ≡ append_known written (owed ++ text_of next gives ends state events)
finished next gives ends state owed None events state_now owed_now middle now moved whole = whole ∙ ap (λ o. append_known o (owed_now ++ ends state_now)) moved.writes
finished next gives ends state owed (Some before) events state_now owed_now middle now moved whole =
    whole ∙ ap (λ o. append_known o (owed_now ++ ends state_now)) moved.writes
    ∙ append_twice (Some before) moved.pushed (owed_now ++ ends state_now)
    ∙ ap (append_known (Some before)) (finish_splits next gives ends state owed (Some before) events state_now owed_now middle moved refl)
