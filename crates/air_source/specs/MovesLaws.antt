-- The laws of an air that writes text.
use Rattle.std.specs.Prelude.{◌≡◌, ℕ, List, [], ◌∷◌, ◌++◌, Option, None, Some, IsSome}
use Rattle.std.proofs.Common.{refl, sym, ap, subst, append_assoc, append-nil, ◌∙◌}
use Rattle.std.specs.Io.KnownBytes.{append_known}
use Rattle.fh_base.specs.KnownLaws.{append_twice, append_nothing}
use Rattle.air_source.specs.Moves.{state_after, given_by, Moved}
use Rattle.air_source.specs.declared.events.Event.{Event}

pub state_after-append : {S : Type 0} (next : S → Event → S) (state : S) (first second : List Event)
    → state_after next (state_after next state first) second ≡ state_after next state (first ++ second)
state_after-append next state [] second = refl
state_after-append next state (e ∷ first) second = state_after-append next (next state e) first second

pub given_by-append : {S : Type 0} (next : S → Event → S) (gives : S → Event → List ℕ) (state : S) (first second : List Event)
    → given_by next gives state first ++ given_by next gives (state_after next state first) second ≡ given_by next gives state (first ++ second)
given_by-append next gives state [] second = refl
given_by-append next gives state (e ∷ first) second =
    append_assoc (gives state e) (given_by next gives (next state e) first) (given_by next gives (state_after next (next state e) first) second)
    ∙ ap (λ bytes. gives state e ++ bytes) (given_by-append next gives (next state e) first second)

-- what is told goes on to be told
pub some_append : (a : Option (List ℕ)) (bytes : List ℕ) → IsSome a → IsSome (append_known a bytes)
some_append None bytes some = some
some_append (Some xs) bytes some = some

-- an unchanged air moved over no events
pub moved_none : {S : Type 0} (next : S → Event → S) (gives : S → Event → List ℕ) (state : S) (owed : List ℕ) (written : Option (List ℕ))
    → Moved next gives state owed written [] state owed written
moved_none next gives state owed written = record {
  pushed = [];
  writes = sym (append_nothing written);
  moved = λ _. refl;
  splits = λ _. sym (append-nil owed);
}

-- moving over one list and then over another is moving over both
pub moved_more : {S : Type 0} (next : S → Event → S) (gives : S → Event → List ℕ) (s t u : S) (o p q : List ℕ) (a b c : Option (List ℕ)) (first second : List Event)
    → Moved next gives s o a first t p b → Moved next gives t p b second u q c → Moved next gives s o a (first ++ second) u q c
moved_more next gives s t u o p q a b c first second h k =
    let told : IsSome a → IsSome b = λ some. subst (λ x. IsSome x) (sym h.writes) (some_append a h.pushed some) in
    record {
      pushed = h.pushed ++ k.pushed;
      writes = k.writes ∙ ap (λ x. append_known x k.pushed) h.writes ∙ append_twice a h.pushed k.pushed;
      moved = λ some. k.moved (told some) ∙ ap (λ x. state_after next x second) (h.moved some) ∙ state_after-append next s first second;
      splits = λ some.
          append_assoc h.pushed k.pushed q
          ∙ ap (λ x. h.pushed ++ x) (k.splits (told some))
          ∙ sym (append_assoc h.pushed p (given_by next gives t second))
          ∙ ap (λ x. x ++ given_by next gives t second) (h.splits some)
          ∙ append_assoc o (given_by next gives s first) (given_by next gives t second)
          ∙ ap (λ x. o ++ (given_by next gives s first ++ given_by next gives x second)) (h.moved some)
          ∙ ap (λ x. o ++ x) (given_by-append next gives s first second);
    }
