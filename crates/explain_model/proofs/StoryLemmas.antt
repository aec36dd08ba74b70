-- What is told goes on as events follow.
use Rattle.std.proofs.Common.{◌≡◌, List, [], ◌∷◌, ◌++◌, refl, sym, ap, subst, append_assoc}
use Rattle.std.proofs.lemmas.List.{append-nil}
use Rattle.air_source.specs.declared.events.Event.{Event}
use Rattle.window_config.specs.declared.config.Config.{Config}
use Rattle.explain_model.specs.Stories.{StoriesGoOn, Told, Came, Cell, Delay, Count, stories_in, told, told_after, told_of}

module _ (c : Config) where
  pub after_both : (earlier xs ys : List Event) → told_after c earlier (xs ++ ys) ≡ told_after c earlier xs ++ told_after c (earlier ++ xs) ys
  unfolding told_after
  after_both earlier [] ys = ap (λ e. told_after c e ys) (sym (append-nil earlier))
  after_both earlier (x ∷ xs) ys =
      subst (λ e. told_after c earlier (x ∷ (xs ++ ys)) ≡ told_after c earlier (x ∷ xs) ++ told_after c e ys) (append_assoc earlier (x ∷ []) xs)
      (ap (λ rest. told_of c earlier x ∷ rest) (after_both (earlier ++ x ∷ []) xs ys))

  after_one : (events : List Event) (e : Event) → told_after c events (e ∷ []) ≡ told_of c events e ∷ []
  unfolding told_after
  after_one events e = refl

  pub one : (events : List Event) (e : Event) → told c (events ++ e ∷ []) ≡ told c events ++ told_of c events e ∷ []
  one events e = subst (λ rest. told c (events ++ e ∷ []) ≡ told c events ++ rest) (after_one events e) (after_both [] events (e ∷ []))

pub stories_both : (xs ys : List Told) → stories_in (xs ++ ys) ≡ stories_in xs ++ stories_in ys
unfolding stories_in
stories_both [] ys = refl
stories_both (Came s ∷ xs) ys = ap (λ rest. s ∷ rest) (stories_both xs ys)
stories_both (Cell a ∷ xs) ys = stories_both xs ys
stories_both (Delay at side id value ∷ xs) ys = stories_both xs ys
stories_both (Count side counter value ∷ xs) ys = stories_both xs ys

pub go_on : StoriesGoOn
go_on = record { told_more = λ c. after_both c []; told_one = one; stories_more = stories_both }
