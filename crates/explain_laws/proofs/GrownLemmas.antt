-- A generation that is followed to the end is one of those of the complete list.
use Rattle.std.proofs.Common.{◌≡◌, ℕ, ℤ, Bool, true, false, List, [], ◌∷◌, refl, sym, ap, ◌∙◌, subst, inl, inr}
use Rattle.std.specs.Prelude.{if◌then◌else◌}
use Rattle.ecpri_fragments.specs.Generations.{Fragment, Generation, begun, generations, generations_of, is_of, is_within, joined, of_id, with_fragment}
use Rattle.fh_base.specs.Lists.{onto}
use Rattle.explain_model.specs.Fragments.{generation_at, grown, last_begun}
use Rattle.explain_laws.specs.Grown.{GrownAreGenerations}
use Rattle.fh_base.specs.Members.{IsIn}
use Rattle.ecpri_fragments.proofs.Rests.{rest_of}
use Rattle.ecpri_fragments.proofs.Ids.{same_id}

module _ (hold : ℤ) (ep seq : ℕ) where
  abbrev of : List Fragment → List Generation
  of fs = generations_of hold ep seq fs

  -- one fragment more, of this sequence id or not
  one_more : (x : Fragment) (fs : List Fragment) (b : Bool) → is_of ep seq x ≡ b → of (x ∷ fs) ≡ (if b then with_fragment hold x (of fs) else of fs)
  one_more x fs true is = ap (λ (t : Bool). generations hold (if t then x ∷ of_id ep seq fs else of_id ep seq fs)) is
  one_more x fs false is = ap (λ (t : Bool). generations hold (if t then x ∷ of_id ep seq fs else of_id ep seq fs)) is

  -- it is one of these but the first
  abbrev IsPast : Generation → List Generation → Type 0
  IsPast g [] = ⊥
  IsPast g (h ∷ gs) = IsIn g gs

  past_in : (g : Generation) (gs : List Generation) → IsPast g gs → IsIn g gs
  past_in g [] m = absurd m
  past_in g (h ∷ gs) m = inr m

  past_by : (g : Generation) (x : Fragment) (h : Generation) (gs : List Generation) (b : Bool) → IsIn g gs → IsPast g (if b then joined x h ∷ gs else begun x ∷ h ∷ gs)
  past_by g x h gs true m = m
  past_by g x h gs false m = inr m

  past_more : (g : Generation) (x : Fragment) (gs : List Generation) → IsPast g gs → IsPast g (with_fragment hold x gs)
  past_more g x [] m = absurd m
  past_more g x (h ∷ gs) m = past_by g x h gs (is_within hold h.start x.at) m

  past_step : (g : Generation) (x : Fragment) (fs : List Fragment) (b : Bool) → is_of ep seq x ≡ b → IsPast g (of fs) → IsPast g (of (x ∷ fs))
  past_step g x fs true is m = subst (λ (gs : List Generation). IsPast g gs) (sym (one_more x fs true is)) (past_more g x (of fs) m)
  past_step g x fs false is m = subst (λ (gs : List Generation). IsPast g gs) (sym (one_more x fs false is)) m

  past_stays : (g : Generation) (fs later : List Fragment) → IsPast g (of fs) → IsIn g (of (onto fs later))
  unfolding onto
  past_stays g fs [] m = past_in g (of fs) m
  past_stays g fs (x ∷ later) m = past_stays g (x ∷ fs) later (past_step g x fs (is_of ep seq x) refl m)

  -- ---- followed to the end

  abbrev Goes : Generation → List Generation → List Fragment → List Fragment → Type 0
  Goes g gs fs later = of fs ≡ g ∷ gs → IsIn (grown hold ep seq g later) (of (onto fs later))

  own_step : (x : Fragment) (g : Generation) (gs : List Generation) (fs later : List Fragment) (b : Bool) → is_of ep seq x ≡ true → is_within hold g.start x.at ≡ b → of fs ≡ g ∷ gs
      → ((h : Generation) (hs : List Generation) → Goes h hs (x ∷ fs) later)
      → IsIn (if b then grown hold ep seq (joined x g) later else g) (of (onto (x ∷ fs) later))
  own_step x g gs fs later true own is first more =
      more (joined x g) gs (one_more x fs true own ∙ ap (with_fragment hold x) first ∙ ap (λ (t : Bool). if t then joined x g ∷ gs else begun x ∷ g ∷ gs) is)
  own_step x g gs fs later false own is first more =
      past_stays g (x ∷ fs) later
      (subst (λ (hs : List Generation). IsPast g hs) (sym (one_more x fs true own ∙ ap (with_fragment hold x) first ∙ ap (λ (t : Bool). if t then joined x g ∷ gs else begun x ∷ g ∷ gs) is)) (inl refl))

  any_step : (x : Fragment) (g : Generation) (gs : List Generation) (fs later : List Fragment) (b : Bool) → is_of ep seq x ≡ b → of fs ≡ g ∷ gs
      → ((h : Generation) (hs : List Generation) → Goes h hs (x ∷ fs) later)
      → IsIn (if b then (if is_within hold g.start x.at then grown hold ep seq (joined x g) later else g) else grown hold ep seq g later) (of (onto (x ∷ fs) later))
  any_step x g gs fs later true is first more = own_step x g gs fs later (is_within hold g.start x.at) is refl first more
  any_step x g gs fs later false is first more = more g gs (one_more x fs false is ∙ first)

  grown_there : (later : List Fragment) (fs : List Fragment) (g : Generation) (gs : List Generation) → Goes g gs fs later
  unfolding onto grown
  grown_there [] fs g gs first = subst (λ (hs : List Generation). IsIn g hs) (sym first) (inl refl)
  grown_there (x ∷ later) fs g gs first = any_step x g gs fs later (is_of ep seq x) refl first (grown_there later (x ∷ fs))

  -- what it has it keeps
  kept_step : (f x : Fragment) (g : Generation) (later : List Fragment) (b d : Bool) → IsIn f g.held
      → ((h : Generation) → IsIn f h.held → IsIn f (grown hold ep seq h later).held)
      → IsIn f (let h : Generation = if b then (if d then grown hold ep seq (joined x g) later else g) else grown hold ep seq g later in h).held
  kept_step f x g later true true m more = more (joined x g) (inr m)
  kept_step f x g later true false m more = m
  kept_step f x g later false d m more = more g m

  grown_has : (f : Fragment) (later : List Fragment) (g : Generation) → IsIn f g.held → IsIn f (grown hold ep seq g later).held
  unfolding grown
  grown_has f [] g m = m
  grown_has f (x ∷ later) g m = kept_step f x g later (is_of ep seq x) (is_within hold g.start x.at) m (grown_has f later)

-- the last generation with the fragment
first_by : (f : Fragment) (g : Generation) (gs : List Generation) (b : Bool)
    → (let hs : List Generation = if b then joined f g ∷ gs else begun f ∷ g ∷ gs in hs) ≡ last_begun (if b then joined f g ∷ gs else begun f ∷ g ∷ gs) f ∷ (if b then gs else g ∷ gs)
first_by f g gs true = refl
first_by f g gs false = refl

has_by : (f : Fragment) (g : Generation) (gs : List Generation) (b : Bool) → IsIn f (last_begun (if b then joined f g ∷ gs else begun f ∷ g ∷ gs) f).held
has_by f g gs true = inl refl
has_by f g gs false = inl refl

first_is : (hold : ℤ) (f : Fragment) (gs : List Generation) → with_fragment hold f gs ≡ last_begun (with_fragment hold f gs) f ∷ rest_of hold f gs
unfolding rest_of
first_is hold f [] = refl
first_is hold f (g ∷ gs) = first_by f g gs (is_within hold g.start f.at)

first_has : (hold : ℤ) (f : Fragment) (gs : List Generation) → IsIn f (last_begun (with_fragment hold f gs) f).held
first_has hold f [] = inl refl
first_has hold f (g ∷ gs) = has_by f g gs (is_within hold g.start f.at)

pub are_generations : GrownAreGenerations
are_generations hold earlier f later = record {
  there =
      grown_there hold f.ep f.seq later (f ∷ earlier) (generation_at hold earlier f) (rest_of hold f (generations_of hold f.ep f.seq earlier))
      (one_more hold f.ep f.seq f earlier true (same_id f) ∙ first_is hold f (generations_of hold f.ep f.seq earlier));
  has = grown_has hold f.ep f.seq f later (generation_at hold earlier f) (first_has hold f (generations_of hold f.ep f.seq earlier));
}
