-- One fragment more, place by place.
use Rattle.std.proofs.Common.{◌≡◌, ◌≢◌, ℕ, ◌+◌, ◌*◌, ◌<◌, inl, inr, Bool, true, false, cond, ◌&&◌, List, [], ◌∷◌, length, set, Option, Some, None, refl, sym, ap, ◌∙◌, subst, arith, ℤ}
use Rattle.std.specs.List.{slice_get}
use Rattle.std.proofs.lemmas.Option.{same_Some, slice_get_within}
use Rattle.std.proofs.lemmas.Bool.{eq-eqb}
use Rattle.std.proofs.lemmas.Bool.Decides.{eqb_tells}
use Rattle.ecpri_fragments.specs.declared.place.Place.{Place}
use Rattle.ecpri_fragments.specs.declared.verdict.Verdict.{Verdict}
use Rattle.ecpri_fragments.specs.declared.verdict.Verdict.TheVariants.{Whole, Repeat, Stray, TooLong}
use Rattle.ecpri_fragments.specs.Generations.{Fragment, Generation, of_id, is_within, with_fragment, generations, generations_of, begins, is_first, start_in, held_in, begun, joined}
use Rattle.ecpri_fragments.specs.Verdicts.{Message, message, whole_to, end_of, pieces_to, Rests, refused, answer, verdict, placed, with_one, standing, is_whole, verdict_on, standing_before}
use Rattle.ecpri_fragments.specs.Spans.{pieces_in}
use Rattle.ecpri_fragments.specs.Places.{Table, Holds, IsBelow, IsDone, Puts, Stands, StandsIn}
use Rattle.ecpri_fragments.proofs.Pieces.{pieces_same}
use Rattle.ecpri_fragments.proofs.Numbers.{apart, get_other, get_own, put_other, put_own, slice_get_old}
use Rattle.ecpri_fragments.specs.declared.place.Begun.{Begun}
use Rattle.ecpri_fragments.specs.declared.pool.Pool.{Pool}
use Rattle.ecpri_fragments.specs.Pools.{Opens, place_at}
use Rattle.ecpri_fragments.specs.Assemblies.{StandIn, StandsAt, repeats}

-- the generation that a fragment falls in, with it
pub moved : (hold : ℤ) (gs : List Generation) (a : Fragment) (p : Place) → Stands p (start_in hold a.at gs) (placed (standing (held_in hold a.at gs)) a) → StandsIn p (with_fragment hold a gs)
moved hold [] a p h = h
moved hold (g ∷ gs) a p h = go (is_within hold g.start a.at) h
  where
    go : (w : Bool) → Stands p (cond w g.start a.at) (placed (standing (cond w g.held [])) a) → StandsIn p (cond w (joined a g ∷ gs) (begun a ∷ g ∷ gs))
    go true h = h
    go false h = h

-- a fragment that changes nothing
pub refuses : (o : Option Verdict) (w first : Bool) → Rests (answer o w) first → (v : Verdict) × (o ≡ Some v)
refuses (Some v) w first h = (v, refl)
refuses None true first h = absurd h
refuses None false first h = absurd h

first_only : (last z w : Bool) → Rests (answer (cond (last && false) (Some Stray) (cond z (Some TooLong) None)) w) true → ⊥
first_only true true w h = absurd (cc)
first_only true false true h = h
first_only true false false h = h
first_only false true w h = absurd (cc)
first_only false false true h = h
first_only false false false h = h

-- the first fragment of a generation changes something
pub no_first : (a : Fragment) → Rests (verdict [] a) true → ⊥
no_first a h = first_only a.last _ _ h

pub rested : (hold : ℤ) (gs : List Generation) (a : Fragment) (p : Place) → Rests (verdict (standing (held_in hold a.at gs)) a) (begins hold a.at gs) → StandsIn p (with_fragment hold a gs) → StandsIn p gs
rested hold [] a p h s = absurd (no_first a h)
rested hold (g ∷ gs) a p h s = go (is_within hold g.start a.at) h s
  where
    go : (w : Bool) → Rests (verdict (standing (cond w g.held [])) a) (cond w false true) → StandsIn p (cond w (joined a g ∷ gs) (begun a ∷ g ∷ gs)) → Stands p g.start (standing g.held)
    go true h s =
        let r = refuses (refused (standing g.held) a) (is_whole (a ∷ standing g.held)) false h in
        let e : placed (standing g.held) a ≡ standing g.held = ap (λ (o : Option Verdict). with_one o a (standing g.held)) r.1 in
        subst (Stands p g.start) e s
    go false h s = absurd (no_first a h)

pub own : (hold : ℤ) (gs : List Generation) (a : Fragment) (p : Place) → StandsIn p (with_fragment hold a gs) → Stands p (start_in hold a.at gs) (placed (standing (held_in hold a.at gs)) a)
own hold [] a p h = h
own hold (g ∷ gs) a p h = go (is_within hold g.start a.at) h
  where
    go : (w : Bool) → StandsIn p (cond w (joined a g ∷ gs) (begun a ∷ g ∷ gs)) → Stands p (cond w g.start a.at) (placed (standing (cond w g.held [])) a)
    go true h = h
    go false h = h

-- the place of an id that has another number
place_other : (places : List Place) (k : ℕ) (new : Place) (n : Option ℕ) → n ≢ Some k → place_at (set places k new) n ≡ place_at places n
place_other places k new None h = refl
place_other places k new (Some j) h = put_other places k j new (λ e. h (ap (λ (x : ℕ). Some x) e))

-- a place that is given back, whose message is whole
pub finished : (numbers : List (Option ℕ)) (done : List (Option Begun)) (places : List Place) (hold : ℤ) (arrivals : List Fragment) (i k : ℕ) (p : Place) (b : Begun) →
    slice_get numbers i ≡ Some (Some k) → slice_get places k ≡ Some p → i < length done → ((gs : List Generation) → StandsIn p gs → IsDone b.at.0 gs) →
    StandIn numbers done places hold arrivals → StandIn (set numbers i None) (set done i (Some b)) places hold arrivals
finished numbers done places hold arrivals i k p b had its room h s ep seq n d low e f =
    elim (eqb_tells (ep * 256 + seq) i) [
      | inl q ↦
          let gs = generations_of hold ep seq arrivals in
          let n' : None ≡ n = get_own numbers i None n (slice_get_within numbers i (Some k) had) (rw q.1 at e) in
          let d' : Some b ≡ d = get_own done i (Some b) d room (rw q.1 at f) in
          let old = slice_get_old done i room in
          let st : StandsIn p gs = subst (λ (r : Option Place). StandsAt r old.0 gs) its (s ep seq (Some k) old.0 low (rw q.1 had) (rw q.1 old.1)) in
          rw (← n', ← d') (h gs st)
      | inr q ↦ s ep seq n d low (get_other numbers i (ep * 256 + seq) None n q.1 e) (get_other done i (ep * 256 + seq) (Some b) d q.1 f)
    ]

of_own : (a : Fragment) (arrivals : List Fragment) → of_id a.ep a.seq (a ∷ arrivals) ≡ a ∷ of_id a.ep a.seq arrivals
of_own a arrivals = rw (eq-eqb a.ep a.ep refl, eq-eqb a.seq a.seq refl) refl

pub own_place : (numbers : List (Option ℕ)) (done : List (Option Begun)) (places : List Place) (hold : ℤ) (arrivals : List Fragment) (a : Fragment) (k : ℕ) (p : Place) → a.seq < 256 → a.ep * 256 + a.seq < length done →
    StandIn numbers done places hold (a ∷ arrivals) → slice_get numbers (a.ep * 256 + a.seq) ≡ Some (Some k) → slice_get places k ≡ Some p →
    Stands p (start_in hold a.at (generations_of hold a.ep a.seq arrivals)) (placed (standing_before hold a arrivals) a)
own_place numbers done places hold arrivals a k p b room s e f =
    let old = slice_get_old done (a.ep * 256 + a.seq) room in
    let st : StandsIn p (generations_of hold a.ep a.seq (a ∷ arrivals)) = subst (λ (q : Option Place). StandsAt q old.0 (generations_of hold a.ep a.seq (a ∷ arrivals))) f (s a.ep a.seq (Some k) old.0 b e old.1) in
    own hold (generations_of hold a.ep a.seq arrivals) a p (subst (λ (l : List Fragment). StandsIn p (generations hold l)) (of_own a arrivals) st)

-- A fragment that begins a generation does so as if there were none.
begins_anew : (hold : ℤ) (g : Generation) (gs : List Generation) (a : Fragment) (v : Verdict) (new : Place) → is_within hold g.start a.at ≡ false → Puts hold [] a v new → Puts hold (g ∷ gs) a v new
begins_anew hold g gs a v new e h = rw e h

-- A fragment in the place that its id has now: its number is k.
module _ (old : Pool) (done : List (Option Begun)) (new : Pool) (hold : ℤ) (arrivals : List Fragment) (a : Fragment) (k : ℕ) (p next : Place) (v : Verdict) (low : a.seq < 256) (within : a.ep * 256 + a.seq < length done)
    (opens : Opens old (a.ep * 256 + a.seq) k new) (its : slice_get new.places.items k ≡ Some p) (s : StandIn old.numbers.items done old.places.items hold arrivals)
    (making : (n : Option ℕ) (d : Option Begun) → slice_get old.numbers.items (a.ep * 256 + a.seq) ≡ Some n → slice_get done (a.ep * 256 + a.seq) ≡ Some d → repeats n d hold a.at ≡ false)
    (puts : (gs : List Generation) → StandsIn p gs → Puts hold gs a v next) where
  anew : (gs : List Generation) (d : Option Begun) → StandsAt None d gs → repeats None d hold a.at ≡ false → Puts hold [] a v next → Puts hold gs a v next
  anew gs None st r h = rw st h
  anew [] (Some b) st r h = h
  anew (g ∷ gs) (Some b) st r h = begins_anew hold g gs a v next (rw st.0 at r) h

  pub puts_in : Puts hold (generations_of hold a.ep a.seq arrivals) a v next
  puts_in =
      let gs = generations_of hold a.ep a.seq arrivals in
      let was = slice_get_old done (a.ep * 256 + a.seq) within in
      elim (opens.own p its) [
        | inl q ↦ puts gs (subst (λ (r : Option Place). StandsAt r was.0 gs) q.1 (s a.ep a.seq (Some k) was.0 low q.0 was.1))
        | inr q ↦ anew gs was.0 (s a.ep a.seq None was.0 low q.0 was.1) (making None was.0 q.0 was.1) (puts [] q.1)
      ]

  its_own : (gs : List Generation) (n : Option ℕ) (d : Option Begun) → slice_get new.numbers.items (a.ep * 256 + a.seq) ≡ Some n → StandsIn next gs → StandsAt (place_at (set new.places.items k next) n) d gs
  its_own gs n d e h =
      let q : Some k ≡ n = same_Some (Some k) n (sym opens.has ∙ e) in
      subst (λ (m : Option ℕ). StandsAt (place_at (set new.places.items k next) m) d gs) q
      (subst (λ (r : Option Place). StandsAt r d gs) (sym (put_own new.places.items k next (slice_get_within new.places.items k p its))) h)

  of_other : (ep seq : ℕ) (n : Option ℕ) (d : Option Begun) → seq < 256 → slice_get new.numbers.items (ep * 256 + seq) ≡ Some n → slice_get done (ep * 256 + seq) ≡ Some d →
      ep * 256 + seq ≢ a.ep * 256 + a.seq → StandsAt (place_at (set new.places.items k next) n) d (generations_of hold ep seq arrivals)
  of_other ep seq n d b e f h =
      let o = opens.others (ep * 256 + seq) n h e in
      let away : n ≢ Some k = λ q. h (apart new.numbers.items new.free.items _ new.once (ep * 256 + seq) (a.ep * 256 + a.seq) k (rw q at e) opens.has) in
      subst (λ (r : Option Place). StandsAt r d (generations_of hold ep seq arrivals)) (sym (place_other new.places.items k next n away ∙ o.1)) (s ep seq n d b o.0 f)

  pub stand_more : StandIn new.numbers.items done (set new.places.items k next) hold (a ∷ arrivals)
  stand_more ep seq n d b e f =
      elim (eqb_tells a.ep ep) [
        | inl q ↦ elim (eqb_tells a.seq seq) [
          | inl r ↦
              let h = puts_in.1 in
              let i = subst (λ (x : ℕ). StandsIn next (with_fragment hold a (generations_of hold ep x arrivals))) r.1 (subst (λ (x : ℕ). StandsIn next (with_fragment hold a (generations_of hold x a.seq arrivals))) q.1 h) in
              rw (q.0, r.0) (its_own (with_fragment hold a (generations_of hold ep seq arrivals)) n d (rw (← q.1, ← r.1) at e) i)
          | inr r ↦ rw (q.0, r.0) (of_other ep seq n d b e f (λ z. r.1 (omega (arith, z, q.1))))
        ]
        | inr q ↦ rw q.0 (of_other ep seq n d b e f (λ z. q.1 (omega (arith, z, b, low))))
      ]

  pub stand_still : Rests (verdict_on hold a arrivals) (is_first hold a arrivals) → StandIn new.numbers.items done (set new.places.items k next) hold arrivals
  stand_still t ep seq n d b e f =
      elim (eqb_tells a.ep ep) [
        | inl q ↦ elim (eqb_tells a.seq seq) [
          | inl r ↦
              let h = rested hold (generations_of hold a.ep a.seq arrivals) a next t puts_in.1 in
              let i = subst (λ (x : ℕ). StandsIn next (generations_of hold ep x arrivals)) r.1 (subst (λ (x : ℕ). StandsIn next (generations_of hold x a.seq arrivals)) q.1 h) in
              its_own (generations_of hold ep seq arrivals) n d (rw (← q.1, ← r.1) at e) i
          | inr r ↦ of_other ep seq n d b e f (λ z. r.1 (omega (arith, z, q.1)))
        ]
        | inr q ↦ of_other ep seq n d b e f (λ z. q.1 (omega (arith, z, b, low)))
      ]

-- A fragment of a message that is whole, of an id without a place.
whole_still : (s : List Fragment) (a : Fragment) → is_whole s ≡ true → refused s a ≡ Some Repeat
whole_still s a e = rw e refl

done_more : (hold : ℤ) (gs : List Generation) (a : Fragment) (b : Begun) → IsDone b.at.0 gs → is_within hold b.at.0 a.at ≡ true →
    IsDone b.at.0 (with_fragment hold a gs) × (verdict (standing (held_in hold a.at gs)) a ≡ Repeat)
done_more hold [] a b h w = absurd h
done_more hold (g ∷ gs) a b h w =
    let e : is_within hold g.start a.at ≡ true = rw h.0 at w in
    let r = whole_still (standing g.held) a h.1 in
    rw (e, r) ((h.0, h.1), refl)

module _ (numbers : List (Option ℕ)) (done : List (Option Begun)) (places : List Place) (hold : ℤ) (arrivals : List Fragment) (a : Fragment) (low : a.seq < 256) (room : a.ep * 256 + a.seq < length numbers) (within : a.ep * 256 + a.seq < length done)
    (its : (n : Option ℕ) (d : Option Begun) → slice_get numbers (a.ep * 256 + a.seq) ≡ Some n → slice_get done (a.ep * 256 + a.seq) ≡ Some d → repeats n d hold a.at ≡ true) (s : StandIn numbers done places hold arrivals) where
  of_whole : (n : Option ℕ) (d : Option Begun) → repeats n d hold a.at ≡ true → StandsAt (place_at places n) d (generations_of hold a.ep a.seq arrivals) →
      StandsAt (place_at places n) d (with_fragment hold a (generations_of hold a.ep a.seq arrivals)) × (verdict_on hold a arrivals ≡ Repeat)
  of_whole None None r st = absurd (cc)
  of_whole (Some k) d r st = absurd (cc)
  of_whole None (Some b) r st = done_more hold (generations_of hold a.ep a.seq arrivals) a b st r

  pub repeat_is : verdict_on hold a arrivals ≡ Repeat
  repeat_is =
      let n = slice_get_old numbers (a.ep * 256 + a.seq) room in
      let d = slice_get_old done (a.ep * 256 + a.seq) within in
      let o = of_whole n.0 d.0 (its n.0 d.0 n.1 d.1) (s a.ep a.seq n.0 d.0 low n.1 d.1) in
      o.1

  pub repeat_stands : StandIn numbers done places hold (a ∷ arrivals)
  repeat_stands ep seq n d b e f =
      elim (eqb_tells a.ep ep) [
        | inl q ↦ elim (eqb_tells a.seq seq) [
          | inl r ↦
              let e' = rw (← q.1, ← r.1) at e in
              let f' = rw (← q.1, ← r.1) at f in
              let o = of_whole n d (its n d e' f') (s a.ep a.seq n d low e' f') in
              let i = subst (λ (x : ℕ). StandsAt (place_at places n) d (with_fragment hold a (generations_of hold ep x arrivals))) r.1 (subst (λ (x : ℕ). StandsAt (place_at places n) d (with_fragment hold a (generations_of hold x a.seq arrivals))) q.1 o.0) in
              rw (q.0, r.0) i
          | inr r ↦ rw (q.0, r.0) (s ep seq n d b e f)
        ]
        | inr q ↦ rw q.0 (s ep seq n d b e f)
      ]

-- a fragment that makes its message whole
chosen : (x y z w : Bool) → answer (cond x (Some Repeat) (cond y (Some Stray) (cond z (Some TooLong) None))) w ≡ Whole →
    (cond x (Some Repeat) (cond y (Some Stray) (cond z (Some TooLong) None)) ≡ None) × (w ≡ true)
chosen true y z w e = absurd (cc)
chosen false true z w e = absurd (cc)
chosen false false true w e = absurd (cc)
chosen false false false true e = (refl, refl)
chosen false false false false e = absurd (cc)

pub whole_placed : (s : List Fragment) (a : Fragment) → verdict s a ≡ Whole → (placed s a ≡ a ∷ s) × (is_whole (a ∷ s) ≡ true)
whole_placed s a e =
    let c : (refused s a ≡ None) × (is_whole (a ∷ s) ≡ true) = chosen _ _ _ (is_whole (a ∷ s)) e in
    (ap (λ (r : Option Verdict). with_one r a s) c.0, c.1)

-- the message that a table shows
ends : (s : List Fragment) (e : Option ℕ) → whole_to s e ≡ true → (n : ℕ) × (e ≡ Some n)
ends s None h = absurd (cc)
ends s (Some n) h = (n, refl)

same_message : (ps qs : List (List ℕ)) (f g l m : ℤ) → ps ≡ qs → f ≡ g → l ≡ m → (let x : Message = record { pieces = ps; first = f; last = l } in x) ≡ (let y : Message = record { pieces = qs; first = g; last = m } in y)
same_message ps qs f g l m p q r = rw (p, q, r) refl

pub shows : (t : Table) (s : List Fragment) (n : ℕ) → Holds t s → is_whole s ≡ true → ((e : ℕ) → t.ending ≡ Some e → e < 128 → n ≡ e + 1) →
    (let x : Message = record { pieces = pieces_in t.spans t.bytes n; first = t.first; last = t.last } in x) ≡ message s
shows t s n h w count =
    let x = ends s (end_of s) w in
    let at_end : t.ending ≡ Some x.0 = h.ending ∙ x.1 in
    let low : x.0 < 128 = subst (IsBelow 128) at_end h.below in
    let m : n ≡ x.0 + 1 = count x.0 at_end low in
    let ps : pieces_in t.spans t.bytes n ≡ pieces_to s (end_of s) =
    ap (pieces_in t.spans t.bytes) m ∙ pieces_same t.spans t.bytes s (x.0 + 1) (λ k l. h.pieces k (omega arith)) ∙ ap (pieces_to s) (sym x.1) in
    same_message _ _ _ _ _ _ ps h.first h.last

not_placed : (o : Option Verdict) (w : Bool) (a : Fragment) → answer o w ≡ TooLong → with_one o a [] ≡ []
not_placed (Some v) w a e = refl
not_placed None true a e = absurd (cc)
not_placed None false a e = absurd (cc)

begins_first : (hold : ℤ) (gs : List Generation) (a : Fragment) → verdict (standing (held_in hold a.at gs)) a ≡ TooLong → begins hold a.at gs ≡ true →
    (g : Generation) × (rest : List Generation) × (with_fragment hold a gs ≡ g ∷ rest) × (g.start ≡ a.at) × (standing g.held ≡ [])
begins_first hold [] a v b = (begun a, [], refl, refl, not_placed (refused [] a) _ a v)
begins_first hold (g ∷ gs) a v b = go (is_within hold g.start a.at) v b
  where
    go : (w : Bool) → verdict (standing (cond w g.held [])) a ≡ TooLong → cond w false true ≡ true →
        (h : Generation) × (rest : List Generation) × (cond w (joined a g ∷ gs) (begun a ∷ g ∷ gs) ≡ h ∷ rest) × (h.start ≡ a.at) × (standing h.held ≡ [])
    go true v b = absurd (cc)
    go false v b = (begun a, g ∷ gs, refl, refl, not_placed (refused [] a) _ a v)

-- Where the first fragment of a generation is too long, that generation begins at its time, and nothing is stored in it.
pub too_long_begins : (hold : ℤ) (a : Fragment) (arrivals : List Fragment) → verdict_on hold a arrivals ≡ TooLong → is_first hold a arrivals ≡ true →
    (g : Generation) × (gs : List Generation) × (generations_of hold a.ep a.seq (a ∷ arrivals) ≡ g ∷ gs) × (g.start ≡ a.at) × (standing g.held ≡ [])
too_long_begins hold a arrivals v b =
    let r = begins_first hold (generations_of hold a.ep a.seq arrivals) a v b in
    (r.0, r.1, ap (generations hold) (of_own a arrivals) ∙ r.2, r.3, r.4)
