-- Two frames that arrive more than the hold apart fall in two generations.
use Rattle.std.proofs.Common.{◌≡◌, ℕ, ℤ, pos, ◌+ℤ◌, ◌-ℤ◌, ◌≤ℤ◌, ◌<ℤ◌, neg_ℤ, Bool, true, false, List, [], ◌∷◌, refl, sym, ap, ap₂, subst, ◌∙◌, arith}
use Rattle.std.specs.Prelude.{⊤, if◌then◌else◌}
use Rattle.std.proofs.lemmas.Int.{ints}
use Rattle.window_config.specs.declared.delays.Delays.{Delays}
use Rattle.window_config.specs.declared.relations.Relation.{Relation}
use Rattle.window_config.specs.declared.relations.Relation.TheVariants.{UpMax, UpMin, CpUlMax, CpUlMin, Ta4Min, Ta4Max, HoldDl, HoldUl}
use Rattle.window_config.specs.Limits.{IsWithinLimits}
use Rattle.window_config.specs.Windows.{ticks_of_ns}
use Rattle.window_config.specs.Relations.{holds}
use Rattle.ecpri_fragments.specs.Generations.{Fragment, Generation, is_of, of_id, is_within, with_fragment, generations, generations_of, begins, start_in, is_first, begun, joined}
use Rattle.window_plan.specs.Breaches.{before, sent_in, delayed_by, hold_of, arrival, IsIn, NoneAfter, Parts, extreme_of, Breaks}
use Rattle.window_plan.proofs.Missing.{at_min, at_max, turned, up_max_misses, up_min_misses, cp_ul_max_misses, cp_ul_min_misses, ta4_min_misses, ta4_max_misses}
use Rattle.fh_base.proofs.Orders.{le_false as not_at_most}
use Rattle.ecpri_fragments.proofs.Ids.{same_id as own_id}
use Rattle.window_config.proofs.TickLemmas.{positive as some_ticks}
use Rattle.std.specs.Int.Signed.{≤ℤ_refl}

-- a generation that had begun by one time is over more than the hold after it
over : (hold start at later : ℤ) → start ≤ℤ at → (at +ℤ hold) <ℤ later → is_within hold start later ≡ false
over hold start at later old apart = grind (arith, ints)

-- and one that is not over then began after that time
started : (hold start at later : ℤ) → (at +ℤ hold) <ℤ later → is_within hold start later ≡ true → at <ℤ start
started hold start at later apart h = grind (arith, ints)

later_than : (hold at later : ℤ) → pos 0 ≤ℤ hold → (at +ℤ hold) <ℤ later → at <ℤ later
later_than hold at later some apart = omega (arith, ints)

start_chosen : (b : Bool) (at start later : ℤ) → at <ℤ later → (b ≡ true → at <ℤ start) → at <ℤ (if b then start else later)
start_chosen true at start later h k = k refl
start_chosen false at start later h k = h

start_after : (hold at later : ℤ) (gs : List Generation) → pos 0 ≤ℤ hold → (at +ℤ hold) <ℤ later → at <ℤ start_in hold later gs
start_after hold at later [] some apart = later_than hold at later some apart
start_after hold at later (g ∷ gs) some apart =
    start_chosen (is_within hold g.start later) at g.start later (later_than hold at later some apart) (started hold g.start at later apart)

-- the last generation, if there is one, had begun by a time
abbrev LastBegun : ℤ → List Generation → Type 0
LastBegun at [] = ⊤
LastBegun at (g ∷ gs) = g.start ≤ℤ at

joins_begun : (in_it : Bool) (at : ℤ) (a : Fragment) (g : Generation) (gs : List Generation) → a.at ≤ℤ at → g.start ≤ℤ at
    → LastBegun at (if in_it then joined a g ∷ gs else begun a ∷ g ∷ gs)
joins_begun true at a g gs h k = k
joins_begun false at a g gs h k = h

with_begun : (hold at : ℤ) (a : Fragment) (gs : List Generation) → a.at ≤ℤ at → LastBegun at gs → LastBegun at (with_fragment hold a gs)
with_begun hold at a [] h k = h
with_begun hold at a (g ∷ gs) h k = joins_begun (is_within hold g.start a.at) at a g gs h k

last_begun : (hold at : ℤ) (arrivals : List Fragment) → NoneAfter at arrivals → LastBegun at (generations hold arrivals)
last_begun hold at [] h = tt
last_begun hold at (a ∷ earlier) h = with_begun hold at a (generations hold earlier) h.0 (last_begun hold at earlier h.1)

none_of_id : (at : ℤ) (ep seq : ℕ) (arrivals : List Fragment) → NoneAfter at arrivals → NoneAfter at (of_id ep seq arrivals)
none_of_id at ep seq [] h = tt
none_of_id at ep seq (a ∷ earlier) h = kept_of (is_of ep seq a) at a (of_id ep seq earlier) h.0 (none_of_id at ep seq earlier h.1)
  where
    kept_of : (b : Bool) (at : ℤ) (a : Fragment) (rest : List Fragment) → a.at ≤ℤ at → NoneAfter at rest → NoneAfter at (if b then a ∷ rest else rest)
    kept_of true at a rest h k = (h, k)
    kept_of false at a rest h k = k

begins_over : (hold at later : ℤ) (gs : List Generation) → LastBegun at gs → (at +ℤ hold) <ℤ later → begins hold later gs ≡ true
begins_over hold at later [] h apart = refl
begins_over hold at later (g ∷ gs) h apart = ap (λ b. if b then false else true) (over hold g.start at later h apart)

id_of : (a b : Fragment) → b.ep ≡ a.ep → b.seq ≡ a.seq → is_of b.ep b.seq a ≡ true
id_of a b e f = ap₂ (λ ep seq. is_of ep seq a) e f ∙ own_id a

-- after a fragment that was received last of all, one of its id that is received more than the hold later begins a generation
first_behind : (hold : ℤ) (a b : Fragment) (earlier : List Fragment) → (a.at +ℤ hold) <ℤ b.at → b.ep ≡ a.ep → b.seq ≡ a.seq → NoneAfter a.at earlier
    → is_first hold b (a ∷ earlier) ≡ true
first_behind hold a b earlier apart ep seq none =
    ap (λ x. begins hold b.at (generations hold (if x then a ∷ of_id b.ep b.seq earlier else of_id b.ep b.seq earlier))) (id_of a b ep seq)
    ∙ begins_over hold a.at b.at (generations hold (a ∷ of_id b.ep b.seq earlier))
    (last_begun hold a.at (a ∷ of_id b.ep b.seq earlier) (≤ℤ_refl a.at, none_of_id a.at b.ep b.seq earlier none)) apart

farther : (s hold sent delay later later_delay : ℤ) → hold <ℤ ((later -ℤ sent) +ℤ (later_delay -ℤ delay))
    → (arrival s sent delay +ℤ ticks_of_ns hold) <ℤ arrival s later later_delay
farther s hold sent delay later later_delay h = omega (arith, ints)

parts : (r : Relation) (d : Delays) (hold sent delay later later_delay : ℤ) → hold_of r d ≡ hold → pos 0 ≤ℤ hold → IsIn (sent_in r d) sent → IsIn (delayed_by r d) delay
    → IsIn (sent_in r d) later → IsIn (delayed_by r d) later_delay → hold <ℤ ((later -ℤ sent) +ℤ (later_delay -ℤ delay)) → Parts r d sent delay later later_delay
parts r d hold sent delay later later_delay is some p q p' q' h =
    let far : (s : ℤ) → (arrival s sent delay +ℤ ticks_of_ns (hold_of r d)) <ℤ arrival s later later_delay
    = λ s. subst (λ (x : ℤ). (arrival s sent delay +ℤ ticks_of_ns x) <ℤ arrival s later later_delay) (sym is) (farther s hold sent delay later later_delay h) in
    let ticks : pos 0 ≤ℤ ticks_of_ns (hold_of r d) = subst (λ (x : ℤ). pos 0 ≤ℤ ticks_of_ns x) (sym is) (some_ticks hold some) in
    record {
      sent_inside = p;
      delay_inside = q;
      later_inside = p';
      later_delay_inside = q';
      apart = far;
      begins = λ s a b earlier e f ep seq none.
          first_behind (ticks_of_ns (hold_of r d)) a b earlier
          (at_times a.at b.at (ticks_of_ns (hold_of r d)) (arrival s sent delay) (arrival s later later_delay) e f (far s)) ep seq none;
      after = λ s b arrivals f.
          start_after (ticks_of_ns (hold_of r d)) (arrival s sent delay) b.at (generations_of (ticks_of_ns (hold_of r d)) b.ep b.seq arrivals) ticks
          (at_time b.at (ticks_of_ns (hold_of r d)) (arrival s sent delay) (arrival s later later_delay) f (far s));
    }
  where
    at_times : (x y hold first last : ℤ) → x ≡ first → y ≡ last → (first +ℤ hold) <ℤ last → (x +ℤ hold) <ℤ y
    at_times x y hold first last e f h = omega (arith, ints)

    at_time : (y hold first last : ℤ) → y ≡ last → (first +ℤ hold) <ℤ last → (first +ℤ hold) <ℤ y
    at_time y hold first last f h = omega (arith, ints)

spread_before : (hold sent_min sent_max delay_min delay_max : ℤ) → hold <ℤ ((sent_max -ℤ sent_min) +ℤ (delay_max -ℤ delay_min))
    → hold <ℤ ((neg_ℤ sent_min -ℤ neg_ℤ sent_max) +ℤ (delay_max -ℤ delay_min))
spread_before hold sent_min sent_max delay_min delay_max h = omega (arith, ints)

-- what the extreme frames of a relation show where it fails
pub extreme_breaks : (r : Relation) (d : Delays) → IsWithinLimits d → holds r d ≡ false → Breaks r d (extreme_of r d)
extreme_breaks UpMax d is fails = (refl, up_max_misses d is fails)
extreme_breaks UpMin d is fails = (refl, up_min_misses d is fails)
extreme_breaks CpUlMax d is fails = (refl, cp_ul_max_misses d is fails)
extreme_breaks CpUlMin d is fails = (refl, cp_ul_min_misses d is fails)
extreme_breaks Ta4Min d is fails = (refl, ta4_min_misses d is fails)
extreme_breaks Ta4Max d is fails = (refl, ta4_max_misses d is fails)
extreme_breaks HoldDl d is fails = (
  refl,
  parts HoldDl d d.hold_dl _ _ _ _ refl is.hold_dl.low
      (at_min (before d.t1a_up) (turned d.t1a_up is.t1a_up.order)) (at_min d.t12 is.t12.order)
      (at_max (before d.t1a_up) (turned d.t1a_up is.t1a_up.order)) (at_max d.t12 is.t12.order)
      (spread_before d.hold_dl d.t1a_up.min d.t1a_up.max d.t12.min d.t12.max (not_at_most _ _ fails)),
)
extreme_breaks HoldUl d is fails = (
  refl,
  parts HoldUl d d.hold_ul _ _ _ _ refl is.hold_ul.low (at_min d.ta3 is.ta3.order) (at_min d.t34 is.t34.order)
      (at_max d.ta3 is.ta3.order) (at_max d.t34 is.t34.order) (not_at_most _ _ fails),
)
