-- A Remote Request is answered by at most a request, this by one Response, and a Response by nothing.
use Rattle.std.proofs.Common.{◌≡◌, ℕ, zero, suc, ℤ, pos, ◌≤◌, ◌==◌, ◌+ℤ◌, ◌≤ℤ◌, ◌<ℤ◌, List, [], ◌∷◌, ◌++◌, get_or, refl, sym, ap₂, subst, arith, inl, inr}
use Rattle.std.specs.Prelude.{All}
use Rattle.std.specs.Ordering.{int_eq}
use Rattle.std.proofs.lemmas.Int.{by_lt_z, ints}
use Rattle.std.proofs.lemmas.Bool.{cases_Bool, false_from_ne_true}
use Rattle.std.proofs.lemmas.Bool.Decides.{Decides-int_eq}
use Rattle.std.proofs.lemmas.List.Elements.{All-head, All-nil, All-tail, All-weaker}
use Rattle.air_source.specs.declared.events.Side.{Side}
use Rattle.delay_measure.specs.declared.message.DelayMessage.{DelayMessage}
use Rattle.delay_measure.specs.declared.states.Exchange.{Exchange}
use Rattle.delay_measure.specs.After.{Told, begins, comes, forgets}
use Rattle.delay_measure.specs.Stamps.{sending_stamp, receiving_stamp}
use Rattle.delay_measure.specs.declared.edge.Compensation.{Compensation}
use Rattle.delay_laws.specs.Nodes.{Heard, sent_then, time_of}
use Rattle.delay_laws.specs.Ticks.{Flight, Setting, came_heard, copies_at, landing, state}
use Rattle.delay_laws.specs.Ends.{EndsBy, step_of}
use Rattle.delay_laws.specs.Laws.{AllEnds}
use Rattle.delay_laws.proofs.Keeping.{IsKept, Keeps, all_kept}
use Rattle.delay_laws.proofs.Sending.{sent_later}
use Rattle.fh_base.proofs.Orders.{at_most as through, lasts}

-- the latest time at which a message of this step is sent
abbrev pub limit : ℤ → ℤ → ℕ → ℤ
limit last most zero = last
limit last most (suc zero) = last +ℤ most
limit last most (suc (suc n)) = (last +ℤ most) +ℤ most

abbrev pub IsSentBy : ℤ → ℤ → ℤ → DelayMessage → Type 0
IsSentBy last most t m = t ≤ℤ limit last most (step_of m.action)

abbrev pub ComesBy : ℤ → ℤ → Told → Type 0
ComesBy last most (begins t id kind) = t ≤ℤ last
ComesBy last most (comes t m) = t ≤ℤ (limit last most (step_of m.action) +ℤ most)
ComesBy last most (forgets id) = ⊥

abbrev pub IsHeardBy : ℤ → ℤ → Heard → Type 0
IsHeardBy last most one = ComesBy last most one.told

first_limit : (last most : ℤ) (n : ℕ) → pos 0 ≤ℤ most → last ≤ℤ limit last most n
first_limit last most zero some = omega (arith, ints)
first_limit last most (suc zero) some = omega (arith, ints)
first_limit last most (suc (suc n)) some = omega (arith, ints)

last_limit : (last most : ℤ) (n : ℕ) → pos 0 ≤ℤ most → (limit last most n +ℤ most) ≤ℤ (((last +ℤ most) +ℤ most) +ℤ most)
last_limit last most zero some = omega (arith, ints)
last_limit last most (suc zero) some = omega (arith, ints)
last_limit last most (suc (suc n)) some = omega (arith, ints)

step_small : (a : ℕ) → step_of a ≤ 2
step_small a = elim (cases_Bool (a == 2)) [
  | inl is ↦ rw is (omega arith)
  | inr n2 ↦ elim (cases_Bool (a == 3)) [
    | inl is ↦ rw (n2, is) (omega arith)
    | inr n3 ↦ elim (cases_Bool (a == 4)) [
      | inl is ↦ rw (n2, n3, is) (omega arith)
      | inr n4 ↦ rw (n2, n3, n4) (omega arith)
    ]
  ]
]

climbs : (last most t : ℤ) (r s : ℕ) → pos 0 ≤ℤ most → suc r ≤ s → s ≤ 2 → t ≤ℤ (limit last most r +ℤ most) → t ≤ℤ limit last most s
climbs last most t zero zero some above small by = absurd (omega arith)
climbs last most t zero (suc zero) some above small by = omega (arith, ints)
climbs last most t zero (suc (suc s)) some above small by = omega (arith, ints)
climbs last most t (suc zero) zero some above small by = absurd (omega arith)
climbs last most t (suc zero) (suc zero) some above small by = absurd (omega arith)
climbs last most t (suc zero) (suc (suc s)) some above small by = omega (arith, ints)
climbs last most t (suc (suc r)) s some above small by = absurd (omega arith)

answers_by : (last most : ℤ) (c : Compensation) (told : Told) (e : Exchange) → pos 0 ≤ℤ most → ComesBy last most told → All (IsSentBy last most (time_of told)) (sent_then c e told)
answers_by last most c (begins t id kind) e some by = λ k d lt.
    let m : DelayMessage = get_or (sent_then c e (begins t id kind)) k d in
    through t last (limit last most (step_of m.action)) by (first_limit last most (step_of m.action) some)
answers_by last most c (comes t m) e some by = λ k d lt.
    let later = sent_later e m (sending_stamp t c.sending) (receiving_stamp t c.receiving) k d lt in
    let x : DelayMessage = get_or (sent_then c e (comes t m)) k d in
    climbs last most t (step_of m.action) (step_of x.action) some later (step_small x.action) by
answers_by last most c (forgets id) e some by = elim by [ ]

takes : (a b c d : ℤ) → a ≤ℤ b → c ≤ℤ d → (a +ℤ c) ≤ℤ (b +ℤ d)
takes a b c d ab cd = omega (arith, ints)

ends_keep : (w : Setting) (last most : ℤ) → EndsBy w last most → Keeps w (IsSentBy last most) (IsHeardBy last most)
ends_keep w last most ends = record {
  begins = ends.begins;
  copies = λ side k at m by. All-weaker (λ (d : ℤ). d ≤ℤ most) (λ (d : ℤ). IsHeardBy last most (came_heard side (at +ℤ d) m)) (λ d short. takes at (limit last most (step_of m.action)) d most by short) (w.delays side k) (ends.delays side k);
  others = λ side t. by_lt_z last t
      (λ late. subst (All (λ (m : DelayMessage). IsHeardBy last most (came_heard side t m))) (sym (ends.others side t late)) (All-nil (λ (m : DelayMessage). IsHeardBy last most (came_heard side t m))))
      (λ early k d lt.
      let m : DelayMessage = get_or (w.others side t) k d in
      lasts t (limit last most (step_of m.action)) most (through t last (limit last most (step_of m.action)) early (first_limit last most (step_of m.action) ends.some)) ends.some);
  answers = λ one e by. answers_by last most (w.comps one.side) one.told e ends.some by;
}

told_by : (last most : ℤ) (told : Told) → pos 0 ≤ℤ most → ComesBy last most told → time_of told ≤ℤ (((last +ℤ most) +ℤ most) +ℤ most)
told_by last most (begins t id kind) some by = omega (arith, ints)
told_by last most (comes t m) some by = through t (limit last most (step_of m.action) +ℤ most) (((last +ℤ most) +ℤ most) +ℤ most) by (last_limit last most (step_of m.action) some)
told_by last most (forgets id) some by = elim by [ ]

no_copies : (end at t : ℤ) (m : DelayMessage) (ds : List ℤ) → All (λ d. (at +ℤ d) ≤ℤ end) ds → end <ℤ t → copies_at ds at m t ≡ []
no_copies end at t m [] by late = refl
no_copies end at t m (d ∷ ds) by late =
    let first = All-head (λ (x : ℤ). (at +ℤ x) ≤ℤ end) d ds by in
    let not_here = false_from_ne_true (int_eq (at +ℤ d) t) (λ is. let same = (Decides-int_eq (at +ℤ d) t).0 is in omega (arith, ints)) in
    let rest = no_copies end at t m ds (All-tail (λ (x : ℤ). (at +ℤ x) ≤ℤ end) d ds by) late in
    rw not_here rest

no_landings : (last most t : ℤ) (side : Side) (fs : List Flight) → pos 0 ≤ℤ most → All (IsKept (IsSentBy last most) (IsHeardBy last most) side) fs → (((last +ℤ most) +ℤ most) +ℤ most) <ℤ t → landing fs t ≡ []
no_landings last most t side [] some kept late = refl
no_landings last most t side (f ∷ fs) some kept late =
    let first = All-head (IsKept (IsSentBy last most) (IsHeardBy last most) side) f fs kept in
    let end : ℤ = ((last +ℤ most) +ℤ most) +ℤ most in
    let by = All-weaker (λ (d : ℤ). IsHeardBy last most (came_heard side (f.at +ℤ d) f.message)) (λ (d : ℤ). (f.at +ℤ d) ≤ℤ end)
    (λ d h. through (f.at +ℤ d) (limit last most (step_of f.message.action) +ℤ most) end h (last_limit last most (step_of f.message.action) some)) f.delays first.copies in
    ap₂ (λ (xs ys : List DelayMessage). xs ++ ys) (no_copies end f.at t f.message f.delays by late)
    (no_landings last most t side fs some (All-tail (IsKept (IsSentBy last most) (IsHeardBy last most) side) f fs kept) late)

pub all_end : AllEnds
all_end w last most ends first n =
    let kept = all_kept w (IsSentBy last most) (IsHeardBy last most) (ends_keep w last most ends) first n in (
      All-weaker (IsHeardBy last most) (λ (one : Heard). time_of one.told ≤ℤ (((last +ℤ most) +ℤ most) +ℤ most)) (λ one by. told_by last most one.told ends.some by) (state w first n).heard kept.heard,
      λ side t late. no_landings last most t side ((state w first n).sent side) ends.some (kept.flights side) late,
    )
