-- Ticks at which nothing is told.
use Rattle.std.proofs.Common.{◌≡◌, zero, suc, ℤ, pos, ◌+◌, ◌+ℤ◌, List, [], ◌++◌, ap, ap₂, ◌∙◌, arith}
use Rattle.std.specs.Prelude.{map}
use Rattle.air_source.specs.declared.events.Side.{Side}
use Rattle.air_source.specs.declared.events.Side.TheVariants.{Ru, Du}
use Rattle.delay_measure.specs.declared.message.DelayMessage.{DelayMessage}
use Rattle.delay_laws.specs.Nodes.{Heard}
use Rattle.delay_laws.specs.Ticks.{Hearing, IsQuiet, Setting, State, after_tick, arriving, begin_heard, came_heard, hearing, launched, state, told_all}
use Rattle.delay_laws.specs.Laws.{QuietTicksChangeNothing}
use Rattle.air_source.specs.Units.{other}

abbrev pub before : State → Hearing
before s = record { heard = s.heard; made = λ side. [] }

nothing_comes : (w : Setting) (s : State) (t : ℤ) (side : Side) → IsQuiet w s t → arriving w s side t ≡ []
nothing_comes w s t side quiet = ap (map (came_heard side t)) (ap₂ (λ (xs ys : List DelayMessage). xs ++ ys) (quiet.landing side) (quiet.others side))

-- what is told at a tick, by its three lists
told_three : Setting → State → List Heard → List Heard → List Heard → Hearing
told_three w s begun ru du = told_all w (told_all w (told_all w (before s) begun) ru) du

nothing_told : (w : Setting) (t : ℤ) (s : State) → IsQuiet w s t → hearing w t s ≡ before s
unfolding hearing told_three
nothing_told w t s quiet =
    ap (λ (l : List Heard). told_three w s l (arriving w s Ru t) (arriving w s Du t)) (ap (map begin_heard) quiet.begins)
    ∙ ap (λ (l : List Heard). told_three w s [] l (arriving w s Du t)) (nothing_comes w s t Ru quiet)
    ∙ ap (λ (l : List Heard). told_three w s [] [] l) (nothing_comes w s t Du quiet)

quiet_tick : (w : Setting) (t : ℤ) (s : State) → IsQuiet w s t → after_tick w t s ≡ s
unfolding after_tick
quiet_tick w t s quiet =
    ap (λ (h : Hearing). let now : State = record { heard = h.heard; sent = λ side. launched (w.delays side) t (s.sent side) (h.made (other side)) } in now) (nothing_told w t s quiet)

pub quiet_ticks : QuietTicksChangeNothing
unfolding state
quiet_ticks w first n zero quiet = ap (state w first) (omega arith)
quiet_ticks w first n (suc m) quiet =
    let same = quiet_ticks w first n m (λ k lt. quiet k (omega arith)) in
    let count : n + suc m ≡ suc (n + m) = omega arith in
    let next : state w first (n + suc m) ≡ state w first (suc (n + m)) = ap (state w first) count in
    next ∙ ap (after_tick w (first +ℤ pos (n + m))) same ∙ quiet_tick w (first +ℤ pos (n + m)) (state w first n) (quiet m (omega arith))
