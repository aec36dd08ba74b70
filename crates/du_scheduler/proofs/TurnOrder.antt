-- The order of frames.
use Rattle.std.proofs.Common.{◌≡◌, min, ℕ, ℤ, pos, ◌+◌, ◌*◌, ◌+ℤ◌, ◌≤ℤ◌, true, false, refl, arith, ap, sym, ◌∙◌}
use Rattle.std.specs.Cmp.{upto}
use Rattle.std.specs.Int.{int_min}
use Rattle.std.specs.Ordering.{nat_cmp, int_cmp, is_lt, is_gt, is_eq, ordering_then, ordering_reverse}
use Rattle.std.specs.declared.cmp.Ordering.{Ordering}
use Rattle.std.specs.declared.cmp.Ordering.TheVariants.{Less, Equal, Greater}
use Rattle.std.proofs.lemmas.Bool.Decides.{nat_tests}
use Rattle.std.proofs.lemmas.Int.{ints}
use Rattle.du_scheduler.specs.declared.turns.Turn.{Turn}
use Rattle.du_scheduler.specs.declared.turns.Run.{Run}
use Rattle.du_scheduler.specs.Turns.{FramesLeaveInTime, turn_cmp, IsUpTo, is_turn, leaves, turn_at}
use Rattle.plan_model.specs.SentOrder.{stream_place}
use Rattle.du_scheduler.specs.Queues.{run_cmp}
use denote.Enum.Bare.{tag_one}
use Rattle.du_scheduler.specs.TurnLaws.{place_is, turn_total}
use Rattle.plan_model.specs.contracts.streams.Stream.{the_type}
use Rattle.plan_model.specs.declared.streams.Stream.{Stream}
use Rattle.fh_base.proofs.Orders.{nat_up}

-- ---- answers of comparisons

record BothEqual (o q : Ordering) : Type 0 where
  first : is_eq o ≡ true
  second : is_eq q ≡ true

both_equal : (o q : Ordering) → is_eq (ordering_then o q) ≡ true → BothEqual o q
both_equal Less q h = cc
both_equal Equal q h = record { first = refl; second = h }
both_equal Greater q h = cc

then_up : (o q : Ordering) → is_gt o ≡ false → is_gt q ≡ false → is_gt (ordering_then o q) ≡ false
then_up Less q h k = refl
then_up Equal q h k = k
then_up Greater q h k = cc

first_not_less : (o q : Ordering) → is_lt (ordering_then o q) ≡ false → is_lt o ≡ false
first_not_less Less q h = h
first_not_less Equal q h = refl
first_not_less Greater q h = refl

turned : (o p : Ordering) → p ≡ ordering_reverse o → is_gt p ≡ is_lt o
turned Less p e = rw e refl
turned Equal p e = rw e refl
turned Greater p e = rw e refl

int_same : (x y : ℤ) → is_eq (int_cmp x y) ≡ true → x ≡ y
int_same x y h = grind (arith, ints, nat_tests)

nat_same : (x y : ℕ) → is_eq (nat_cmp x y) ≡ true → x ≡ y
nat_same x y h = grind (arith, nat_tests)

int_up : (x y : ℤ) → x ≤ℤ y → is_gt (int_cmp x y) ≡ false
int_up x y h = grind (arith, ints, nat_tests)

-- ---- turns

unfoldable pub made : ℤ → ℕ → Stream → ℕ → ℕ → Turn
made at endpoint stream number sub = record { at = record { 0 = at }; endpoint = endpoint; stream = stream; number = number; sub = sub }

same_stream : (a b : Stream) → stream_place a ≡ stream_place b → a ≡ b
same_stream a b e = tag_one the_type tt a b (place_is a ∙ e ∙ sym (place_is b))

pub same_turn : (a b : Turn) → is_turn a b ≡ true → a ≡ b
unfolding made
same_turn a b h =
    let first = both_equal (int_cmp a.at.0 b.at.0) _ h in
    let second = both_equal (nat_cmp a.endpoint b.endpoint) _ first.second in
    let third = both_equal (nat_cmp (stream_place a.stream) (stream_place b.stream)) _ second.second in
    let fourth = both_equal (nat_cmp a.number b.number) _ third.second in
    ap (λ x. made x a.endpoint a.stream a.number a.sub) (int_same a.at.0 b.at.0 first.first)
    ∙ ap (λ x. made b.at.0 x a.stream a.number a.sub) (nat_same a.endpoint b.endpoint second.first)
    ∙ ap (λ x. made b.at.0 b.endpoint x a.number a.sub) (same_stream a.stream b.stream (nat_same (stream_place a.stream) (stream_place b.stream) third.first))
    ∙ ap (λ x. made b.at.0 b.endpoint b.stream x a.sub) (nat_same a.number b.number fourth.first)
    ∙ ap (λ x. made b.at.0 b.endpoint b.stream b.number x) (nat_same a.sub b.sub fourth.second)

itself : (o : Ordering) → o ≡ ordering_reverse o → is_eq o ≡ true
itself Less e = cc
itself Equal e = refl
itself Greater e = cc

pub own : (t : Turn) → is_turn t t ≡ true
own t = itself (turn_cmp t t) (turn_total.antisymm t t)

pub up_itself : (t : Turn) → IsUpTo t t
up_itself t = go (turn_cmp t t) (own t)
  where
    go : (o : Ordering) → is_eq o ≡ true → is_gt o ≡ false
    go Less h = refl
    go Equal h = refl
    go Greater h = cc

pub up_chain : (a b c : Turn) → IsUpTo a b → IsUpTo b c → IsUpTo a c
up_chain a b c h k = upto turn_total a b c h k

pub up_both : (a b : Turn) → IsUpTo a b → IsUpTo b a → a ≡ b
up_both a b h k = same_turn a b (go (turn_cmp a b) (turn_cmp b a) (turn_total.antisymm b a) h k)
  where
    go : (o p : Ordering) → p ≡ ordering_reverse o → is_gt o ≡ false → is_gt p ≡ false → is_eq o ≡ true
    go Less p e h k = cc
    go Equal p e h k = refl
    go Greater p e h k = cc

-- a run that is not less has a next frame that is not earlier
pub run_up : (y x : Run) → is_lt (run_cmp y x) ≡ false → IsUpTo x.turn y.turn
run_up y x h =
    let first = first_not_less (turn_cmp y.turn x.turn) _ h in
    turned (turn_cmp y.turn x.turn) (turn_cmp x.turn y.turn) (turn_total.antisymm x.turn y.turn) ∙ first

-- ---- the frames of a run

leaves_up : (gap : ℕ) (r : Run) (k : ℕ) → leaves gap r k ≤ℤ leaves gap r (k + 1)
leaves_up gap r k = let e : (k + 1) * gap ≡ k * gap + gap = omega arith in grind (arith, ints, nat_tests)

pub frames_up : (gap : ℕ) (r : Run) (k : ℕ) → IsUpTo (turn_at gap r k) (turn_at gap r (k + 1))
frames_up gap r k =
    then_up (int_cmp (leaves gap r k) (leaves gap r (k + 1))) _ (int_up (leaves gap r k) (leaves gap r (k + 1)) (leaves_up gap r k))
    (then_up (nat_cmp r.turn.endpoint r.turn.endpoint) _ (nat_up r.turn.endpoint r.turn.endpoint (omega arith))
    (then_up (nat_cmp (stream_place r.turn.stream) (stream_place r.turn.stream)) _ (nat_up (stream_place r.turn.stream) (stream_place r.turn.stream) (omega arith))
    (then_up (nat_cmp r.turn.number r.turn.number) _ (nat_up r.turn.number r.turn.number (omega arith))
    (nat_up (r.turn.sub + k) (r.turn.sub + (k + 1)) (omega arith)))))

-- the first of them is the next frame
pub first_is : (gap : ℕ) (r : Run) → r.turn.at.0 ≤ℤ r.last.0 → turn_at gap r 0 ≡ r.turn
unfolding made
first_is gap r h =
    let none : 0 * gap ≡ 0 = omega arith in
    let at : int_min (r.turn.at.0 +ℤ pos 0) r.last.0 ≡ r.turn.at.0 = grind (arith, ints, nat_tests) in
    let time : leaves gap r 0 ≡ r.turn.at.0 = ap (λ n. int_min (r.turn.at.0 +ℤ pos n) r.last.0) none ∙ at in
    let sub : r.turn.sub + 0 ≡ r.turn.sub = omega arith in
    ap (λ x. made x r.turn.endpoint r.turn.stream r.turn.number (r.turn.sub + 0)) time ∙ ap (λ x. made r.turn.at.0 r.turn.endpoint r.turn.stream r.turn.number x) sub

time_later : (a last : ℤ) (gap n : ℕ) → int_min (int_min (a +ℤ pos gap) last +ℤ pos n) last ≡ int_min (a +ℤ pos (n + gap)) last
time_later a last gap n = grind (arith, ints, nat_tests)

-- after its next frame a run goes on as it would have
pub later_is : (gap : ℕ) (r s : Run) (k : ℕ) → s.turn ≡ turn_at gap r 1 → s.last ≡ r.last → turn_at gap s k ≡ turn_at gap r (k + 1)
unfolding made
later_is gap r s k turn last =
    let one : 1 * gap ≡ gap = omega arith in
    let more : k * gap + gap ≡ (k + 1) * gap = omega arith in
    let time : leaves gap s k ≡ leaves gap r (k + 1) =
    rw (turn, last, one) (time_later r.turn.at.0 r.last.0 gap (k * gap) ∙ ap (λ n. int_min (r.turn.at.0 +ℤ pos n) r.last.0) more) in
    let sub : s.turn.sub + k ≡ r.turn.sub + (k + 1) = rw turn (omega arith) in
    ap (λ x. made x s.turn.endpoint s.turn.stream s.turn.number (s.turn.sub + k)) time
    ∙ ap (λ x. made (leaves gap r (k + 1)) x s.turn.stream s.turn.number (s.turn.sub + k)) (ap (λ (t : Turn). t.endpoint) turn)
    ∙ ap (λ x. made (leaves gap r (k + 1)) r.turn.endpoint x s.turn.number (s.turn.sub + k)) (ap (λ (t : Turn). t.stream) turn)
    ∙ ap (λ x. made (leaves gap r (k + 1)) r.turn.endpoint r.turn.stream x (s.turn.sub + k)) (ap (λ (t : Turn). t.number) turn)
    ∙ ap (λ x. made (leaves gap r (k + 1)) r.turn.endpoint r.turn.stream r.turn.number x) sub

leaves_with : (start : ℤ) (spread n m : ℕ) → int_min ((start +ℤ pos (min n spread)) +ℤ pos m) (start +ℤ pos spread) ≡ start +ℤ pos (min (n + m) spread)
leaves_with start spread n m = grind (arith, ints, nat_tests)

pub frames_leave_in_time : FramesLeaveInTime
frames_leave_in_time gap r start spread i k at last =
    let both : i * gap + k * gap ≡ (i + k) * gap = omega arith in
    rw (at, last) (leaves_with start spread (i * gap) (k * gap)) ∙ ap (λ n. start +ℤ pos (min n spread)) both
