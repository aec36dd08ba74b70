-- How many frames a plan has still to send.
use Rattle.std.proofs.Common.{◌≡◌, ℕ, ◌+◌, ◌<◌, Bool, true, false, List, [], ◌∷◌, ◌++◌, length, refl, sym, ap, ◌∙◌, arith}
use Rattle.std.specs.Prelude.{if◌then◌else◌, map}
use Rattle.std.proofs.lemmas.List.{length-append, length-map}
use Rattle.std.specs.BinaryHeap.{heap_items}
use Rattle.du_scheduler.specs.Plans.{HasToSend}
use Rattle.du_scheduler.specs.declared.plans.Plan.{Plan}
use Rattle.du_scheduler.specs.Queues.{left_of}
use Rattle.du_scheduler.specs.Turns.{is_turn, times}
use Rattle.du_scheduler.specs.declared.turns.Turn.{Turn}
use Rattle.du_scheduler.proofs.TurnOrder.{own, same_turn}
use Rattle.plan_model.specs.Sent.{SentFrame}
use Rattle.window_config.specs.declared.config.Config.{Config}
use Rattle.window_config.specs.declared.plan.PlanLine.{PlanLine}
use Rattle.du_scheduler.proofs.Left.{times-append}

-- a list with one of its frames taken out
record TakenOut (t : Turn) (whole : List Turn) : Type 0 where
  front : List Turn
  back : List Turn
  is : whole ≡ front ++ t ∷ back

take_out : (t : Turn) (ts : List Turn) → 0 < times t ts → TakenOut t ts
take_out t [] h = absurd (omega (arith, h))
take_out t (u ∷ ts) h = go (is_turn t u) refl h (λ k. take_out t ts k)
  where
    go : (b : Bool) → is_turn t u ≡ b → 0 < (if b then 1 else 0) + times t ts → (0 < times t ts → TakenOut t ts) → TakenOut t (u ∷ ts)
    go true e k next = record { front = []; back = ts; is = ap (λ (x : Turn). x ∷ ts) (sym (same_turn t u e)) }
    go false e k next =
        let rest = next (omega (arith, k)) in
        record { front = u ∷ rest.front; back = rest.back; is = ap (λ (xs : List Turn). u ∷ xs) rest.is }

none_at_all : (ts : List Turn) → ((t : Turn) → times t ts ≡ 0) → length ts ≡ 0
none_at_all [] h = refl
none_at_all (u ∷ ts) h =
    let none = h u in
    let self : times u (u ∷ ts) ≡ 1 + times u ts = ap (λ (b : Bool). (if b then 1 else 0) + times u ts) (own u) in
    absurd (omega (arith, none, self))

-- lists that hold each frame as often have one length
as_long : (xs ys : List Turn) → ((t : Turn) → times t xs ≡ times t ys) → length xs ≡ length ys
as_long [] ys h = sym (none_at_all ys (λ t. sym (h t)))
as_long (x ∷ xs) ys h =
    let self : times x (x ∷ xs) ≡ 1 + times x xs = ap (λ (b : Bool). (if b then 1 else 0) + times x xs) (own x) in
    let here = h x in
    let out = take_out x ys (omega (arith, self, here)) in
    let less : (t : Turn) → times t xs ≡ times t (out.front ++ out.back) =
    λ t.
    (let whole = h t ∙ ap (times t) out.is in
    let parts = times-append t out.front (x ∷ out.back) in
    let joined = times-append t out.front out.back in
    omega (arith, whole, parts, joined)) in
    let rest = as_long xs (out.front ++ out.back) less in
    let long = ap length out.is in
    let parts = length-append out.front (x ∷ out.back) in
    let joined = length-append out.front out.back in
    omega (arith, rest, long, parts, joined)

-- by its queue
abbrev pub frames_left : Plan → ℕ
frames_left p = length (left_of p.queue.gap (heap_items p.queue.heap))

pub left_is : (c : Config) (lines : List PlanLine) (left : List SentFrame) (p : Plan) → HasToSend c lines left p → frames_left p ≡ length left
left_is c lines left p h = as_long (left_of p.queue.gap (heap_items p.queue.heap)) (map _ left) h.stands.same ∙ length-map left _
