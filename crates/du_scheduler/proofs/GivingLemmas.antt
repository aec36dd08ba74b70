-- What a plan that gave a frame has still to send.
use Rattle.std.proofs.Common.{◌≡◌, ℕ, ◌≤◌, arith, take, drop, append-nil, List, [], ◌∷◌, ◌++◌, length, map, inl, Some, None, refl, ap, sym, ◌∙◌, subst, append_assoc}
use Rattle.std.proofs.lemmas.List.{drop_all, take_all}
use Rattle.window_config.specs.declared.config.Config.{Config}
use Rattle.window_config.specs.declared.plan.PlanLine.{PlanLine}
use Rattle.plan_model.specs.Lines.{planned}
use Rattle.plan_model.specs.Packs.{parts_of}
use Rattle.plan_model.specs.Sent.{SentFrame, sent}
use Rattle.plan_model.specs.declared.lines.PlannedLine.{PlannedLine}
use Rattle.du_scheduler.specs.Queues.{Gives, IsQueue, StandsFor}
use Rattle.du_scheduler.specs.declared.queue.Queue.{Queue}
use Rattle.du_scheduler.specs.declared.turns.Turn.{Turn}
use Rattle.du_scheduler.specs.Runs.{turn_of}
use Rattle.du_scheduler.specs.Kept.{placed_line}
use Rattle.du_scheduler.specs.Tables.{IsTable, IsTurnOf}
use Rattle.du_scheduler.specs.declared.kept.PlacedLine.{PlacedLine}
use Rattle.du_scheduler.specs.Frames.{IsFrameOf}
use Rattle.du_scheduler.specs.Plans.{HasToSend}
use Rattle.du_scheduler.specs.declared.plans.Plan.{Plan}
use Rattle.fh_base.specs.Members.{IsIn}
use Rattle.fh_base.proofs.MemberLemmas.{in_right}

-- the frame of the turn that the queue gave, and the others
pub record IsNext (left : List SentFrame) (turn : Turn) (q : Queue) : Type 0 where
  pub f : SentFrame
  pub rest : List SentFrame
  pub is : left ≡ f ∷ rest
  pub turn_is : turn ≡ turn_of f
  pub stands : StandsFor q (map turn_of rest)

pub next_of : (left : List SentFrame) (turn : Turn) (q : Queue) → Gives (map turn_of left) (Some turn) q → IsNext left turn q
next_of [] turn q g = let e = g.1 in cc
next_of (f ∷ rest) turn q g =
    let e = g.1 in
    record { f = f; rest = rest; is = refl; turn_is = cc; stands = (let same : g.0 ≡ map turn_of rest = cc in subst (StandsFor q) same g.2) }

pub none_left : (left : List SentFrame) (q : Queue) → Gives (map turn_of left) None q → (left ≡ []) × StandsFor q []
none_left [] q g = (refl, g.1)
none_left (f ∷ rest) q g = let e = g.0 in cc

module _ (c : Config) (lines : List PlanLine) (left : List SentFrame) (old : Plan) (h : HasToSend c lines left old) where
  pub next_there : (turn : Turn) (q : Queue) (n : IsNext left turn q) → IsIn n.f (sent c (planned c.endpoints lines))
  next_there turn q n =
      let m : IsIn n.f left = subst (λ (fs : List SentFrame). IsIn n.f fs) (sym n.is) (inl refl) in
      subst (λ (fs : List SentFrame). IsIn n.f fs) (sym h.all) (in_right n.f h.given left m)

  pub next_asked : (turn : Turn) (q : Queue) → IsNext left turn q → IsTurnOf old.table turn
  next_asked turn q n = record { config = c; lines = planned c.endpoints lines; frame = n.f; table = h.table; there = next_there turn q n; is = n.turn_is }

  pub next_frame : (turn : Turn) (q : Queue) (n : IsNext left turn q) (ps : List PlannedLine) (parts : List PlacedLine) → ps ≡ old.lines.items → parts ≡ map placed_line (parts_of n.f.message)
      → IsFrameOf c lines n.f ps parts turn old.fragment
  next_frame turn q n ps parts ps_is parts_are = record {
    config = h.config;
    fit = h.fit;
    valid = h.valid;
    lines_are = ps_is ∙ h.lines_are;
    there = next_there turn q n;
    turn_is = n.turn_is;
    parts_are = parts_are;
    fragment_is = h.fragment;
  }

  pub next_left : (turn : Turn) (q : Queue) (n : IsNext left turn q) (new : Plan) → IsQueue q → new.queue ≡ q → new.lines ≡ old.lines → new.fragment ≡ old.fragment → new.table ≡ old.table
      → length new.room.items ≡ length old.room.items → HasToSend c lines n.rest new
  next_left turn q n new is_queue q_is lines_are fragment table room = record {
    config = h.config;
    fit = h.fit;
    valid = h.valid;
    given = h.given ++ n.f ∷ [];
    all = h.all ∙ ap (λ (fs : List SentFrame). h.given ++ fs) n.is ∙ sym (append_assoc h.given (n.f ∷ []) n.rest);
    lines_are = ap (λ v. v.items) lines_are ∙ h.lines_are;
    fragment = fragment ∙ h.fragment;
    table = subst (IsTable c (planned c.endpoints lines)) (sym table) h.table;
    queue = subst IsQueue (sym q_is) is_queue;
    stands = subst (λ (x : Queue). StandsFor x (map turn_of n.rest)) (sym q_is) n.stands;
    room = subst (λ k. 9008 ≤ k) (sym room) h.room;
  }

  pub same_left : (q : Queue) (new : Plan) → Gives (map turn_of left) None q → IsQueue q → new.queue ≡ q → new.lines ≡ old.lines → new.fragment ≡ old.fragment → new.table ≡ old.table
      → length new.room.items ≡ length old.room.items → (left ≡ []) × HasToSend c lines [] new
  same_left q new g is_queue q_is lines_are fragment table room =
      let n = none_left left q g in (
        n.0,
        record {
          config = h.config;
          fit = h.fit;
          valid = h.valid;
          given = h.given;
          all = h.all ∙ ap (λ (fs : List SentFrame). h.given ++ fs) n.0;
          lines_are = ap (λ v. v.items) lines_are ∙ h.lines_are;
          fragment = fragment ∙ h.fragment;
          table = subst (IsTable c (planned c.endpoints lines)) (sym table) h.table;
          queue = subst IsQueue (sym q_is) is_queue;
          stands = subst (λ (x : Queue). StandsFor x []) (sym q_is) n.1;
          room = subst (λ k. 9008 ≤ k) (sym room) h.room;
        },
      )

-- ---- the room

-- a room over which as many bytes were written holds these
pub written_over : (n : ℕ) (new old : List ℕ) → n ≡ length old → length new ≡ length old → take n (new ++ drop (length new) old) ≡ new
written_over n new old n_is len =
    let none : drop (length new) old ≡ [] = drop_all (length new) old (omega (arith, len)) in
    ap (λ (xs : List ℕ). take n (new ++ xs)) none ∙ ap (λ (xs : List ℕ). take n xs) (append-nil new) ∙ take_all n new (omega (arith, n_is, len))

pub taken_over : (n : ℕ) (room new frame : List ℕ) → room ≡ new → take n new ≡ frame → take n room ≡ frame
taken_over n room new frame is h = ap (λ (xs : List ℕ). take n xs) is ∙ h
