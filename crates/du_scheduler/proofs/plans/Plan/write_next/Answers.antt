use Rattle.std.proofs.Common.{◌≡◌, ℕ, List, length, arith, map, refl, ap, ◌∙◌}
use Rattle.du_scheduler.specs.Runs.{turn_of}
use Rattle.du_scheduler.specs.declared.turns.Turn.{Turn}
use Rattle.du_scheduler.specs.Plans.{plane_of}
use Rattle.du_scheduler.proofs.GivingLemmas.{taken_over, written_over, next_asked, next_frame, next_left, next_of, next_there, none_left, same_left}
use Rattle.du_scheduler.proofs.plans.Plan.write_next.Goals as goal

pub returns-in_default-clause-leaves : goal.returns-in_default-clause-leaves
returns-in_default-clause-leaves g c cf lines left h =
    same_left cf lines left c.args.self.now h c.next.new.self _ (c.in_default.ensures.gives (map turn_of left) h.stands) c.next.ensures.queue refl refl refl refl refl

pub returns-in_default-clause-writes : goal.returns-in_default-clause-writes
returns-in_default-clause-writes g c cf lines left h answer by = (none_left left c.next.new.self (c.in_default.ensures.gives (map turn_of left) h.stands)).0

pub message-parts-requires : goal.message-parts-requires
message-parts-requires g c =
    let p = c.requires.plan in
    next_asked p.config p.lines p.left c.args.self.now p.is c.in-Some.turn c.next.new.self (next_of p.left c.in-Some.turn c.next.new.self (c.in-Some.ensures.gives (map turn_of p.left) p.is.stands))

pub write_frame-size-requires-clause-frame : goal.write_frame-size-requires-clause-frame
write_frame-size-requires-clause-frame g c =
    let p = c.requires.plan in
    let n = next_of p.left c.in-Some.turn c.next.new.self (c.in-Some.ensures.gives (map turn_of p.left) p.is.stands) in
    record {
      c = p.config;
      plan = p.lines;
      f = n.f;
      is = next_frame p.config p.lines p.left c.args.self.now p.is c.in-Some.turn c.next.new.self n _ _ c.deref.ensures.value
          (c.message-parts.ensures p.config _ n.f p.is.table (next_there p.config p.lines p.left c.args.self.now p.is c.in-Some.turn c.next.new.self n) n.turn_is);
    }

pub returns-clause-leaves : goal.returns-clause-leaves
returns-clause-leaves g c cf lines left h =
    let n = next_of left c.in-Some.turn c.next.new.self (c.in-Some.ensures.gives (map turn_of left) h.stands) in
    let old = c.args.self.now.room.items in
    let value = ap (λ (xs : List ℕ). length xs) c.deref_mut.ensures.value in
    let room : c.args.self.now.room.len ≡ length old = omega (arith, c.deref_mut.ensures.len, value) in
    let len : length c.write_frame-size.new.into ≡ length old = omega (arith, c.write_frame-size.ensures.len, value) in
    let over = written_over c.args.self.now.room.len c.write_frame-size.new.into old room len in
    (n.f, n.rest, n.is, next_left cf lines left c.args.self.now h c.in-Some.turn c.next.new.self n _ c.next.ensures.queue refl refl refl refl (ap (λ (xs : List ℕ). length xs) over ∙ len))

pub returns-clause-writes : goal.returns-clause-writes
returns-clause-writes g c cf lines left h answer by =
    let n = next_of left c.in-Some.turn c.next.new.self (c.in-Some.ensures.gives (map turn_of left) h.stands) in
    let there = next_there cf lines left c.args.self.now h c.in-Some.turn c.next.new.self n in
    let frame = next_frame cf lines left c.args.self.now h c.in-Some.turn c.next.new.self n _ _ c.deref.ensures.value (c.message-parts.ensures cf _ n.f h.table there n.turn_is) in
    let old = c.args.self.now.room.items in
    let value = ap (λ (xs : List ℕ). length xs) c.deref_mut.ensures.value in
    let room : c.args.self.now.room.len ≡ length old = omega (arith, c.deref_mut.ensures.len, value) in
    let len : length c.write_frame-size.new.into ≡ length old = omega (arith, c.write_frame-size.ensures.len, value) in
    let over = written_over c.args.self.now.room.len c.write_frame-size.new.into old room len in
    let bytes = c.write_frame-size.ensures.bytes cf lines n.f frame answer by in (
      n.f,
      n.rest,
      n.is,
      record {
        at = ap (λ (t : Turn). t.at.0) n.turn_is;
        plane = c.of.ensures ∙ ap (λ (t : Turn). plane_of t.stream) n.turn_is;
        ep = ap (λ (t : Turn). t.endpoint) n.turn_is;
        bytes = taken_over c.write_frame-size.result _ c.write_frame-size.new.into _ over bytes;
      },
    )
