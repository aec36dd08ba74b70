use Rattle.std.proofs.Common.{◌≡◌, ◌<◌, ◌↔◌, ℕ, refl, arith, length, vec_len, Option, None, IsSome, List, [], ◌∷◌, ◌++◌, Some, sym, ap, ◌∙◌, subst, append_assoc}
use Rattle.std.proofs.lemmas.Bool.{false≢true}
use Rattle.std.proofs.lemmas.List.{append-nil}
use Rattle.std.proofs.lemmas.List.Elements.{All-pop}
use Rattle.plain_units.specs.Plain.{PlainHolds}
use Rattle.unit_model.specs.Proper.{IsProperData}
use Rattle.unit_model.specs.declared.decoded.UserSection.{UserSection}
use Rattle.plain_units.proofs.plain.Plain.data_sections.Goals as goal

-- nothing is taken from the end where nothing is left
popped_all : (xs : List UserSection) (n : ℕ) (r : Option UserSection) → n ≡ length xs → ((d : UserSection) → r ≡ Some d → ⊥) → (IsSome r ↔ (0 < n)) → xs ≡ []
popped_all [] n r l none some = refl
popped_all (x ∷ xs) n (Some d) l none some = absurd (none d refl)
popped_all (x ∷ xs) n None l none some = absurd (false≢true (some.1 (omega arith)))

pub loop-d-init : goal.loop-d-init
loop-d-init c = record { treated = []; are = sym (append-nil c.args.sections.items); proper = c.requires.proper; holds = λ n fs cs ds h. h }

pub data_section-requires-clause-unit : goal.data_section-requires-clause-unit
data_section-requires-clause-unit c =
    let u = c.requires.unit in
    record {
      counted = u.counted;
      fragments = u.fragments;
      commands = u.commands;
      sections = c.loop-d.invariant.treated ++ u.sections;
      holds = c.loop-d.invariant.holds u.counted u.fragments u.commands u.sections u.holds;
    }

pub data_section-requires-clause-proper : goal.data_section-requires-clause-proper
data_section-requires-clause-proper c =
    (All-pop (IsProperData c.args.config.now.endpoints) c.loop-d.sections.items c.pop.new.self.items (Some c.in-Some.d) c.in-Some.ensures.items c.loop-d.invariant.proper).1

pub loop-d-preserved : goal.loop-d-preserved
loop-d-preserved c =
    let i = c.loop-d.invariant in
    let one : List UserSection = c.in-Some.d ∷ [] in
    record {
      treated = one ++ i.treated;
      are = i.are ∙ ap (λ xs. xs ++ i.treated) c.in-Some.ensures.items ∙ append_assoc c.pop.new.self.items one i.treated;
      proper = (All-pop (IsProperData c.args.config.now.endpoints) c.loop-d.sections.items c.pop.new.self.items (Some c.in-Some.d) c.in-Some.ensures.items i.proper).0;
      holds = λ n fs cs ds h. c.in_ok-data_section.ensures n fs cs (i.treated ++ ds) (i.holds n fs cs ds h);
    }

pub returns : goal.returns
returns c n fs cs ds h =
    let i = c.loop-d.invariant in
    let none : c.loop-d.sections.items ≡ [] = popped_all c.loop-d.sections.items (vec_len c.loop-d.sections) c.pop.result (omega (arith, c.loop-d.sections.ok.0)) c.in_default.not-Some c.pop.ensures.variant in
    let all : c.args.sections.items ≡ i.treated = i.are ∙ ap (λ xs. xs ++ i.treated) none in
    let P : List UserSection → Type 0 = λ (xs : List UserSection). PlainHolds c.loop-d.self c.args.side c.args.config.now n fs cs (xs ++ ds) in
    subst P (sym all) (i.holds n fs cs ds h)
