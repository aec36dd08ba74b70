-- Sections of which the first passed.
use Rattle.std.proofs.Common.{◌≡◌, ℕ, zero, suc, ◌+◌, ◌-◌, ◌<◌, ◌≤◌, List, length, drop, Result, Ok, Err, is_ok, IsTrue, cond, ltb, refl, subst, arith, false}
use Rattle.std.proofs.lemmas.Bool.Decides.{nat_tests}
use Rattle.std.proofs.lemmas.Bool.{le-ltb}
use Rattle.bfp_codec.specs.Field.{field}
use Rattle.fh_base.specs.declared.values.Shape.{Shape}
use Rattle.cplane_sections.specs.declared.values.CHead.{CHead}
use Rattle.cplane_sections.specs.declared.values.CRefusal.{CRefusal}
use Rattle.cplane_sections.specs.declared.values.CWhy.TheVariants.{Trailing}
use Rattle.cplane_sections.specs.Header.{kind_of, size_of_head}
use Rattle.cplane_sections.specs.Section.{size_of_section}
use Rattle.cplane_sections.specs.Tests.{◌>>=◌, refusal, head_checked, symbol_checked, walked, sections_checked, checked, sections_pass, IsHeadOf}
use Rattle.cplane_sections.specs.Message.{sections_of, PassesOn}

-- what a section that passed says
pub record Says (size symbols : ℕ) (bytes : List ℕ) (place before next : ℕ) : Type 0 where
  pub room : place + size ≤ length bytes
  pub some : 0 < field (drop place bytes) 44 4
  pub within : before + field (drop place bytes) 13 1 + field (drop place bytes) 44 4 ≤ symbols
  pub next_is : next ≡ before + field (drop place bytes) 13 1

pub says : (size symbols : ℕ) (bytes : List ℕ) (place before next : ℕ) → 0 < size → symbol_checked size symbols bytes place before ≡ Ok next → Says size symbols bytes place before next
says size symbols bytes place before next pos_size e = record {
  room = grind (arith, nat_tests);
  some = grind (arith, nat_tests);
  within = grind (arith, nat_tests);
  next_is = grind (arith, nat_tests);
}

-- the first of the sections passes, and then the others
pub record StepsOn (n size symbols : ℕ) (bytes : List ℕ) (place before : ℕ) : Type 0 where
  pub next : ℕ
  pub says_it : Says size symbols bytes place before next
  pub others : IsTrue (is_ok (walked n size symbols bytes (place + size) next))

pub steps_on : (n size symbols : ℕ) (bytes : List ℕ) (place before : ℕ) → 0 < size → IsTrue (is_ok (walked (suc n) size symbols bytes place before)) → StepsOn n size symbols bytes place before
unfolding walked
steps_on n size symbols bytes place before pos_size h =
    let go : (r : Result ℕ CRefusal) → symbol_checked size symbols bytes place before ≡ r → IsTrue (is_ok (r >>= λ next. walked n size symbols bytes (place + size) next)) → StepsOn n size symbols bytes place before =
    λ r. elim r as (λ x. symbol_checked size symbols bytes place before ≡ x → IsTrue (is_ok (x >>= λ next. walked n size symbols bytes (place + size) next)) → StepsOn n size symbols bytes place before) [
      | Ok next ↦ λ e p. record { next = next; says_it = says size symbols bytes place before next pos_size e; others = p }
      | Err why ↦ λ e p. absurd cc
    ] in
    go (symbol_checked size symbols bytes place before) refl h

pub some_section : (kind : ℕ) → 0 < size_of_section kind
some_section kind = grind (arith, nat_tests)

pub passes_on : (n kind : ℕ) (bytes : List ℕ) (place before : ℕ) → 0 < n → IsTrue (sections_pass n (size_of_section kind) bytes place before) → PassesOn n kind bytes place before
unfolding sections_of
passes_on zero kind bytes place before h passes = absurd (omega arith)
passes_on (suc n) kind bytes place before h passes =
    let step = steps_on n (size_of_section kind) 255 bytes place before (some_section kind) passes in
    let less : suc n - 1 ≡ n = omega arith in
    let said = step.says_it in
    record {
      room = said.room;
      below = omega arith;
      rest = rw less (subst (λ k. IsTrue (sections_pass n (size_of_section kind) bytes (place + size_of_section kind) k)) said.next_is step.others);
      first = rw less refl;
    }

weaker_step : (size symbols : ℕ) (bytes : List ℕ) (place before next : ℕ) → symbols ≤ 255 → symbol_checked size symbols bytes place before ≡ Ok next → symbol_checked size 255 bytes place before ≡ Ok next
weaker_step size symbols bytes place before next small e = grind (arith, nat_tests)

-- sections that pass in short slots pass in long ones
walk_weaker : (n size symbols : ℕ) (bytes : List ℕ) (place before : ℕ) → symbols ≤ 255 → IsTrue (is_ok (walked n size symbols bytes place before)) → IsTrue (sections_pass n size bytes place before)
unfolding walked
walk_weaker zero size symbols bytes place before small h = refl
walk_weaker (suc n) size symbols bytes place before small h =
    let go : (r : Result ℕ CRefusal) → symbol_checked size symbols bytes place before ≡ r → IsTrue (is_ok (r >>= λ next. walked n size symbols bytes (place + size) next)) → IsTrue (sections_pass (suc n) size bytes place before) =
    λ r. elim r as (λ x. symbol_checked size symbols bytes place before ≡ x → IsTrue (is_ok (x >>= λ next. walked n size symbols bytes (place + size) next)) → IsTrue (sections_pass (suc n) size bytes place before)) [
      | Ok next ↦ λ e p. rw (weaker_step size symbols bytes place before next small e) (walk_weaker n size symbols bytes (place + size) next small p)
      | Err why ↦ λ e p. absurd cc
    ] in
    go (symbol_checked size symbols bytes place before) refl h

-- a message that passed: its header passed, and its sections did
pub record Passed (shape : Shape) (h : CHead) (bytes : List ℕ) : Type 0 where
  pub head : head_checked shape bytes ≡ Ok h
  pub sections : IsTrue (is_ok (sections_checked shape h bytes))

ended : (h g : CHead) (bytes : List ℕ) (place : ℕ) → cond (ltb place (length bytes)) (Err (refusal place Trailing)) (Ok h) ≡ Ok g → h ≡ g
ended h g bytes place e = grind (arith, nat_tests)

after_walk : (h g : CHead) (bytes : List ℕ) (r : Result ℕ CRefusal) → (r >>= λ end. cond (ltb end (length bytes)) (Err (refusal end Trailing)) (Ok h)) ≡ Ok g → IsTrue (is_ok r) × (h ≡ g)
after_walk h g bytes (Ok end) e = (refl, ended h g bytes end e)
after_walk h g bytes (Err why) e = absurd cc

pub passed : (shape : Shape) (g : CHead) (bytes : List ℕ) → checked shape bytes ≡ Ok g → Passed shape g bytes
unfolding checked
passed shape g bytes e =
    let go : (r : Result CHead CRefusal) → head_checked shape bytes ≡ r
    → (r >>= λ h. sections_checked shape h bytes >>= λ end. cond (ltb end (length bytes)) (Err (refusal end Trailing)) (Ok h)) ≡ Ok g → Passed shape g bytes =
    λ r. elim r as (λ x. head_checked shape bytes ≡ x
    → (x >>= λ h. sections_checked shape h bytes >>= λ end. cond (ltb end (length bytes)) (Err (refusal end Trailing)) (Ok h)) ≡ Ok g → Passed shape g bytes) [
      | Ok h ↦ λ e1 e2.
          let parts = after_walk h g bytes (sections_checked shape h bytes) e2 in
          let here : Passed shape h bytes = record { head = e1; sections = parts.0 } in
          subst (λ (x : CHead). Passed shape x bytes) parts.1 here
      | Err why ↦ λ e1 e2. absurd cc
    ] in
    go (head_checked shape bytes) refl e

-- the sections of a message that passed can be gone over
pub can_start : (h : CHead) (bytes : List ℕ) → IsHeadOf h bytes → IsTrue (sections_pass h.count (size_of_section (kind_of h.body)) bytes (size_of_head (kind_of h.body)) h.start_symbol)
can_start h bytes is =
    let p = passed is.shape h bytes is.is in
    let symbols = is.symbols in
    walk_weaker h.count (size_of_section (kind_of h.body)) is.shape.symbols bytes (size_of_head (kind_of h.body)) h.start_symbol (omega arith) p.sections

-- the header passed, the sections passed, and nothing is left
pub check_passes : (shape : Shape) (h : CHead) (bytes : List ℕ) (end : ℕ) → head_checked shape bytes ≡ Ok h → sections_checked shape h bytes ≡ Ok end → length bytes ≤ end → checked shape bytes ≡ Ok h
unfolding checked
check_passes shape h bytes end head sections whole =
    let none : ltb end (length bytes) ≡ false = le-ltb _ _ whole in
    rw (head, sections, none) refl
