-- What the check of a delay profile means.
use Rattle.std.proofs.Common.{◌≡◌, ℕ, zero, suc, ◌<◌, ◌↔◌, Bool, true, false, List, [], ◌∷◌, Result, Err, IsOk, IfErr, refl, sym, ap, ◌∙◌, arith, inl, inr}
use Rattle.std.specs.Prelude.{if◌then◌else◌}
use Rattle.std.proofs.lemmas.Bool.{cases_lt}
use Rattle.window_config.specs.declared.delays.Delays.{Delays}
use Rattle.window_config.specs.declared.relations.Failing.{Failing}
use Rattle.window_config.specs.declared.relations.Relation.{Relation}
use Rattle.window_config.specs.declared.relations.Relation.TheVariants.{UpMax, UpMin, CpUlMax, CpUlMin, Ta4Min, Ta4Max, HoldDl, HoldUl}
use Rattle.window_config.specs.Relations.{relations, number_of, holds, failing_of, first_failing, checked, PassesCheck, IsFirstFailing}
use Rattle.fh_base.proofs.Orders.{le_true, true_le}

abbrev AllHold : List Relation → Delays → Type 0
AllHold [] d = Unit {0}
AllHold (r ∷ rs) d = (holds r d ≡ true) × AllHold rs d

one_ok : (b : Bool) (rest : Result (Unit {0}) Failing) (f : Failing) → IsOk (if b then rest else Err f) → (b ≡ true) × IsOk rest
one_ok true rest f h = (refl, h)
one_ok false rest f h = cc

ok_one : (b : Bool) (rest : Result (Unit {0}) Failing) (f : Failing) → b ≡ true → IsOk rest → IsOk (if b then rest else Err f)
ok_one true rest f e h = h
ok_one false rest f e h = cc

ok_all : (rs : List Relation) (d : Delays) → IsOk (first_failing rs d) → AllHold rs d
ok_all [] d h = tt
ok_all (r ∷ rs) d h =
    let one = one_ok (holds r d) (first_failing rs d) (failing_of r d) h in
    (one.0, ok_all rs d one.1)

all_ok : (rs : List Relation) (d : Delays) → AllHold rs d → IsOk (first_failing rs d)
all_ok [] d h = refl
all_ok (r ∷ rs) d h = ok_one (holds r d) (first_failing rs d) (failing_of r d) h.0 (all_ok rs d h.1)

pub checked_passes : (d : Delays) → IsOk (checked d) ↔ PassesCheck d
checked_passes d = (
  λ h. let all = ok_all relations d h in record {
    up_max = le_true _ _ all.0;
    up_min = le_true _ _ all.1.0;
    cp_ul_max = le_true _ _ all.1.1.0;
    cp_ul_min = le_true _ _ all.1.1.1.0;
    ta4_min = le_true _ _ all.1.1.1.1.0;
    ta4_max = le_true _ _ all.1.1.1.1.1.0;
    hold_dl = le_true _ _ all.1.1.1.1.1.1.0;
    hold_ul = le_true _ _ all.1.1.1.1.1.1.1.0;
  },
  λ p. all_ok relations d (
    true_le _ _ p.up_max,
    (
      true_le _ _ p.up_min,
      (
        true_le _ _ p.cp_ul_max,
        (
          true_le _ _ p.cp_ul_min,
          (
            true_le _ _ p.ta4_min,
            (true_le _ _ p.ta4_max, (true_le _ _ p.hold_dl, (true_le _ _ p.hold_ul, tt))),
          ),
        ),
      ),
    ),
  ),
)

abbrev relation_at : ℕ → Relation
relation_at zero = UpMax
relation_at (suc zero) = UpMin
relation_at (suc (suc zero)) = CpUlMax
relation_at (suc (suc (suc zero))) = CpUlMin
relation_at (suc (suc (suc (suc zero)))) = Ta4Min
relation_at (suc (suc (suc (suc (suc zero))))) = Ta4Max
relation_at (suc (suc (suc (suc (suc (suc zero)))))) = HoldDl
relation_at (suc (suc (suc (suc (suc (suc (suc n))))))) = HoldUl

at_number : (r : Relation) → relation_at (number_of r) ≡ r
at_number UpMax = refl
at_number UpMin = refl
at_number CpUlMax = refl
at_number CpUlMin = refl
at_number Ta4Min = refl
at_number Ta4Max = refl
at_number HoldDl = refl
at_number HoldUl = refl

same_number : (q r : Relation) → number_of q ≡ number_of r → q ≡ r
same_number q r e = sym (at_number q) ∙ ap relation_at e ∙ at_number r

abbrev Below : ℕ → Delays → Type 0
Below k d = (q : Relation) → number_of q < k → holds q d ≡ true

one_more : (d : Delays) (r : Relation) (k : ℕ) → number_of r ≡ k → Below k d → holds r d ≡ true → Below (suc k) d
one_more d r k e below h q less =
    elim (cases_lt (number_of q) k) [
      | inl before ↦ below q before
      | inr above ↦
          let same : q ≡ r = same_number q r (omega (arith, above, less, e)) in
          ap (λ x. holds x d) same ∙ h
    ]

one_fails : (d : Delays) (r : Relation) (k : ℕ) (rest : Result (Unit {0}) Failing) (b : Bool) → b ≡ holds r d → number_of r ≡ k → Below k d
    → (Below (suc k) d → IfErr rest (IsFirstFailing d)) → IfErr (if b then rest else Err (failing_of r d)) (IsFirstFailing d)
one_fails d r k rest true e number below next = next (one_more d r k number below (sym e))
one_fails d r k rest false e number below next = record {
  sides = refl;
  fails = sym e;
  earlier = λ q less. below q (omega (arith, less, number));
}

pub checked_first : (d : Delays) → IfErr (checked d) (IsFirstFailing d)
checked_first d =
    one_fails d UpMax 0 _ _ refl refl (λ q less. absurd (omega arith)) (λ a.
    one_fails d UpMin 1 _ _ refl refl a (λ b.
    one_fails d CpUlMax 2 _ _ refl refl b (λ c.
    one_fails d CpUlMin 3 _ _ refl refl c (λ e.
    one_fails d Ta4Min 4 _ _ refl refl e (λ f.
    one_fails d Ta4Max 5 _ _ refl refl f (λ g.
    one_fails d HoldDl 6 _ _ refl refl g (λ h.
    one_fails d HoldUl 7 _ _ refl refl h (λ all. tt))))))))
