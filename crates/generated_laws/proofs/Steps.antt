-- Lines that are read one after the other.
use Rattle.std.proofs.Common.{◌≡◌, ℕ, suc, ◌+◌, ◌<◌, ◌≤◌, ◌^◌, inl, inr, Bool, true, false, ◌&&◌, ◌||◌, ◌==◌, nat_lt, if◌then◌else◌, List, [], ◌∷◌, ◌++◌, length, map, refl, ap, ap₂, sym, ◌∙◌, arith, append_assoc, append-nil}
use Rattle.std.specs.Prelude.{Ok, Err, All}
use Rattle.std.proofs.lemmas.Bool.Decides.{nat_tests}
use Rattle.std.proofs.lemmas.List.{length-append}
use Rattle.std.proofs.lemmas.List.Elements.{All-head, All-tail}
use Rattle.fh_base.proofs.Orders.{if_not}
use Rattle.window_config.specs.declared.plan.PlanLine.{PlanLine}
use Rattle.window_config.specs.declared.plan.TheConstants.{PLAN_LINES}
use Rattle.fh_document.specs.declared.delivered.Delivery.{Delivery}
use Rattle.fh_document.specs.declared.refusals.DocWhy.TheVariants as why
use Rattle.fh_document.specs.Delivered.{class_number, has_like, way_number}
use Rattle.fh_document.specs.Document.{after_line, read_from}
use Rattle.fh_document.specs.Proper.{IsDelivery, IsPlanLine}
use Rattle.fh_document.specs.Steps.{Said}
use Rattle.fh_document.proofs.DeliverLemmas.{deliver_read}
use Rattle.fh_document.proofs.PlanLemmas.{plan_read}
use Rattle.generated_laws.specs.Documents.{numbers_from}
use Rattle.generated_laws.proofs.Texts.{deliver_line, plan_line}
use Rattle.fh_base.specs.Members.{IsIn}
use Rattle.fh_base.proofs.MemberLemmas.{in_either}

-- ---- lines of a plan

-- a line as the grammar takes it
pub record CanRead (line : PlanLine) : Type 0 where
  pub is : IsPlanLine line
  pub id : line.id < 2 ^ 16
  pub prbs : line.num_prb < 2 ^ 8

reached_plan : {A B C D E : Type 0} (ms : List A) (is : List B) (ds : List C) (ps : List D) (es : List E) → ms ≡ [] → is ≡ [] → ds ≡ []
    → (if nat_lt 0 (length ms) then 5 else (if nat_lt 0 (length is) then 4 else (if nat_lt 0 (length ds) then 3 else (if nat_lt 0 (length ps) then 2 else (if nat_lt 0 (length es) then 1 else 0))))) ≤ 2
reached_plan [] [] [] [] [] a b c = omega arith
reached_plan [] [] [] [] (e ∷ es) a b c = few (length es)
  where
    few : (n : ℕ) → (if nat_lt 0 (suc n) then 1 else 0) ≤ 2
    few n = grind (arith, nat_tests)
reached_plan [] [] [] (p ∷ ps) es a b c = few (length ps) (if nat_lt 0 (length es) then 1 else 0)
  where
    few : (n m : ℕ) → (if nat_lt 0 (suc n) then 2 else m) ≤ 2
    few n m = grind (arith, nat_tests)
reached_plan [] [] (d ∷ ds) ps es a b c = absurd (cc)
reached_plan [] (i ∷ is) ds ps es a b c = absurd (cc)
reached_plan (m ∷ ms) is ds ps es a b c = absurd (cc)

reached_deliver : {A B C D E : Type 0} (ms : List A) (is : List B) (ds : List C) (ps : List D) (es : List E) → ms ≡ [] → is ≡ []
    → (if nat_lt 0 (length ms) then 5 else (if nat_lt 0 (length is) then 4 else (if nat_lt 0 (length ds) then 3 else (if nat_lt 0 (length ps) then 2 else (if nat_lt 0 (length es) then 1 else 0))))) ≤ 3
reached_deliver [] [] ds ps es a b = few (length ds) (length ps) (length es)
  where
    few : (x y z : ℕ) → (if nat_lt 0 x then 3 else (if nat_lt 0 y then 2 else (if nat_lt 0 z then 1 else 0))) ≤ 3
    few x y z = grind (arith, nat_tests)
reached_deliver [] (i ∷ is) ds ps es a b = absurd (cc)
reached_deliver (m ∷ ms) is ds ps es a b = absurd (cc)

not_full : (n : ℕ) → n < PLAN_LINES → (n == PLAN_LINES) ≡ false
not_full n h = grind (arith, nat_tests)

pub plans_read : (r : Said) (n : ℕ) (lines : List PlanLine) (rest : List (List ℕ)) → 2 ≤ n → r.measures ≡ [] → r.injections ≡ [] → r.deliveries ≡ [] → All CanRead lines
    → length r.plan + length lines ≤ PLAN_LINES
    → read_from n r (map plan_line lines ++ rest)
    ≡ read_from (n + length lines) (record r { plan = r.plan ++ lines; plan_lines = r.plan_lines ++ numbers_from n (length lines) }) rest
unfolding numbers_from
plans_read r n [] rest later a b c can fits =
    let e : n ≡ n + 0 = omega arith in
    ap₂ (λ (p : List PlanLine) (q : List ℕ). read_from n (record r { plan = p; plan_lines = q }) rest) (sym (append-nil r.plan)) (sym (append-nil r.plan_lines))
    ∙ ap (λ k. read_from k (record r { plan = r.plan ++ []; plan_lines = r.plan_lines ++ [] }) rest) e
plans_read r n (line ∷ lines) rest later a b c can fits =
    let this = All-head CanRead line lines can in
    let number : n + 1 + length lines ≡ n + suc (length lines) = omega arith in
    let next = record r { plan = r.plan ++ line ∷ []; plan_lines = r.plan_lines ++ n ∷ [] } in
    ap (λ x. after_line x (λ s. read_from (n + 1) s (map plan_line lines ++ rest)) (λ w. Err (n, w)))
    (plan_read r n line (λ e. omega (arith, later, e)) (reached_plan r.measures r.injections r.deliveries r.plan r.endpoints a b c) this.is this.id this.prbs
    ∙ if_not (length r.plan == PLAN_LINES) (Err why.TooMany) (Ok next) (not_full (length r.plan) (omega (arith, fits))))
    ∙ plans_read next (n + 1) lines rest (omega (arith, later)) a b c (All-tail CanRead line lines can) (let e = length-append r.plan (line ∷ []) in omega (arith, e, fits))
    ∙ ap₂ (λ (p : List PlanLine) (q : List ℕ). read_from (n + 1 + length lines) (record r { plan = p; plan_lines = q }) rest)
    (append_assoc r.plan (line ∷ []) lines) (append_assoc r.plan_lines (n ∷ []) (numbers_from (n + 1) (length lines)))
    ∙ ap (λ k. read_from k (record r { plan = r.plan ++ line ∷ lines; plan_lines = r.plan_lines ++ n ∷ numbers_from (n + 1) (length lines) }) rest) number

-- ---- deliver lines

none_like : (d : Delivery) (ds : List Delivery) → ((x : Delivery) → IsIn x ds → x.k < d.k) → has_like d ds ≡ false
none_like d [] h = refl
none_like d (x ∷ ds) h =
    ap (λ (t : Bool). ((way_number d.side == way_number x.side) && ((class_number d.class == class_number x.class) && t)) || has_like d ds) (other d.k x.k (h x (inl refl)))
    ∙ ap (λ (t : Bool). t || has_like d ds) (neither (way_number d.side == way_number x.side) (class_number d.class == class_number x.class))
    ∙ none_like d ds (λ y m. h y (inr m))
  where
    other : (m n : ℕ) → n < m → (m == n) ≡ false
    other m n lt = grind (arith, nat_tests)

    neither : (s t : Bool) → (s && (t && false)) ≡ false
    neither true true = refl
    neither true false = refl
    neither false t = refl

-- each speaks of a later frame than those before it
abbrev pub AreRising : ℕ → List Delivery → Type 0
AreRising low [] = Unit {0}
AreRising low (d ∷ ds) = (low < d.k) × AreRising d.k ds

pub deliveries_read : (r : Said) (n low : ℕ) (ds : List Delivery) → 2 ≤ n → r.measures ≡ [] → r.injections ≡ [] → All IsDelivery ds
    → ((x : Delivery) → IsIn x r.deliveries → x.k ≤ low) → AreRising low ds
    → read_from n r (map deliver_line ds) ≡ read_from (n + length ds) (record r { deliveries = r.deliveries ++ ds }) []
deliveries_read r n low [] later a b can old up =
    ap (λ (ds : List Delivery). read_from n (record r { deliveries = ds }) []) (sym (append-nil r.deliveries))
deliveries_read r n low (d ∷ ds) later a b can old up =
    let number : n + 1 + length ds ≡ n + suc (length ds) = omega arith in
    let next = record r { deliveries = r.deliveries ++ d ∷ [] } in
    ap (λ x. after_line x (λ s. read_from (n + 1) s (map deliver_line ds)) (λ w. Err (n, w)))
    (deliver_read r n d (λ e. omega (arith, later, e)) (reached_deliver r.measures r.injections r.deliveries r.plan r.endpoints a b) (All-head IsDelivery d ds can)
    ∙ if_not (has_like d r.deliveries) (Err why.Twice) (Ok next) (none_like d r.deliveries (λ x m. (let most = old x m in let lt = up.0 in omega (arith, most, lt)))))
    ∙ deliveries_read next (n + 1) d.k ds (omega (arith, later)) a b (All-tail IsDelivery d ds can) old_or_new up.1
    ∙ ap (λ (l : List Delivery). read_from (n + 1 + length ds) (record r { deliveries = l }) []) (append_assoc r.deliveries (d ∷ []) ds)
  where
    old_or_new : (x : Delivery) → IsIn x (r.deliveries ++ d ∷ []) → x.k ≤ d.k
    old_or_new x m = elim (in_either x r.deliveries (d ∷ []) m) [
      | inl before ↦ (let most = old x before in let lt = up.0 in omega (arith, most, lt))
      | inr this ↦ elim this [ inl here ↦ (let e = ap (λ (y : Delivery). y.k) here in omega (arith, e)) | inr none ↦ absurd none ]
    ]
