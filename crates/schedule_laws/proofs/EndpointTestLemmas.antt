-- The lines of one endpoint, and all endpoints.
use Rattle.std.proofs.Common.{◌≡◌, ℕ, ◌+◌, ◌<◌, ◌≤◌, inl, inr, Bool, true, false, ◌&&◌, ◌==◌, List, [], ◌∷◌, length, map, filter, get_or, Option, None, refl, ap, sym, ◌∙◌, subst, arith}
use Rattle.std.specs.Prelude.{All}
use Rattle.std.specs.List.{AllByRecursion}
use Rattle.std.proofs.lemmas.Bool.{and_parts, eq-eqb, eqb-true, cases_eq}
use Rattle.std.proofs.lemmas.Option.{slice_get_within}
use Rattle.window_config.specs.Endpoints.{IsEndpoint}
use Rattle.window_config.specs.declared.endpoints.EndpointConfig.{EndpointConfig}
use Rattle.unit_model.specs.declared.allocations.Allocation.{Allocation}
use Rattle.plan_model.specs.Lines.{line_allocation}
use Rattle.plan_model.specs.Validity.{why_claimed}
use Rattle.plan_model.specs.declared.lines.PlannedLine.{PlannedLine}
use Rattle.plan_model.specs.declared.refusals.PlanWhy.{PlanWhy}
use Rattle.plan_model.proofs.ListLemmas.{endpoint_is}
use Rattle.plan_model.proofs.SizeLemmas.{some_prbs}
use Rattle.schedule_laws.specs.PlacedLines.{ArePlaced, IsPlaced}
use Rattle.schedule_laws.specs.SlotTests.{Covers, IsBefore, IsFrom, AreProper, is_of_slot, judged, judged_in, of_home, lesser_refusal, least_along, entry_of, numbered_lines, refused_along, refused_in, why_judged}
use Rattle.schedule_laws.specs.SlotOrder.{IsEndpointLine, ep_of}
use Rattle.schedule_laws.proofs.LeastSlotLemmas.{along_from, along_one, lesser_from, lesser_left, lesser_right, from_none, from_nothing, judged_is, some_line}
use Rattle.schedule_laws.proofs.InsideLemmas.{inside_is}
use Rattle.schedule_laws.proofs.SlotRunLemmas.{home_true}
use Rattle.fh_base.proofs.FilterLemmas.{filter_and}
use Rattle.schedule_laws.proofs.SlotTestLemmas.{least_is}
use Rattle.fh_base.specs.Members.{IsIn}
use Rattle.fh_base.proofs.MemberLemmas.{of_filter, in_filter, all_in, all_from, filter_same}

-- ---- an endpoint's own lines, sorted

pub record Own (lines : List PlannedLine) (ep : ℕ) (own : List PlannedLine) : Type 0 where
  pub inside : (q : PlannedLine) → IsIn q own → IsIn q lines × (q.ep ≡ ep)
  pub all : (q : PlannedLine) → IsIn q lines → q.ep ≡ ep → IsIn q own
  pub homes : (q : PlannedLine) → IsIn q own → of_home q.ep q.line.slot own ≡ of_home q.ep q.line.slot lines

pub own_is : (lines : List PlannedLine) (ep : ℕ) (found own : List PlannedLine) → found ≡ filter (λ p. p.ep == ep) lines
    → ((p : PlannedLine) → of_home p.ep p.line.slot own ≡ of_home p.ep p.line.slot found) → Own lines ep own
own_is lines ep found own found_is same = record { inside = inside; all = all; homes = homes }
  where
    self : (q : PlannedLine) → is_of_slot q.ep q.line.slot (line_allocation q) ≡ true
    self q = home_true q.ep q.line.slot q refl refl

    inside : (q : PlannedLine) → IsIn q own → IsIn q lines × (q.ep ≡ ep)
    inside q m =
        let there : IsIn q found = (of_filter (λ p. is_of_slot q.ep q.line.slot (line_allocation p)) q found (subst (IsIn q) (same q) (in_filter (λ p. is_of_slot q.ep q.line.slot (line_allocation p)) q own m (self q)))).0 in
        let r = of_filter (λ p. p.ep == ep) q lines (subst (IsIn q) found_is there) in
        (r.0, eqb-true q.ep ep r.1)

    all : (q : PlannedLine) → IsIn q lines → q.ep ≡ ep → IsIn q own
    all q m e =
        let there : IsIn q found = subst (IsIn q) (sym found_is) (in_filter (λ p. p.ep == ep) q lines m (eq-eqb q.ep ep e)) in
        (of_filter (λ p. is_of_slot q.ep q.line.slot (line_allocation p)) q own (subst (IsIn q) (sym (same q)) (in_filter (λ p. is_of_slot q.ep q.line.slot (line_allocation p)) q found there (self q)))).0

    implied : (a b : Bool) → (a ≡ true → b ≡ true) → (a && b) ≡ a
    implied true b h = h refl
    implied false b h = refl

    homes : (q : PlannedLine) → IsIn q own → of_home q.ep q.line.slot own ≡ of_home q.ep q.line.slot lines
    homes q m =
        same q ∙ ap (of_home q.ep q.line.slot) found_is
        ∙ sym (filter_and (λ p. is_of_slot q.ep q.line.slot (line_allocation p)) (λ p. p.ep == ep) lines)
        ∙ filter_same (λ p. is_of_slot q.ep q.line.slot (line_allocation p) && (p.ep == ep)) (λ p. is_of_slot q.ep q.line.slot (line_allocation p))
        (λ p. implied (is_of_slot q.ep q.line.slot (line_allocation p)) (p.ep == ep) (λ h. eq-eqb p.ep ep (eqb-true p.ep q.ep (and_parts (p.ep == q.ep) _ h).0 ∙ (inside q m).1))) lines

least_alike : (ps qs rs : List PlannedLine) (x : Option (ℕ × PlanWhy)) → ((q : PlannedLine) → IsIn q rs → judged_in ps q ≡ judged_in qs q) → least_along ps x rs ≡ least_along qs x rs
unfolding least_along
least_alike ps qs [] x h = refl
least_alike ps qs (r ∷ rs) x h = ap (λ (y : Option (ℕ × PlanWhy)). least_along ps (lesser_refusal x y) rs) (h r (inl refl)) ∙ least_alike ps qs rs (lesser_refusal x (judged_in qs r)) (λ q m. h q (inr m))

pub covers_own : (lines : List PlannedLine) (ep : ℕ) (own : List PlannedLine) (least r new : Option (ℕ × PlanWhy)) → Own lines ep own → r ≡ least_along own None own → new ≡ lesser_refusal least r
    → Covers lines ep least new
covers_own lines ep own least r new o r_is new_is =
    let r_along : r ≡ least_along lines None own = r_is ∙ least_alike own lines own None (λ q m. ap judged (o.homes q m)) in
    record {
      from = λ x before is. subst (IsFrom x) (sym new_is) (lesser_from x least r is (subst (IsFrom x) (sym r_along) (along_from lines x before None own (from_nothing x))));
      kept = λ x before e. new_is ∙ ap (λ (y : Option (ℕ × PlanWhy)). lesser_refusal y r) e
          ∙ lesser_left x r (subst (IsFrom x) (sym r_along) (along_from lines x before None own (from_nothing x)));
      one = λ x before is q m q_ep e. new_is
          ∙ ap (lesser_refusal least) (r_along ∙ along_one lines x before None own q (from_nothing x) (o.all q m q_ep) e)
          ∙ lesser_right least x is;
    }

-- ---- what is known of them

first_ep : (own : List PlannedLine) (ep : ℕ) (p : PlannedLine) → IsIn p own → ((q : PlannedLine) → IsIn q own → q.ep ≡ ep) → ep_of own ≡ ep
first_ep [] ep p m h = absurd m
first_ep (x ∷ own) ep p m h = h x (inl refl)

pub own_lines : (lines : List PlannedLine) (ep : ℕ) (own : List PlannedLine) → Own lines ep own → ArePlaced lines
    → (p : PlannedLine) → IsIn p own → AllByRecursion (IsEndpointLine p.endpoint (ep_of own)) own
own_lines lines ep own o all p m =
    let first = o.inside p m in
    all_from (IsEndpointLine p.endpoint (ep_of own)) own (λ q n.
    let there = o.inside q n in
    record {
      endpoint = all.same q p there.0 first.0 (there.1 ∙ sym first.1);
      ep_is = there.1 ∙ sym (first_ep own ep p m (λ x k. (o.inside x k).1));
      ranges = all.ranges q there.0;
      inside = all.inside q there.0;
    })

pub own_endpoint : (lines : List PlannedLine) (ep : ℕ) (own : List PlannedLine) → Own lines ep own → ArePlaced lines → (p : PlannedLine) → IsIn p own → IsEndpoint p.endpoint
own_endpoint lines ep own o all p m = all.endpoint p (o.inside p m).0

pub first_in : (own : List PlannedLine) (d : PlannedLine) → (length own == 0) ≡ false → IsIn (get_or own 0 d) own
first_in [] d some = cc
first_in (x ∷ own) d some = inl refl

pub none_is : (own : List PlannedLine) → (length own == 0) ≡ true → None ≡ least_along own None own
unfolding least_along
none_is [] e = refl
none_is (x ∷ own) e = absurd (let z = eqb-true (length (x ∷ own)) 0 e in omega (arith, z))

pub proper_lines : (es : List EndpointConfig) (lines : List PlannedLine) → All IsEndpoint es → AllByRecursion (IsPlaced es) lines → AreProper (map line_allocation lines)
proper_lines es [] ends all = tt
proper_lines es (p ∷ lines) ends all =
    let i = inside_is p all.0.inside in (
      record {
        symbols = i.some;
        prbs = some_prbs p.endpoint.prbs p.line.num_prb (endpoint_is es p.ep p.endpoint ends all.0.at).some;
        mask = i.mask;
        twelve = all.0.ranges.mask;
      },
      proper_lines es lines ends all.1,
    )

-- ---- endpoint after endpoint

pub record Found (lines : List PlannedLine) (i : ℕ) (least : Option (ℕ × PlanWhy)) : Type 0 where
  pub from : (r : Option (ℕ × PlanWhy)) → IsBefore lines r → IsFrom r least
  pub one : (r : Option (ℕ × PlanWhy)) → IsBefore lines r → (q : PlannedLine) → IsIn q lines → q.ep < i → judged_in lines q ≡ r → least ≡ r

pub found_start : (lines : List PlannedLine) → Found lines 0 None
found_start lines = record { from = λ r before. from_nothing r; one = λ r before q m below e. absurd (omega (arith, below)) }

pub found_more : (lines : List PlannedLine) (i : ℕ) (least new : Option (ℕ × PlanWhy)) → Found lines i least → Covers lines i least new → Found lines (i + 1) new
found_more lines i least new f c = record {
  from = λ r before. c.from r before (f.from r before);
  one = λ r before q m below e. elim (cases_eq q.ep i) [
    | inl here ↦ c.one r before (f.from r before) q m here e
    | inr other ↦ c.kept r before (f.one r before q m (omega (arith, other, below)) e)
  ];
}

pub found_all : (es : List EndpointConfig) (lines : List PlannedLine) (i : ℕ) (least : Option (ℕ × PlanWhy)) → All IsEndpoint es → AllByRecursion (IsPlaced es) lines
    → map entry_of lines ≡ numbered_lines 0 (map line_allocation lines) → Found lines i least → length es ≤ i → least ≡ refused_along why_claimed [] 0 (map line_allocation lines)
found_all es lines i least ends all placed f whole =
    let l = least_is (map line_allocation lines) (proper_lines es lines ends all) in
    let r : Option (ℕ × PlanWhy) = refused_along why_claimed [] 0 (map line_allocation lines) in
    let before : IsBefore lines r = λ q. subst (IsFrom r) (sym (judged_is lines q.ep q.line.slot placed)) (l.none_before q.ep q.line.slot) in
    elim l.is_one [
      | inl none ↦ from_none least (subst (λ (x : Option (ℕ × PlanWhy)). IsFrom x least) none (f.from r before)) ∙ sym none
      | inr w ↦
          let q = some_line lines w.0 w.1 in
          let below : q.0.ep < length es = slice_get_within es q.0.ep q.0.endpoint (all_in (IsPlaced es) lines q.0 all q.1).at in
          f.one r before q.0 q.1 (omega (arith, below, whole))
          (judged_is lines q.0.ep q.0.line.slot placed ∙ ap (λ (a : Allocation). refused_in why_judged a.ep a.slot [] 0 (map line_allocation lines)) q.2 ∙ w.2)
    ]
