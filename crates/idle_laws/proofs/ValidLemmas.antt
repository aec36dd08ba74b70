-- A plan stays valid with the proposed lines after it.
use Rattle.std.proofs.Common.{◌≡◌, ℕ, suc, ◌+◌, Bool, true, false, not, ◌&&◌, ◌==◌, if◌then◌else◌, List, [], ◌∷◌, ◌++◌, length, Option, Some, None, refl, sym, ap, ◌∙◌, inl, inr, true≢false, arith}
use Rattle.std.specs.Prelude.{◌⊎◌}
use Rattle.std.specs.Option.{option_to_list}
use Rattle.std.proofs.lemmas.Bool.{and_from, and_parts, eq-eqb, eqb-true}
use Rattle.fh_base.specs.declared.values.Slot.{Slot}
use Rattle.eaxc_map.specs.Endpoints.{AppearOnce}
use Rattle.window_config.specs.Endpoints.{ids_of}
use Rattle.window_config.specs.declared.endpoints.EndpointConfig.{EndpointConfig}
use Rattle.window_config.specs.declared.plan.PlanKind.TheVariants.{Idle}
use Rattle.window_config.specs.declared.plan.PlanLine.{PlanLine}
use Rattle.air_source.specs.declared.events.AirCell.{AirCell}
use Rattle.unit_model.specs.Claims.{same_slot}
use Rattle.unit_model.specs.Meetings.{find_endpoint, find_from}
use Rattle.unit_model.specs.declared.allocations.Allocation.{Allocation}
use Rattle.unit_model.proofs.ClaimLemmas.{slot_self}
use Rattle.plan_model.specs.Lines.{is_down_kind, line_allocation, planned, planned_at, planned_from, planned_with}
use Rattle.plan_model.specs.Validity.{is_out_of_range, with_line}
use Rattle.plan_model.specs.declared.lines.PlannedLine.{PlannedLine}
use Rattle.schedule_laws.proofs.FoundLemmas.{found, index_is}
use Rattle.idle_laws.specs.Enlarged.{AreFree, with_lines}
use Rattle.idle_laws.specs.Radiated.{AreIdle}
use Rattle.idle_laws.proofs.Enlarging.{are_valid, planned_append}
use Rattle.idle_text.specs.Free.{is_of_slot, is_touched, slot_at, slot_count}
use Rattle.idle_text.specs.Listed.{listed_runs}
use Rattle.idle_text.specs.Proposed.{proposed, proposed_at}
use Rattle.idle_laws.specs.Proposals.{ProposedAreValid}
use Rattle.idle_laws.proofs.ProposedLemmas.{AreApart, IsProposed, apart_append, line_inside, proposed_is, slots_apart}
use Rattle.fh_base.specs.Members.{IsIn}
use Rattle.fh_base.proofs.MemberLemmas.{any_in, get_in}
use Rattle.fh_base.proofs.RisingLemmas.{below_get, get_map}
use Rattle.unit_model.proofs.EndpointLemmas.{found_at}
use Rattle.unit_laws.proofs.FarLemmas.{endpoints_equal as same_there}

-- ---- endpoints by their ids

id_from : (start : ℕ) (es : List EndpointConfig) (id ep : ℕ) (e : EndpointConfig) → find_from start es id ≡ Some (ep, e) → e.id ≡ id
id_from start [] id ep e h = absurd (cc h)
id_from start (f ∷ fs) id ep e h = go (f.id == id) refl h (id_from (start + 1) fs id ep e)
  where
    go : (b : Bool) → (f.id == id) ≡ b → (if b then Some (start, f) else find_from (start + 1) fs id) ≡ Some (ep, e) → (find_from (start + 1) fs id ≡ Some (ep, e) → e.id ≡ id) → e.id ≡ id
    go true is h rest = let same : (start, f) ≡ (ep, e) = cc h in ap (λ (o : ℕ × EndpointConfig). o.1.id) (sym same) ∙ eqb-true f.id id is
    go false is h rest = rest h

-- two ids that are found at one place are one
same_ids : (es : List EndpointConfig) (a b i j : ℕ) (e f : EndpointConfig) → find_endpoint es a ≡ Some (i, e) → find_endpoint es b ≡ Some (j, f) → i ≡ j → a ≡ b
same_ids es a b i j e f h k same =
    sym (id_from 0 es a i e h)
    ∙ ap (λ (x : EndpointConfig). x.id) (same_there es i j e f (found_at es a i e h) (found_at es b j f k) same)
    ∙ id_from 0 es b j f k

-- ---- idle lines of places that are apart

-- no downlink line among these is of the endpoint and the slot of a line
abbrev IsClear : List EndpointConfig → List Allocation → PlanLine → Type 0
IsClear es earlier x = (ep : ℕ) (e : EndpointConfig) → find_endpoint es x.id ≡ Some (ep, e) → (b : Allocation) → IsIn b earlier → b.down ≡ true → b.ep ≡ ep → b.slot ≡ x.slot → ⊥

record IsGood (es : List EndpointConfig) (x : PlanLine) : Type 0 where
  ep : ℕ
  e : EndpointConfig
  found : find_endpoint es x.id ≡ Some (ep, e)
  idle : x.kind ≡ Idle
  inside : is_out_of_range e x ≡ false

all_free : (es : List EndpointConfig) (earlier : List Allocation) (k : ℕ) (xs : List PlanLine) → ((x : PlanLine) → IsIn x xs → IsGood es x)
    → ((x : PlanLine) → IsIn x xs → IsClear es earlier x) → AreApart xs → AreFree es earlier k xs
all_free es earlier k [] good clear apart = tt
all_free es earlier k (x ∷ xs) good clear apart =
    let g = good x (inl refl) in
    let p : PlannedLine = record { index = k; ep = g.ep; endpoint = g.e; line = x } in (
      record {
        p = p;
        found = ap (planned_with k x) g.found;
        idle = g.idle;
        inside = g.inside;
        free = λ b m down ep slot. clear x (inl refl) g.ep g.e g.found b m down ep slot;
      },
      all_free es (line_allocation p ∷ earlier) (k + 1) xs (λ y m. good y (inr m))
          (λ y m ep e there b n down at slot. elim n [
            | inl here ↦
                apart.0 y m
                (same_ids es x.id y.id g.ep ep g.e e g.found there (ap (λ (a : Allocation). a.ep) (sym here) ∙ at))
                (ap (λ (a : Allocation). a.slot) (sym here) ∙ slot)
            | inr earlier_one ↦ clear y (inr m) ep e there b earlier_one down at slot
          ])
          apart.1,
    )

-- ---- what the lines of a plan name

record IsOfLine (es : List EndpointConfig) (lines : List PlanLine) (b : Allocation) : Type 0 where
  k : ℕ
  line : PlanLine
  p : PlannedLine
  there : IsIn line lines
  at : planned_at es k line ≡ Some p
  is : b ≡ line_allocation p

in_lines : (es : List EndpointConfig) (earlier : List Allocation) (k : ℕ) (lines : List PlanLine) (b : Allocation) → IsIn b (with_lines es earlier k lines) → IsIn b earlier ⊎ IsOfLine es lines b
in_lines es earlier k [] b m = inl m
in_lines es earlier k (line ∷ lines) b m = elim (in_lines es (with_line (planned_at es k line) earlier) (k + 1) lines b m) [
  | inl now ↦ go (planned_at es k line) refl now
  | inr later ↦ inr (record { k = later.k; line = later.line; p = later.p; there = inr later.there; at = later.at; is = later.is })
]
  where
    go : (o : Option PlannedLine) → planned_at es k line ≡ o → IsIn b (with_line o earlier) → IsIn b earlier ⊎ IsOfLine es (line ∷ lines) b
    go None at m = inl m
    go (Some p) at (inl is) = inr (record { k = k; line = line; p = p; there = inl refl; at = at; is = is })
    go (Some p) at (inr m) = inl m

planned_is : (k : ℕ) (line : PlanLine) (o : Option (ℕ × EndpointConfig)) (p : PlannedLine) → planned_with k line o ≡ Some p → (p.line ≡ line) × (o ≡ Some (p.ep, p.endpoint))
planned_is k line None p h = absurd (cc h)
planned_is k line (Some (ep, e)) p h =
    let q : PlannedLine = record { index = k; ep = ep; endpoint = e; line = line } in
    let same : q ≡ p = cc h in
    (ap (λ (x : PlannedLine). x.line) (sym same), ap (λ (x : PlannedLine). let o : Option (ℕ × EndpointConfig) = Some (x.ep, x.endpoint) in o) same)

-- ---- the proposed lines

-- the id of each of these endpoints is not that of one after it
abbrev AreOthers : List EndpointConfig → Type 0
AreOthers [] = Unit {0}
AreOthers (e ∷ fs) = ((f : EndpointConfig) → IsIn f fs → e.id ≡ f.id → ⊥) × AreOthers fs

module _ (es : List EndpointConfig) (once : AppearOnce (ids_of es)) (first last : ℕ) (cells : List AirCell) (min : ℕ) (lines : List PlanLine) where
  endpoint_found : (e : EndpointConfig) → IsIn e es → (ep : ℕ) × (find_endpoint es e.id ≡ Some (ep, e))
  endpoint_found e there = let g = get_in e es there in (g.0, found es g.0 e once g.1)

  good : (x : PlanLine) → IsProposed es first last cells min lines x → IsGood es x
  good x p =
      let f = endpoint_found p.e p.there in
      record {
        ep = f.0;
        e = p.e;
        found = ap (λ (l : PlanLine). find_endpoint es l.id) p.is ∙ f.1;
        idle = ap (λ (l : PlanLine). l.kind) p.is;
        inside = ap (is_out_of_range p.e) p.is ∙ line_inside p.e first p.k;
      }

  untouched : (listed touched : Bool) → (listed && not touched) ≡ true → touched ≡ false
  untouched listed true h = absurd (true≢false (sym (and_parts listed false h).1))
  untouched listed false h = refl

  clear : (x : PlanLine) → IsProposed es first last cells min lines x → IsClear es (with_lines es [] 0 lines) x
  clear x p ep e there b m down at slot = elim (in_lines es [] 0 lines b m) [
    | inl none ↦ absurd none
    | inr l ↦
        let q = planned_is l.k l.line (find_endpoint es l.line.id) l.p l.at in
        let place : l.p.ep ≡ ep = ap (λ (a : Allocation). a.ep) (sym l.is) ∙ at in
        let ids : l.line.id ≡ p.e.id = same_ids es l.line.id x.id l.p.ep ep l.p.endpoint e q.1 there place ∙ ap (λ (y : PlanLine). y.id) p.is in
        let way : is_down_kind l.line.kind ≡ true = ap (λ (y : PlanLine). is_down_kind y.kind) (sym q.0) ∙ ap (λ (a : Allocation). a.down) (sym l.is) ∙ down in
        let here : l.line.slot ≡ slot_at p.e.numerology first p.k =
        ap (λ (y : PlanLine). y.slot) (sym q.0) ∙ ap (λ (a : Allocation). a.slot) (sym l.is) ∙ slot ∙ ap (λ (y : PlanLine). y.slot) p.is in
        let of_slot : is_of_slot p.e (slot_at p.e.numerology first p.k) l.line ≡ true =
        and_from (l.line.id == p.e.id) _ (eq-eqb l.line.id p.e.id ids) (and_from (is_down_kind l.line.kind) _ way (ap (λ (s : Slot). same_slot l.line.slot s) (sym here) ∙ slot_self l.line.slot)) in
        let touched = any_in (is_of_slot p.e (slot_at p.e.numerology first p.k)) l.line lines l.there of_slot in
        absurd (true≢false (sym touched ∙ untouched _ (is_touched p.e lines (slot_at p.e.numerology first p.k)) p.free))
  ]

  apart : (fs : List EndpointConfig) → AreOthers fs → AreApart (proposed fs first last cells min lines)
  apart [] others = tt
  apart (e ∷ fs) others =
      apart_append (proposed_at first last cells min lines e) (proposed fs first last cells min lines)
      (slots_apart e first lines (listed_runs e first last cells min) (slot_count e.numerology first last) 0) (apart fs others.1)
      (λ x y m n ids same.
      let p = proposed_is first last cells min lines (e ∷ []) x (in_left_one x m) in
      let q = proposed_is first last cells min lines fs y n in
      others.0 q.e q.there (ap (λ (f : EndpointConfig). f.id) (sym (only p.e p.there)) ∙ ap (λ (l : PlanLine). l.id) (sym p.is) ∙ ids ∙ ap (λ (l : PlanLine). l.id) q.is))
    where
      only : (f : EndpointConfig) → IsIn f (e ∷ []) → f ≡ e
      only f (inl same) = same
      only f (inr none) = absurd none

      in_front : (x : PlanLine) (xs ys : List PlanLine) → IsIn x xs → IsIn x (xs ++ ys)
      in_front x [] ys m = absurd m
      in_front x (z ∷ xs) ys (inl same) = inl same
      in_front x (z ∷ xs) ys (inr m) = inr (in_front x xs ys m)

      in_left_one : (x : PlanLine) → IsIn x (proposed_at first last cells min lines e) → IsIn x (proposed (e ∷ []) first last cells min lines)
      in_left_one x m = in_front x (proposed_at first last cells min lines e) [] m

-- ---- all of them

are_others : (es : List EndpointConfig) → AppearOnce (ids_of es) → AreOthers es
are_others [] once = tt
are_others (e ∷ es) once = (
  λ f m same.
      let g = get_in f es m in
      let at = get_map (λ (x : EndpointConfig). x.id) g.0 f es g.1 in
      let below = below_get g.0 f.id (ids_of es) at in
      let equal : 0 ≡ suc g.0 = once 0 (suc g.0) (omega arith) (omega (arith, below)) (same ∙ sym (index_is (ids_of es) g.0 f.id at)) in
      absurd (omega (arith, equal)),
  are_others es (λ j k a b same.
      let equal : suc j ≡ suc k = once (suc j) (suc k) (omega (arith, a)) (omega (arith, b)) same in
      omega (arith, equal)),
)

pub are_proposed_valid : ProposedAreValid
are_proposed_valid c lines first last cells min config valid =
    let es = c.endpoints in
    let once = config.endpoints.differ in
    let xs = proposed es first last cells min lines in
    are_valid c lines xs valid
    (all_free es (with_lines es [] 0 lines) (length lines) xs
    (λ x m. good es once first last cells min lines x (proposed_is first last cells min lines es x m))
    (λ x m. clear es once first last cells min lines x (proposed_is first last cells min lines es x m))
    (apart es once first last cells min lines es (are_others es once)))

-- ---- the plan with them, at its endpoints

planned_idle : (es : List EndpointConfig) (k : ℕ) (xs : List PlanLine) → ((x : PlanLine) → IsIn x xs → x.kind ≡ Idle) → AreIdle (planned_from es k xs)
unfolding planned_from
planned_idle es k [] idle = tt
planned_idle es k (x ∷ xs) idle = go (find_endpoint es x.id) (planned_idle es (k + 1) xs (λ y m. idle y (inr m)))
  where
    go : (o : Option (ℕ × EndpointConfig)) → AreIdle (planned_from es (k + 1) xs) → AreIdle (option_to_list (planned_with k x o) ++ planned_from es (k + 1) xs)
    go None rest = rest
    go (Some found) rest = (idle x (inl refl), rest)

-- idle lines are after those that were there
pub record IsFollowed (es : List EndpointConfig) (lines more : List PlanLine) : Type 0 where
  pub idles : List PlannedLine
  pub is : planned es (lines ++ more) ≡ planned es lines ++ idles
  pub idle : AreIdle idles

pub proposed_followed : (es : List EndpointConfig) (first last : ℕ) (cells : List AirCell) (min : ℕ) (lines : List PlanLine) → IsFollowed es lines (proposed es first last cells min lines)
proposed_followed es first last cells min lines =
    let xs = proposed es first last cells min lines in
    record {
      idles = planned_from es (0 + length lines) xs;
      is = planned_append es 0 lines xs;
      idle = planned_idle es (0 + length lines) xs (λ x m. ap (λ (l : PlanLine). l.kind) (proposed_is first last cells min lines es x m).is);
    }
