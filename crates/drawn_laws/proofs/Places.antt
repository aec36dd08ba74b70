-- Endpoints by their ids, and runs of PRBs in their carriers.
use Rattle.std.proofs.Common.{◌≡◌, ℕ, ◌+◌, ◌^◌, ◌<◌, ◌≤◌, ◌==◌, not, ◌&&◌, nat_lt, Bool, true, false, List, [], ◌∷◌, length, Option, Some, None, refl, ap, ◌∙◌, arith}
use Rattle.std.specs.Prelude.{cond, if◌then◌else◌}
use Rattle.std.specs.List.{AllByRecursion, position_from}
use Rattle.std.proofs.lemmas.Bool.{ltb-false}
use Rattle.std.proofs.lemmas.Iterator.Adapters.{position_from-zero}
use Rattle.eaxc_map.specs.Endpoints.{index_of}
use Rattle.fh_base.specs.Numbering.{symbols_of}
use Rattle.window_config.specs.Endpoints.{ids_of}
use Rattle.window_config.specs.declared.endpoints.EndpointConfig.{EndpointConfig}
use Rattle.unit_model.specs.Meetings.{find_endpoint, find_from}
use Rattle.unit_model.specs.Proper.{IsSlot}
use Rattle.drawn_laws.specs.Drawable.{IsDrawnRun, IsNear}
use Rattle.explain_model.specs.declared.places.PrbRun.{PrbRun}
use Rattle.explain_model.specs.Pieces.{AreLinked}
use Rattle.drawn_laws.proofs.Near.{slot_near}
use Rattle.unit_model.proofs.EndpointLemmas.{found_at}

-- ---- an endpoint by its id

abbrev pub index_found : Option (ℕ × EndpointConfig) → Option ℕ
index_found None = None
index_found (Some found) = Some found.0

first_by : (start : ℕ) (e : EndpointConfig) (b : Bool) (o : Option ℕ) (f : Option (ℕ × EndpointConfig)) → o ≡ index_found f → cond b (Some start) o ≡ index_found (if b then Some (start, e) else f)
first_by start e true o f h = refl
first_by start e false o f h = h

found_from : (start : ℕ) (es : List EndpointConfig) (id : ℕ) → position_from (λ x. x == id) start (ids_of es) ≡ index_found (find_from start es id)
found_from start [] id = refl
found_from start (e ∷ es) id =
    first_by start e (e.id == id) (position_from (λ x. x == id) (start + 1) (ids_of es)) (find_from (start + 1) es id) (found_from (start + 1) es id)

index_is : (es : List EndpointConfig) (id : ℕ) → index_of (ids_of es) id ≡ index_found (find_endpoint es id)
index_is es id = position_from-zero (λ x. x == id) (ids_of es) ∙ found_from 0 es id

-- how many PRBs the endpoint with an id has; 0 where there is none
abbrev pub prbs_found : Option (ℕ × EndpointConfig) → ℕ
prbs_found None = 0
prbs_found (Some found) = found.1.prbs

abbrev pub carrier : List EndpointConfig → ℕ → ℕ
carrier es id = prbs_found (find_endpoint es id)

-- ---- a run of PRBs of an endpoint

pub run_drawn : (es : List EndpointConfig) (r : PrbRun) (ep : ℕ) (e : EndpointConfig) → find_endpoint es r.place.id ≡ Some (ep, e) → IsNear r.at.0 → IsSlot e.numerology r.place.slot
    → r.place.symbol < symbols_of e.numerology → r.section < 2 ^ 12 → 1 ≤ r.num → r.prb + r.num ≤ e.prbs → IsDrawnRun es r
run_drawn es r ep e named at slot symbol section some within =
    let sub = slot.subframe in
    record {
      at = at;
      frame = slot_near e.numerology r.place.slot slot;
      subframe = omega (arith, sub);
      section = omega (arith, section);
      ep = ep;
      named = index_is es r.place.id ∙ ap index_found named;
      endpoint = e;
      is = found_at es r.place.id ep e named;
      slot = slot.slot_is;
      symbol = symbol;
      some = some;
      within = within;
    }

-- PRBs of a section that are the carrier's
prbs_by : (prbs start num : ℕ) (none : Bool) → (not none && nat_lt prbs (start + num)) ≡ false → (if none then 0 else start) + (if none then prbs else num) ≤ prbs
prbs_by prbs start num true h = omega arith
prbs_by prbs start num false h = ltb-false prbs (start + num) h

-- ---- pieces of which each element but the first is one PRB after the one before it

module _ {A : Type 0} (related : A → A → Bool) (prb limit : A → ℕ) (next : (a b : A) → related a b ≡ true → (prb b ≡ prb a + 1) × (limit b ≡ limit a)) where
  pub piece_within : (x : A) (xs : List A) → AreLinked related (x ∷ xs) → AllByRecursion (λ a. prb a < limit a) (x ∷ xs) → prb x + length (x ∷ xs) ≤ limit x
  piece_within x [] linked h = let one = h.0 in omega (arith, one)
  piece_within x (y ∷ ys) linked h =
      let after = piece_within y ys linked.1 h.1 in
      let step = next x y linked.0 in
      let behind = step.0 in
      let same = step.1 in
      omega (arith, after, behind, same)
