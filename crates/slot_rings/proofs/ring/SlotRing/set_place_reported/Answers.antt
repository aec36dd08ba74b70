use Rattle.std.proofs.Common.{◌≡◌, ℕ, ◌+◌, ◌<◌, ◌∙◌, Bool, ap, sym, subst, arith, length, get_or}
use Rattle.std.specs.Prelude.{◌||◌}
use Rattle.std.proofs.lemmas.Bool.{eqb-true}
use Rattle.slot_rings.specs.Places.{PlaceValue, cell_number, claim_in, is_in_use, is_reported, no_claims}
use Rattle.slot_rings.specs.Rings.{RingValue}
use Rattle.slot_rings.proofs.ReportedLemmas.{still_reported}
use Rattle.slot_rings.proofs.PendingLemmas.{all_quiet, flagged_told, reported_quiet}
use Rattle.slot_rings.proofs.CountLemmas.{sections_kept}
use Rattle.slot_rings.proofs.RingLemmas.{put_kept, read_width}
use Rattle.slot_rings.proofs.StartLemmas.{starts_kept}
use Rattle.slot_rings.proofs.ring.SlotRing.set_place_reported.Goals as goal

width : (c : goal.After-index_mut) → c.index_mut.result.now.prbs ≡ c.args.self.now.endpoint.prbs
width c = read_width (record { endpoint = c.self.inside.endpoint; places = c.self.inside.places.items }) c.args.self.now c.index-index.result c.index_mut.result.now
    c.self.invariant.0 c.self.view_is c.index-index.ensures.within c.index_mut.ensures.value

pub set_used_reported-requires-clause-from : goal.set_used_reported-requires-clause-from
set_used_reported-requires-clause-from c = c.number-number.ensures.value ∙ ap (λ (n : ℕ). cell_number n c.args.symbol 0) (sym (width c))

pub set_used_reported-requires-clause-count : goal.set_used_reported-requires-clause-count
set_used_reported-requires-clause-count c = let w = width c in omega (arith, w, c.requires.count)

pub invariant_of-self : goal.invariant_of-self
invariant_of-self c =
    let r : RingValue = record { endpoint = c.self.inside.endpoint; places = c.self.inside.places.items } in
    let within : c.index-index.result < length r.places = subst (λ (x : RingValue). c.index-index.result < length x.places) (sym c.self.view_is) c.index-index.ensures.within in
    let p = c.index_mut.result.now in
    let q = c.set_used_reported.new.self in
    let claims = c.set_used_reported.ensures.claims in
    let number : c.number-number.result ≡ cell_number r.endpoint.prbs c.args.symbol 0 =
    c.number-number.ensures.value ∙ ap (λ (x : RingValue). cell_number x.endpoint.prbs c.args.symbol 0) (sym c.self.view_is) in
    let uses : ℕ → Bool = λ n. is_in_use (claim_in (get_or p.down n no_claims)) in (
      put_kept r c.index-index.result p q c.self.invariant.0 within c.index_mut.ensures.value
          (ap (λ (x : PlaceValue). x.slot) c.set_used_reported.ensures.kept) (ap (λ (x : PlaceValue). x.prbs) c.set_used_reported.ensures.kept),
      flagged_told r c.self.inside.pending c.clear_reported.new.self c.index-index.result c.args.symbol p q _ c.self.invariant.1 within c.index_mut.ensures.value
          c.clear_reported.ensures.size c.clear_reported.ensures.others claims
          (still_reported (is_reported p.down) (is_reported q.down) uses c.number-number.result c.args.count c.set_used_reported.ensures.here c.set_used_reported.ensures.others)
          (λ told. let all = eqb-true c.args.count r.endpoint.prbs told in
          all_quiet r.endpoint.prbs c.args.symbol p q claims (λ k below.
          subst (λ (n : ℕ). is_reported q.down (n + k) ≡ (is_reported p.down (n + k) || uses (n + k))) number
          (c.set_used_reported.ensures.here k (omega (arith, all, below))))),
      sections_kept r c.self.inside.sections c.index-index.result p q c.self.invariant.2 within c.index_mut.ensures.value (ap (λ (x : PlaceValue). x.uplink) c.set_used_reported.ensures.kept),
      starts_kept r c.self.inside.starts c.index-index.result p q c.self.invariant.3 within c.index_mut.ensures.value
          (ap (λ (x : PlaceValue). x.slot) c.set_used_reported.ensures.kept)
          (λ s. reported_quiet r.endpoint.prbs s p q claims
          (still_reported (is_reported p.down) (is_reported q.down) uses c.number-number.result c.args.count c.set_used_reported.ensures.here c.set_used_reported.ensures.others)),
    )
