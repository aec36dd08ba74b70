use Rattle.std.proofs.Common.{◌≡◌, ℕ, ◌<◌, ◌∙◌, refl, ap, arith, sym, subst, length}
use Rattle.slot_rings.specs.Places.{PlaceValue, cell_number}
use Rattle.slot_rings.specs.Rings.{RingValue}
use Rattle.slot_rings.proofs.RingLemmas.{put_kept, read_width}
use Rattle.slot_rings.proofs.PendingLemmas.{flagged_put, filled_quiet}
use Rattle.slot_rings.proofs.CountLemmas.{sections_kept}
use Rattle.slot_rings.proofs.StartLemmas.{starts_kept}
use Rattle.slot_rings.proofs.ring.SlotRing.fill_run_place.Goals as goal

width : (c : goal.After-index_mut) → c.index_mut.result.now.prbs ≡ c.args.self.now.endpoint.prbs
width c = read_width (record { endpoint = c.self.inside.endpoint; places = c.self.inside.places.items }) c.args.self.now c.index-index.result c.index_mut.result.now
    c.self.invariant.0 c.self.view_is c.index-index.ensures.within c.index_mut.ensures.value

pub fill_run-requires-clause-room : goal.fill_run-requires-clause-room
fill_run-requires-clause-room c = let w = width c in omega (arith, w, c.requires.prbs)

pub fill_run-requires-clause-number : goal.fill_run-requires-clause-number
fill_run-requires-clause-number c = c.number-number.ensures.value ∙ ap (λ (n : ℕ). cell_number n c.args.symbol c.args.first) (sym (width c))

pub invariant_of-self : goal.invariant_of-self
invariant_of-self c =
    let r : RingValue = record { endpoint = c.self.inside.endpoint; places = c.self.inside.places.items } in
    let within : c.index-index.result < length r.places = subst (λ (x : RingValue). c.index-index.result < length x.places) (sym c.self.view_is) c.index-index.ensures.within in (
      put_kept r c.index-index.result c.index_mut.result.now c.fill_run.new.self c.self.invariant.0
          within c.index_mut.ensures.value
          (ap (λ (p : PlaceValue). p.slot) c.fill_run.ensures.kept) (ap (λ (p : PlaceValue). p.prbs) c.fill_run.ensures.kept),
      flagged_put r c.self.inside.pending c.self.inside.pending c.index-index.result c.index_mut.result.now c.fill_run.new.self c.self.invariant.1 within c.index_mut.ensures.value
          refl (λ j s off. off)
          (λ s off. filled_quiet r.endpoint.prbs s c.index_mut.result.now c.fill_run.new.self (ap (λ (p : PlaceValue). p.down) c.fill_run.ensures.kept)),
      sections_kept r c.self.inside.sections c.index-index.result c.index_mut.result.now c.fill_run.new.self c.self.invariant.2 within c.index_mut.ensures.value (ap (λ (p : PlaceValue). p.uplink) c.fill_run.ensures.kept),
      starts_kept r c.self.inside.starts c.index-index.result c.index_mut.result.now c.fill_run.new.self c.self.invariant.3 within c.index_mut.ensures.value
          (ap (λ (p : PlaceValue). p.slot) c.fill_run.ensures.kept)
          (λ s. filled_quiet r.endpoint.prbs s c.index_mut.result.now c.fill_run.new.self (ap (λ (p : PlaceValue). p.down) c.fill_run.ensures.kept)),
    )
