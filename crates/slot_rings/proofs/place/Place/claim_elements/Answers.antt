use Rattle.std.proofs.Common.{◌≡◌, ap, sym, Bool, true, false, not, List, reverse, refl}
use Rattle.slot_rings.specs.Places.{PlaceValue, claims_of}
use Rattle.slot_rings.specs.declared.claims.CellClaims.{CellClaims}
use Rattle.slot_rings.proofs.PlaceLemmas.{free_seen, placed}
use Rattle.slot_rings.proofs.place.Place.claim_elements.Goals as goal

down_is : (p : PlaceValue) (b : Bool) (ms : List CellClaims) → b ≡ true → p.down ≡ ms → claims_of p b ≡ ms
down_is p b ms b_is e = rw b_is e

up_is : (p : PlaceValue) (b : Bool) (ms : List CellClaims) → b ≡ false → p.up ≡ ms → claims_of p b ≡ ms
up_is p b ms b_is e = rw b_is e

up_same : (p q : PlaceValue) (b : Bool) → b ≡ true → q.up ≡ p.up → claims_of q (not b) ≡ claims_of p (not b)
up_same p q b b_is e = rw b_is e

down_same : (p q : PlaceValue) (b : Bool) → b ≡ false → q.down ≡ p.down → claims_of q (not b) ≡ claims_of p (not b)
down_same p q b b_is e = rw b_is e

-- the place afterwards
abbrev then_is : goal.After-claim → PlaceValue
then_is c = record { slot = c.self.inside.slot; prbs = c.self.inside.prbs; down = c.claim.new.claims.items; up = c.self.inside.up.items; blocks = c.self.inside.blocks.items; uplink = reverse c.self.inside.uplink.items }

abbrev else_is : goal.After-claim-else-a → PlaceValue
else_is c = record { slot = c.self.inside.slot; prbs = c.self.inside.prbs; down = c.self.inside.down.items; up = c.claim-else-a.new.claims.items; blocks = c.self.inside.blocks.items; uplink = reverse c.self.inside.uplink.items }

pub claim-requires-clause-free : goal.claim-requires-clause-free
claim-requires-clause-free c = free_seen c.args.a.now.endpoint.prbs c.args.self.now c.args.a.now _ c.requires.slot
    (down_is c.args.self.now _ _ c.if-a.true (ap (λ (p : PlaceValue). p.down) (sym c.self.view_is))) c.requires.free

pub claim-requires-else-a-clause-free : goal.claim-requires-else-a-clause-free
claim-requires-else-a-clause-free c = free_seen c.args.a.now.endpoint.prbs c.args.self.now c.args.a.now _ c.requires.slot
    (up_is c.args.self.now _ _ c.if-a.false (ap (λ (p : PlaceValue). p.up) (sym c.self.view_is))) c.requires.free

pub returns-then-a-clause-claims : goal.returns-then-a-clause-claims
returns-then-a-clause-claims c = placed c.args.a.now.endpoint.prbs c.args.self.now (then_is c) c.args.a.now c.self.inside.down.items c.claim.new.claims.items c.requires.slot
    (ap (λ (p : PlaceValue). p.slot) c.self.view_is)
    (down_is c.args.self.now _ _ c.if-a.true (ap (λ (p : PlaceValue). p.down) (sym c.self.view_is)))
    (down_is (then_is c) _ _ c.if-a.true refl)
    (up_same c.args.self.now (then_is c) _ c.if-a.true (ap (λ (p : PlaceValue). p.up) c.self.view_is))
    c.claim.ensures.each

pub returns-else-a-clause-claims : goal.returns-else-a-clause-claims
returns-else-a-clause-claims c = placed c.args.a.now.endpoint.prbs c.args.self.now (else_is c) c.args.a.now c.self.inside.up.items c.claim-else-a.new.claims.items c.requires.slot
    (ap (λ (p : PlaceValue). p.slot) c.self.view_is)
    (up_is c.args.self.now _ _ c.if-a.false (ap (λ (p : PlaceValue). p.up) (sym c.self.view_is)))
    (up_is (else_is c) _ _ c.if-a.false refl)
    (down_same c.args.self.now (else_is c) _ c.if-a.false (ap (λ (p : PlaceValue). p.down) c.self.view_is))
    c.claim-else-a.ensures.each
